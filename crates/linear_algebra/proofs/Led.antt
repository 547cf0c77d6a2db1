-- Rows each kept at the place of its lead, which need not be zero at the leads of the others.
use Rattle.std.proofs.Common.{◌≡◌, ℕ, zero, suc, ◌+◌, ◌<◌, ◌≤◌, ◌≢◌, inl, inr, Bool, true, false, nat_lt, sym, ◌∙◌, ap, arith, ltb-true, ltb-false}
use Rattle.ring_core.proofs.Carrier.{RingOn, zero_mul, mul_zero, minus_same}
use Rattle.linear_algebra.proofs.Sums.{combine, total_zero, total_single, by_bool, same_or_other}
use Rattle.linear_algebra.proofs.Spans.{Spans, minus_self, minus_minus, span_as, span_into, span_minus, span_row}
use Rattle.linear_algebra.proofs.Slots.{Reduced, zero_at_leads}

-- The row at each lead `j` has its highest nonzero member at `j`, which is one; the rows elsewhere are zero.
pub record Led {M : Type 0} (R : RingOn M) (w : ℕ) (lead : ℕ → Bool) (slots : ℕ → ℕ → M) : Type 0 where
  pub within : (j : ℕ) → lead j ≡ true → j < w
  pub absent : (j k : ℕ) → lead j ≡ false → slots j k ≡ R.zero
  pub one : (j : ℕ) → lead j ≡ true → slots j j ≡ R.one
  pub above : (j k : ℕ) → j < k → slots j k ≡ R.zero

module _ {M : Type 0} (R : RingOn M) (w : ℕ) (lead : ℕ → Bool) (slots : ℕ → ℕ → M) (h : Led R w lead slots) where
  -- a combination with zeros above `k` has the coefficient zero at each lead above `k`, from the highest down
  no_high : (c x : ℕ → M) → ((j : ℕ) → x j ≡ combine R w c slots j) → (k : ℕ) → ((j : ℕ) → k < j → x j ≡ R.zero)
      → (n j : ℕ) → k < j → w ≤ j + n → lead j ≡ true → c j ≡ R.zero
  no_high c x is k top zero j b e l = let v = h.within j l in absurd (omega (arith, v, e))
  no_high c x is k top (suc n) j b e l =
      sym (total_single R w j _ (h.within j l) (λ i _ d. by_bool (nat_lt i j)
      (λ t. ap (R.mul (c i)) (h.above i j (ltb-true i j t)) ∙ mul_zero R (c i))
      (λ t.
      let far : j ≤ i = ltb-false i j t in
      by_bool (lead i)
      (λ m. ap (λ a. R.mul a (slots i j)) (no_high c x is k top n i (omega (arith, far, b)) (omega (arith, far, e, d)) m) ∙ zero_mul R (slots i j))
      (λ m. ap (R.mul (c i)) (h.absent i j m) ∙ mul_zero R (c i))))
      ∙ ap (R.mul (c j)) (h.one j l) ∙ R.mul_one (c j))
      ∙ sym (is j) ∙ top j b

  -- the lead of a combination is one of the leads
  pub led_top : (x : ℕ → M) → Spans R w slots x → (k : ℕ) → (x k ≡ R.zero → ⊥) → ((j : ℕ) → k < j → x j ≡ R.zero) → lead k ≡ true
  led_top x s k ne top = by_bool (lead k) (λ l. l) (λ l. absurd (ne (s.is k ∙ total_zero R w _ (λ i _. by_bool (nat_lt k i)
      (λ t. by_bool (lead i)
      (λ m. ap (λ a. R.mul a (slots i k)) (no_high s.by x s.is k top w i (ltb-true k i t) (omega arith) m) ∙ zero_mul R (slots i k))
      (λ m. ap (R.mul (s.by i)) (h.absent i k m) ∙ mul_zero R (s.by i)))
      (λ t.
      let far : i ≤ k = ltb-false k i t in
      elim (same_or_other i k) [
        | inl e ↦ ap (R.mul (s.by i)) (ap (λ j. slots j k) e ∙ h.absent k k l) ∙ mul_zero R (s.by i)
        | inr d ↦ ap (R.mul (s.by i)) (h.above i k (omega (arith, far, d))) ∙ mul_zero R (s.by i)
      ])))))

  -- Reduced rows with the same leads and the span of these: a row that is cleared at the leads below its own by
  -- the rows there is the reduced row.
  module _ (reduced : ℕ → ℕ → M) (g : Reduced R w lead reduced) (into : (i : ℕ) → i < w → Spans R w reduced (slots i)) (j : ℕ) (m : lead j ≡ true) (x : ℕ → M)
      (taken : Spans R j slots (λ k. R.add (slots j k) (R.neg (x k)))) (clear : (k : ℕ) → k < j → lead k ≡ true → x k ≡ R.zero) where
    -- nothing is taken from its lead on
    from_lead : (k : ℕ) → j ≤ k → x k ≡ slots j k
    from_lead k l =
        sym (minus_same R (slots j k) (x k) (taken.is k ∙ total_zero R j _ (λ i b. ap (R.mul (taken.by i)) (h.above i k (omega (arith, b, l))) ∙ mul_zero R (taken.by i))))

    rest : ℕ → M
    rest k = R.add (x k) (R.neg (reduced j k))

    rest_spanned : Spans R w reduced rest
    unfolding rest
    rest_spanned =
        span_minus R w reduced x (reduced j)
        (span_as R w reduced _ x (λ k. sym (minus_minus R (slots j k) (x k)))
        (span_minus R w reduced (slots j) _ (into j (g.within j m))
        (span_into R j w slots reduced _ (λ i b. into i (let v = g.within j m in omega (arith, b, v))) taken)))
        (span_row R w reduced j (g.within j m))

    rest_clear : (k : ℕ) → lead k ≡ true → rest k ≡ R.zero
    unfolding rest
    rest_clear k l = minus_self R (x k) (reduced j k) (by_bool (nat_lt k j)
        (λ t.
        let b : k < j = ltb-true k j t in
        let d : j ≢ k = omega (arith, b) in
        clear k b l ∙ sym (g.apart j k l d))
        (λ t.
        let b : j ≤ k = ltb-false k j t in
        elim (same_or_other j k) [
          | inl e ↦ from_lead k b ∙ ap (slots j) (sym e) ∙ h.one j m ∙ sym (g.one j m) ∙ ap (reduced j) e
          | inr d ↦ from_lead k b ∙ h.above j k (omega (arith, b, d)) ∙ sym (g.above j k (omega (arith, b, d)))
        ]))

    pub cleared_is_reduced : (k : ℕ) → x k ≡ reduced j k
    unfolding rest
    cleared_is_reduced k = minus_same R (x k) (reduced j k) (zero_at_leads R w lead reduced g rest rest_spanned rest_clear k)
