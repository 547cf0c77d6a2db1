-- Reduced rows, each kept at the place of its lead. A combination of them has its own members as coefficients;
-- independence, leads and the low part follow from that.
use Rattle.std.proofs.Common.{◌≡◌, ℕ, ◌<◌, ◌≤◌, ◌≢◌, inl, inr, Bool, true, false, nat_lt, sym, ◌∙◌, ap, arith, ltb-true, ltb-false}
use Rattle.ring_core.proofs.Carrier.{RingOn, zero_mul, mul_zero}
use Rattle.linear_algebra.proofs.Sums.{combine, total_zero, total_same, total_rest, total_single, by_bool, same_or_other}
use Rattle.linear_algebra.proofs.Spans.{Spans}

-- The row at each lead `j` has its highest nonzero member at `j`, which is one, and zero at all other leads;
-- the rows elsewhere are zero.
pub record Reduced {M : Type 0} (R : RingOn M) (w : ℕ) (lead : ℕ → Bool) (slots : ℕ → ℕ → M) : Type 0 where
  pub within : (j : ℕ) → lead j ≡ true → j < w
  pub absent : (j k : ℕ) → lead j ≡ false → slots j k ≡ R.zero
  pub one : (j : ℕ) → lead j ≡ true → slots j j ≡ R.one
  pub above : (j k : ℕ) → j < k → slots j k ≡ R.zero
  pub apart : (j k : ℕ) → lead k ≡ true → (j ≡ k → ⊥) → slots j k ≡ R.zero

module _ {M : Type 0} (R : RingOn M) (w : ℕ) (lead : ℕ → Bool) (slots : ℕ → ℕ → M) (h : Reduced R w lead slots) where
  -- a combination has at a lead the coefficient of the row there
  pub at_lead : (c : ℕ → M) (j : ℕ) → lead j ≡ true → combine R w c slots j ≡ c j
  at_lead c j l =
      total_single R w j _ (h.within j l) (λ i _ ne. ap (R.mul (c i)) (h.apart i j l ne) ∙ mul_zero R (c i))
      ∙ ap (R.mul (c j)) (h.one j l) ∙ R.mul_one (c j)

  -- a combination has its own members as coefficients
  pub expand : (x : ℕ → M) → Spans R w slots x → (k : ℕ) → x k ≡ combine R w x slots k
  expand x s k = s.is k ∙ total_same R w _ _ (λ j _. by_bool (lead j)
      (λ l. ap (λ a. R.mul a (slots j k)) (sym (at_lead s.by j l) ∙ sym (s.is j)))
      (λ l. ap (R.mul (s.by j)) (h.absent j k l) ∙ mul_zero R (s.by j) ∙ sym (ap (R.mul (x j)) (h.absent j k l) ∙ mul_zero R (x j))))

  -- the rows are independent: a combination with zero at each lead is zero
  pub zero_at_leads : (x : ℕ → M) → Spans R w slots x → ((k : ℕ) → lead k ≡ true → x k ≡ R.zero) → (k : ℕ) → x k ≡ R.zero
  zero_at_leads x s z k = expand x s k ∙ total_zero R w _ (λ j _. by_bool (lead j)
      (λ l. ap (λ a. R.mul a (slots j k)) (z j l) ∙ zero_mul R (slots j k))
      (λ l. ap (R.mul (x j)) (h.absent j k l) ∙ mul_zero R (x j)))

  -- the lead of a combination is one of the leads
  pub top_is_lead : (x : ℕ → M) → Spans R w slots x → (k : ℕ) → (x k ≡ R.zero → ⊥) → ((j : ℕ) → k < j → x j ≡ R.zero) → lead k ≡ true
  top_is_lead x s k ne top = by_bool (lead k) (λ l. l) (λ l. absurd (ne (expand x s k ∙ total_zero R w _ (λ j _.
      elim (same_or_other j k) [
        | inl e ↦ ap (R.mul (x j)) (ap (λ i. slots i k) e ∙ h.absent k k l) ∙ mul_zero R (x j)
        | inr d ↦ off j d
      ]))))
    where
      off : (j : ℕ) → j ≢ k → R.mul (x j) (slots j k) ≡ R.zero
      off j d = by_bool (nat_lt j k)
          (λ b. ap (R.mul (x j)) (h.above j k (ltb-true j k b)) ∙ mul_zero R (x j))
          (λ b. let l : k ≤ j = ltb-false j k b in ap (λ a. R.mul a (slots j k)) (top j (omega arith)) ∙ zero_mul R (slots j k))

  -- a combination with zeros from `n` on is one of the first `n` rows
  pub low_part : (n : ℕ) → n ≤ w → (x : ℕ → M) → Spans R w slots x → ((j : ℕ) → n ≤ j → x j ≡ R.zero) → Spans R n slots x
  low_part n l x s z = record {
    by = x;
    is = λ k. expand x s k ∙ total_rest R n w _ l (λ j b _. ap (λ a. R.mul a (slots j k)) (z j b) ∙ zero_mul R (slots j k));
  }
