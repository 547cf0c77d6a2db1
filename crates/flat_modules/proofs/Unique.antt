-- Rows with rising leads of different places, cleared at each other's leads, are told by what they span.
use Rattle.std.proofs.Common.{◌≡◌, ◌≢◌, ℕ, ◌+◌, ◌*◌, ◌/◌, ◌%◌, ◌<◌, ◌≤◌, inl, inr, nat_lt, sym, ◌∙◌, ap, ap₂, arith, ltb-true, ltb-false, add_comm, zero-mul}
use Rattle.std.proofs.Math.Nat.{mul-add-mod_self_right, div-eq_of_lt, mod-eq_of_lt}
use Rattle.ring_core.proofs.Carrier.{RingOn, minus_same}
use Rattle.linear_algebra.proofs.Sums.{combine, same_or_other}
use Rattle.linear_algebra.proofs.Spans.{Spans, minus_self, span_into, span_row, span_as, span_minus}
use Rattle.linear_algebra.proofs.Echelon.{no_lower}
use Rattle.linear_algebra.proofs.Dependent.{IsDomain}
use Rattle.flat_modules.proofs.Shift.{shift, powers, shift_none}
use Rattle.flat_modules.proofs.Tops.{top_is_top, zero_combination}
use Rattle.flat_modules.proofs.Places.{HasPlaces, powers_tops}

-- `n` rows with rising leads `at` of different places, one at each lead, zero above it and at the others' leads plus
-- multiples of the shift.
pub record Standard {M : Type 0} (R : RingOn M) (n w : ℕ) (at : ℕ → ℕ) (rows : ℕ → ℕ → M) : Type 0 where
  pub rising : (i k : ℕ) → i < k → k < n → at i < at k
  pub places : (i k : ℕ) → i < n → k < n → i ≢ k → at i % w ≢ at k % w
  pub one : (i : ℕ) → i < n → rows i (at i) ≡ R.one
  pub above : (i t : ℕ) → i < n → at i < t → rows i t ≡ R.zero
  pub clear : (i k e : ℕ) → i < n → k < n → i ≢ k → rows i (at k + e * w) ≡ R.zero
  pub past : (i t : ℕ) → n ≤ i → rows i t ≡ R.zero

-- `x` is a combination of the multiples of the rows.
pub record Reached {M : Type 0} (R : RingOn M) (n w : ℕ) (rows : ℕ → ℕ → M) (x : ℕ → M) : Type 0 where
  pub bound : ℕ
  pub by : ℕ → M
  pub is : (t : ℕ) → x t ≡ combine R bound by (powers R n w rows) t

module _ {M : Type 0} (R : RingOn M) (n w : ℕ) (rows : ℕ → ℕ → M) where
  pub power_none : (i t : ℕ) → i < n → powers R n w rows i t ≡ rows i t
  power_none i t l =
      ap₂ (λ e k. shift R (e * w) (rows k) t) (div-eq_of_lt l) (mod-eq_of_lt l)
      ∙ ap (λ s. shift R s (rows i) t) (zero-mul w) ∙ shift_none R (rows i) t

  pub spans_more : (x : ℕ → M) (s : Reached R n w rows x) (m : ℕ) → s.bound ≤ m → Spans R m (powers R n w rows) x
  spans_more x s m l = span_into R s.bound m _ _ x (λ i b. span_row R m _ i (omega arith)) (record { by = s.by; is = s.is })

  pub spans_row : (m i : ℕ) → i < n → i < m → Spans R m (powers R n w rows) (rows i)
  spans_row m i l b = span_as R m _ (powers R n w rows i) (rows i) (λ t. sym (power_none i t l)) (span_row R m _ i b)

module _ {M : Type 0} (R : RingOn M) (d : IsDomain R) (w : ℕ) (posw : 0 < w) where
  pub standard_places : (n : ℕ) (at : ℕ → ℕ) (rows : ℕ → ℕ → M) → Standard R n w at rows → HasPlaces R w (λ i. nat_lt i n) at rows
  standard_places n at rows h = record {
    absent = λ i t e. h.past i t (ltb-false i n e);
    nonzero = λ i e q. d.one_ne_zero (sym (h.one i (ltb-true i n e)) ∙ q);
    above = λ i t e l. h.above i t (ltb-true i n e) l;
    places = λ i k li lk ne. h.places i k (ltb-true i n li) (ltb-true k n lk) ne;
  }

  -- a lead of the one is a lead of the other plus a multiple of the shift
  top_in : (n m : ℕ) (at by : ℕ → ℕ) (a b : ℕ → ℕ → M) → Standard R n w at a → Standard R m w by b → (i : ℕ) → i < n → Reached R m w b (a i)
      → (k : ℕ) × (k < m) × (by k ≤ at i) × (by k % w ≡ at i % w)
  top_in n m at by a b ha hb i l s =
      let f = top_is_top R d s.bound _ _ _ (powers_tops R m w (λ i. nat_lt i m) by b posw (standard_places m by b hb) s.bound) s.by (at i)
      (λ z. d.one_ne_zero (sym (ha.one i l) ∙ s.is (at i) ∙ z)) (λ j past. sym (s.is j) ∙ ha.above i j l past) in
      let e = f.3 in
      (f.0 % m, ltb-true (f.0 % m) m f.2, omega (arith, e), sym (mul-add-mod_self_right (f.0 / m) w (by (f.0 % m))) ∙ ap (λ t. t % w) e)

  found : (n m : ℕ) (at by : ℕ → ℕ) (a b : ℕ → ℕ → M) → Standard R n w at a → Standard R m w by b
      → ((i : ℕ) → i < n → Reached R m w b (a i)) → ((i : ℕ) → i < m → Reached R n w a (b i)) → (i : ℕ) → i < n → (k : ℕ) × (k < m) × (by k ≡ at i)
  found n m at by a b ha hb into back i l =
      let f = top_in n m at by a b ha hb i l (into i l) in
      let g = top_in m n by at b a hb ha f.0 f.1 (back f.0 f.1) in
      let low = f.2 in
      let high = g.2 in
      elim (same_or_other g.0 i) [
        | inl e ↦ let v = ap at e in (f.0, f.1, omega (arith, v, low, high))
        | inr ne ↦ absurd (ha.places g.0 i g.1 l ne (g.3 ∙ f.3))
      ]

  module _ (n m : ℕ) (at by : ℕ → ℕ) (a b : ℕ → ℕ → M) (ha : Standard R n w at a) (hb : Standard R m w by b)
      (into : (i : ℕ) → i < n → Reached R m w b (a i)) (back : (i : ℕ) → i < m → Reached R n w a (b i)) where
    low : (i : ℕ) → i < n → (i < m) × (by i ≤ at i)
    low = no_lower n m at by ha.rising hb.rising (found n m at by a b ha hb into back)

    high : (i : ℕ) → i < m → (i < n) × (at i ≤ by i)
    high = no_lower m n by at hb.rising ha.rising (found m n by at b a hb ha back into)

    pub same_count : n ≡ m
    same_count = let f : m < n → m < m = λ l. (low m l).0 in let g : n < m → n < n = λ l. (high n l).0 in grind (arith, f, g)

    same_leads : (i : ℕ) → i < n → at i ≡ by i
    same_leads i l = let f = low i l in let u = f.1 in let v = (high i f.0).1 in omega (arith, u, v)

    -- both have one at the lead and zero at all others
    at_tops : (i e j : ℕ) → i < n → j < m → a i (e * w + by j) ≡ b i (e * w + by j)
    at_tops i e j l lj =
        let lb = (low i l).0 in
        let la = (high j lj).0 in
        let lead = same_leads i l in
        let other = same_leads j la in
        let order : e * w + by j ≡ by j + e * w = add_comm (e * w) (by j) in
        elim (same_or_other i j) [
          | inl q ↦ let v = ap by q in elim (same_or_other (e * w) 0) [
            | inl z ↦
                let place : e * w + by j ≡ by i = omega (arith, z, v) in
                ap (a i) (place ∙ sym lead) ∙ ha.one i l ∙ sym (ap (b i) place ∙ hb.one i lb)
            | inr far ↦ ha.above i _ l (omega (arith, far, v, lead)) ∙ sym (hb.above i _ lb (omega (arith, far, v)))
          ]
          | inr ne ↦
              ap (a i) (order ∙ ap (λ k. k + e * w) (sym other)) ∙ ha.clear i j e l la ne ∙ sym (ap (b i) order ∙ hb.clear i j e lb lj ne)
        ]

    pub same_members : (i t : ℕ) → i < n → a i t ≡ b i t
    same_members i t l =
        let lb = (low i l).0 in
        let s = into i l in
        let k = s.bound + m in
        let less = span_minus R k (powers R m w b) (a i) (b i) (spans_more R m w b (a i) s k (omega arith)) (spans_row R m w b k i lb (omega (arith, lb))) in
        minus_same R (a i t) (b i t)
        (less.is t ∙ zero_combination R d k _ _ _ (powers_tops R m w (λ i. nat_lt i m) by b posw (standard_places m by b hb) k) less.by
        (λ q lq v. sym (less.is _) ∙ minus_self R _ _ (at_tops i (q / m) (q % m) l (ltb-true (q % m) m v))) t)
