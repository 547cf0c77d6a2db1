-- Rows with different tops: where a combination is zero at the tops, its coefficients are.
use Rattle.std.proofs.Common.{◌≡◌, ◌≢◌, ℕ, zero, suc, ◌+◌, ◌<◌, ◌≤◌, inl, inr, Bool, true, false, cond, nat_lt, sym, ◌∙◌, ap, arith, ltb-true, ltb-false}
use Rattle.ring_core.proofs.Carrier.{RingOn, zero_mul, mul_zero}
use Rattle.linear_algebra.proofs.Sums.{combine, total_zero, total_single, by_bool, same_or_other}
use Rattle.linear_algebra.proofs.Dependent.{IsDomain}
use Rattle.linear_algebra.proofs.Echelon.{find_place}

-- The first `m` rows: those that are live have their highest nonzero members at different places, the others are zero.
pub record HasTops {M : Type 0} (R : RingOn M) (m : ℕ) (live : ℕ → Bool) (top : ℕ → ℕ) (rows : ℕ → ℕ → M) : Type 0 where
  pub absent : (i t : ℕ) → i < m → live i ≡ false → rows i t ≡ R.zero
  pub nonzero : (i : ℕ) → i < m → live i ≡ true → rows i (top i) ≢ R.zero
  pub above : (i t : ℕ) → i < m → live i ≡ true → top i < t → rows i t ≡ R.zero
  pub apart : (i k : ℕ) → i < m → k < m → live i ≡ true → live k ≡ true → i ≢ k → top i ≢ top k

module _ {M : Type 0} (R : RingOn M) (d : IsDomain R) (m : ℕ) (live : ℕ → Bool) (top : ℕ → ℕ) (rows : ℕ → ℕ → M) (h : HasTops R m live top rows) (c : ℕ → M) where
  -- the coefficients of rows with tops from `b` on are zero
  abbrev zero_from : ℕ → Type 0
  zero_from b = (k : ℕ) → k < m → live k ≡ true → b ≤ top k → c k ≡ R.zero

  factor_zero : (a b : M) → b ≢ R.zero → R.mul a b ≡ R.zero → a ≡ R.zero
  factor_zero a b ne e = elim (d.decided a) [
    | inl z ↦ z
    | inr na ↦ absurd (d.product a b na ne e)
  ]

  -- the term of a row with a lower top, or with the coefficient zero
  term_zero : (b i : ℕ) → i < m → (live i ≡ true → b ≤ top i → c i ≡ R.zero) → R.mul (c i) (rows i b) ≡ R.zero
  term_zero b i l z = by_bool (live i)
      (λ v. by_bool (nat_lt (top i) b)
      (λ t. ap (R.mul (c i)) (h.above i b l v (ltb-true (top i) b t)) ∙ mul_zero R _)
      (λ t. ap (λ a. R.mul a (rows i b)) (z v (ltb-false (top i) b t)) ∙ zero_mul R _))
      (λ v. ap (R.mul (c i)) (h.absent i b l v) ∙ mul_zero R _)

  step : (b : ℕ) → ((k : ℕ) → k < m → live k ≡ true → top k ≡ b → combine R m c rows b ≡ R.zero) → zero_from (suc b) → zero_from b
  step b z past k l lk low = elim (same_or_other (top k) b) [
    | inl e ↦ factor_zero (c k) (rows k b) (λ q. h.nonzero k l lk (ap (rows k) e ∙ q))
        (sym (total_single R m k _ l (λ i li ne. term_zero b i li (λ v le. let other : top i ≢ b = λ q. h.apart i k li l v lk ne (q ∙ sym e) in past i li v (omega arith)))) ∙ z k l lk e)
    | inr ne ↦ past k l lk (omega arith)
  ]

  -- some bound on the tops
  tops_bound : (m : ℕ) → (b : ℕ) × ((i : ℕ) → i < m → top i < b)
  tops_bound zero = (0, λ i l. absurd (omega arith))
  tops_bound (suc m) = let before = tops_bound m in (
    suc (before.0 + top m),
    λ i l. elim (same_or_other i m) [
      | inl e ↦ let v = ap top e in omega (arith, v)
      | inr ne ↦ let v = before.1 i (omega arith) in omega (arith, v)
    ],
  )

  -- Where the combination is zero at the tops from `lo` on, so are the coefficients of the rows there.
  pub zero_at_tops : (lo : ℕ) → ((k : ℕ) → k < m → live k ≡ true → lo ≤ top k → combine R m c rows (top k) ≡ R.zero) → zero_from lo
  zero_at_tops lo z = let b = tops_bound m in down b.0 (λ k l lk low. let v = b.1 k l in absurd (omega (arith, low, v)))
    where
      down : (n : ℕ) → zero_from (lo + n) → zero_from lo
      down zero past = λ k l lk low. past k l lk (omega arith)
      down (suc n) past = down n (step (lo + n) (λ k l lk e. ap (combine R m c rows) (sym e) ∙ z k l lk (omega (arith, e))) (λ k l lk low. past k l lk (omega (arith, low))))

  -- The heart: where a combination is zero from `lo` on, only rows with lower tops occur.
  pub low_tops : (lo : ℕ) → ((t : ℕ) → lo ≤ t → combine R m c rows t ≡ R.zero) → zero_from lo
  low_tops lo z = zero_at_tops lo (λ k l lk low. z (top k) low)

  -- independence
  pub all_zero : ((t : ℕ) → combine R m c rows t ≡ R.zero) → (k : ℕ) → k < m → live k ≡ true → c k ≡ R.zero
  all_zero z k l lk = low_tops 0 (λ t _. z t) k l lk (omega arith)

  -- a combination that is zero at all tops is zero
  pub zero_combination : ((k : ℕ) → k < m → live k ≡ true → combine R m c rows (top k) ≡ R.zero) → (t : ℕ) → combine R m c rows t ≡ R.zero
  zero_combination z t = total_zero R m _ (λ i l. term_zero t i l (λ v _. zero_at_tops 0 (λ k lk vk _. z k lk vk) i l v (omega arith)))

  -- The top of a combination is the top of one of its rows.
  pub top_is_top : (t : ℕ) → combine R m c rows t ≢ R.zero → ((j : ℕ) → t < j → combine R m c rows j ≡ R.zero) → (k : ℕ) × (k < m) × (live k ≡ true) × (top k ≡ t)
  top_is_top t ne past = elim (find_place m (λ k. cond (live k) (suc (top k)) 0) (suc t)) [
    | inl s ↦ by_bool (live s.0)
        (λ v. let e = rw v at s.2 in (s.0, s.1, v, omega (arith, e)))
        (λ v. let e = rw v at s.2 in absurd (omega (arith, e)))
    | inr none ↦ absurd (ne (total_zero R m _ (λ i l. term_zero t i l (λ v le.
        let other : top i ≢ t = λ e. none i l (ap (λ b. cond b (suc (top i)) 0) v ∙ ap suc e) in
        low_tops (suc t) (λ j b. past j (omega (arith, b))) i l v (omega arith)))))
  ]
