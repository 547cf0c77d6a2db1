-- Rows over a Euclidean ring: some row is a combination of those before it.
use Rattle.std.proofs.Common.{◌≡◌, ◌≢◌, ℕ, zero, suc, ◌+◌, ◌<◌, ◌≤◌, inl, inr, sym, ◌∙◌, ap, arith}
use Rattle.ring_core.proofs.Carrier.{RingOn, mul_zero, from_sum}
use Rattle.linear_algebra.proofs.Sums.{total_zero, same_or_other}
use Rattle.linear_algebra.proofs.Spans.{Spans, minus_plus, minus_self, span_zero, span_add, span_scale, span_minus, span_row, span_into, span_as}
use Rattle.euclid_theory.proofs.Sizes.{Divided, divide}
use Rattle.relation_theory.proofs.Euclid.{IsEuclidean, domain, some_size}

module _ {M : Type 0} (R : RingOn M) (size : M → ℕ) (h : IsEuclidean R size) where
  -- all rows are new, and no rows of width `w` are
  module _ (w : ℕ) (rows : ℕ → ℕ → M) (past : (i j : ℕ) → suc w ≤ j → rows i j ≡ R.zero)
      (new : (k : ℕ) → Spans R k rows (rows k) → ⊥)
      (ih : (v : ℕ → ℕ → M) → ((i j : ℕ) → w ≤ j → v i j ≡ R.zero) → ((k : ℕ) → Spans R k v (v k) → ⊥) → ⊥) where
    -- zero at the last place too
    narrow : (v : ℕ → ℕ → M) → ((i j : ℕ) → suc w ≤ j → v i j ≡ R.zero) → ((i : ℕ) → v i w ≡ R.zero) → (i j : ℕ) → w ≤ j → v i j ≡ R.zero
    narrow v far last i j l = elim (same_or_other j w) [
      | inl e ↦ ap (v i) e ∙ last i
      | inr apart ↦ far i j (omega (arith, l, apart))
    ]

    -- the rows, less multiples of a combination of the first `n` of them whose last place isn't zero
    module _ (n : ℕ) (u : ℕ → M) (s : Spans R n rows u) (ne : u w ≢ R.zero) where
      part : (i : ℕ) → Divided R size (rows i w) (u w)
      part i = divide R size h.sizes (suc (size (rows i w))) (rows i w) (u w) (omega arith) (some_size R size h (u w) ne)

      multiple : ℕ → ℕ → M
      multiple i j = R.mul (part i).quotient (u j)

      rest : ℕ → ℕ → M
      rest i j = R.add (rows i j) (R.neg (multiple i j))

      rest_last : (i : ℕ) → rest i w ≡ (part i).rest
      unfolding rest multiple
      rest_last i = sym (from_sum R (part i).rest (multiple i w) (rows i w) (R.add_comm _ _ ∙ sym (part i).sum))

      rest_past : (i j : ℕ) → suc w ≤ j → rest i j ≡ R.zero
      unfolding rest multiple
      rest_past i j l =
          minus_self R _ _
          (past i j l
          ∙ sym (ap (R.mul (part i).quotient) (s.is j ∙ total_zero R n _ (λ q b. ap (R.mul (s.by q)) (past q j l) ∙ mul_zero R (s.by q))) ∙ mul_zero R _))

      spans_multiple : (m i : ℕ) → n ≤ m → Spans R m rows (multiple i)
      unfolding multiple
      spans_multiple m i l =
          span_scale R m rows (part i).quotient u (span_into R n m rows rows u (λ q b. span_row R m rows q (omega arith)) s)

      spans_rest : (m i : ℕ) → n ≤ m → i < m → Spans R m rows (rest i)
      unfolding rest
      spans_rest m i l b = span_minus R m rows (rows i) (multiple i) (span_row R m rows i b) (spans_multiple m i l)

      rests_new : (k : ℕ) → Spans R k (λ i. rest (n + i)) (rest (n + k)) → ⊥
      unfolding rest
      rests_new k t =
          new (n + k)
          (span_as R (n + k) rows _ (rows (n + k)) (λ j. sym (minus_plus R (rows (n + k) j) (multiple (n + k) j)))
          (span_add R (n + k) rows (rest (n + k)) (multiple (n + k))
          (span_into R k (n + k) (λ i. rest (n + i)) rows (rest (n + k)) (λ i b. spans_rest (n + k) (n + i) (omega arith) (omega arith)) t)
          (spans_multiple (n + k) (n + k) (omega arith))))

      none_left : ((i : ℕ) → rest i w ≡ R.zero) → ⊥
      none_left z = ih (λ i. rest (n + i)) (narrow (λ i. rest (n + i)) (λ i. rest_past (n + i)) (λ i. z (n + i))) rests_new

    -- no combination has a last place other than zero: one of least size would clear that of all rows
    smaller : (b n : ℕ) (u : ℕ → M) → Spans R n rows u → u w ≢ R.zero → size (u w) ≤ b → ⊥
    smaller zero n u s ne l = ne (h.sizes.empty (u w) (omega arith))
    smaller (suc b) n u s ne l = none_left n u s ne (λ i. elim ((domain R size h).decided (rest n u s ne i w)) [
      | inl z ↦ z
      | inr nz ↦
          let low = (part n u s ne i).lower in
          let same : size (rest n u s ne i w) ≡ size (part n u s ne i).rest = ap size (rest_last n u s ne i) in
          absurd (smaller b (n + suc i) (rest n u s ne i) (spans_rest n u s ne (n + suc i) i (omega arith) (omega arith)) nz (omega (arith, l, low, same)))
    ])

    last_zero : (i : ℕ) → rows i w ≡ R.zero
    last_zero i = elim ((domain R size h).decided (rows i w)) [
      | inl z ↦ z
      | inr ne ↦ absurd (smaller (size (rows i w)) (suc i) (rows i) (span_row R (suc i) rows i (omega arith)) ne (omega arith))
    ]

  -- Not every row is new.
  pub some_row_depends : (w : ℕ) (rows : ℕ → ℕ → M) → ((i j : ℕ) → w ≤ j → rows i j ≡ R.zero) → ((k : ℕ) → Spans R k rows (rows k) → ⊥) → ⊥
  some_row_depends zero rows past new = new 0 (span_zero R 0 rows (rows 0) (λ j. past 0 j (omega arith)))
  some_row_depends (suc w) rows past new =
      some_row_depends w rows (narrow w rows past new (some_row_depends w) rows past (last_zero w rows past new (some_row_depends w))) new
