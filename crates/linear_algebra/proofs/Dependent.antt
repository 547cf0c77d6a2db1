-- More rows than places are dependent, over a commutative ring without zero divisors. No inverse is taken.
use Rattle.std.proofs.Common.{◌≡◌, ◌≢◌, ℕ, zero, suc, ◌-◌, ◌<◌, ◌≤◌, ◌⊎◌, inl, inr, Option, Bool, true, false, cond, nat_lt, List, length, refl, sym, ◌∙◌, ap, ap₂, arith, eq-eqb, lt-ltb, le-ltb, ltb-true, ltb-false}
use Rattle.std.proofs.lemmas.Bool.{and_from}
use Rattle.ring_core.specs.Ring.{RingOps, IsElem}
use Rattle.ring_core.specs.Field.{IsField}
use Rattle.ring_core.specs.Coeffs.{coeff, are_elems, first_values}
use Rattle.ring_core.proofs.Carrier.{RingOn, Element, elements, same_element, mul_zero, neg_mul, mul_neg}
use Rattle.ring_core.proofs.Coefficients.{coeff_past, elem_read, elems-first_values, coeff-first_values}
use Rattle.ring_core.proofs.Degrees.{no_zero_divisors}
use Rattle.ring_core.proofs.FirstValues.{length-first_values}
use Rattle.linear_algebra.specs.steps.Slots.{beside}
use Rattle.linear_algebra.specs.Linear.{row_at, entry, is_row, are_rows, IsIndependent}
use Rattle.linear_algebra.proofs.Sums.{combine, unit, total_same, total_zero, total_add, total_right, combine_same, unit_same, unit_combine, by_bool, same_or_other}
use Rattle.linear_algebra.proofs.Spans.{minus_self}
use Rattle.linear_algebra.proofs.Augment.{beside_low, beside_past}
use Rattle.linear_algebra.proofs.Lift.{row_of, rows_of, combine_value}
use Rattle.linear_algebra.proofs.RowLists.{row_len, rows_at, rows_in}

-- A commutative ring without zero divisors, whose zero is decided.
pub record IsDomain {M : Type 0} (R : RingOn M) : Type 0 where
  pub mul_comm : (a b : M) → R.mul a b ≡ R.mul b a
  pub one_ne_zero : R.one ≢ R.zero
  pub decided : (a : M) → (a ≡ R.zero) ⊎ (a ≢ R.zero)
  pub product : (a b : M) → a ≢ R.zero → b ≢ R.zero → R.mul a b ≢ R.zero

-- Coefficients of the first `n` rows, not all zero, whose combination is zero.
pub record Dependence {M : Type 0} (R : RingOn M) (n : ℕ) (rows : ℕ → ℕ → M) : Type 0 where
  pub by : ℕ → M
  pub at : ℕ
  pub within : at < n
  pub nonzero : by at ≢ R.zero
  pub is : (j : ℕ) → combine R n by rows j ≡ R.zero

-- Number `j` of the places other than `q`.
abbrev pub without : ℕ → ℕ → ℕ
without q j = cond (nat_lt j q) j (suc j)

without_before : (q j : ℕ) → j < q → without q j ≡ j
without_before q j l = ap (λ b. cond b j (suc j)) (lt-ltb j q l)

pub without_after : (q j : ℕ) → q ≤ j → without q j ≡ suc j
without_after q j l = ap (λ b. cond b j (suc j)) (le-ltb j q l)

-- each place is `q` or another
pub without_covers : (q j : ℕ) → (j ≡ q) ⊎ ((k : ℕ) × (without q k ≡ j))
without_covers q j = elim (same_or_other j q) [
  | inl e ↦ inl e
  | inr d ↦ by_bool (nat_lt j q)
      (λ b. inr (j, without_before q j (ltb-true j q b)))
      (λ b. let l : q ≤ j = ltb-false j q b in let e = without_after q (j - 1) (omega (arith, l, d)) in inr (j - 1, omega (arith, e, l, d)))
]

module _ {M : Type 0} (R : RingOn M) (h : IsDomain R) where
  -- some member below `n` is not zero, or all are
  pub find_nonzero : (n : ℕ) (x : ℕ → M) → ((q : ℕ) × (q < n) × (x q ≢ R.zero)) ⊎ ((q : ℕ) → q < n → x q ≡ R.zero)
  find_nonzero zero x = inr (λ q l. absurd (omega arith))
  find_nonzero (suc n) x = elim (find_nonzero n x) [
    | inl s ↦ inl (s.0, omega (arith, s.1), s.2)
    | inr none ↦ elim (h.decided (x n)) [
      | inl z ↦ inr (λ q l. elim (same_or_other q n) [
        | inl e ↦ ap x e ∙ z
        | inr d ↦ none q (omega arith)
      ])
      | inr ne ↦ inl (n, omega arith, ne)
    ]
  ]

  -- row `n` is not zero at `q`
  module _ (n : ℕ) (rows : ℕ → ℕ → M) (q : ℕ) (ne : rows n q ≢ R.zero) where
    -- the rows times the member of row `n` at `q`, with zero at `q`
    cleared : ℕ → ℕ → M
    cleared i j = R.add (R.mul (rows n q) (rows i j)) (R.neg (R.mul (rows i q) (rows n j)))

    cleared_zero : (i : ℕ) → cleared i q ≡ R.zero
    unfolding cleared
    cleared_zero i = minus_self R _ _ (h.mul_comm (rows n q) (rows i q))

    cleared_past : (i j : ℕ) → rows i j ≡ R.zero → rows n j ≡ R.zero → cleared i j ≡ R.zero
    unfolding cleared
    cleared_past i j e f =
        minus_self R _ _ (ap (R.mul (rows n q)) e ∙ mul_zero R _ ∙ sym (ap (R.mul (rows i q)) f ∙ mul_zero R _))

    combine_cleared : (c : ℕ → M) (j : ℕ) → combine R n c cleared j
        ≡ R.add (combine R n (λ i. R.mul (c i) (rows n q)) rows j) (R.mul (R.neg (combine R n c rows q)) (rows n j))
    unfolding cleared
    combine_cleared c j =
        total_same R n _ _ (λ i _. R.mul_add (c i) _ _ ∙ ap₂ R.add (sym (R.mul_assoc (c i) (rows n q) (rows i j)))
        (ap (R.mul (c i)) (sym (mul_neg R (rows i q) (rows n j))) ∙ sym (R.mul_assoc (c i) (rows i q) (R.neg (rows n j)))))
        ∙ total_add R n _ _
        ∙ ap (R.add _) (total_right R n (R.neg (rows n j)) (λ i. R.mul (c i) (rows i q))
        ∙ mul_neg R _ (rows n j) ∙ sym (neg_mul R _ (rows n j)))

    -- a dependence of the cleared rows, at the places other than `q`, gives one of the rows
    from_cleared : Dependence R n (λ i j. cleared i (without q j)) → Dependence R (suc n) rows
    from_cleared s = record {
      by = beside n scaled last;
      at = s.at;
      within = let l = s.within in omega (arith, l);
      nonzero = λ e. h.product (s.by s.at) (rows n q) s.nonzero ne (sym (beside_low n scaled last s.at s.within) ∙ e);
      is = λ j.
          ap₂ (λ x y. R.add x (R.mul y (rows n j))) (combine_same R n (beside n scaled last) scaled rows j (beside_low n scaled last)) (beside_past n scaled last n (omega arith))
          ∙ sym (combine_cleared s.by j) ∙ all_zero j;
    }
      where
        scaled : ℕ → M
        scaled i = R.mul (s.by i) (rows n q)

        last : ℕ → M
        last _ = R.neg (combine R n s.by rows q)

        all_zero : (j : ℕ) → combine R n s.by cleared j ≡ R.zero
        all_zero j = elim (without_covers q j) [
          | inl e ↦ ap (combine R n s.by cleared) e
              ∙ total_zero R n _ (λ i _. ap (R.mul (s.by i)) (cleared_zero i) ∙ mul_zero R (s.by i))
          | inr k ↦ ap (combine R n s.by cleared) (sym k.1) ∙ s.is k.0
        ]

  -- Rows more than the places where they can be nonzero are dependent.
  pub dependence : (n w : ℕ) (rows : ℕ → ℕ → M) → w < n → ((i : ℕ) → i < n → (j : ℕ) → w ≤ j → rows i j ≡ R.zero) → Dependence R n rows
  dependence zero w rows l past = absurd (omega arith)
  dependence (suc n) w rows l past = elim (find_nonzero w (rows n)) [
    | inl s ↦ from_cleared n rows s.0 s.2
        (dependence n (w - 1) (λ i j. cleared n rows s.0 s.2 i (without s.0 j)) (omega (arith, l, s.1)) (λ i b j m.
        let q = s.1 in
        let e = without_after s.0 j (omega (arith, q, m)) in
        let far : w ≤ without s.0 j = omega (arith, e, m) in
        cleared_past n rows s.0 s.2 i (without s.0 j) (past i (omega arith) _ far) (past n (omega arith) _ far)))
    | inr none ↦ record {
      by = unit R n;
      at = n;
      within = omega arith;
      nonzero = λ e. h.one_ne_zero (sym (unit_same R n n refl) ∙ e);
      is = λ j. unit_combine R (suc n) n rows j (omega arith) ∙ by_bool (nat_lt j w)
          (λ b. none j (ltb-true j w b))
          (λ b. past n (omega arith) j (ltb-false j w b));
    }
  ]

module _ {E : Type 0} (r : RingOps E) (inv : E → Option E) (field : IsField r inv) where
  abbrev R : RingOn (Element r)
  R = elements field.ring

  field_decided : (a : Element r) → (a ≡ R.zero) ⊎ (a ≢ R.zero)
  field_decided a = by_bool (r.same a.0 r.zero)
      (λ e. inl (same_element r _ _ (field.ring.equal.same_eq a.0 r.zero a.1 field.ring.closed.zero_in e)))
      (λ e. inr (λ z. let t = ap (λ x. r.same x.0 r.zero) z ∙ field.ring.equal.same_refl r.zero field.ring.closed.zero_in in never e t))
    where
      never : {b : Bool} → b ≡ false → b ≡ true → ⊥
      never e t = cc

  pub field_domain : IsDomain R
  field_domain = record {
    mul_comm = λ a b. same_element r _ _ (field.mul_comm a.0 b.0 a.1 b.1);
    one_ne_zero = λ e. field.one_ne_zero (ap (λ x. x.0) e);
    decided = field_decided;
    product = λ a b na nb e.
        no_zero_divisors r inv field a.0 b.0 a.1 b.1 (λ z. na (same_element r _ _ z)) (λ z. nb (same_element r _ _ z)) (ap (λ x. x.0) e);
  }

  -- a dependence as a list of coefficients
  module _ (w : ℕ) (rows : List (List E)) (ri : are_rows r w rows ≡ true) where
    abbrev n : ℕ
    n = length rows

    abbrev v : ℕ → ℕ → Element r
    v = rows_of r (entry r rows) (rows_in r field.ring.closed.zero_in w rows ri)

    v_past : (i : ℕ) → i < n → (j : ℕ) → w ≤ j → v i j ≡ R.zero
    v_past i l j m =
        let len = row_len r w (row_at rows i) (rows_at r w rows ri i l) in
        same_element r _ _ (coeff_past r (row_at rows i) j (omega (arith, len, m)))

    dependent : Dependence R n v → IsIndependent r rows → ⊥
    dependent s none =
        s.nonzero (same_element r _ _ (sym (reads s.at s.within) ∙ none c shape (λ j.
        sym (combine_value r field.ring n (row_of r (coeff r c) ci) v j)
        ∙ ap (λ x. x.0) (combine_same R n _ s.by v j (λ i l. same_element r _ _ (reads i l)) ∙ s.is j)) s.at))
      where
        value : ℕ → E
        value i = (beside n s.by (λ _. R.zero) i).0

        c : List E
        c = first_values n value

        elems : are_elems r c ≡ true
        elems = elems-first_values r n value (λ i _. (beside n s.by (λ _. R.zero) i).1)

        ci : (k : ℕ) → IsElem r (coeff r c k)
        ci = elem_read r c field.ring.closed.zero_in elems

        shape : is_row r n c ≡ true
        shape = and_from _ _ (eq-eqb _ n (length-first_values n value)) elems

        reads : (i : ℕ) → i < n → coeff r c i ≡ (s.by i).0
        reads i l =
            coeff-first_values r n value (λ k b. ap (λ x. x.0) (beside_past n s.by (λ _. R.zero) k b)) i
            ∙ ap (λ x. x.0) (beside_low n s.by (λ _. R.zero) i l)

-- More rows than places aren't independent.
pub rows_depend : {E : Type 0} (r : RingOps E) (inv : E → Option E) (f : IsField r inv) (w : ℕ) (rows : List (List E)) → are_rows r w rows ≡ true → w < length rows → IsIndependent r rows → ⊥
rows_depend r inv f w rows ri l =
    dependent r inv f w rows ri (dependence (elements f.ring) (field_domain r inv f) (length rows) w _ l (v_past r inv f w rows ri))
