-- From bases of relations as lists to bases as functions of the place.
use Rattle.std.proofs.Common.{◌≡◌, ℕ, ◌<◌, ◌≤◌, inl, inr, true, List, length, refl, sym, ◌∙◌, ap, arith, subst, eq-eqb}
use mathlib.Core.Path.{fun_ext}
use Rattle.std.proofs.lemmas.Bool.{and_from, cases_lt}
use Rattle.ring_core.specs.Ring.{RingOps, IsRing}
use Rattle.ring_core.specs.Coeffs.{coeff, first_values}
use Rattle.ring_core.proofs.Carrier.{RingOn, Element, same_element, elements, mul_zero, zero_mul}
use Rattle.ring_core.proofs.Coefficients.{coeff_past, elem_read, elems-first_values}
use Rattle.ring_core.proofs.FirstValues.{length-first_values, at-first_values}
use Rattle.ring_core.proofs.Twist.{sum_same}
use Rattle.linear_algebra.specs.Combines.{combined}
use Rattle.linear_algebra.specs.Linear.{row_at, entry, is_row, are_rows}
use Rattle.linear_algebra.proofs.Sums.{combine, total_zero}
use Rattle.linear_algebra.proofs.Lift.{combine_value, combined_rows}
use Rattle.linear_algebra.proofs.RowLists.{row_len, row_elems, rows_at, rows_in}
use Rattle.poly_reduce.specs.Matrices.{row_times, zero_row, IsRelationRow, IsRowBasis}
use Rattle.relation_theory.proofs.Bases.{IsBasisOfRelations}

module _ {E : Type 0} (p : RingOps E) (h : IsRing p) where
  -- The first values of a function, as a list.
  abbrev pub values : ℕ → (ℕ → Element p) → List E
  values n c = first_values n (λ i. (c i).0)

  pub values_shape : (n : ℕ) (c : ℕ → Element p) → is_row p n (values n c) ≡ true
  values_shape n c =
      and_from _ _ (eq-eqb _ n (length-first_values n (λ i. (c i).0))) (elems-first_values p n _ (λ i l. (c i).1))

  pub values_at : (n : ℕ) (c : ℕ → Element p) (i : ℕ) → i < n → coeff p (values n c) i ≡ (c i).0
  values_at n c i l = at-first_values n (λ i. (c i).0) i p.zero l

  -- the members of a list of n elements
  abbrev pub members : (n : ℕ) (c : List E) → is_row p n c ≡ true → ℕ → Element p
  members n c s i = (coeff p c i, elem_read p c h.closed.zero_in (row_elems p n c s) i)

  -- the sum of the multiples of rows that are given both ways
  pub combined_is : (rows : List (List E)) (v : ℕ → ℕ → Element p) (n : ℕ) → ((i : ℕ) → i < n → (j : ℕ) → entry p rows i j ≡ (v i j).0)
      → (c : List E) (d : ℕ → Element p) → ((i : ℕ) → i < n → coeff p c i ≡ (d i).0) → (j : ℕ) → combined p n (coeff p c) (entry p rows) j ≡ (combine (elements h) n d v j).0
  combined_is rows v n same c d coeffs j =
      combined_rows p h n (coeff p c) (entry p rows) (λ i k. (v i k).0) j (λ i l. same i l j)
      ∙ sum_same p h n _ _ (λ i l. ap (λ t. p.mul t (v i j).0) (coeffs i l)) ∙ sym (combine_value p h n d v j)

  module _ (w : ℕ) (rows basis : List (List E)) (inside : are_rows p w rows ≡ true) (s : IsRowBasis p (length rows) (IsRelationRow p w rows) basis) (v : ℕ → ℕ → Element p)
      (same : (i : ℕ) → i < length rows → (j : ℕ) → entry p rows i j ≡ (v i j).0) where
    abbrev R : RingOn (Element p)
    R = elements h

    abbrev n : ℕ
    n = length rows

    past_at : (i j : ℕ) → i < n → w ≤ j → v i j ≡ R.zero
    past_at i j l m =
        same_element p _ _ (sym (same i l j) ∙ coeff_past p (row_at rows i) j (let e = row_len p w (row_at rows i) (rows_at p w rows inside i l) in omega (arith, e, m)))

    -- a list is a relation of the rows where the sum of its multiples of them is zero
    relation_zero : (c : List E) (d : ℕ → Element p) → ((i : ℕ) → i < n → coeff p c i ≡ (d i).0) → IsRelationRow p w rows c → (j : ℕ) → combine R n d v j ≡ R.zero
    relation_zero c d coeffs e j = elim (cases_lt j w) [
      | inl l ↦
          same_element p _ _
          (sym (combined_is rows v n same c d coeffs j) ∙ sym (at-first_values w (combined p n (coeff p c) (entry p rows)) j p.zero l)
          ∙ ap (λ t. coeff p t j) e ∙ at-first_values w (λ j. p.zero) j p.zero l)
      | inr m ↦ total_zero R n _ (λ i l. ap (R.mul (d i)) (past_at i j l m) ∙ mul_zero R (d i))
    ]

    relation_row : (c : List E) (d : ℕ → Element p) → ((i : ℕ) → i < n → coeff p c i ≡ (d i).0) → ((j : ℕ) → combine R n d v j ≡ R.zero) → IsRelationRow p w rows c
    relation_row c d coeffs z =
        ap (first_values w) (fun_ext (λ j. combined_is rows v n same c d coeffs j ∙ ap (λ (t : Element p). t.0) (z j)))

    -- The members of the basis.
    abbrev pub basis_rows : ℕ → ℕ → Element p
    basis_rows i j = (entry p basis i j, rows_in p h.closed.zero_in n basis s.shape i j)

    basis_past : (i j : ℕ) → i < length basis → n ≤ j → basis_rows i j ≡ R.zero
    basis_past i j l m =
        same_element p _ _ (coeff_past p (row_at basis i) j (let e = row_len p n (row_at basis i) (rows_at p n basis s.shape i l) in omega (arith, e, m)))

    -- a row that is a product with the basis is a combination of it
    combines : (x by : List E) (c : ℕ → Element p) → ((j : ℕ) → j < n → coeff p x j ≡ (c j).0) → ((j : ℕ) → n ≤ j → c j ≡ R.zero) → (shape : is_row p (length basis) by ≡ true) → x ≡ row_times p n by basis
        → (j : ℕ) → c j ≡ combine R (length basis) (members (length basis) by shape) basis_rows j
    combines x by c at past shape is j = elim (cases_lt j n) [
      | inl l ↦
          same_element p _ _
          (sym (at j l) ∙ ap (λ t. coeff p t j) is ∙ at-first_values n (combined p (length basis) (coeff p by) (entry p basis)) j p.zero l
          ∙ combined_is basis basis_rows (length basis) (λ i m k. refl) by (members (length basis) by shape) (λ i m. refl) j)
      | inr m ↦ past j m ∙ sym (total_zero R (length basis) _ (λ i l. ap (R.mul (members (length basis) by shape i)) (basis_past i j l m) ∙ mul_zero R _))
    ]

    -- a combination of the basis that is zero is a product with it
    zero_product_row : (c : ℕ → Element p) → ((j : ℕ) → combine R (length basis) c basis_rows j ≡ R.zero) → zero_row p n ≡ row_times p n (values (length basis) c) basis
    zero_product_row c z =
        sym (ap (first_values n) (fun_ext (λ j.
        combined_is basis basis_rows (length basis) (λ i m k. refl) (values (length basis) c) c (values_at (length basis) c) j ∙ ap (λ (t : Element p). t.0) (z j))))

    only_zero : (c : ℕ → Element p) → ((j : ℕ) → combine R (length basis) c basis_rows j ≡ R.zero) → values (length basis) c ≡ values (length basis) (λ i. R.zero)
    only_zero c z =
        let zeros : ℕ → Element p = λ i. R.zero in
        let none : is_row p n (zero_row p n) ≡ true = values_is_row n in
        let found = s.spans (zero_row p n) none
        (relation_row (zero_row p n) zeros (λ i l. at-first_values n (λ j. p.zero) i p.zero l) (λ j. total_zero R n _ (λ i l. zero_mul R (v i j)))) in
        found.only (values (length basis) c) (values_shape (length basis) c) (zero_product_row c z)
        ∙ sym (found.only (values (length basis) zeros) (values_shape (length basis) zeros) (zero_product_row zeros (λ j. total_zero R (length basis) _ (λ i l. zero_mul R (basis_rows i j)))))
      where
        values_is_row : (n : ℕ) → is_row p n (zero_row p n) ≡ true
        values_is_row n = and_from _ _ (eq-eqb _ n (length-first_values n (λ j. p.zero))) (elems-first_values p n (λ j. p.zero) (λ i l. h.closed.zero_in))

    pub is_basis : IsBasisOfRelations (elements h) v (length rows) (length basis) basis_rows
    is_basis = record {
      relations = λ i l. record {
        past = λ j m. basis_past i j l m;
        is = relation_zero (row_at basis i) (basis_rows i) (λ j m. refl) (s.within i l);
      };
      spans = λ c t.
          let list = values n c in
          let found = s.spans list (values_shape n c) (relation_row list c (values_at n c) t.is) in
          record { by = members (length basis) found.by found.shape; is = combines list found.by c (values_at n c) t.past found.shape found.is };
      independent = λ c z i l.
          same_element p _ _
          (sym (values_at (length basis) c i l) ∙ ap (λ t. coeff p t i) (only_zero c z) ∙ values_at (length basis) (λ i. R.zero) i l);
    }

    pub is_basis_for : (n : ℕ) → length rows ≡ n → IsBasisOfRelations (elements h) v n (length basis) basis_rows
    is_basis_for n e = subst (λ t. IsBasisOfRelations (elements h) v t (length basis) basis_rows) e is_basis
