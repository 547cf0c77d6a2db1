-- Lists of rows of elements.
use Rattle.std.proofs.Common.{◌≡◌, ℕ, zero, suc, ◌<◌, true, List, [], ◌∷◌, ◌++◌, length, refl, sym, ◌∙◌, arith, ext_get_or, eqb-true}
use Rattle.std.proofs.lemmas.Bool.{and_parts, and_from}
use Rattle.ring_core.specs.Ring.{RingOps, IsElem}
use Rattle.ring_core.specs.Coeffs.{coeff, are_elems}
use Rattle.ring_core.proofs.Coefficients.{elem_read}
use Rattle.linear_algebra.specs.Linear.{row_at, entry, is_row, are_rows}
use Rattle.linear_algebra.proofs.Lift.{AllIn}

module _ {E : Type 0} (r : RingOps E) where
  pub row_len : (w : ℕ) (x : List E) → is_row r w x ≡ true → length x ≡ w
  row_len w x e = eqb-true (length x) w (and_parts _ _ e).0

  pub row_elems : (w : ℕ) (x : List E) → is_row r w x ≡ true → are_elems r x ≡ true
  row_elems w x e = (and_parts _ _ e).1

  -- each row has the shape
  pub rows_at : (w : ℕ) (rows : List (List E)) → are_rows r w rows ≡ true → (i : ℕ) → i < length rows → is_row r w (row_at rows i) ≡ true
  rows_at w [] e i l = absurd (omega arith)
  rows_at w (x ∷ xs) e zero l = (and_parts _ _ e).0
  rows_at w (x ∷ xs) e (suc i) l = rows_at w xs (and_parts _ _ e).1 i (omega arith)

  pub rows_by_places : (w : ℕ) (rows : List (List E)) → ((i : ℕ) → i < length rows → is_row r w (row_at rows i) ≡ true) → are_rows r w rows ≡ true
  rows_by_places w [] h = refl
  rows_by_places w (x ∷ xs) h = and_from _ _ (h 0 (omega arith)) (rows_by_places w xs (λ i (l : i < length xs). h (suc i) (omega arith)))

  pub rows_push : (w : ℕ) (rows : List (List E)) (x : List E) → are_rows r w rows ≡ true → is_row r w x ≡ true → are_rows r w (rows ++ x ∷ []) ≡ true
  rows_push w [] x e h = and_from _ _ h refl
  rows_push w (y ∷ ys) x e h = and_from _ _ (and_parts _ _ e).0 (rows_push w ys x (and_parts _ _ e).1 h)

  pub rows_in : IsElem r r.zero → (w : ℕ) (rows : List (List E)) → are_rows r w rows ≡ true → AllIn r (entry r rows)
  rows_in z w [] e i k = z
  rows_in z w (x ∷ xs) e zero k = elem_read r x z (row_elems w x (and_parts _ _ e).0) k
  rows_in z w (x ∷ xs) e (suc i) k = rows_in z w xs (and_parts _ _ e).1 i k

  -- rows are told apart by their members
  pub same_row : (w : ℕ) (x y : List E) → is_row r w x ≡ true → is_row r w y ≡ true → ((k : ℕ) → coeff r x k ≡ coeff r y k) → x ≡ y
  same_row w x y p q e = ext_get_or r.zero x y (row_len w x p ∙ sym (row_len w y q)) (λ k _. e k)
