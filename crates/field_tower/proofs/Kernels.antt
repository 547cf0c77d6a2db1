-- The kernel of a linear map of an algebra, from the relations of the rows of its coordinates.
use Rattle.std.proofs.Common.{◌≡◌, ℕ, ◌<◌, ◌≤◌, inl, inr, true, List, length, sym, ap, ap₂, subst, ◌∙◌, eq-eqb, [], Option, Some, None, MatchOption, Result, Ok, Err, IfOk}
use Rattle.std.proofs.lemmas.Bool.{and_from, cases_lt}
use Rattle.ring_core.specs.Ring.{RingOps, IsElem}
use Rattle.ring_core.specs.Coeffs.{coeff, sum_below, first_values}
use Rattle.ring_core.proofs.Carrier.{elements, mul_zero}
use Rattle.ring_core.proofs.Coefficients.{coeff_past, elem_read, elems-first_values}
use Rattle.ring_core.proofs.Twist.{sum_of_zeros, sum_same}
use Rattle.ring_core.proofs.FirstValues.{length-first_values, at-first_values}
use Rattle.ring_core.proofs.PowerLaws.{power_in}
use Rattle.linear_algebra.specs.Combines.{combined}
use Rattle.linear_algebra.specs.Linear.{row_at, entry, is_row, are_rows, IsCombination, IsRelation, IsEchelonBasis}
use Rattle.linear_algebra.proofs.RowLists.{rows_at, row_len, rows_by_places, rows_in}
use Rattle.linear_algebra.proofs.Lift.{combines_row}
use Rattle.residue_field.specs.Algebra.{Coordinates, IsAlgebra, unit_of}
use Rattle.residue_field.proofs.AlgebraLaws.{unit_in, power_coords, moved_coords}
use Rattle.field_tower.specs.Constants.{IsFieldOfCodes}
use Rattle.field_tower.specs.declared.accept.LinearMap.{LinearMap}
use Rattle.field_tower.specs.declared.accept.LinearMap.TheVariants.{Power, Difference}
use Rattle.field_tower.specs.steps.Kernel.{image_of, image_row, AreLow, IsAbove, low_count, HasLowKernel, IsInKernel}

-- a row past its width
pub entry_past : {E : Type 0} (r : RingOps E) (w : ℕ) (rows : List (List E)) → are_rows r w rows ≡ true → (i j : ℕ) → i < length rows → w ≤ j
    → entry r rows i j ≡ r.zero
entry_past r w rows shaped i j l past =
    coeff_past r (row_at rows i) j (subst (λ n. n ≤ j) (sym (row_len r w (row_at rows i) (rows_at r w rows shaped i l))) past)

module _ {T : Type 0} (r : RingOps ℕ) (q : ℕ) (codes : IsFieldOfCodes r q) (t : RingOps T) (c : Coordinates ℕ T) (a : IsAlgebra r t c) (map : LinearMap) where
  image_in_of : (b : LinearMap) (x : T) → IsElem t x → IsElem t (image_of t q b x)
  image_in_of Power x e = power_in t a.ring x q e
  image_in_of Difference x e = a.ring.closed.add_in _ _ (power_in t a.ring x q e) (a.ring.closed.neg_in x e)

  image_in : (x : T) → IsElem t x → IsElem t (image_of t q map x)
  image_in = image_in_of map

  image_sum : (b : LinearMap) (x : T) (i : ℕ) → IsElem t x → i < c.dimension
      → c.coord (image_of t q b x) i ≡ sum_below r c.dimension (λ j. r.mul (c.coord x j) (c.coord (image_of t q b (unit_of r c j)) i))
  image_sum Power = power_coords r codes.ring t c a q codes.finite
  image_sum Difference = moved_coords r codes.ring t c a q codes.finite

  -- the coordinates of an image
  image_coords : (x : T) (i : ℕ) → IsElem t x → i < c.dimension
      → c.coord (image_of t q map x) i ≡ sum_below r c.dimension (λ j. r.mul (c.coord x j) (c.coord (image_of t q map (unit_of r c j)) i))
  image_coords = image_sum map

  row : ℕ → List ℕ
  row = image_row r t c q map

  row_place : (j i : ℕ) → i < c.dimension → coeff r (row j) i ≡ c.coord (image_of t q map (unit_of r c j)) i
  unfolding row
  row_place j i l = at-first_values c.dimension (c.coord (image_of t q map (unit_of r c j))) i r.zero l

  row_shape : (j : ℕ) → is_row r c.dimension (row j) ≡ true
  unfolding row
  row_shape j =
      and_from _ _ (eq-eqb _ c.dimension (length-first_values c.dimension _))
      (elems-first_values r c.dimension (c.coord (image_of t q map (unit_of r c j)))
      (λ i l. a.coordinates.coord_in _ i (image_in _ (unit_in r codes.ring t c a j))))

  module _ (rows : List (List ℕ)) (are : rows ≡ first_values c.dimension (image_row r t c q map)) where
    pub rows_count : length rows ≡ c.dimension
    rows_count = ap length are ∙ length-first_values c.dimension (image_row r t c q map)

    rows_is : (j : ℕ) → j < c.dimension → row_at rows j ≡ row j
    unfolding row
    rows_is j l = ap (λ u. row_at u j) are ∙ at-first_values c.dimension (image_row r t c q map) j [] l

    pub rows_shaped : are_rows r c.dimension rows ≡ true
    rows_shaped =
        rows_by_places r c.dimension rows (λ j (l : j < length rows).
        ap (is_row r c.dimension) (rows_is j (subst (λ k. j < k) rows_count l)) ∙ row_shape j)

    rows_entry : (j i : ℕ) → j < c.dimension → i < c.dimension → entry r rows j i ≡ c.coord (image_of t q map (unit_of r c j)) i
    rows_entry j i l m = ap (λ u. coeff r u i) (rows_is j l) ∙ row_place j i m

    -- the coordinates of the image, by the rows
    combined_image : (x : T) (g : ℕ → ℕ) → IsElem t x → ((j : ℕ) → j < c.dimension → g j ≡ c.coord x j)
        → (i : ℕ) → i < c.dimension → combined r (length rows) g (entry r rows) i ≡ c.coord (image_of t q map x) i
    combined_image x g e same i l =
        ap (λ k. combined r k g (entry r rows) i) rows_count
        ∙ sum_same r codes.ring c.dimension _ _ (λ j m. ap₂ r.mul (same j m) (rows_entry j i m l))
        ∙ sym (image_coords x i e l)

    combined_past : (g : ℕ → ℕ) → ((j : ℕ) → IsElem r (g j)) → (i : ℕ) → c.dimension ≤ i → combined r (length rows) g (entry r rows) i ≡ r.zero
    combined_past g inside i l =
        sum_of_zeros r codes.ring (length rows) _ (λ j m.
        ap (r.mul (g j)) (entry_past r c.dimension rows rows_shaped j i m l)
        ∙ ap (λ z. z.0) (mul_zero (elements codes.ring) (g j, inside j)))

    module _ (basis : List (List ℕ)) (is : IsEchelonBasis r (length rows) (IsRelation r rows) basis) where
      pub basis_shaped : are_rows r c.dimension basis ≡ true
      basis_shaped = subst (λ k. are_rows r k basis ≡ true) rows_count is.shape

      entry_in : (k j : ℕ) → IsElem r (entry r basis k j)
      entry_in = rows_in r codes.ring.closed.zero_in c.dimension basis basis_shaped

      -- the element with the coordinates of a row
      abbrev row_elem : ℕ → T
      row_elem k = c.of_coords (entry r basis k)

      row_elem_in : (k : ℕ) → IsElem t (row_elem k)
      row_elem_in k = a.coordinates.of_coords_in _ (entry_in k)

      row_elem_coord : (k j : ℕ) → j < c.dimension → c.coord (row_elem k) j ≡ entry r basis k j
      row_elem_coord k j l = a.coordinates.coord_of_coords _ j (entry_in k) l

      -- a row of the kernel has the image zero
      row_image : (k : ℕ) → k < length basis → image_of t q map (row_elem k) ≡ t.zero
      row_image k l =
          let relation : IsRelation r rows (row_at basis k) =
          (is.spans (row_at basis k) (rows_at r (length rows) basis is.shape k l)).1
          (combines_row r codes.ring (length basis) (entry r basis) entry_in k l) in
          a.coordinates.coord_inj _ _ (image_in (row_elem k) (row_elem_in k)) a.ring.closed.zero_in (λ i m.
          sym (combined_image (row_elem k) (entry r basis k) (row_elem_in k) (λ j b. sym (row_elem_coord k j b)) i m)
          ∙ relation i ∙ sym (a.coordinates.coord_zero i m))

      kernel_above : (x : T) → IsAbove r c (low_count map) basis x → IsInKernel r t c q map x
      kernel_above x b = record {
        elem = subst (IsElem t) (sym b.is) (row_elem_in b.row);
        image = ap (image_of t q map) b.is ∙ row_image b.row b.within;
        above = λ low. b.above (λ k l. elim (cases_lt k c.dimension) [
          | inl m ↦ sym (row_elem_coord b.row k m) ∙ ap (λ y. c.coord y k) (sym b.is) ∙ low k l m
          | inr m ↦ entry_past r c.dimension basis basis_shaped b.row k b.within m
        ]);
      }

      kernel_low : AreLow r (low_count map) basis → HasLowKernel r t c q map
      kernel_low all x e none i l low =
          let g = first_values c.dimension (c.coord x) in
          let place = λ (j : ℕ) (m : j < c.dimension). at-first_values c.dimension (c.coord x) j r.zero m in
          let g_elems = elems-first_values r c.dimension (c.coord x) (λ j m. a.coordinates.coord_in x j e) in
          let shaped : is_row r (length rows) g ≡ true =
          and_from _ _ (eq-eqb _ _ (length-first_values c.dimension (c.coord x) ∙ sym rows_count)) g_elems in
          let relation : IsRelation r rows g = λ j. elim (cases_lt j c.dimension) [
            | inl m ↦ combined_image x (coeff r g) e place j m ∙ ap (λ y. c.coord y j) none ∙ a.coordinates.coord_zero j m
            | inr m ↦ combined_past (coeff r g) (elem_read r g codes.ring.closed.zero_in g_elems) j m
          ] in
          let combination : IsCombination r basis g = (is.spans g shaped).0 relation in
          sym (place i low) ∙ combination.is i
          ∙ sum_of_zeros r codes.ring (length basis) _ (λ k m.
          ap (r.mul (combination.by k)) (all k m i l)
          ∙ ap (λ z. z.0) (mul_zero (elements codes.ring) (combination.by k, combination.elems k)))

      kernel_found : (o : Option T) → MatchOption o (AreLow r (low_count map) basis) (IsAbove r c (low_count map) basis)
          → MatchOption o (HasLowKernel r t c q map) (IsInKernel r t c q map)
      kernel_found None all = kernel_low all
      kernel_found (Some x) b = kernel_above x b

      pub kernel_answer : {F : Type 0} (v : Result (Option T) F) → IfOk v (λ o. MatchOption o (AreLow r (low_count map) basis) (IsAbove r c (low_count map) basis))
          → IfOk v (λ o. MatchOption o (HasLowKernel r t c q map) (IsInKernel r t c q map))
      kernel_answer (Ok o) is = kernel_found o is
      kernel_answer (Err x) is = tt
