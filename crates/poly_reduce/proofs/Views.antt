-- Rows of polynomials and the flat rows that they stand for: products are the same in both views.
use Rattle.std.proofs.Common.{◌≡◌, ℕ, zero, suc, ◌+◌, ◌-◌, ◌*◌, ◌/◌, ◌%◌, ◌<◌, ◌≤◌, true, List, [], ◌∷◌, length, nat_lt, refl, sym, ◌∙◌, ap, ap₂, arith, ext_get_or, ltb-true, ltb-false}
use Rattle.std.proofs.Math.Nat.{mod-lt, mul-le-mul_right, div-mul-le_self, add-mul}
use Rattle.std.proofs.lemmas.Bool.{and_parts, and_from}
use Rattle.std.proofs.lemmas.Nat.{div-add-mod', div-mul-add, mod-mul-add, le-div}
use Rattle.ring_core.specs.Ring.{RingOps, IsElem, IsRing}
use Rattle.ring_core.specs.Coeffs.{coeff, sum_below, are_elems, is_canonical, is_trimmed, list_of}
use Rattle.ring_core.proofs.Carrier.{RingOn, Element, elements, same_element}
use Rattle.ring_core.proofs.Coefficients.{coeff_past, elem_read, same_coeffs, coeff-list_of, canonical-list_of}
use Rattle.ring_core.proofs.FirstValues.{length-first_values, at-first_values}
use Rattle.linear_algebra.specs.Combines.{combined}
use Rattle.linear_algebra.specs.Linear.{row_at, entry, is_row, are_rows}
use Rattle.linear_algebra.proofs.RowLists.{row_len, row_elems}
use Rattle.linear_algebra.proofs.Sums.{combine_same, by_bool}
use Rattle.linear_algebra.proofs.Lift.{rows_of, row_of}
use Rattle.fq_poly.specs.Poly.{poly_ops}
use Rattle.flat_modules.specs.Flat.{are_flat, times, combination, times_rows}
use Rattle.flat_modules.proofs.Lists.{flat_at, flat_in, row_past, longest, listed, listed_past, bound, combination_value}
use Rattle.flat_modules.proofs.Shift.{powers}
use Rattle.flat_modules.proofs.Entries.{combined_entry, combined_canonical}
use Rattle.flat_reduce.proofs.KernelRows.{times_bound}
use Rattle.poly_reduce.specs.Matrices.{row_times, member, StandFor}

module _ {E : Type 0} (r : RingOps E) where
  abbrev pub p : RingOps (List E)
  p = poly_ops r

  -- the coefficient of x^e in entry `j`
  pub member_at : (w j e : ℕ) (row : List (List E)) → j < w → member r w row (e * w + j) ≡ coeff r (row_at row j) e
  member_at w j e row l = ap₂ (λ a b. coeff r (row_at row a) b) (mod-mul-add e w j l) (div-mul-add e w j l)

  -- the index of the coefficient in its entry
  pub index_is : (w t : ℕ) → t / w * w + t % w ≡ t
  index_is w t = div-add-mod' t w

  -- a list of polynomials as a list of flat rows
  pub polys_flat : (by : List (List E)) → are_elems p by ≡ true → are_flat r by ≡ true
  polys_flat [] e = refl
  polys_flat (x ∷ xs) e = and_from _ _ (and_parts _ _ e).0 (polys_flat xs (and_parts _ _ e).1)

  pub flat_polys : (by : List (List E)) → are_flat r by ≡ true → are_elems p by ≡ true
  flat_polys [] e = refl
  flat_polys (x ∷ xs) e = and_from _ _ (and_parts _ _ e).0 (flat_polys xs (and_parts _ _ e).1)

  pub row_canonical : (row : List (List E)) → are_elems p row ≡ true → (j : ℕ) → is_canonical r (row_at row j) ≡ true
  row_canonical row e j = flat_at r row (polys_flat row e) j

  pub rows_canonical : (w : ℕ) (rows : List (List (List E))) → are_rows p w rows ≡ true → (i j : ℕ) → is_canonical r (entry p rows i j) ≡ true
  rows_canonical w [] e i j = refl
  rows_canonical w (x ∷ xs) e zero j = row_canonical x (and_parts _ _ (and_parts _ _ e).0).1 j
  rows_canonical w (x ∷ xs) e (suc i) j = rows_canonical w xs (and_parts _ _ e).1 i j

  -- rows past the end stand for rows past the end
  pub stand_at : (w : ℕ) (rows : List (List (List E))) (flats : List (List E)) → StandFor r w rows flats → (i t : ℕ) → coeff r (row_at flats i) t ≡ member r w (row_at rows i) t
  stand_at w rows flats s i t = by_bool (nat_lt i (length rows))
      (λ b. s.is i t (ltb-true i (length rows) b))
      (λ b.
      let l : length rows ≤ i = ltb-false i (length rows) b in
      let count = s.count in
      ap (λ u. coeff r u t) (row_past r flats i (omega (arith, l, count))) ∙ sym (ap (λ u. coeff r (row_at u (t % w)) (t / w)) (row_past p rows i l)))

module _ {E : Type 0} (r : RingOps E) (h : IsRing r) where
  abbrev S : RingOn (Element r)
  S = elements h

  module _ (w : ℕ) (posw : 0 < w) (rows : List (List (List E))) (flats : List (List E)) (s : StandFor r w rows flats) where
    -- entry `j` of a row times the matrix, coefficient by coefficient
    pub entry_sum : (by : List (List E)) → are_elems (p r) by ≡ true → (j e : ℕ) → j < w → coeff r (combined (p r) (length rows) (coeff (p r) by) (entry (p r) rows) j) e ≡ combination r w flats by (e * w + j)
    entry_sum by bi j e l =
        combined_entry r h (length rows) w j e l (coeff (p r) by) (entry (p r) rows) (λ i. coeff r (row_at flats i)) (λ i. row_canonical r by bi i) (rows_canonical r w rows s.shape)
        (flat_in r h flats s.flat) (λ i k. stand_at r w rows flats s i (k * w + j) ∙ member_at r w j k (row_at rows i) l)
        ∙ ap (λ n. sum_below r n (λ i. times r w (row_at by i) (coeff r (row_at flats i)) (e * w + j))) (sym s.count)

    pub entry_canonical : (by : List (List E)) → are_elems (p r) by ≡ true → (j : ℕ) → is_canonical r (combined (p r) (length rows) (coeff (p r) by) (entry (p r) rows) j) ≡ true
    entry_canonical by bi j = combined_canonical r h (length rows) (coeff (p r) by) (entry (p r) rows) j (λ i. row_canonical r by bi i) (rows_canonical r w rows s.shape)

    module _ (x : List (List E)) (by : List (List E)) (bi : are_elems (p r) by ≡ true) where
      -- a row of polynomials is a product where its coefficients are those of the combination
      pub to_combination : x ≡ row_times (p r) w by rows → (t : ℕ) → member r w x t ≡ combination r w flats by t
      to_combination e t =
          let low = mod-lt t {m = w} posw in
          ap (λ v. coeff r v (t / w)) (ap (λ v. row_at v (t % w)) e ∙ at-first_values w _ (t % w) [] low)
          ∙ entry_sum by bi (t % w) (t / w) low ∙ ap (combination r w flats by) (index_is r w t)

      pub from_combination : is_row (p r) w x ≡ true → ((t : ℕ) → member r w x t ≡ combination r w flats by t) → x ≡ row_times (p r) w by rows
      from_combination xr e =
          let values = combined (p r) (length rows) (coeff (p r) by) (entry (p r) rows) in
          let len = row_len (p r) w x xr in
          ext_get_or [] x (row_times (p r) w by rows) (len ∙ sym (length-first_values w values)) (λ j l.
          let low : j < w = omega (arith, l, len) in
          same_coeffs r h.closed.zero_in h.equal (row_at x j) (values j)
          (and_parts (are_elems r (row_at x j)) (is_trimmed r (row_at x j)) (row_canonical r x (row_elems (p r) w x xr) j)).1
          (and_parts (are_elems r (values j)) (is_trimmed r (values j)) (entry_canonical by bi j)).1
          (λ k. sym (member_at r w j k x low) ∙ e (k * w + j) ∙ sym (entry_sum by bi j k low))
          ∙ sym (at-first_values w values j [] low))

    -- the flat row of coefficients times the rows is their combination
    pub times_combination : (c : List E) (by : List (List E)) → is_canonical r c ≡ true → are_elems (p r) by ≡ true → 0 < length flats → ((t : ℕ) → coeff r c t ≡ member r (length flats) by t)
        → (t : ℕ) → times_rows r (length flats) w c (entry r flats) t ≡ combination r w flats by t
    times_combination c by ce bi pos is t =
        let n = length flats in
        let bf = polys_flat r by bi in
        let ci = elem_read r c h.closed.zero_in (and_parts (are_elems r c) (is_trimmed r c) ce).0 in
        let row = row_of r (coeff r c) ci in
        let fi = flat_in r h flats s.flat in
        let family = powers S n w (rows_of r (entry r flats) fi) in
        let few = bound r h w flats by s.flat bf * n in
        let same : (k : ℕ) → listed r h w flats by s.flat bf k ≡ row k = λ k. same_element r _ _ (sym (is k)) in
        times_bound r h n w few c ci (λ k far. sym (same k) ∙ listed_past r h w flats by s.flat bf pos k far) (entry r flats) fi t
        ∙ ap (λ a. a.0) (sym (combine_same S few _ row family t (λ k _. same k))) ∙ combination_value r h w flats by s.flat bf t

  -- each row of polynomials stands for a flat row
  pub flat_exists : (w : ℕ) → 0 < w → (x : List (List E)) → are_elems (p r) x ≡ true → (u : List E) × (is_canonical r u ≡ true) × ((t : ℕ) → coeff r u t ≡ member r w x t)
  flat_exists w pos x xi =
      let top = longest r x in
      let inside : (t : ℕ) → IsElem r (member r w x t) = λ t. elem_read r (row_at x (t % w)) h.closed.zero_in (and_parts (are_elems r (row_at x (t % w))) (is_trimmed r (row_at x (t % w))) (row_canonical r x xi (t % w))).0 (t / w) in (
        list_of r (top.0 * w) (member r w x),
        canonical-list_of r (top.0 * w) (member r w x) (λ j _. inside j),
        coeff-list_of r h.closed.zero_in h.equal (top.0 * w) (member r w x) inside (λ t far.
            let short = top.1 (t % w) in
            let d = le-div top.0 t w pos far in
            coeff_past r (row_at x (t % w)) (t / w) (omega (arith, short, d))),
      )

-- the indices `e w + j` below `len`
pub places_inside : (len w j e : ℕ) → j < len → e < (len - j - 1) / w + 1 → e * w + j < len
places_inside len w j e low l =
    let m = mul-le-mul_right {m = e} {n = (len - j - 1) / w} w (omega (arith, l)) in
    let v = div-mul-le_self (len - j - 1) w in
    omega (arith, m, v, low)

pub places_past : (len w j e : ℕ) → 0 < w → j < len → (len - j - 1) / w + 1 ≤ e → len ≤ e * w + j
places_past len w j e pos low l =
    let m = mul-le-mul_right {m = (len - j - 1) / w + 1} {n = e} w l in
    let parts = add-mul ((len - j - 1) / w) 1 w in
    let whole = div-add-mod' (len - j - 1) w in
    let rest = mod-lt (len - j - 1) {m = w} pos in
    omega (arith, m, parts, whole, rest, low)
