-- The products of the members of a full list with powers of tau^n that have degree at most `d` combine to all
-- homomorphisms up to that degree: no term of a homomorphism's combination has a higher lead than the homomorphism.
use Rattle.std.proofs.Common.{◌≡◌, ℕ, zero, suc, ◌+◌, ◌-◌, ◌*◌, ◌/◌, ◌%◌, ◌<◌, ◌≤◌, ◌↔◌, ◌++◌, inl, inr, true, cond, nat_lt, List, [], length, refl, sym, ◌∙◌, ap, subst, ⊎_elim, eq-eqb, le-ltb, ltb-true, ltb-false, arith}
use Rattle.std.proofs.Math.Nat.{mul-le-mul_right, le-div_iff_mul-le, lt_of_mul-lt-mul_right}
use Rattle.std.proofs.lemmas.List.{get_or_append_left, get_or-append-add, length-append}
use Rattle.std.proofs.lemmas.Bool.{and_parts, and_from, cases_lt, cond_both}
use Rattle.ring_core.specs.Ring.{RingOps, IsElem}
use Rattle.ring_core.specs.Field.{FrobOps}
use Rattle.ring_core.specs.Coeffs.{coeff, are_elems, trim, first_values}
use Rattle.ring_core.proofs.Carrier.{RingOn, Element, same_element, zero_mul, mul_zero}
use Rattle.ring_core.proofs.Coefficients.{elem_read, coeff_past, coeff-first_values, canonical-trim, coeff-trim, elems-first_values}
use Rattle.ring_core.proofs.FirstValues.{length-first_values, at-first_values}
use Rattle.linear_algebra.specs.Combines.{combined}
use Rattle.linear_algebra.specs.Linear.{row_at, entry, is_row, are_rows, IsCombination, IsEchelonBasis}
use Rattle.linear_algebra.proofs.Sums.{combine, by_bool, same_or_other}
use Rattle.linear_algebra.proofs.Spans.{Spans, span_zero, span_add, span_scale, span_row, span_as}
use Rattle.linear_algebra.proofs.Lift.{AllIn, AreIn, row_of, rows_of, from_spans}
use Rattle.linear_algebra.proofs.RowLists.{row_len, row_elems, rows_by_places, rows_in}
use Rattle.linear_algebra.proofs.Dependent.{field_domain}
use Rattle.flat_modules.specs.Flat.{shifted, lead_at, IsStandardBasis, IsOnlyCombination}
use Rattle.flat_modules.proofs.Shift.{powers}
use Rattle.flat_modules.proofs.Lists.{flat_in, listed, longest, combination_value, shift_value}
use Rattle.flat_modules.proofs.Tops.{HasTops, low_tops}
use Rattle.flat_modules.proofs.Places.{power_top, powers_tops}
use Rattle.flat_modules.proofs.Unique.{standard_places}
use Rattle.flat_modules.proofs.OneBasis.{to_standard}
use Rattle.central_coords.specs.Coordinates.{coordinate, coordinate_row}
use Rattle.central_coords.proofs.Places.{Extension, Polys, scalars, degree_positive, coordinate_in, coordinate_past}
use Rattle.hom_space.specs.Bounded.{IsBoundedList}
use Rattle.hom_space.specs.Full.{IsFullList}
use Rattle.hom_space.specs.steps.Reading.{AreReadRows}
use Rattle.hom_space.specs.steps.Shifts.{shifted_row, shift_count, AreShifts}
use Rattle.hom_space.proofs.HomRows.{IsRow, square, wide, short_past, hom_as, hom_combined, hom_shifted, echelon_as}
use Rattle.hom_space.proofs.BoundedList.{bounded_list}
use Rattle.hom_space.proofs.FullList.{rows_of_list, row_coords, reads_rows, standard_rows}
use Rattle.hom_space.proofs.SystemRows.{values_shifted}

-- how many products there are
product_fits : (n d len e : ℕ) → 0 < n → (e < shift_count n d len) ↔ (len + e * n ≤ d + 1)
product_fits n d len e pos = (
  λ low. let v : (e + 1) * n ≤ d + 1 + n - len = (le-div_iff_mul-le pos).0 (omega (arith, low)) in omega (arith, v, pos),
  λ fits. let v : e + 1 ≤ (d + 1 + n - len) / n = (le-div_iff_mul-le pos).1 (omega (arith, fits)) in omega (arith, v),
)

-- a product of degree at most `d`, by coordinates
low_product : (n d e len : ℕ) → len - 1 + e * (n * n) < (d + 1) * n → (b : ℕ) × (d ≡ b + e * n) × (len ≤ (b + 1) * n)
low_product n d e len low =
    let few : e * n < d + 1 = lt_of_mul-lt-mul_right n (omega (arith, low)) in
    let whole : d ≡ d - e * n + e * n = omega (arith, few) in
    let all : (d + 1) * n ≡ (d - e * n + e * n + 1) * n = ap (λ x. (x + 1) * n) whole in
    (d - e * n, whole, omega (arith, all, low))

-- a combination whose terms are combinations
span_terms : {M : Type 0} (R : RingOn M) (n m : ℕ) (a b : ℕ → ℕ → M) (c : ℕ → M) → ((i : ℕ) → i < n → Spans R m b (λ j. R.mul (c i) (a i j))) → Spans R m b (combine R n c a)
span_terms R zero m a b c h = span_zero R m b _ (λ j. refl)
span_terms R (suc n) m a b c h = span_add R m b _ _ (span_terms R n m a b c (λ i l. h i (omega arith))) (h n (omega arith))

module _ {E B : Type 0} (r : RingOps E) (base : RingOps B) (f : FrobOps E B) (d : ℕ) where
  -- zeros, and then coordinates
  pub shifted_parts : (e : ℕ) (u : List E) → e * f.degree ≤ d + 1
      → first_values (e * f.degree * f.degree) (λ i. base.zero) ++ coordinate_row r f ((d + 1 - e * f.degree) * f.degree) u ≡ shifted_row r base f d u e
  shifted_parts e u fits =
      let n = f.degree in
      let b = d + 1 - e * n in
      let whole : (d + 1) * n ≡ (b + e * n) * n = ap (λ m. m * n) (omega (arith, fits)) in
      let zeros : e * n * n ≡ e * (n * n) = omega arith in
      let size : e * (n * n) + b * n ≡ (d + 1) * n = omega (arith, whole) in
      ap (λ m. first_values m (λ i. base.zero) ++ first_values (b * n) (coordinate r f u)) zeros ∙ values_shifted base (e * (n * n)) (b * n) (coordinate r f u)
      ∙ ap (λ m. first_values m (shifted base (e * (n * n)) (coordinate r f u))) size

  -- the rows of one more member
  pub more_shifts : (i : ℕ) (list : List (List E)) (rows new : List (List B)) → AreShifts r base f d i list rows
      → new ≡ rows ++ first_values (shift_count f.degree d (length (row_at list i))) (shifted_row r base f d (row_at list i)) → AreShifts r base f d (i + 1) list new
  more_shifts i list rows new h e =
      let count = shift_count f.degree d (length (row_at list i)) in
      let made = shifted_row r base f d (row_at list i) in
      let more = first_values count made in
      let long : length new ≡ length rows + count = ap length e ∙ length-append rows more ∙ ap (λ m. length rows + m) (length-first_values count made) in
      let old : (m : ℕ) → m < length rows → row_at new m ≡ row_at rows m = λ m low. ap (λ v. row_at v m) e ∙ get_or_append_left rows more [] m low in
      let fresh : (j : ℕ) → j < count → row_at new (length rows + j) ≡ made j = λ j low.
      ap (λ v. row_at v (length rows + j)) e ∙ get_or-append-add rows more j [] ∙ at-first_values count made j [] low in
      record {
        each = λ m low.
            ⊎_elim
            (λ (before : m < length rows). let s = h.each m before in (s.0, s.1, omega (arith, s.2), s.3, old m before ∙ s.4))
            (λ (after : length rows ≤ m).
            let j = m - length rows in
            let place : length rows + j ≡ m = omega (arith, after) in
            let here : j < count = omega (arith, low, long, after) in
            (i, j, omega arith, here, ap (row_at new) (sym place) ∙ fresh j here))
            (cases_lt m (length rows));
        all = λ j t low fits.
            elim (same_or_other j i) [
              | inl q ↦
                  let here : t < count = subst (λ v. t < shift_count f.degree d (length (row_at list v))) q fits in
                  (length rows + t, omega (arith, long, here), fresh t here ∙ ap (λ v. shifted_row r base f d (row_at list v) t) (sym q))
              | inr ne ↦
                  let s = h.all j t (omega (arith, low, ne)) fits in
                  let inside = s.1 in
                  (s.0, omega (arith, long, inside), old s.0 inside ∙ s.2)
            ];
      }

module _ {E B : Type 0} {r : RingOps E} {base : RingOps B} {f : FrobOps E B} (o : Extension r base f) (phi psi : Polys o) (full : List (List E)) (p : IsFullList r base f phi.0 psi.0 full) (d : ℕ) where
  abbrev N : RingOn (Element base)
  N = scalars o

  abbrev w : ℕ
  w = (d + 1) * f.degree

  abbrev raised : ℕ → ℕ → ℕ → B
  raised i e = shifted base (e * square o) (coordinate r f (row_at full i))

  abbrev row : ℕ → ℕ → List B
  row i e = shifted_row r base f d (row_at full i) e

  elems : (i : ℕ) → i < length full → are_elems r (row_at full i) ≡ true
  elems i m = (and_parts (are_elems r (row_at full i)) _ (p.members i m).canonical).0

  row_value : (i e : ℕ) → length (row_at full i) + e * f.degree ≤ d + 1 → (j : ℕ) → coeff base (row i e) j ≡ raised i e j
  row_value i e fits j =
      let many : (length (row_at full i) + e * f.degree) * f.degree ≤ w = mul-le-mul_right f.degree fits in
      coeff-first_values base w (raised i e)
      (λ t far.
      ap (λ b. cond b base.zero (coordinate r f (row_at full i) (t - e * square o))) (le-ltb t (e * square o) (omega (arith, many, far)))
      ∙ coordinate_past o (row_at full i) (t - e * square o) (omega (arith, many, far)))
      j

  row_shape : (i e : ℕ) → i < length full → is_row base w (row i e) ≡ true
  row_shape i e m =
      and_from _ _ (eq-eqb _ _ (length-first_values w (raised i e)))
      (elems-first_values base w (raised i e)
      (λ j l.
      cond_both (nat_lt j (e * square o)) base.zero (coordinate r f (row_at full i) (j - e * square o)) (IsElem base) (λ b. o.base_field.ring.closed.zero_in)
      (λ b. coordinate_in o (row_at full i) (elems i m) (j - e * square o))))

  module _ (sums : List (List B)) (h : AreShifts r base f d (length full) full sums) where
    pub shape : are_rows base w sums ≡ true
    shape = rows_by_places base w sums (λ m low. let s = h.each m low in ap (is_row base w) s.4 ∙ row_shape s.0 s.1 s.2)

    si : AllIn base (entry base sums)
    si = rows_in base o.base_field.ring.closed.zero_in w sums shape

    abbrev made : ℕ → ℕ → Element base
    made = rows_of base (entry base sums) si

    each_hom : (m : ℕ) → m < length sums → IsRow o phi psi (entry base sums m)
    each_hom m low =
        let s = h.each m low in
        let i = s.0 in
        let e = s.1 in
        let fits = (product_fits f.degree d (length (row_at full i)) e (degree_positive o)).0 s.3 in
        hom_as r f phi.0 psi.0 (raised i e) (entry base sums m) (λ j. sym (ap (λ x. coeff base x j) s.4 ∙ row_value i e fits j))
        (hom_shifted o phi psi e (coordinate r f (row_at full i)) (record { u = row_at full i; hom = p.members i s.2; coords = λ t. refl }))

    -- the flat rows of the members
    abbrev flat : List (List B)
    flat = rows_of_list o phi psi full p

    basis : IsStandardBasis base (square o) (λ x. IsRow o phi psi (coeff base x)) flat
    basis = standard_rows o phi psi full p

    abbrev count : ℕ
    count = length flat

    abbrev V : ℕ → ℕ → Element base
    V = rows_of base (entry base flat) (flat_in base o.base_field.ring flat basis.basis.shape)

    abbrev all_powers : ℕ → ℕ → Element base
    all_powers = powers N count (square o) V

    abbrev top : ℕ → ℕ
    top = power_top count (square o) (lead_at flat)

    tops : (m : ℕ) → HasTops N m (λ i. nat_lt (i % count) count) top all_powers
    tops m =
        powers_tops N count (square o) (λ i. nat_lt i count) (lead_at flat) V (wide o)
        (standard_places N (field_domain base o.base_inv o.base_field) (square o) (wide o) count (lead_at flat) V
        (to_standard base o.base_inv o.base_field (square o) flat basis.basis.shape basis.standard)) m

    -- a power of tau^n whose top is low is one of those that were taken
    top_fits : (i e : ℕ) → i < length full → lead_at flat i + e * square o < w → length (row_at full i) + e * f.degree ≤ d + 1
    top_fits i e m low =
        let s = low_product f.degree d e (length (row_at flat i)) low in
        let room = s.2 in
        let few : length (row_at full i) ≤ s.0 + 1 =
        short_past o (row_at full i, (p.members i m).canonical) s.0 (λ j far. row_coords o phi psi full p i m j ∙ coeff_past base (row_at flat i) j (omega (arith, room, far))) in
        omega (arith, few, s.1)

    low_power : (q : ℕ) → q % count < count → top q < w → Spans N (length sums) made (all_powers q)
    low_power q inside low =
        let i = q % count in
        let e = q / count in
        let m : i < length full = omega (arith, inside, (reads_rows o phi psi full p).count) in
        let fits = top_fits i e m (omega (arith, low)) in
        let s = h.all i e m ((product_fits f.degree d (length (row_at full i)) e (degree_positive o)).1 fits) in
        span_as N (length sums) made (made s.0) (all_powers q)
        (λ t.
        same_element base _ _
        (shift_value base o.base_field.ring (e * square o) (V i) t ∙ ap (cond (nat_lt t (e * square o)) base.zero) (sym (row_coords o phi psi full p i m (t - e * square o)))
        ∙ sym (ap (λ x. coeff base x t) s.2 ∙ row_value i e fits t)))
        (span_row N (length sums) made s.0 s.1)

    -- the row of a homomorphism is a combination of the rows
    module _ (x : List B) (xs : is_row base w x ≡ true) (hom : IsRow o phi psi (coeff base x)) where
      ex : are_elems base x ≡ true
      ex = row_elems base w x xs

      abbrev y : List B
      y = trim base x

      same_y : (j : ℕ) → coeff base y j ≡ coeff base x j
      same_y j = coeff-trim base o.base_field.ring.closed.zero_in o.base_field.ring.equal x ex j

      only : IsOnlyCombination base (square o) flat y
      only = basis.basis.spans y (canonical-trim base x ex) (hom_as r f phi.0 psi.0 (coeff base x) (coeff base y) (λ t. sym (same_y t)) hom)

      abbrev c : ℕ → Element base
      c = listed base o.base_field.ring (square o) flat only.by basis.basis.shape only.polys

      abbrev bound : ℕ
      bound = (longest base only.by).0 * count

      sum_value : (t : ℕ) → (combine N bound c all_powers t).0 ≡ coeff base x t
      sum_value t = combination_value base o.base_field.ring (square o) flat only.by basis.basis.shape only.polys t ∙ sym (only.is t) ∙ same_y t

      -- no term has a higher lead
      high_gone : (q : ℕ) → q < bound → nat_lt (q % count) count ≡ true → w ≤ top q → c q ≡ N.zero
      high_gone =
          low_tops N (field_domain base o.base_inv o.base_field) bound _ top all_powers (tops bound) c w
          (λ t far. same_element base _ _ (sum_value t ∙ coeff_past base x t (omega (arith, row_len base w x xs, far))))

      term : (q : ℕ) → q < bound → Spans N (length sums) made (λ t. N.mul (c q) (all_powers q t))
      term q m =
          by_bool (nat_lt (q % count) count)
          (λ v. by_bool (nat_lt (top q) w)
          (λ low. span_scale N (length sums) made (c q) (all_powers q) (low_power q (ltb-true (q % count) count v) (ltb-true (top q) w low)))
          (λ far. span_zero N (length sums) made _ (λ t. ap (λ a. N.mul a (all_powers q t)) (high_gone q m v (ltb-false (top q) w far)) ∙ zero_mul N _)))
          (λ v. span_zero N (length sums) made _ (λ t. ap (N.mul (c q)) ((tops bound).absent q t m v) ∙ mul_zero N (c q)))

      combined_hom : IsCombination base sums x
      combined_hom =
          let xi : AreIn base (coeff base x) = elem_read base x o.base_field.ring.closed.zero_in ex in
          from_spans base o.base_field.ring (length sums) (entry base sums) si (coeff base x) xi
          (span_as N (length sums) made (combine N bound c all_powers) (row_of base (coeff base x) xi) (λ t. same_element base _ _ (sym (sum_value t)))
          (span_terms N bound (length sums) all_powers made c term))

    -- The echelon basis of the rows, read as twisted polynomials, is the bounded list.
    pub bounded_of_shifts : (width : ℕ) (echelon : List (List B)) (list : List (List E)) → width ≡ w → IsEchelonBasis base width (IsCombination base sums) echelon → AreReadRows r base f echelon list
        → IsBoundedList r base f phi.0 psi.0 d list
    bounded_of_shifts width echelon list is found reads =
        bounded_list o phi psi d echelon list
        (echelon_as o w (λ x. IsRow o phi psi (coeff base x)) (IsCombination base sums) echelon
        (λ x xs. (
          combined_hom x xs,
          λ s.
              hom_as r f phi.0 psi.0 (combined base (length sums) s.by (entry base sums)) (coeff base x) (λ j. sym (s.is j))
              (hom_combined o phi psi (length sums) s.by (entry base sums) s.elems each_hom),
        ))
        (subst (λ n. IsEchelonBasis base n (IsCombination base sums) echelon) is found))
        reads
