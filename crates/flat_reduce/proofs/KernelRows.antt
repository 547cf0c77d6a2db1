-- The rows of the transform at zero rows of the image are a basis of the relations.
use Rattle.std.proofs.Common.{◌≡◌, ℕ, suc, ◌+◌, ◌*◌, ◌/◌, ◌%◌, ◌<◌, ◌≤◌, inl, inr, true, Bool, not, Option, List, [], length, nat_lt, sym, ◌∙◌, ap, ap₂, arith, ext_get_or, ltb-true, ltb-false}
use Rattle.std.proofs.Math.Nat.{mod-lt, mul-le-mul_right, div-mul-le_self, le-mul_of_pos_right}
use Rattle.std.proofs.lemmas.Bool.{and_parts, not-false}
use Rattle.std.proofs.lemmas.Nat.{div-add-mod', div-mul-add, mod-mul-add}
use Rattle.ring_core.specs.Ring.{RingOps, IsElem, IsRing}
use Rattle.ring_core.specs.Field.{IsField}
use Rattle.ring_core.specs.Coeffs.{coeff, is_canonical, are_elems, is_trimmed, first_values, list_of}
use Rattle.ring_core.proofs.Carrier.{RingOn, Element, elements, same_element, zero_mul, mul_zero}
use Rattle.ring_core.proofs.Coefficients.{elem_read, coeff_past, coeff-list_of, canonical-list_of, same_coeffs, length-trim}
use Rattle.ring_core.proofs.FirstValues.{length-first_values, at-first_values}
use Rattle.ring_core.proofs.Series.{total}
use Rattle.ring_core.proofs.Twist.{total_is, sum_same}
use Rattle.linear_algebra.specs.Linear.{row_at, entry}
use Rattle.linear_algebra.proofs.Sums.{combine, unit, unit_same, unit_other, combine_same, total_zero, total_single, by_bool, same_or_other}
use Rattle.linear_algebra.proofs.Lift.{AllIn, rows_of, row_of, combine_value, combined_rows}
use Rattle.linear_algebra.proofs.Gather.{leads, lead_number, total_leads, are_leads}
use Rattle.linear_algebra.proofs.Dependent.{field_domain}
use Rattle.flat_modules.specs.Flat.{are_flat, lead_at, shifted, times, combination, multiples, times_rows, IsOnlyCombination}
use Rattle.flat_modules.proofs.Lists.{flat_at, flat_in, flat_first, shift_value, longest, listed, combination_room}
use Rattle.flat_modules.proofs.Shift.{shift, powers, shift_end, shift_unit}
use Rattle.flat_modules.proofs.Product.{combine_more, flat_assoc}
use Rattle.flat_modules.proofs.Blocks.{flat_sum}
use Rattle.flat_modules.proofs.Places.{HasPlaces}
use Rattle.flat_modules.proofs.Matrix.{times_same, times_left, is_times_left, zero_at_live}
use Rattle.flat_reduce.proofs.Reduced.{HasTransform}

module _ {E : Type 0} (r : RingOps E) (h : IsRing r) where
  abbrev R : RingOn (Element r)
  R = elements h

  -- a row of coefficients times rows
  pub times_value : (n w : ℕ) (c : List E) (ci : (k : ℕ) → IsElem r (coeff r c k)) (rows : ℕ → ℕ → E) (ri : AllIn r rows) (t : ℕ)
      → (combine R (length c) (row_of r (coeff r c) ci) (powers R n w (rows_of r rows ri)) t).0 ≡ times_rows r n w c rows t
  times_value n w c ci rows ri t =
      combine_value r h (length c) (row_of r (coeff r c) ci) (powers R n w (rows_of r rows ri)) t
      ∙ combined_rows r h (length c) (coeff r c) (λ k j. (powers R n w (rows_of r rows ri) k j).0) (multiples r n w rows) t (λ k _. shift_value r h (k / n * w) (rows_of r rows ri (k % n)) t)

  -- the same over any bound on its length
  pub times_bound : (n w len : ℕ) (c : List E) (ci : (k : ℕ) → IsElem r (coeff r c k)) → ((k : ℕ) → len ≤ k → row_of r (coeff r c) ci k ≡ R.zero) → (rows : ℕ → ℕ → E) (ri : AllIn r rows) (t : ℕ)
      → times_rows r n w c rows t ≡ (combine R len (row_of r (coeff r c) ci) (powers R n w (rows_of r rows ri)) t).0
  times_bound n w len c ci short rows ri t =
      let room = len + length c in
      let family = powers R n w (rows_of r rows ri) in
      sym (times_value n w c ci rows ri t)
      ∙ ap (λ a. a.0) (sym (combine_more R (length c) room (row_of r (coeff r c) ci) family t (omega arith) (λ k far. same_element r _ _ (coeff_past r c k far)))
      ∙ combine_more R len room (row_of r (coeff r c) ci) family t (omega arith) short)

  -- a polynomial times a row
  pub poly_value : (n b : ℕ) (p : List E) (pi : (k : ℕ) → IsElem r (coeff r p k)) (u : ℕ → Element r) (t : ℕ) → length p ≤ b
      → (combine R b (row_of r (coeff r p) pi) (λ s. shift R (s * n) u) t).0 ≡ times r n p (λ k. (u k).0) t
  poly_value n b p pi u t l =
      ap (λ x. x.0) (combine_more R (length p) b (row_of r (coeff r p) pi) (λ s. shift R (s * n) u) t l (λ k far. same_element r _ _ (coeff_past r p k far)))
      ∙ combine_value r h (length p) (row_of r (coeff r p) pi) (λ s. shift R (s * n) u) t
      ∙ combined_rows r h (length p) (coeff r p) (λ s k. (shift R (s * n) u k).0) (λ s. shifted r (s * n) (λ k. (u k).0)) t (λ s _. shift_value r h (s * n) u t)

module _ {E : Type 0} (r : RingOps E) (inv : E → Option E) (field : IsField r inv) (w : ℕ) (m image left : List (List E)) (mi : AllIn r (entry r m)) (posn : 0 < length m) (posw : 0 < w)
    (s : HasTransform r field.ring w m image left mi) (live : ℕ → Bool) (low : (k : ℕ) → live k ≡ true → k < length m) (places : HasPlaces (elements field.ring) w live (lead_at image) (rows_of r (entry r image) s.image_in))
    (rows : List (List E)) (ri : are_flat r rows ≡ true) (count : length rows ≡ length (leads (λ k. not (live k)) (length m)))
    (is_row : (j : ℕ) → j < length rows → row_at rows j ≡ row_at left (lead_number (λ k. not (live k)) (length m) j))
    (c : List E) (ce : is_canonical r c ≡ true) (relation : (t : ℕ) → times_rows r (length m) w c (entry r m) t ≡ r.zero) where
  abbrev ring : IsRing r
  ring = field.ring

  abbrev S : RingOn (Element r)
  S = elements ring

  abbrev n : ℕ
  n = length m

  abbrev dead : ℕ → Bool
  dead k = not (live k)

  ci : (k : ℕ) → IsElem r (coeff r c k)
  ci = elem_read r c ring.closed.zero_in (and_parts (are_elems r c) (is_trimmed r c) ce).0

  abbrev row : ℕ → Element r
  row = row_of r (coeff r c) ci

  abbrev lefts : ℕ → ℕ → Element r
  lefts = rows_of r (entry r left) s.left_in

  row_short : (t : ℕ) → length c ≤ t → row t ≡ S.zero
  row_short t l = same_element r _ _ (coeff_past r c t l)

  zero_image : (t : ℕ) → combine S (length c) row (powers S n w (rows_of r (entry r m) mi)) t ≡ S.zero
  zero_image t = same_element r _ _ (times_value r ring n w c ci (entry r m) mi t ∙ relation t)

  -- the coefficients over `left`
  abbrev by : ℕ → Element r
  by = times_left S (field_domain r inv field) n w s.len posn posw lefts s.back (rows_of r (entry r m) mi) (rows_of r (entry r image) s.image_in) s.is live (lead_at image) places (length c) row row_short

  abbrev room : ℕ
  room = length c + s.len

  by_left : (t : ℕ) → combine S room by (powers S n n lefts) t ≡ row t
  by_left t = is_times_left S (field_domain r inv field) n w s.len posn posw lefts s.back (rows_of r (entry r m) mi) (rows_of r (entry r image) s.image_in) s.is live (lead_at image) places (length c) row row_short t

  by_live : (k : ℕ) → k < room → live (k % n) ≡ true → by k ≡ S.zero
  by_live = zero_at_live S (field_domain r inv field) n w s.len posn posw lefts s.back (rows_of r (entry r m) mi) (rows_of r (entry r image) s.image_in) s.is live (lead_at image) places (length c) row row_short zero_image

  by_short : (k : ℕ) → room ≤ k → by k ≡ S.zero
  by_short k far = total_zero S (length c) _ (λ j l.
      let v = div-mul-le_self j n in
      ap (S.mul (row j)) (shift_end S (j / n * n) s.len (s.back (j % n)) k (s.is.back_short (j % n)) (omega (arith, far, v, l))) ∙ mul_zero S (row j))

  -- the polynomial over row `i` of `left`
  poly : ℕ → List E
  poly i = list_of r room (λ e. (by (e * n + i)).0)

  past : (i e : ℕ) → room ≤ e → by (e * n + i) ≡ S.zero
  past i e l = by_short (e * n + i) (let v = le-mul_of_pos_right e posn in omega (arith, v, l))

  poly_coeff : (i e : ℕ) → coeff r (poly i) e ≡ (by (e * n + i)).0
  unfolding poly
  poly_coeff i e = coeff-list_of r ring.closed.zero_in ring.equal room _ (λ j. (by (j * n + i)).1) (λ j l. ap (λ x. x.0) (past i j l)) e

  poly_short : (i : ℕ) → length (poly i) ≤ room
  unfolding poly
  poly_short i =
      let a = length-trim r (first_values room (λ e. (by (e * n + i)).0)) in
      let b = length-first_values room (λ e. (by (e * n + i)).0) in
      omega (arith, a, b)

  poly_flat : (i : ℕ) → is_canonical r (poly i) ≡ true
  unfolding poly
  poly_flat i = canonical-list_of r room _ (λ j _. (by (j * n + i)).1)

  -- row number `j` of the answer
  abbrev at : ℕ → ℕ
  at j = lead_number dead n j

  at_low : (j : ℕ) → j < length rows → at j < n
  at_low j l = (are_leads dead n).below j (omega (arith, l, count))

  at_dead : (j : ℕ) → j < length rows → dead (at j) ≡ true
  at_dead j l = (are_leads dead n).marked j (omega (arith, l, count))

  at_apart : (j k : ℕ) → j < length rows → k < length rows → at j ≡ at k → j ≡ k
  at_apart j k lj lk e = elim (same_or_other j k) [
    | inl q ↦ q
    | inr ne ↦ by_bool (nat_lt j k)
        (λ b. let v = (are_leads dead n).rising j k (ltb-true j k b) (omega (arith, lk, count)) in absurd (omega (arith, v, e)))
        (λ b. let l : k ≤ j = ltb-false j k b in let v = (are_leads dead n).rising k j (omega (arith, l, ne)) (omega (arith, lj, count)) in absurd (omega (arith, v, e)))
  ]

  zeros : (i j : ℕ) → live i ≡ true → by (j * n + i) ≡ S.zero
  zeros i j v = by_bool (nat_lt (j * n + i) room)
      (λ b. by_live (j * n + i) (ltb-true (j * n + i) room b) (ap live (mod-mul-add j n i (low i v)) ∙ v))
      (λ b. by_short (j * n + i) (ltb-false (j * n + i) room b))

  poly_sum : (i t : ℕ) → (combine S room (λ e. by (e * n + i)) (λ e. shift S (e * n) (lefts i)) t).0 ≡ times r n (poly i) (coeff r (row_at left i)) t
  poly_sum i t =
      let pi : (k : ℕ) → IsElem r (coeff r (poly i) k) = elem_read r (poly i) ring.closed.zero_in (and_parts (are_elems r (poly i)) (is_trimmed r (poly i)) (poly_flat i)).0 in
      ap (λ x. x.0) (combine_same S room _ (row_of r (coeff r (poly i)) pi) (λ e. shift S (e * n) (lefts i)) t (λ e _. same_element r _ _ (sym (poly_coeff i e))))
      ∙ poly_value r ring n room (poly i) pi (lefts i) t (poly_short i)

  abbrev polys : List (List E)
  polys = first_values (length rows) (λ j. poly (at j))

  -- the coefficients are zero at live rows, so the rows of the answer suffice
  sum_is : (t : ℕ) → coeff r c t ≡ combination r n rows polys t
  sum_is t =
      ap (λ x. x.0)
      (sym (by_left t) ∙ sym (combine_more S room (room * n) by (powers S n n lefts) t (le-mul_of_pos_right room posn) by_short)
      ∙ flat_sum S n n room by lefts t
      ∙ total_leads S dead n _ (λ i u. total_zero S room _ (λ j _. ap (λ x. S.mul x (shift S (j * n) (lefts i) t)) (zeros i j (not-false (live i) u)) ∙ zero_mul S _))
      ∙ ap (λ k. total S k (λ j. combine S room (λ i. by (i * n + at j)) (λ i. shift S (i * n) (lefts (at j))) t)) (sym count))
      ∙ total_is r ring (length rows) _
      ∙ sum_same r ring (length rows) _ _ (λ j l.
      poly_sum (at j) t ∙ ap₂ (λ p u. times r n p (coeff r u) t) (sym (at-first_values (length rows) (λ j. poly (at j)) j [] l)) (sym (is_row j l)))

  -- a combination of the rows, times `back`, has the coefficients themselves
  other_at : (other : List (List E)) → are_flat r other ≡ true → ((t : ℕ) → coeff r c t ≡ combination r n rows other t) → (j i : ℕ) → j < length rows → coeff r (row_at other j) i ≡ (by (i * n + at j)).0
  other_at other oi is j i l =
      let count = length rows in
      let pos : 0 < count = omega (arith, l) in
      let place = i * count + j in
      let most = (longest r other).0 * count + suc place in
      let big = most * n + s.len + length c in
      let coeffs : ℕ → Element r = listed r ring n rows other ri oi in
      let v : ℕ → ℕ → Element r = rows_of r (entry r rows) (flat_in r ring rows ri) in
      let is_left : (k t : ℕ) → k < count → v k t ≡ lefts (at k) t = λ k t b. same_element r _ _ (ap (λ u. coeff r u t) (is_row k b)) in
      let fits : (k : ℕ) → k < most → k / count * n + s.len ≤ big = λ k b.
      let a = div-mul-le_self k count in
      let d = le-mul_of_pos_right (k / count) pos in
      let m = mul-le-mul_right {m = k / count} {n = most} n (omega (arith, a, d, b)) in
      omega (arith, m)
      in
      let same : (k : ℕ) → k / count * n + at (k % count) ≡ i * n + at j → k ≡ place = λ k e.
      let b = mod-lt k {m = count} pos in
      let rest = sym (mod-mul-add (k / count) n (at (k % count)) (at_low (k % count) b)) ∙ ap (λ x. x % n) e ∙ mod-mul-add i n (at j) (at_low j l) in
      let quotient = sym (div-mul-add (k / count) n (at (k % count)) (at_low (k % count) b)) ∙ ap (λ x. x / n) e ∙ div-mul-add i n (at j) (at_low j l) in
      sym (div-add-mod' k count) ∙ ap₂ (λ x y. x * count + y) quotient (at_apart (k % count) j b l rest)
      in
      sym (ap (λ x. x.0)
      (sym (combine_more S (length c) big row (powers S n n s.back) (i * n + at j) (omega arith) row_short)
      ∙ combine_same S big row _ (powers S n n s.back) (i * n + at j) (λ q _. same_element r _ _ (is q ∙ sym (combination_room r ring n rows other ri oi pos most q (omega arith))))
      ∙ flat_assoc S count n n s.len posn v s.back (λ k t far. is_left (k % count) t (mod-lt k pos) ∙ s.is.left_short (at (k % count)) t far) big most coeffs (i * n + at j) fits
      ∙ times_same S count n most coeffs _ (λ k. unit S (at k)) (i * n + at j) pos
      (λ k t b. combine_same S s.len (v k) (lefts (at k)) (powers S n n s.back) t (λ q _. is_left k q b) ∙ s.is.left_back (at k) t (at_low k b))
      ∙ total_single S most place _ (omega arith)
      (λ k _ ne. ap (S.mul (coeffs k)) (shift_unit S (k / count * n) (at (k % count)) (i * n + at j) ∙ unit_other S _ _ (λ e. ne (same k e))) ∙ mul_zero S (coeffs k))
      ∙ ap (S.mul (coeffs place)) (shift_unit S (place / count * n) (at (place % count)) (i * n + at j)
      ∙ unit_same S _ _ (ap₂ (λ x y. x * n + at y) (div-mul-add i count j l) (mod-mul-add i count j l)))
      ∙ S.mul_one (coeffs place))
      ∙ ap₂ (λ x y. coeff r (row_at other x) y) (mod-mul-add i count j l) (div-mul-add i count j l))

  -- each relation is one combination of the rows
  pub only_rows : IsOnlyCombination r n rows c
  only_rows = record {
    by = polys;
    len = length-first_values (length rows) (λ j. poly (at j));
    polys = flat_first r (length rows) (λ j. poly (at j)) (λ j. poly_flat (at j));
    is = sum_is;
    only = λ other len oi is. ext_get_or [] other polys (len ∙ sym (length-first_values (length rows) (λ j. poly (at j)))) (λ j l.
        let inside : j < length rows = omega (arith, l, len) in
        same_coeffs r ring.closed.zero_in ring.equal (row_at other j) (poly (at j)) (and_parts (are_elems r (row_at other j)) (is_trimmed r (row_at other j)) (flat_at r other oi j)).1
        (and_parts (are_elems r (poly (at j))) (is_trimmed r (poly (at j))) (poly_flat (at j))).1 (λ i. other_at other oi is j i inside ∙ sym (poly_coeff (at j) i))
        ∙ sym (at-first_values (length rows) (λ j. poly (at j)) j [] inside));
  }
