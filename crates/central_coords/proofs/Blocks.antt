-- The polynomials of a twisted polynomial, place by place: they tell it, and are linear in it over the polynomials in
-- tau^n.
use Rattle.std.proofs.Common.{◌≡◌, ℕ, zero, suc, ◌+◌, ◌-◌, ◌*◌, ◌/◌, ◌%◌, ◌<◌, ◌≤◌, true, List, [], length, refl, sym, ◌∙◌, ap, ap₂, subst, arith, ext_get_or}
use Rattle.std.proofs.Math.Nat.{div-add-mod', mod-lt, mul-le-mul_right, le-div_iff_mul-le, mul-pos, div-lt_iff_lt-mul}
use Rattle.std.proofs.lemmas.Nat.{div-mul-add, mod-mul-add}
use Rattle.std.proofs.lemmas.Bool.{and_parts, and_from}
use Rattle.ring_core.specs.Ring.{RingOps}
use Rattle.ring_core.specs.Field.{FrobOps}
use Rattle.ring_core.specs.Coeffs.{coeff, are_elems, is_canonical, first_values, list_of}
use Rattle.ring_core.specs.Twisted.{list_add, list_mul}
use Rattle.ring_core.specs.Monomial.{monomial, constant, tau_power}
use Rattle.ring_core.proofs.Carrier.{Element, same_element}
use Rattle.ring_core.proofs.Coefficients.{elem_read, coeff_past, coeff-first_values, coeff-list_of, canonical-list_of, same_coeffs, trim-trimmed}
use Rattle.ring_core.proofs.FirstValues.{length-first_values, at-first_values}
use Rattle.ring_core.proofs.Twist.{no_twist}
use Rattle.ring_core.proofs.ListRing.{add_in, coeff-add, mul_in, coeff-mul, poly_ring}
use Rattle.ring_core.proofs.Monomial.{monomial_in, monomial_product, monomial_product_below}
use Rattle.linear_algebra.specs.Linear.{row_at}
use Rattle.flat_modules.specs.Flat.{are_flat}
use Rattle.flat_modules.proofs.Lists.{flat_at}
use Rattle.flat_modules.proofs.Shift.{shift_low, shift_past}
use Rattle.fq_poly.specs.Poly.{poly_mul, letter}
use Rattle.central_coords.specs.Coordinates.{coordinate}
use Rattle.central_coords.specs.Central.{AreCentralCoordinates}
use Rattle.central_coords.proofs.Places.{Extension, Polys, polys, scalars, degree_positive, at, coordinates, coordinate_in, coordinate_past, place_low}
use Rattle.central_coords.proofs.Raised.{letter as tau_letter, moves}

pub flat_values : {E : Type 0} (r : RingOps E) (n : ℕ) (rows : ℕ → List E) → ((i : ℕ) → is_canonical r (rows i) ≡ true) → are_flat r (first_values n rows) ≡ true
flat_values r zero rows h = refl
flat_values r (suc n) rows h = and_from _ _ (h 0) (flat_values r n (λ i. rows (suc i)) (λ i. h (suc i)))

-- place `i n + j` of block `m`
index_is : (n m i j : ℕ) → (n * m + i) * n + j ≡ m * (n * n) + (i * n + j)
index_is n m i j = omega arith

joined_low : (n i j : ℕ) → i < n → j < n → i * n + j < n * n
joined_low n i j a b = let v : (i + 1) * n ≤ n * n = mul-le-mul_right n (omega arith) in omega (arith, v)

module _ {E B : Type 0} {r : RingOps E} {base : RingOps B} {f : FrobOps E B} (o : Extension r base f) where
  abbrev w : ℕ
  w = f.degree * f.degree

  wide : 0 < w
  wide = mul-pos (degree_positive o) (degree_positive o)

  -- the coefficients by their places
  at_place : (u : List E) (list : List (List B)) → AreCentralCoordinates r base f u list → (p m : ℕ) → p < w → coeff base (row_at list p) m ≡ coordinate r f u (m * w + p)
  at_place u list h p m low =
      let n = f.degree in
      let whole : p / n * n + p % n ≡ p = div-add-mod' p n in
      ap (λ y. coeff base (row_at list y) m) (sym whole) ∙ h.is m (p / n) (p % n) ((div-lt_iff_lt-mul (degree_positive o)).1 low) (place_low o p)
      ∙ ap (coordinate r f u) (index_is n m (p / n) (p % n) ∙ ap (λ y. m * w + y) whole)

  by_places : (u : List E) (list : List (List B)) → length list ≡ w → are_flat base list ≡ true → ((p m : ℕ) → p < w → coeff base (row_at list p) m ≡ coordinate r f u (m * w + p)) → AreCentralCoordinates r base f u list
  by_places u list count polys is = record {
    count = count;
    polys = polys;
    is = λ m i j a b. is (i * f.degree + j) m (joined_low f.degree i j a b) ∙ ap (coordinate r f u) (sym (index_is f.degree m i j));
  }

  -- a list whose members are told one by one
  listed : (u : List E) (row : ℕ → List B) → ((p : ℕ) → is_canonical base (row p) ≡ true) → ((p m : ℕ) → p < w → coeff base (row p) m ≡ coordinate r f u (m * w + p))
      → AreCentralCoordinates r base f u (first_values w row)
  listed u row inside is =
      by_places u (first_values w row) (length-first_values w row) (flat_values base w row inside)
      (λ p m low. ap (λ y. coeff base y m) (at-first_values w row p [] low) ∙ is p m low)

  -- the list that `coords` makes
  pub made_polys : (u : List E) → are_elems r u ≡ true → AreCentralCoordinates r base f u (first_values w (λ p. list_of base (length u / f.degree + 1) (λ m. coordinate r f u (m * w + p))))
  made_polys u eu =
      let count = length u / f.degree + 1 in
      listed u (λ p. list_of base count (λ m. coordinate r f u (m * w + p)))
      (λ p. canonical-list_of base count (λ m. coordinate r f u (m * w + p)) (λ m low. coordinate_in o u eu (m * w + p)))
      (λ p m low.
      coeff-list_of base o.base_field.ring.closed.zero_in o.base_field.ring.equal count (λ m. coordinate r f u (m * w + p)) (λ i. coordinate_in o u eu (i * w + p))
      (λ i past. coordinate_past o u (i * w + p) (beyond p i past)) m)
    where
      beyond : (p m : ℕ) → length u / f.degree + 1 ≤ m → length u * f.degree ≤ m * (f.degree * f.degree) + p
      beyond p m past =
          let few : length u < m * f.degree = (div-lt_iff_lt-mul (degree_positive o)).0 (omega (arith, past)) in
          let all : length u * f.degree ≤ m * f.degree * f.degree = mul-le-mul_right f.degree (omega (arith, few)) in
          omega (arith, all)

  -- the list that `of_coords` reads
  pub read_back : (list : List (List B)) → length list ≡ w → are_flat base list ≡ true → (u : List E) (x : List B) (most : ℕ) → ((i : ℕ) → length (row_at list i) ≤ most)
      → x ≡ first_values (most * length list) (λ c. coeff base (row_at list (c % length list)) (c / length list)) → ((c : ℕ) → coordinate r f u c ≡ coeff base x c)
      → AreCentralCoordinates r base f u list
  read_back list count polys u x most bound e is =
      by_places u list count polys
      (λ p m low.
      let c = m * w + p in
      sym
      (is c ∙ ap (λ y. coeff base y c) e ∙ coeff-first_values base (most * length list) (λ c. coeff base (row_at list (c % length list)) (c / length list)) past c
      ∙ ap (λ y. coeff base (row_at list (c % y)) (c / y)) count ∙ ap₂ (λ a b. coeff base (row_at list a) b) (mod-mul-add m w p low) (div-mul-add m w p low)))
    where
      past : (c : ℕ) → most * length list ≤ c → coeff base (row_at list (c % length list)) (c / length list) ≡ base.zero
      past c far =
          let some = wide in
          let high : most ≤ c / length list = (le-div_iff_mul-le {k = length list} (omega (arith, some, count))).1 far in
          let few = bound (c % length list) in
          coeff_past base (row_at list (c % length list)) (c / length list) (omega (arith, few, high))

  pub one_list : (u : List E) (a b : List (List B)) → AreCentralCoordinates r base f u a → AreCentralCoordinates r base f u b → a ≡ b
  one_list u a b ha hb =
      ext_get_or [] a b (ha.count ∙ sym hb.count)
      (λ p m.
      let low : p < w = omega (arith, m, ha.count) in
      same_coeffs base o.base_field.ring.closed.zero_in o.base_field.ring.equal (row_at a p) (row_at b p) (and_parts _ _ (flat_at base a ha.polys p)).1 (and_parts _ _ (flat_at base b hb.polys p)).1
      (λ m. at_place u a ha p m low ∙ sym (at_place u b hb p m low)))

  pub one_polynomial : (u v : Polys o) (a : List (List B)) → AreCentralCoordinates r base f u.0 a → AreCentralCoordinates r base f v.0 a → u ≡ v
  one_polynomial u v a hu hv =
      (coordinates o).inj u v
      (λ c.
      let low : c % w < w = mod-lt c wide in
      same_element base _ _
      (ap (coordinate r f u.0) (sym (div-add-mod' c w)) ∙ sym (at_place u.0 a hu (c % w) (c / w) low) ∙ at_place v.0 a hv (c % w) (c / w) low
      ∙ ap (coordinate r f v.0) (div-add-mod' c w)))

  row_elems : (a : List (List B)) (u : List E) → AreCentralCoordinates r base f u a → (p : ℕ) → are_elems base (row_at a p) ≡ true
  row_elems a u h p = (and_parts _ _ (flat_at base a h.polys p)).0

  pub sum_polys : (u v : Polys o) (a b : List (List B)) → AreCentralCoordinates r base f u.0 a → AreCentralCoordinates r base f v.0 b
      → AreCentralCoordinates r base f (list_add r u.0 v.0) (first_values w (λ p. list_add base (row_at a p) (row_at b p)))
  sum_polys u v a b ha hb =
      listed (list_add r u.0 v.0) (λ p. list_add base (row_at a p) (row_at b p))
      (λ p. add_in base o.base_field.ring (row_at a p) (row_at b p) (row_elems a u.0 ha p) (row_elems b v.0 hb p))
      (λ p m low.
      coeff-add base o.base_field.ring (row_at a p) (row_at b p) (row_elems a u.0 ha p) (row_elems b v.0 hb p) m
      ∙ ap₂ base.add (at_place u.0 a ha p m low) (at_place v.0 b hb p m low) ∙ sym (ap (λ y. y.0) ((coordinates o).add (m * w + p) u v)))

  -- a monomial times the polynomials of a list
  product_in : (c : Element base) (n : ℕ) (a : List (List B)) (u : List E) → AreCentralCoordinates r base f u a → (p : ℕ) → is_canonical base (poly_mul base (monomial base c.0 n) (row_at a p)) ≡ true
  product_in c n a u h p =
      mul_in base o.base_field.ring (λ x i. x) (no_twist base) (monomial base c.0 n) (row_at a p) (and_parts _ _ (monomial_in base o.base_field.ring c.0 n c.1)).0 (row_elems a u h p)

  product_is : (c : Element base) (n : ℕ) (q : List B) → are_elems base q ≡ true → (m : ℕ) → n ≤ m → coeff base (poly_mul base (monomial base c.0 n) q) m ≡ base.mul c.0 (coeff base q (m - n))
  product_is c n q eq m high =
      coeff-mul base o.base_field.ring (λ x i. x) (no_twist base) (monomial base c.0 n) q (and_parts _ _ (monomial_in base o.base_field.ring c.0 n c.1)).0 eq m
      ∙ monomial_product base o.base_field.ring (λ x i. x) (no_twist base) c.0 n q c.1 eq m high

  pub constant_polys : (c : Element base) (u : Polys o) (a : List (List B)) → AreCentralCoordinates r base f u.0 a
      → AreCentralCoordinates r base f (list_mul r f.frob (constant r (f.embed c.0)) u.0) (first_values w (λ p. poly_mul base (constant base c.0) (row_at a p)))
  constant_polys c u a ha =
      listed (list_mul r f.frob (constant r (f.embed c.0)) u.0) (λ p. poly_mul base (constant base c.0) (row_at a p)) (product_in c 0 a u.0 ha)
      (λ p m low.
      let place : m - 0 ≡ m = omega arith in
      product_is c 0 (row_at a p) (row_elems a u.0 ha p) m (omega arith) ∙ ap (λ y. base.mul c.0 (coeff base (row_at a p) y)) place
      ∙ ap (base.mul c.0) (at_place u.0 a ha p m low) ∙ sym (ap (λ y. y.0) ((coordinates o).scale (m * w + p) c u)))

  abbrev one : Element base
  one = (base.one, o.base_field.ring.closed.one_in)

  letter_is : letter base ≡ monomial base base.one 1
  letter_is = sym (trim-trimmed base (letter base) (and_parts _ _ (poly_ring base o.base_field.ring o.base_field.one_ne_zero).closed.one_in).1)

  raised_at : (u : Polys o) (q : List B) → are_elems base q ≡ true → (p m : ℕ) → p < w → ((m : ℕ) → coeff base q m ≡ coordinate r f u.0 (m * w + p))
      → coeff base (poly_mul base (monomial base base.one 1) q) m ≡ coordinate r f ((polys o).mul (tau_letter o 1) u).0 (m * w + p)
  raised_at u q eq p zero low is =
      coeff-mul base o.base_field.ring (λ x i. x) (no_twist base) (monomial base base.one 1) q (and_parts _ _ (monomial_in base o.base_field.ring base.one 1 one.1)).0 eq 0
      ∙ monomial_product_below base o.base_field.ring (λ x i. x) (no_twist base) base.one 1 q one.1 eq 0 (omega arith)
      ∙ sym (ap (λ y. y.0) (moves o 1 (0 * w + p) u ∙ shift_low (scalars o) (1 * w) (λ j. at o j u) (0 * w + p) (omega (arith, low))))
  raised_at u q eq p (suc m) low is =
      let before : suc m - 1 ≡ m = omega arith in
      let back : suc m * w + p - 1 * w ≡ m * w + p = omega arith in
      product_is one 1 q eq (suc m) (omega arith) ∙ o.base_field.ring.one_mul _ (elem_read base q o.base_field.ring.closed.zero_in eq (suc m - 1)) ∙ ap (coeff base q) before ∙ is m
      ∙ sym (ap (λ y. y.0) (moves o 1 (suc m * w + p) u ∙ shift_past (scalars o) (1 * w) (λ j. at o j u) (suc m * w + p) (omega arith) ∙ ap (λ j. at o j u) back))

  pub letter_polys : (u : Polys o) (a : List (List B)) → AreCentralCoordinates r base f u.0 a
      → AreCentralCoordinates r base f (list_mul r f.frob (tau_power r f.degree) u.0) (first_values w (λ p. poly_mul base (letter base) (row_at a p)))
  letter_polys u a ha =
      let single : f.degree * 1 ≡ f.degree = omega arith in
      subst (λ n. AreCentralCoordinates r base f (list_mul r f.frob (tau_power r n) u.0) (first_values w (λ p. poly_mul base (letter base) (row_at a p)))) single
      (subst (λ y. AreCentralCoordinates r base f ((polys o).mul (tau_letter o 1) u).0 (first_values w (λ p. poly_mul base y (row_at a p)))) (sym letter_is)
      (listed ((polys o).mul (tau_letter o 1) u).0 (λ p. poly_mul base (monomial base base.one 1) (row_at a p)) (product_in one 1 a u.0 ha)
      (λ p m low. raised_at u (row_at a p) (row_elems a u.0 ha p) p m low (λ m. at_place u.0 a ha p m low))))
