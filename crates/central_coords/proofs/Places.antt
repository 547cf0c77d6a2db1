-- The coordinates of twisted polynomials are coordinates over the base.
use Rattle.std.proofs.Common.{◌≡◌, ◌≢◌, ℕ, ◌+◌, ◌-◌, ◌*◌, ◌/◌, ◌%◌, ◌<◌, ◌≤◌, true, nat_eq, if◌then◌else◌, Option, List, length, refl, sym, ◌∙◌, ap, ap₂, ⊎_elim, eq-eqb, ne_eqb, arith}
use Rattle.std.proofs.Math.Nat.{div-add-mod, mod-lt, le-div_iff_mul-le}
use Rattle.std.proofs.lemmas.Nat.{div-mul-add, mod-mul-add}
use Rattle.std.proofs.lemmas.Bool.{and_parts, cases_eq, cond-true, cond-false, cond_both}
use Rattle.ring_core.specs.Ring.{RingOps, IsElem}
use Rattle.ring_core.specs.Field.{IsField, FrobOps, IsFrobField}
use Rattle.ring_core.specs.Coeffs.{coeff, are_elems, first_values}
use Rattle.ring_core.specs.Twisted.{twisted_ops}
use Rattle.ring_core.specs.Monomial.{monomial, constant}
use Rattle.ring_core.proofs.Carrier.{RingOn, Element, same_element, elements, zero_only}
use Rattle.ring_core.proofs.Coefficients.{elem_read, coeff_past, same_coeffs, elems-first_values}
use Rattle.ring_core.proofs.FirstValues.{length-first_values, at-first_values}
use Rattle.ring_core.proofs.Twist.{IsTwist, frob_twist}
use Rattle.ring_core.proofs.ListRing.{coeff-add, coeff-mul}
use Rattle.ring_core.proofs.Monomial.{monomial_in, coeff-monomial_same, coeff-monomial_other, monomial_product}
use Rattle.euclid_theory.proofs.OreSizes.{Ores, ores}
use Rattle.central_coords.specs.Coordinates.{coordinate}
use Rattle.central_coords.proofs.Expand.{HasCoordinates}

-- A field of finite degree over a base field, with the laws of both.
pub record Extension {E B : Type 0} (r : RingOps E) (base : RingOps B) (f : FrobOps E B) : Type 0 where
  pub inv : E → Option E
  pub base_inv : B → Option B
  pub field : IsField r inv
  pub base_field : IsField base base_inv
  pub laws : IsFrobField r base f

abbrev pub extension : {E B : Type 0} {r : RingOps E} {inv : E → Option E} {base : RingOps B} {base_inv : B → Option B} {f : FrobOps E B} → IsField r inv → IsField base base_inv → IsFrobField r base f → Extension r base f
extension {E} {B} {r} {inv} {base} {base_inv} {f} k kb l = record { inv = inv; base_inv = base_inv; field = k; base_field = kb; laws = l }

module _ {E B : Type 0} {r : RingOps E} {base : RingOps B} {f : FrobOps E B} (o : Extension r base f) where
  -- the ring of the twisted polynomials, and the base
  abbrev pub Polys : Type 0
  Polys = Ores r o.inv base f o.field o.laws

  abbrev pub polys : RingOn Polys
  polys = ores r o.inv base f o.field o.laws

  abbrev pub scalars : RingOn (Element base)
  scalars = elements o.base_field.ring

  pub twist : IsTwist r f.frob
  twist = frob_twist r o.inv base f o.field o.laws

  pub degree_positive : 0 < f.degree
  degree_positive = let some = o.laws.degree_pos in omega (arith, some)

  pub place_low : (c : ℕ) → c % f.degree < f.degree
  place_low c = mod-lt c degree_positive

  pub elems_of : (u : Polys) → are_elems r u.0 ≡ true
  elems_of u = (and_parts (are_elems r u.0) _ u.1).0

  pub read : (u : Polys) (i : ℕ) → IsElem r (coeff r u.0 i)
  read u i = elem_read r u.0 o.field.ring.closed.zero_in (elems_of u) i

  pub coord_zero : (j : ℕ) → j < f.degree → f.coord r.zero j ≡ base.zero
  coord_zero j m =
      let z = o.field.ring.closed.zero_in in
      let image : Element base = (f.coord r.zero j, o.laws.coord_in r.zero j z m) in
      ap (λ x. x.0) (zero_only scalars image (same_element base _ _ (sym (o.laws.coord_add r.zero r.zero j z z m) ∙ ap (λ x. f.coord x j) (o.field.ring.zero_add r.zero z))))

  pub coordinate_in : (u : List E) → are_elems r u ≡ true → (c : ℕ) → IsElem base (coordinate r f u c)
  coordinate_in u eu c = o.laws.coord_in _ _ (elem_read r u o.field.ring.closed.zero_in eu (c / f.degree)) (place_low c)

  pub coordinate_past : (u : List E) (c : ℕ) → length u * f.degree ≤ c → coordinate r f u c ≡ base.zero
  coordinate_past u c past =
      let over : length u ≤ c / f.degree = (le-div_iff_mul-le degree_positive).1 past in
      ap (λ x. f.coord x (c % f.degree)) (coeff_past r u (c / f.degree) over) ∙ coord_zero (c % f.degree) (place_low c)

  -- the coordinates of one coefficient
  pub coordinate_of : (u : List E) (i j : ℕ) → j < f.degree → coordinate r f u (i * f.degree + j) ≡ f.coord (coeff r u i) j
  coordinate_of u i j m = ap₂ (λ a b. f.coord (coeff r u a) b) (div-mul-add i f.degree j m) (mod-mul-add i f.degree j m)

  -- coordinate c
  abbrev pub at : ℕ → Polys → Element base
  at c u = (coordinate r f u.0 c, coordinate_in u.0 (elems_of u) c)

  -- a constant of the base
  abbrev pub up : Element base → Polys
  up b = (constant r (f.embed b.0), monomial_in r o.field.ring (f.embed b.0) 0 (o.laws.embed_in b.0 b.1))

  -- the element of the field with coordinate one at j
  abbrev pub unit_list : ℕ → List B
  unit_list j = first_values f.degree (λ i. if nat_eq i j then base.one else base.zero)

  pub unit_elems : (j : ℕ) → are_elems base (unit_list j) ≡ true
  unit_elems j =
      let closed = o.base_field.ring.closed in
      elems-first_values base f.degree _ (λ i m. cond_both (nat_eq i j) base.one base.zero (IsElem base) (λ s. closed.one_in) (λ s. closed.zero_in))

  abbrev pub unit_elem : ℕ → E
  unit_elem j = f.of_coords (unit_list j)

  pub unit_in : (j : ℕ) → IsElem r (unit_elem j)
  unit_in j = o.laws.of_coords_in (unit_list j) (unit_elems j) (length-first_values f.degree _)

  unit_coord : (j i : ℕ) → i < f.degree → f.coord (unit_elem j) i ≡ (if nat_eq i j then base.one else base.zero)
  unit_coord j i m = o.laws.of_coords_is (unit_list j) i (unit_elems j) (length-first_values f.degree _) m ∙ at-first_values f.degree _ i base.zero m

  -- the twisted polynomial with coordinate one at c
  abbrev pub unit_at_place : ℕ → Polys
  unit_at_place c = (monomial r (unit_elem (c % f.degree)) (c / f.degree), monomial_in r o.field.ring (unit_elem (c % f.degree)) (c / f.degree) (unit_in (c % f.degree)))

  scaled_coeff : (b : Element base) (u : Polys) (i : ℕ) → coeff r (polys.mul (up b) u).0 i ≡ r.mul (f.embed b.0) (coeff r u.0 i)
  scaled_coeff b u i =
      let inside = o.laws.embed_in b.0 b.1 in
      let place : i - 0 ≡ i = omega arith in
      coeff-mul r o.field.ring f.frob twist (up b).0 u.0 (elems_of (up b)) (elems_of u) i
      ∙ monomial_product r o.field.ring f.frob twist (f.embed b.0) 0 u.0 inside (elems_of u) i (omega arith)
      ∙ ap (r.mul (f.embed b.0)) (o.laws.frob_zero _ (read u (i - 0)) ∙ ap (coeff r u.0) place)

  pub coordinates : HasCoordinates scalars polys up at unit_at_place
  coordinates = record {
    add = λ c u v.
        same_element base _ _
        (ap (λ x. f.coord x (c % f.degree)) (coeff-add r o.field.ring u.0 v.0 (elems_of u) (elems_of v) (c / f.degree))
        ∙ o.laws.coord_add _ _ _ (read u (c / f.degree)) (read v (c / f.degree)) (place_low c));
    scale = λ c b u.
        same_element base _ _
        (ap (λ x. f.coord x (c % f.degree)) (scaled_coeff b u (c / f.degree)) ∙ o.laws.coord_scale b.0 _ _ b.1 (read u (c / f.degree)) (place_low c));
    same = λ c.
        same_element base _ _
        (ap (λ x. f.coord x (c % f.degree)) (coeff-monomial_same r o.field.ring (unit_elem (c % f.degree)) (c / f.degree) (unit_in (c % f.degree)))
        ∙ unit_coord (c % f.degree) (c % f.degree) (place_low c) ∙ cond-true _ base.one base.zero (eq-eqb _ _ refl));
    other = λ j c apart.
        same_element base _ _
        (⊎_elim
        (λ (here : j / f.degree ≡ c / f.degree).
        let differ : j % f.degree ≢ c % f.degree = λ e. apart (sym (div-add-mod j f.degree) ∙ ap₂ (λ a b. f.degree * a + b) here e ∙ div-add-mod c f.degree) in
        ap (λ x. f.coord x (j % f.degree)) (ap (coeff r (unit_at_place c).0) here ∙ coeff-monomial_same r o.field.ring (unit_elem (c % f.degree)) (c / f.degree) (unit_in (c % f.degree)))
        ∙ unit_coord (c % f.degree) (j % f.degree) (place_low j) ∙ cond-false _ base.one base.zero (ne_eqb _ _ differ))
        (λ (there : j / f.degree ≡ c / f.degree → ⊥).
        ap (λ x. f.coord x (j % f.degree)) (coeff-monomial_other r o.field.ring (unit_elem (c % f.degree)) (c / f.degree) (j / f.degree) (unit_in (c % f.degree)) there)
        ∙ coord_zero (j % f.degree) (place_low j))
        (cases_eq (j / f.degree) (c / f.degree)));
    inj = λ u v e.
        same_element (twisted_ops r f.frob) u v
        (same_coeffs r o.field.ring.closed.zero_in o.field.ring.equal u.0 v.0 (and_parts _ _ u.1).1 (and_parts _ _ v.1).1
        (λ i.
        o.laws.coord_inj _ _ (read u i) (read v i)
        (λ j m. sym (coordinate_of u.0 i j m) ∙ ap (λ x. x.0) (e (i * f.degree + j)) ∙ coordinate_of v.0 i j m)));
  }
