-- Polynomials over a field times a constant, and times the letter.
use Rattle.std.proofs.Common.{◌≡◌, ℕ, zero, suc, Option, [], ◌∷◌, length, refl, sym, ◌∙◌, ap, ap₂}
use mathlib.Core.Path.{fun_ext}
use Rattle.std.proofs.lemmas.Bool.{and_parts, and_from}
use Rattle.ring_core.specs.Ring.{RingOps}
use Rattle.ring_core.specs.Field.{IsField}
use Rattle.ring_core.specs.Coeffs.{coeff}
use Rattle.ring_core.specs.Twisted.{twisted_ops}
use Rattle.ring_core.specs.Monomial.{constant}
use Rattle.ring_core.proofs.Carrier.{Element, same_element, mul_zero, zero_mul}
use Rattle.ring_core.proofs.Series.{unit, unit_conv}
use Rattle.ring_core.proofs.Coefficients.{coeff_past, elem_read, coeff-list_of}
use Rattle.ring_core.proofs.Twist.{no_twist}
use Rattle.ring_core.proofs.ListRing.{poly_ring}
use Rattle.ring_core.proofs.Monomial.{monomial_in, constant_mul}
use Rattle.relation_theory.proofs.Gauss.{cauchy_product}
use Rattle.relation_theory.proofs.Relations.{before}
use Rattle.relation_theory.proofs.PolyEuclid.{polys, scalars, coeffs, coeffs_mul}

module _ {E : Type 0} (r : RingOps E) (inv : E → Option E) (k : IsField r inv) where
  -- A constant, as a polynomial.
  abbrev pub constant_poly : Element r → Element (twisted_ops r (λ c i. c))
  constant_poly c = (constant r c.0, monomial_in r k.ring c.0 0 c.1)

  pub constant_coeffs : (c : Element r) (x : Element (twisted_ops r (λ c i. c))) (i : ℕ) → coeffs r inv k ((polys r inv k).mul (constant_poly c) x) i ≡ (scalars r inv k).mul c (coeffs r inv k x i)
  constant_coeffs c x i =
      let ex = (and_parts _ _ x.1).0 in
      same_element r _ _
      (ap (λ t. coeff r t i) (sym (constant_mul r k.ring (λ c i. c) (no_twist r) c.0 x.0 c.1 ex))
      ∙ coeff-list_of r k.ring.closed.zero_in k.ring.equal (length x.0) (λ i. r.mul c.0 (coeff r x.0 i))
      (λ i. k.ring.closed.mul_in c.0 (coeff r x.0 i) c.1 (elem_read r x.0 k.ring.closed.zero_in ex i))
      (λ i m. ap (r.mul c.0) (coeff_past r x.0 i m) ∙ ap (λ (t : Element r). t.0) (mul_zero (scalars r inv k) c)) i)

  -- The letter, as a polynomial.
  abbrev pub letter_poly : Element (twisted_ops r (λ c i. c))
  letter_poly =
      let one = (poly_ring r k.ring k.one_ne_zero).closed.one_in in
      (r.zero ∷ r.one ∷ [], and_from _ _ (and_from _ _ k.ring.closed.zero_in (and_parts _ _ one).0) (and_parts _ _ one).1)

  above : (i : ℕ) → coeffs r inv k letter_poly (suc i) ≡ unit (scalars r inv k) i
  above zero = same_element r _ _ refl
  above (suc i) = same_element r _ _ refl

  lowest : coeffs r inv k letter_poly 0 ≡ (scalars r inv k).zero
  lowest = same_element r _ _ refl

  pub letter_coeffs : (x : Element (twisted_ops r (λ c i. c))) (i : ℕ) → coeffs r inv k ((polys r inv k).mul letter_poly x) i ≡ before (scalars r inv k).zero (coeffs r inv k x) i
  letter_coeffs x zero =
      coeffs_mul r inv k letter_poly x 0 ∙ ap (λ t. (scalars r inv k).mul t (coeffs r inv k x 0)) lowest ∙ zero_mul (scalars r inv k) (coeffs r inv k x 0)
  letter_coeffs x (suc i) =
      coeffs_mul r inv k letter_poly x (suc i)
      ∙ ap₂ (scalars r inv k).add
      (ap (λ t. (scalars r inv k).mul t (coeffs r inv k x (suc i))) lowest ∙ zero_mul (scalars r inv k) (coeffs r inv k x (suc i)))
      (ap (λ t. cauchy_product (scalars r inv k) t (coeffs r inv k x) i) (fun_ext above) ∙ unit_conv (scalars r inv k) (λ t. t) i (coeffs r inv k x))
      ∙ (scalars r inv k).zero_add (coeffs r inv k x i)
