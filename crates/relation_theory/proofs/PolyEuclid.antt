-- Polynomials over a field are a Euclidean ring, with their lengths as sizes; and their coefficients, as sequences.
use Rattle.std.proofs.Common.{◌≡◌, ℕ, ◌≤◌, Option, length, refl, ◌∙◌, ap}
use Rattle.std.proofs.lemmas.Bool.{and_parts}
use Rattle.ring_core.specs.Ring.{RingOps}
use Rattle.ring_core.specs.Field.{IsField}
use Rattle.ring_core.specs.Coeffs.{list_of}
use Rattle.ring_core.specs.Twisted.{twisted_ops}
use Rattle.ring_core.proofs.Carrier.{RingOn, Element, same_element, elements}
use Rattle.ring_core.proofs.Coefficients.{coeff_past, canonical-list_of, coeff-list_of, same_coeffs}
use Rattle.ring_core.proofs.Twist.{no_twist}
use Rattle.ring_core.proofs.ListRing.{value, coeff-add, coeff-mul, product_is_conv, poly_ring, poly_comm}
use Rattle.ring_core.proofs.Degrees.{poly_no_divisors}
use Rattle.euclid_theory.proofs.OreSizes.{twisted_sizes}
use Rattle.relation_theory.proofs.Euclid.{IsEuclidean}
use Rattle.relation_theory.proofs.Gauss.{cauchy_product}

module _ {E : Type 0} (r : RingOps E) (inv : E → Option E) (k : IsField r inv) where
  abbrev pub Poly : Type 0
  Poly = Element (twisted_ops r (λ c i. c))

  -- The ring of polynomials over the field, and the field, as rings on their elements.
  abbrev pub polys : RingOn (Element (twisted_ops r (λ c i. c)))
  polys = elements (poly_ring r k.ring k.one_ne_zero)

  abbrev pub scalars : RingOn (Element r)
  scalars = elements k.ring

  pub poly_euclidean : IsEuclidean polys (λ x. length x.0)
  poly_euclidean = record {
    sizes = twisted_sizes r inv k (λ c i. c) (no_twist r) (poly_no_divisors r inv k) (poly_ring r k.ring k.one_ne_zero);
    mul_comm = λ a b. same_element (twisted_ops r (λ c i. c)) _ _ (poly_comm r k.ring k.one_ne_zero k.mul_comm a.0 b.0 a.1 b.1);
  }

  -- The coefficients.
  abbrev pub coeffs : Element (twisted_ops r (λ c i. c)) → ℕ → Element r
  coeffs x = value r k.ring x.0 (and_parts _ _ x.1).0

  pub coeffs_past : (x : Poly) (i : ℕ) → length x.0 ≤ i → coeffs x i ≡ scalars.zero
  coeffs_past x i l = same_element r _ _ (coeff_past r x.0 i l)

  pub coeffs_add : (x y : Poly) (i : ℕ) → coeffs (polys.add x y) i ≡ scalars.add (coeffs x i) (coeffs y i)
  coeffs_add x y i = same_element r _ _ (coeff-add r k.ring x.0 y.0 (and_parts _ _ x.1).0 (and_parts _ _ y.1).0 i)

  pub coeffs_mul : (x y : Poly) (i : ℕ) → coeffs (polys.mul x y) i ≡ cauchy_product scalars (coeffs x) (coeffs y) i
  coeffs_mul x y i =
      let ex = (and_parts _ _ x.1).0 in
      let ey = (and_parts _ _ y.1).0 in
      same_element r _ _ (coeff-mul r k.ring (λ c i. c) (no_twist r) x.0 y.0 ex ey i ∙ product_is_conv r k.ring (λ c i. c) (no_twist r) x.0 y.0 ex ey i)

  -- polynomials with equal coefficients are equal
  pub poly_same : (x y : Poly) → ((i : ℕ) → coeffs x i ≡ coeffs y i) → x ≡ y
  poly_same x y e =
      same_element (twisted_ops r (λ c i. c)) x y
      (same_coeffs r k.ring.closed.zero_in k.ring.equal x.0 y.0 (and_parts _ _ x.1).1 (and_parts _ _ y.1).1 (λ i. ap (λ t. t.0) (e i)))

  -- the polynomial with these coefficients below n
  pub poly_of : ℕ → (ℕ → Element r) → Element (twisted_ops r (λ c i. c))
  poly_of n f = (list_of r n (λ i. (f i).0), canonical-list_of r n _ (λ i l. (f i).1))

  pub poly_of_list : (n : ℕ) (f : ℕ → Element r) → list_of r n (λ i. (f i).0) ≡ (poly_of n f).0
  unfolding poly_of
  poly_of_list n f = refl

  pub coeffs_of : (n : ℕ) (f : ℕ → Element r) → ((i : ℕ) → n ≤ i → f i ≡ scalars.zero) → (i : ℕ) → coeffs (poly_of n f) i ≡ f i
  unfolding poly_of
  coeffs_of n f past i =
      same_element r _ _
      (coeff-list_of r k.ring.closed.zero_in k.ring.equal n _ (λ j. (f j).1) (λ j l. ap (λ t. t.0) (past j l)) i)
