-- Multiples of a polynomial by a constant: that by the inverse of the top coefficient is the only monic one.
use Rattle.std.proofs.Common.{◌≡◌, ◌≢◌, ℕ, ◌-◌, ◌≤◌, true, Option, List, [], length, refl, sym, ◌∙◌, ap, ap₂, nat_eq, if◌then◌else◌, arith}
use Rattle.std.proofs.lemmas.Bool.{and_parts}
use Rattle.ring_core.specs.Ring.{RingOps, IsElem}
use Rattle.ring_core.specs.Field.{IsField}
use Rattle.ring_core.specs.Coeffs.{coeff, is_canonical}
use Rattle.ring_core.specs.Monomial.{constant}
use Rattle.ring_core.proofs.Carrier.{RingOn, Element, elements, zero_mul, mul_zero}
use Rattle.ring_core.proofs.Coefficients.{elem_read}
use Rattle.ring_core.proofs.Degrees.{degrees_add, poly_no_divisors, has_members}
use Rattle.ring_core.proofs.ListRing.{coeff-mul, length-list_of, poly_ring}
use Rattle.ring_core.proofs.Monomial.{monomial_in, monomial_product}
use Rattle.ring_core.proofs.Twist.{no_twist}
use Rattle.fq_poly.specs.Poly.{poly_mul, poly_ops}
use Rattle.fq_poly.specs.Monic.{IsMonicMultiple}
use Rattle.fq_poly.specs.Laws.{DegreesAdd, MonicIsUnique}

module _ {E : Type 0} (r : RingOps E) (inv : E → Option E) (k : IsField r inv) where
  pub degrees : DegreesAdd r
  degrees = degrees_add r k.ring (λ c i. c) (no_twist r) (poly_no_divisors r inv k)

  abbrev ring : RingOn (Element (poly_ops r))
  ring = elements (poly_ring r k.ring k.one_ne_zero)

  -- the coefficients of a multiple by a constant
  coeff-multiple : (c : E) (a : List E) → IsElem r c → is_canonical r a ≡ true → (i : ℕ) → coeff r (poly_mul r (constant r c) a) i ≡ r.mul c (coeff r a i)
  coeff-multiple c a p ca i =
      let e = (and_parts _ _ ca).0 in
      let place : i - 0 ≡ i = omega arith in
      coeff-mul r k.ring (λ c i. c) (no_twist r) (constant r c) a (and_parts _ _ (monomial_in r k.ring c 0 p)).0 e i
      ∙ monomial_product r k.ring (λ c i. c) (no_twist r) c 0 a p e i (omega arith) ∙ ap (λ j. r.mul c (coeff r a j)) place

  -- a multiple by a constant that isn't zero has as many coefficients
  length-multiple : (c : E) (a m : List E) → IsElem r c → is_canonical r a ≡ true → m ≡ poly_mul r (constant r c) a → m ≢ [] → length m ≡ length a
  length-multiple c a m p ca e nonzero =
      let in_ring = monomial_in r k.ring c 0 p in
      let left : constant r c ≢ [] = λ q. nonzero (e ∙ ap (λ u. poly_mul r u a) q ∙ ap (λ x. x.0) (zero_mul ring (a, ca))) in
      let right : a ≢ [] = λ q. nonzero (e ∙ ap (poly_mul r (constant r c)) q ∙ ap (λ x. x.0) (mul_zero ring (constant r c, in_ring))) in
      let lengths = degrees (constant r c) a in_ring ca left right in
      let some = has_members (constant r c) left in
      let one : length (constant r c) ≤ 1 = length-list_of r 1 (λ i. if nat_eq i 0 then c else r.zero) in
      let same : length m ≡ length (poly_mul r (constant r c) a) = ap length e in
      omega arith

  pub monic_by_inverse : (a : List E) (c : E) → is_canonical r a ≡ true → IsElem r c → r.mul (coeff r a (length a - 1)) c ≡ r.one
      → IsMonicMultiple r a (poly_mul r (constant r c) a)
  monic_by_inverse a c ca cin inverts =
      let high = length a - 1 in
      let product = poly_mul r (constant r c) a in
      let top : coeff r product high ≡ r.one = coeff-multiple c a cin ca high ∙ k.mul_comm c (coeff r a high) cin (elem_read r a k.ring.closed.zero_in (and_parts _ _ ca).0 high) ∙ inverts in
      let nonzero : product ≢ [] = λ q. k.one_ne_zero (sym top ∙ ap (λ u. coeff r u high) q) in
      record {
        canonical = (poly_ring r k.ring k.one_ne_zero).closed.mul_in (constant r c) a (monomial_in r k.ring c 0 cin) ca;
        factor = c;
        factor_in = cin;
        multiple = refl;
        top = ap (λ n. coeff r product (n - 1)) (length-multiple c a product cin ca refl nonzero) ∙ top;
      }

  top_is_one : (a m : List E) → is_canonical r a ≡ true → (w : IsMonicMultiple r a m) → r.mul w.factor (coeff r a (length a - 1)) ≡ r.one
  top_is_one a m ca w =
      let nonzero : m ≢ [] = λ q. k.one_ne_zero (sym w.top ∙ ap (λ u. coeff r u (length m - 1)) q) in
      let lengths = length-multiple w.factor a m w.factor_in ca w.multiple nonzero in
      sym (coeff-multiple w.factor a w.factor_in ca (length a - 1)) ∙ ap₂ (λ u n. coeff r u (n - 1)) (sym w.multiple) (sym lengths) ∙ w.top

  pub one_monic : MonicIsUnique r
  one_monic a m other ca v w =
      let top = coeff r a (length a - 1) in
      let top_in = elem_read r a k.ring.closed.zero_in (and_parts _ _ ca).0 (length a - 1) in
      let same : v.factor ≡ w.factor =
      sym (k.ring.one_mul v.factor v.factor_in) ∙ ap (λ x. r.mul x v.factor) (sym (top_is_one a other ca w))
      ∙ k.ring.mul_assoc w.factor top v.factor w.factor_in top_in v.factor_in
      ∙ ap (r.mul w.factor) (k.mul_comm top v.factor top_in v.factor_in ∙ top_is_one a m ca v) ∙ k.ring.mul_one w.factor w.factor_in in
      v.multiple ∙ ap (λ c. poly_mul r (constant r c) a) same ∙ sym w.multiple
