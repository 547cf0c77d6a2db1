-- Products of twisted polynomials that aren't zero aren't zero, and factors can be cancelled.
use Rattle.std.proofs.Common.{◌≡◌, ◌≢◌, ℕ, ◌+◌, true, List, [], ◌∷◌, Option, length, refl, ◌∙◌, ap, ap₂, arith}
use Rattle.ring_core.specs.Ring.{RingOps, IsRing}
use Rattle.ring_core.specs.Field.{IsField, FrobOps, IsFrobField}
use Rattle.ring_core.specs.Coeffs.{is_canonical}
use Rattle.ring_core.specs.Twisted.{list_mul, twisted_ops}
use Rattle.ring_core.proofs.Carrier.{RingOn, Element, same_element, elements, minus_same, mul_neg, neg_mul}
use Rattle.ring_core.proofs.Twist.{IsTwist, frob_twist}
use Rattle.ring_core.proofs.ListRing.{twisted_ring}
use Rattle.ring_core.proofs.Degrees.{HasNoDivisors, has_members, degrees_add, frob_no_divisors}

module _ {E : Type 0} (r : RingOps E) (h : IsRing r) (frob : E → ℕ → E) (t : IsTwist r frob) (ne : r.one ≢ r.zero) (none : HasNoDivisors r frob) where
  pub product_nonzero : (a b : List E) → is_canonical r a ≡ true → is_canonical r b ≡ true → a ≢ [] → b ≢ [] → list_mul r frob a b ≢ []
  product_nonzero a b p q na nb e =
      let degrees : length (list_mul r frob a b) + 1 ≡ length a + length b = degrees_add r h frob t none a b p q na nb in
      let empty : length (list_mul r frob a b) ≡ 0 = ap length e in
      let left = has_members a na in
      let right = has_members b nb in
      omega (arith, degrees, empty, left, right)

  abbrev pub ring : RingOn (Element (twisted_ops r frob))
  ring = elements (twisted_ring r h frob t ne)

  zero_from : (x : Element (twisted_ops r frob)) → (x.0 ≢ [] → ⊥) → x ≡ ring.zero
  zero_from ([], p) f = same_element (twisted_ops r frob) _ _ refl
  zero_from (y ∷ ys, p) f = absurd (f (λ q. cc))

  pub cancel_left : (a b c : Element (twisted_ops r frob)) → a.0 ≢ [] → ring.mul a b ≡ ring.mul a c → b ≡ c
  cancel_left a b c na e =
      let d : Element (twisted_ops r frob) = ring.add b (ring.neg c) in
      let zero : ring.mul a d ≡ ring.zero = ring.mul_add a b (ring.neg c) ∙ ap₂ ring.add e (mul_neg ring a c) ∙ ring.add_neg (ring.mul a c) in
      minus_same ring b c (zero_from d (λ nd. product_nonzero a.0 d.0 a.1 d.1 na nd (ap (λ x. x.0) zero)))

  pub cancel_right : (a b c : Element (twisted_ops r frob)) → c.0 ≢ [] → ring.mul a c ≡ ring.mul b c → a ≡ b
  cancel_right a b c nc e =
      let d : Element (twisted_ops r frob) = ring.add a (ring.neg b) in
      let zero : ring.mul d c ≡ ring.zero = ring.add_mul a (ring.neg b) c ∙ ap₂ ring.add e (neg_mul ring b c) ∙ ring.add_neg (ring.mul b c) in
      minus_same ring a b (zero_from d (λ nd. product_nonzero d.0 c.0 d.1 c.1 nd nc (ap (λ x. x.0) zero)))

-- The twist by the Frobenius.
module _ {E B : Type 0} (r : RingOps E) (inv : E → Option E) (base : RingOps B) (f : FrobOps E B) (k : IsField r inv) (l : IsFrobField r base f)
    (a b c : List E) (ca : is_canonical r a ≡ true) (cb : is_canonical r b ≡ true) (pc : is_canonical r c ≡ true) where
  pub frob_cancel_left : a ≢ [] → list_mul r f.frob a b ≡ list_mul r f.frob a c → b ≡ c
  frob_cancel_left some e =
      let ops = twisted_ops r f.frob in
      ap (λ x. x.0)
      (cancel_left r k.ring f.frob (frob_twist r inv base f k l) k.one_ne_zero (frob_no_divisors r inv base f k l) (a, ca) (b, cb) (c, pc) some
      (same_element ops _ _ e))

  pub frob_cancel_right : c ≢ [] → list_mul r f.frob a c ≡ list_mul r f.frob b c → a ≡ b
  frob_cancel_right some e =
      let ops = twisted_ops r f.frob in
      ap (λ x. x.0)
      (cancel_right r k.ring f.frob (frob_twist r inv base f k l) k.one_ne_zero (frob_no_divisors r inv base f k l) (a, ca) (b, cb) (c, pc) some
      (same_element ops _ _ e))
