-- Polynomials over a field, with any twist, with their lengths as sizes.
use Rattle.std.proofs.Common.{◌≡◌, ℕ, ◌+◌, ◌-◌, ◌<◌, ◌≤◌, true, Option, List, length, refl, sym, ◌∙◌, ap, ap₂, ⊎_elim, arith}
use Rattle.std.proofs.lemmas.Bool.{and_parts, cases_eq}
use Rattle.std.proofs.lemmas.List.{nil_from_length}
use Rattle.ring_core.specs.Ring.{RingOps, IsElem, IsRing}
use Rattle.ring_core.specs.Field.{IsField, FrobOps, IsFrobField}
use Rattle.ring_core.specs.Coeffs.{coeff, are_elems}
use Rattle.ring_core.specs.Twisted.{list_add, list_mul, twisted_ops}
use Rattle.ring_core.specs.Monomial.{monomial}
use Rattle.ring_core.proofs.Carrier.{RingOn, Element, same_element, elements, neg_mul, add_times_zero}
use Rattle.ring_core.proofs.Coefficients.{coeff_past, elem_read}
use Rattle.ring_core.proofs.Twist.{IsTwist, frob_twist, twist_of_zero}
use Rattle.ring_core.proofs.ListRing.{frob_ring, coeff-add, coeff-mul, mul_in, length-neg}
use Rattle.ring_core.proofs.Monomial.{monomial_in, monomial_product}
use Rattle.ring_core.proofs.Degrees.{HasNoDivisors, not_empty, length_below, degrees_add, frob_no_divisors}
use Rattle.euclid_theory.proofs.Sizes.{HasSizes}
use Rattle.euclid_theory.proofs.Lengths.{sum_length, top_inverse}

-- x - (x j) t = 0 where j t = 1
cancelled : {M : Type 0} (R : RingOn M) (x j t : M) → R.mul j t ≡ R.one → R.add x (R.mul (R.neg (R.mul x j)) t) ≡ R.zero
cancelled R x j t e =
    ap (R.add x) (neg_mul R (R.mul x j) t ∙ ap R.neg (R.mul_assoc x j t ∙ ap (R.mul x) e ∙ R.mul_one x)) ∙ R.add_neg x

module _ {E : Type 0} (r : RingOps E) (inv : E → Option E) (k : IsField r inv) (frob : E → ℕ → E) (t : IsTwist r frob) where
  -- what clears a coefficient x above the top c of a divisor, which was raised i times
  pub top_cancelled : (x c j : E) (i : ℕ) → IsElem r x → IsElem r c → IsElem r j → r.mul c j ≡ r.one → r.add x (r.mul (r.neg (r.mul x (frob j i))) (frob c i)) ≡ r.zero
  top_cancelled x c j i p q s e =
      ap (λ y. y.0)
      (cancelled (elements k.ring) (x, p) (frob j i, t.twist_in j i s) (frob c i, t.twist_in c i q)
      (same_element r _ _
      (sym (t.twist_mul j c i s q) ∙ ap (λ y. frob y i) (k.mul_comm j c s q ∙ e) ∙ t.twist_one i)))

  -- the coefficients of a + c tau^i b
  coeff-term_added : (a b : List E) (c : E) (i : ℕ) → are_elems r a ≡ true → are_elems r b ≡ true → IsElem r c → (j : ℕ) → i ≤ j
      → coeff r (list_add r a (list_mul r frob (monomial r c i) b)) j ≡ r.add (coeff r a j) (r.mul c (frob (coeff r b (j - i)) i))
  coeff-term_added a b c i p q s j m =
      let term = (and_parts _ _ (monomial_in r k.ring c i s)).0 in
      let product = (and_parts _ _ (mul_in r k.ring frob t (monomial r c i) b term q)).0 in
      coeff-add r k.ring a _ p product j
      ∙ ap (r.add (coeff r a j)) (coeff-mul r k.ring frob t (monomial r c i) b term q j ∙ monomial_product r k.ring frob t c i b s q j m)

  module _ (none : HasNoDivisors r frob) (ring : IsRing (twisted_ops r frob)) where
    abbrev polys : RingOn (Element (twisted_ops r frob))
    polys = elements ring

    lowers_by : (a b : Element (twisted_ops r frob)) → 0 < length b.0 → length b.0 ≤ length a.0 → (j : E) × (IsElem r j × (r.mul (coeff r b.0 (length b.0 - 1)) j ≡ r.one))
        → (x : Element (twisted_ops r frob)) × (length (polys.add a (polys.mul x b)).0 < length a.0)
    lowers_by a b pos high inverse =
        let z = k.ring.closed.zero_in in
        let j = inverse.0 in
        let i = length a.0 - length b.0 in
        let n = length a.0 - 1 in
        let top = coeff r a.0 n in
        let ea = (and_parts _ _ a.1).0 in
        let eb : are_elems r b.0 ≡ true = (and_parts _ _ b.1).0 in
        let top_in = elem_read r a.0 z ea n in
        let c = r.neg (r.mul top (frob j i)) in
        let c_in = k.ring.closed.neg_in _ (k.ring.closed.mul_in _ _ top_in (t.twist_in j i inverse.1.0)) in
        let x : Element (twisted_ops r frob) = (monomial r c i, monomial_in r k.ring c i c_in) in
        let sum = polys.add a (polys.mul x b) in
        let zeros : (m : ℕ) → length a.0 ≤ m + 1 → coeff r sum.0 m ≡ r.zero = λ m past.
        let up : i ≤ m = omega arith in
        coeff-term_added a.0 b.0 c i ea eb c_in m up
        ∙ ⊎_elim
        (λ (here : m ≡ n).
        let place : m - i ≡ length b.0 - 1 = omega arith in
        ap₂ (λ y s. r.add (coeff r a.0 y) (r.mul c (frob (coeff r b.0 s) i))) here place
        ∙ top_cancelled top (coeff r b.0 (length b.0 - 1)) j i top_in (elem_read r b.0 z eb (length b.0 - 1)) inverse.1.0 inverse.1.1)
        (λ (other : m ≡ n → ⊥).
        ap₂ (λ y s. r.add y (r.mul c (frob s i))) (coeff_past r a.0 m (omega arith)) (coeff_past r b.0 (m - i) (omega arith))
        ∙ ap (λ s. r.add r.zero (r.mul c s)) (twist_of_zero r k.ring frob t i)
        ∙ add_times_zero r k.ring r.zero c r.zero z c_in refl)
        (cases_eq m n) in
        (x, length_below r k.ring sum.0 (length a.0) (omega arith) (and_parts _ _ sum.1).1 zeros)

    pub twisted_sizes : HasSizes (elements ring) (λ u. length u.0)
    twisted_sizes = record {
      empty = λ x e. same_element (twisted_ops r frob) x polys.zero (nil_from_length x.0 e);
      none = refl;
      unit = refl;
      sum = λ x y n p q. sum_length r x.0 y.0 n p q;
      neg = λ x. length-neg r x.0;
      product = λ x y p q. degrees_add r k.ring frob t none x.0 y.0 x.1 y.1 (not_empty x.0 p) (not_empty y.0 q);
      lowers = λ a b p q. lowers_by a b p q (top_inverse r inv k b.0 b.1 p);
    }

module _ {E B : Type 0} (r : RingOps E) (inv : E → Option E) (base : RingOps B) (f : FrobOps E B) (k : IsField r inv) (l : IsFrobField r base f) where
  -- The twisted polynomials.
  abbrev pub Ores : Type 0
  Ores = Element (twisted_ops r f.frob)

  abbrev pub ores : RingOn Ores
  ores = elements (frob_ring r inv base f k l)

  abbrev pub size : Ores → ℕ
  size u = length u.0

  pub ore_sizes : HasSizes ores size
  ore_sizes = twisted_sizes r inv k f.frob (frob_twist r inv base f k l) (frob_no_divisors r inv base f k l) (frob_ring r inv base f k l)
