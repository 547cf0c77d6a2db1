-- The polynomials over a ring, with any twist, are a ring: their values are the sequences of their coefficients.
use Rattle.std.proofs.Common.{◌≡◌, ◌≢◌, ℕ, zero, suc, ◌+◌, ◌-◌, ◌<◌, ◌≤◌, ◌⊎◌, inl, inr, max, true, not, Option, List, [], ◌∷◌, length, refl, sym, ◌∙◌, ap, ap₂, ⊎_elim, arith}
use Rattle.std.proofs.lemmas.Bool.{and_parts, and_from, cases_lt, false_from_ne_true}
use mathlib.Core.Path.{fun_ext}
use Rattle.ring_core.specs.Ring.{RingOps, IsElem, IsClosed, SameDecides, IsRing, IsCommutative}
use Rattle.ring_core.specs.Field.{IsField, FrobOps, IsFrobField}
use Rattle.ring_core.specs.Coeffs.{coeff, sum_below, is_canonical, are_elems, first_values, list_of}
use Rattle.ring_core.specs.Twisted.{list_add, list_neg, product_at, list_mul, twisted_ops}
use Rattle.ring_core.proofs.Carrier.{Element, same_element, elements, zero_mul, mul_zero, neg_zero}
use Rattle.ring_core.proofs.Series.{conv, unit, series, conv_comm}
use Rattle.ring_core.proofs.Values.{HasValues, ring_from_values, comm_from_values}
use Rattle.ring_core.proofs.Coefficients.{coeff_past, elem_read, canonical-list_of, coeff-list_of, length-trim, same_coeffs, same_lists-refl, same_lists-eq}
use Rattle.ring_core.proofs.FirstValues.{length-first_values}
use Rattle.ring_core.proofs.Twist.{IsTwist, no_twist, frob_twist, sum_of_zeros, sum_single, twist_of_zero, twist, twist_endo, conv_is_sum}

module _ {E : Type 0} (r : RingOps E) where
  pub length-list_of : (n : ℕ) (f : ℕ → E) → length (list_of r n f) ≤ n
  length-list_of n f = omega (arith, length-trim r (first_values n f), length-first_values n f)

  pub length-add : (a b : List E) → length (list_add r a b) ≤ max (length a) (length b)
  length-add a b = length-list_of (max (length a) (length b)) _

  pub length-neg : (a : List E) → length (list_neg r a) ≤ length a
  length-neg a = length-list_of (length a) _

module _ {E : Type 0} (r : RingOps E) (h : IsRing r) where
  -- The coefficients, as elements.
  abbrev pub value : (u : List E) → are_elems r u ≡ true → ℕ → Element r
  value u e i = (coeff r u i, elem_read r u h.closed.zero_in e i)

  pub add_in : (a b : List E) → are_elems r a ≡ true → are_elems r b ≡ true → is_canonical r (list_add r a b) ≡ true
  add_in a b p q =
      canonical-list_of r (max (length a) (length b)) _ (λ i l. h.closed.add_in _ _ (value a p i).1 (value b q i).1)

  pub neg_in : (a : List E) → are_elems r a ≡ true → is_canonical r (list_neg r a) ≡ true
  neg_in a p = canonical-list_of r (length a) _ (λ i l. h.closed.neg_in _ (value a p i).1)

  pub coeff-add : (a b : List E) → are_elems r a ≡ true → are_elems r b ≡ true → (i : ℕ) → coeff r (list_add r a b) i ≡ r.add (coeff r a i) (coeff r b i)
  coeff-add a b p q i =
      coeff-list_of r h.closed.zero_in h.equal _ _ (λ j. h.closed.add_in _ _ (value a p j).1 (value b q j).1)
      (λ j (l : max (length a) (length b) ≤ j).
      ap₂ r.add (coeff_past r a j (omega arith)) (coeff_past r b j (omega arith)) ∙ h.zero_add r.zero h.closed.zero_in)
      i

  pub coeff-neg : (a : List E) → are_elems r a ≡ true → (i : ℕ) → coeff r (list_neg r a) i ≡ r.neg (coeff r a i)
  coeff-neg a p i =
      coeff-list_of r h.closed.zero_in h.equal _ _ (λ j. h.closed.neg_in _ (value a p j).1)
      (λ j (l : length a ≤ j). ap r.neg (coeff_past r a j l) ∙ ap (λ x. x.0) (neg_zero (elements h)))
      i

module _ {E : Type 0} (r : RingOps E) (h : IsRing r) (frob : E → ℕ → E) (t : IsTwist r frob) where
  pub product_is_conv : (a b : List E) (p : are_elems r a ≡ true) (q : are_elems r b ≡ true) (k : ℕ) → product_at r frob a b k ≡ (conv (elements h) (twist r h frob t 1) k (value r h a p) (value r h b q)).0
  product_is_conv a b p q k =
      let one_more : k + 1 ≡ suc k = omega arith in
      ap (λ n. sum_below r n (λ i. r.mul (coeff r a i) (frob (coeff r b (k - i)) i))) one_more
      ∙ sym (conv_is_sum r h frob t k (value r h a p) (value r h b q))

  pub product_in : (a b : List E) → are_elems r a ≡ true → are_elems r b ≡ true → (k : ℕ) → IsElem r (product_at r frob a b k)
  product_in a b p q k =
      rw (product_is_conv a b p q k) (conv (elements h) (twist r h frob t 1) k (value r h a p) (value r h b q)).1

  module _ (a b : List E) (p : are_elems r a ≡ true) (q : are_elems r b ≡ true) (k : ℕ) where
    -- the term at i of the coefficient at k has a factor that is zero
    abbrev pub Vanishes : ℕ → Type 0
    Vanishes i = (coeff r a i ≡ r.zero) ⊎ (coeff r b (k - i) ≡ r.zero)

    term_zero : (i : ℕ) → Vanishes i → r.mul (coeff r a i) (frob (coeff r b (k - i)) i) ≡ r.zero
    term_zero i o = elim o [
      | inl e ↦ ap (λ c. r.mul c (frob (coeff r b (k - i)) i)) e ∙ ap (λ x. x.0) (zero_mul (elements h) (twist r h frob t i (value r h b q (k - i))))
      | inr e ↦ ap (r.mul (coeff r a i)) (ap (λ c. frob c i) e ∙ twist_of_zero r h frob t i) ∙ ap (λ x. x.0) (mul_zero (elements h) (value r h a p i))
    ]

    -- as where the one factor ends before the other begins
    pub vanishes_past : (i : ℕ) → (i < length a → length b ≤ k - i) → Vanishes i
    vanishes_past i far =
        ⊎_elim
        (λ (low : i < length a). inr (coeff_past r b (k - i) (far low)))
        (λ (high : length a ≤ i). inl (coeff_past r a i high))
        (cases_lt i (length a))

    pub product_zero : ((i : ℕ) → i ≤ k → Vanishes i) → product_at r frob a b k ≡ r.zero
    product_zero z = sum_of_zeros r h (k + 1) _ (λ i l. term_zero i (z i (omega arith)))

    -- a coefficient with one term that may differ from zero
    pub product_single : (m : ℕ) → m ≤ k → ((i : ℕ) → i ≤ k → i ≢ m → Vanishes i) → product_at r frob a b k ≡ r.mul (coeff r a m) (frob (coeff r b (k - m)) m)
    product_single m l z =
        sum_single r h (k + 1) _ m (omega arith) (h.closed.mul_in _ _ (value r h a p m).1 (twist r h frob t m (value r h b q (k - m))).1)
        (λ i b apart. term_zero i (z i (omega arith) apart))

  pub product_past : (a b : List E) → are_elems r a ≡ true → are_elems r b ≡ true → (k : ℕ) → length a + length b ≤ k → product_at r frob a b k ≡ r.zero
  product_past a b p q k past = product_zero a b p q k (λ i l. vanishes_past a b p q k i (λ low. omega arith))

  pub mul_in : (a b : List E) → are_elems r a ≡ true → are_elems r b ≡ true → is_canonical r (list_mul r frob a b) ≡ true
  mul_in a b p q = canonical-list_of r (length a + length b) _ (λ i l. product_in a b p q i)

  pub coeff-mul : (a b : List E) → are_elems r a ≡ true → are_elems r b ≡ true → (i : ℕ) → coeff r (list_mul r frob a b) i ≡ product_at r frob a b i
  coeff-mul a b p q i =
      coeff-list_of r h.closed.zero_in h.equal _ _ (product_in a b p q) (product_past a b p q) i

module _ {E : Type 0} (r : RingOps E) (h : IsRing r) (frob : E → ℕ → E) (t : IsTwist r frob) (ne : r.one ≢ r.zero) where
  one_in : is_canonical r (r.one ∷ []) ≡ true
  one_in =
      and_from _ _ (and_from _ _ h.closed.one_in refl)
      (ap not (false_from_ne_true _ (λ s. ne (h.equal.same_eq r.one r.zero h.closed.one_in h.closed.zero_in s))))

  pub twisted_closed : IsClosed (twisted_ops r frob)
  twisted_closed = record {
    zero_in = refl;
    one_in = one_in;
    add_in = λ a b p q. add_in r h a b (and_parts _ _ p).0 (and_parts _ _ q).0;
    neg_in = λ a p. neg_in r h a (and_parts _ _ p).0;
    mul_in = λ a b p q. mul_in r h frob t a b (and_parts _ _ p).0 (and_parts _ _ q).0;
  }

  twisted_same : SameDecides (twisted_ops r frob)
  twisted_same = record {
    same_refl = λ a p. same_lists-refl r h.closed.zero_in h.equal a (and_parts _ _ p).0;
    same_eq = λ a b p q s. same_lists-eq r h.closed.zero_in h.equal a b (and_parts _ _ p).0 (and_parts _ _ q).0 s;
  }

  coeff-one : (i : ℕ) → coeff r (r.one ∷ []) i ≡ (unit (elements h) i).0
  coeff-one zero = refl
  coeff-one (suc i) = refl

  abbrev values : Element (twisted_ops r frob) → ℕ → Element r
  values x = value r h x.0 (and_parts _ _ x.1).0

  twisted_values : HasValues (twisted_ops r frob) (series (elements h) (twist r h frob t 1) (twist_endo r h frob t 1)) values
  twisted_values = record {
    closed = twisted_closed;
    equal = twisted_same;
    inj = λ x y e.
        same_coeffs r h.closed.zero_in h.equal x.0 y.0 (and_parts _ _ x.1).1 (and_parts _ _ y.1).1 (λ i. ap (λ s. (s i).0) e);
    zero = fun_ext (λ i. same_element r _ _ refl);
    one = fun_ext (λ i. same_element r _ _ (coeff-one i));
    add = λ x y.
        fun_ext (λ i. same_element r _ _ (coeff-add r h x.0 y.0 (and_parts _ _ x.1).0 (and_parts _ _ y.1).0 i));
    neg = λ x. fun_ext (λ i. same_element r _ _ (coeff-neg r h x.0 (and_parts _ _ x.1).0 i));
    mul = λ x y.
        fun_ext (λ i.
        same_element r _ _
        (coeff-mul r h frob t x.0 y.0 (and_parts _ _ x.1).0 (and_parts _ _ y.1).0 i
        ∙ product_is_conv r h frob t x.0 y.0 (and_parts _ _ x.1).0 (and_parts _ _ y.1).0 i));
  }

  -- The twisted polynomials over a ring in which one isn't zero are a ring.
  pub twisted_ring : IsRing (twisted_ops r frob)
  twisted_ring = ring_from_values _ _ values twisted_values

-- The twisted polynomials over a field with its Frobenius are a ring.
pub frob_ring : {E B : Type 0} (r : RingOps E) (inv : E → Option E) (base : RingOps B) (f : FrobOps E B) → IsField r inv → IsFrobField r base f → IsRing (twisted_ops r f.frob)
frob_ring r inv base f k l =
    twisted_ring r k.ring f.frob (frob_twist r inv base f k l) k.one_ne_zero

-- Polynomials in a letter that commutes with its coefficients, over a commutative ring, are one.
module _ {E : Type 0} (r : RingOps E) (h : IsRing r) (ne : r.one ≢ r.zero) where
  pub poly_ring : IsRing (twisted_ops r (λ c i. c))
  poly_ring = twisted_ring r h (λ c i. c) (no_twist r) ne

  pub poly_comm : IsCommutative r → IsCommutative (twisted_ops r (λ c i. c))
  poly_comm comm =
      comm_from_values _ _ (values r h (λ c i. c) (no_twist r) ne) (twisted_values r h (λ c i. c) (no_twist r) ne)
      (λ a b. fun_ext (λ i. conv_comm (elements h) (λ x y. same_element r _ _ (comm x.0 y.0 x.1 y.1)) i a b))
