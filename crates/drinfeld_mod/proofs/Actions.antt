-- The action of polynomials over the base on a twisted polynomial: it keeps sums and products, and its
-- images commute with the image of the letter. Images by Horner's rule.
use Rattle.std.proofs.Common.{◌≡◌, ℕ, zero, suc, ◌+◌, ◌-◌, ◌<◌, ◌≤◌, max, true, Option, List, ◌∷◌, length, drop, refl, sym, ◌∙◌, ap, ap₂, arith}
use mathlib.Core.Path.{fun_ext}
use Rattle.std.proofs.lemmas.Bool.{and_parts}
use Rattle.std.proofs.lemmas.List.{drop_more}
use Rattle.ring_core.specs.Ring.{RingOps, IsElem}
use Rattle.ring_core.specs.Field.{IsField, FrobOps, IsFrobField}
use Rattle.ring_core.specs.Coeffs.{coeff, sum_below, are_elems, is_canonical}
use Rattle.ring_core.specs.Twisted.{IsTwist, twisted_ops, list_add, list_mul}
use Rattle.ring_core.specs.Monomial.{constant}
use Rattle.ring_core.proofs.Carrier.{RingOn, Element, same_element, elements, mul_zero}
use Rattle.ring_core.proofs.Series.{conv}
use Rattle.ring_core.proofs.Coefficients.{coeff_past, same_coeffs}
use Rattle.ring_core.proofs.Twist.{frob_twist, no_twist, total_is}
use Rattle.ring_core.proofs.ListRing.{value, add_in, mul_in, coeff-add, coeff-mul, frob_ring, length-add, length-list_of, product_is_conv}
use Rattle.ring_core.proofs.Monomial.{monomial_in, coeff-monomial_same, coeff-monomial_other, monomial_product}
use Rattle.ring_core.proofs.Central.{base_central}
use Rattle.ring_core.proofs.PowerLaws.{elems_drop}
use Rattle.finite_ring.proofs.Powers.{power_value}
use Rattle.twist_theory.proofs.Points.{IsPoint, at_point, point_add, point_first, point_mul, point_commutes, point_longer}
use Rattle.euclid_theory.proofs.OreSizes.{Ores, ores}
use Rattle.drinfeld_mod.specs.Image.{image}

module _ {E B : Type 0} (r : RingOps E) (inv : E → Option E) (base : RingOps B) (base_inv : B → Option B) (f : FrobOps E B) (k : IsField r inv) (kb : IsField base base_inv) (l : IsFrobField r base f) where
  abbrev S : RingOn (Ores r inv base f k l)
  S = ores r inv base f k l

  abbrev K : RingOn (Element base)
  K = elements kb.ring

  t : IsTwist r f.frob
  t = frob_twist r inv base f k l

  -- A constant of the base as a twisted polynomial.
  abbrev pub up : Element base → Ores r inv base f k l
  up b = (constant r (f.embed b.0), monomial_in r k.ring (f.embed b.0) 0 (l.embed_in b.0 b.1))

  constant_elems : (x : E) → IsElem r x → are_elems r (constant r x) ≡ true
  constant_elems x p = (and_parts _ _ (monomial_in r k.ring x 0 p)).0

  -- a polynomial with no coefficients past the first is a constant
  constant_is : (x : E) (u : List E) → IsElem r x → is_canonical r u ≡ true → coeff r u 0 ≡ x → ((i : ℕ) → coeff r u (suc i) ≡ r.zero) → constant r x ≡ u
  constant_is x u p c first past =
      same_coeffs r k.ring.closed.zero_in k.ring.equal (constant r x) u (and_parts _ _ (monomial_in r k.ring x 0 p)).1 (and_parts _ _ c).1 (each x u p first past)
    where
      each : (x : E) (u : List E) → IsElem r x → coeff r u 0 ≡ x → ((i : ℕ) → coeff r u (suc i) ≡ r.zero) → (i : ℕ) → coeff r (constant r x) i ≡ coeff r u i
      each x u p first past zero = coeff-monomial_same r k.ring x 0 p ∙ sym first
      each x u p first past (suc i) = coeff-monomial_other r k.ring x 0 (suc i) p (λ e. cc) ∙ sym (past i)

  -- constants keep sums and products
  constant_add : (a b : E) → IsElem r a → IsElem r b → constant r (r.add a b) ≡ list_add r (constant r a) (constant r b)
  constant_add a b p q =
      let ea = constant_elems a p in
      let eb = constant_elems b q in
      constant_is (r.add a b) _ (k.ring.closed.add_in a b p q) (add_in r k.ring _ _ ea eb)
      (coeff-add r k.ring _ _ ea eb 0 ∙ ap₂ r.add (coeff-monomial_same r k.ring a 0 p) (coeff-monomial_same r k.ring b 0 q))
      (λ i.
      coeff-add r k.ring _ _ ea eb (suc i)
      ∙ ap₂ r.add (coeff-monomial_other r k.ring a 0 (suc i) p (λ e. cc)) (coeff-monomial_other r k.ring b 0 (suc i) q (λ e. cc))
      ∙ k.ring.zero_add r.zero k.ring.closed.zero_in)

  constant_times : (a b : E) → IsElem r a → IsElem r b → constant r (r.mul a b) ≡ list_mul r f.frob (constant r a) (constant r b)
  constant_times a b p q =
      let ea = constant_elems a p in
      let eb = constant_elems b q in
      constant_is (r.mul a b) _ (k.ring.closed.mul_in a b p q) (mul_in r k.ring f.frob t _ _ ea eb)
      (times a b p q ea eb 0 ∙ ap (r.mul a) (coeff-monomial_same r k.ring b 0 q))
      (λ i.
      times a b p q ea eb (suc i) ∙ ap (r.mul a) (coeff-monomial_other r k.ring b 0 (suc i) q (λ e. cc))
      ∙ ap (λ y. y.0) (mul_zero (elements k.ring) (a, p)))
    where
      times : (a b : E) → IsElem r a → IsElem r b → are_elems r (constant r a) ≡ true → (eb : are_elems r (constant r b) ≡ true) (i : ℕ)
          → coeff r (list_mul r f.frob (constant r a) (constant r b)) i ≡ r.mul a (coeff r (constant r b) i)
      times a b p q ea eb i =
          coeff-mul r k.ring f.frob t (constant r a) (constant r b) ea eb i ∙ monomial_product r k.ring f.frob t a 0 (constant r b) p eb i (omega arith)
          ∙ ap (r.mul a) (l.frob_zero _ (value r k.ring (constant r b) eb (i - 0)).1 ∙ ap (coeff r (constant r b)) (omega arith))

  module _ (phi : List E) (c : is_canonical r phi ≡ true) where
    abbrev pub point : Ores r inv base f k l
    point = (phi, c)

    pub acts : IsPoint K S up point
    acts = record {
      add = λ a b.
          same_element (twisted_ops r f.frob) (up (K.add a b)) (S.add (up a) (up b))
          (ap (constant r) (l.embed_add a.0 b.0 a.1 b.1) ∙ constant_add (f.embed a.0) (f.embed b.0) (l.embed_in a.0 a.1) (l.embed_in b.0 b.1));
      mul = λ a b.
          same_element (twisted_ops r f.frob) (up (K.mul a b)) (S.mul (up a) (up b))
          (ap (constant r) (l.embed_mul a.0 b.0 a.1 b.1) ∙ constant_times (f.embed a.0) (f.embed b.0) (l.embed_in a.0 a.1) (l.embed_in b.0 b.1));
      commutes = λ a.
          same_element (twisted_ops r f.frob) (S.mul point (up a)) (S.mul (up a) point)
          (sym (base_central r inv base f k l a.0 phi a.1 (and_parts _ _ c).0));
    }

    -- The value of a sequence of coefficients at the image of T.
    abbrev pub at : ℕ → (ℕ → Element base) → Ores r inv base f k l
    at n a = at_point K S up point acts n a

    abbrev pub coeffs : (a : List B) → are_elems base a ≡ true → ℕ → Element base
    coeffs a e = value base kb.ring a e

    pub image_is : (a : List B) (e : are_elems base a ≡ true) → (at (length a) (coeffs a e)).0 ≡ image r base f phi a
    image_is a e =
        let ops = twisted_ops r f.frob in
        total_is ops (frob_ring r inv base f k l) (length a) _
        ∙ ap (sum_below ops (length a))
        (fun_ext (λ i. ap (list_mul r f.frob (constant r (f.embed (coeff base a i)))) (power_value ops (frob_ring r inv base f k l) point i)))

    -- more terms than there are coefficients
    image_wide : (a : List B) (e : are_elems base a ≡ true) (n : ℕ) → length a ≤ n → (at n (coeffs a e)).0 ≡ image r base f phi a
    image_wide a e n wide =
        ap (λ u. u.0) (point_longer K S up point acts (length a) n (coeffs a e) wide (λ i past. same_element base _ _ (coeff_past base a i past)))
        ∙ image_is a e

    pub image_in : (a : List B) → are_elems base a ≡ true → is_canonical r (image r base f phi a) ≡ true
    image_in a e = ap (is_canonical r) (sym (image_is a e)) ∙ (at (length a) (coeffs a e)).1

    pub image_add : (a b : List B) → are_elems base a ≡ true → are_elems base b ≡ true → image r base f phi (list_add base a b) ≡ list_add r (image r base f phi a) (image r base f phi b)
    image_add a b ea eb =
        let n = max (length a) (length b) in
        let sum = list_add base a b in
        let es : are_elems base sum ≡ true = (and_parts _ _ (add_in base kb.ring a b ea eb)).0 in
        let read : (i : ℕ) → coeffs sum es i ≡ K.add (coeffs a ea i) (coeffs b eb i) = λ i. same_element base _ _ (coeff-add base kb.ring a b ea eb i) in
        sym (image_wide sum es n (length-add base a b))
        ∙ ap (λ u. u.0) (ap (at n) (fun_ext read) ∙ point_add K S up point acts n (coeffs a ea) (coeffs b eb))
        ∙ ap₂ (list_add r) (image_wide a ea n (omega arith)) (image_wide b eb n (omega arith))

    pub image_mul : (a b : List B) → are_elems base a ≡ true → are_elems base b ≡ true → image r base f phi (list_mul base (λ x i. x) a b) ≡ list_mul r f.frob (image r base f phi a) (image r base f phi b)
    image_mul a b ea eb =
        let plain = no_twist base in
        let n = length a + length b in
        let product = list_mul base (λ x i. x) a b in
        let ep : are_elems base product ≡ true = (and_parts _ _ (mul_in base kb.ring (λ x i. x) plain a b ea eb)).0 in
        let read : (i : ℕ) → coeffs product ep i ≡ conv K (λ y. y) i (coeffs a ea) (coeffs b eb) = λ i.
        same_element base _ _ (coeff-mul base kb.ring (λ x j. x) plain a b ea eb i ∙ product_is_conv base kb.ring (λ x j. x) plain a b ea eb i) in
        sym (image_wide product ep n (length-list_of base n _))
        ∙ ap (λ u. u.0)
        (ap (at n) (fun_ext read)
        ∙ point_mul K S up point acts (length a) (length b) (coeffs a ea) (coeffs b eb)
        (λ i past. same_element base _ _ (coeff_past base a i past)) (λ i past. same_element base _ _ (coeff_past base b i past)))
        ∙ ap₂ (list_mul r f.frob) (image_is a ea) (image_is b eb)

    -- the image commutes with that of T
    pub image_central : (a : List B) → are_elems base a ≡ true → list_mul r f.frob phi (image r base f phi a) ≡ list_mul r f.frob (image r base f phi a) phi
    image_central a e =
        ap (list_mul r f.frob phi) (sym (image_is a e)) ∙ ap (λ u. u.0) (point_commutes K S up point acts (length a) (coeffs a e))
        ∙ ap (λ u. list_mul r f.frob u phi) (image_is a e)

    -- the first coefficient, and the image of the others times phi
    image_cons : (x : B) (u : List B) → are_elems base (x ∷ u) ≡ true → image r base f phi (x ∷ u) ≡ list_add r (constant r (f.embed x)) (list_mul r f.frob (image r base f phi u) phi)
    image_cons x u e =
        let eu : are_elems base u ≡ true = (and_parts (base.is_elem x) _ e).1 in
        let rest : (λ (i : ℕ). coeffs (x ∷ u) e (suc i)) ≡ coeffs u eu = fun_ext (λ i. same_element base _ _ refl) in
        sym (image_is (x ∷ u) e) ∙ ap (λ v. v.0) (point_first K S up point acts (length u) (coeffs (x ∷ u) e))
        ∙ ap (λ v. list_add r (constant r (f.embed x)) (list_mul r f.frob v phi)) (ap (λ c. (at (length u) c).0) rest ∙ image_is u eu)

    -- one step of Horner's rule, from the top down
    pub image_step : (a : List B) (j : ℕ) → are_elems base a ≡ true → j < length a
        → image r base f phi (drop j a) ≡ list_add r (constant r (f.embed (coeff base a j))) (list_mul r f.frob (image r base f phi (drop (j + 1) a)) phi)
    image_step a j e within =
        let split : drop j a ≡ coeff base a j ∷ drop (j + 1) a = drop_more a j base.zero within in
        ap (image r base f phi) split ∙ image_cons (coeff base a j) (drop (j + 1) a) (ap (are_elems base) (sym split) ∙ elems_drop base kb.ring j a e)
