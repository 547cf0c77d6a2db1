-- The laws of the ring of residues, for any constants and any storage.
use Rattle.std.proofs.Common.{◌≡◌, ◌≢◌, ℕ, zero, suc, ◌+◌, ◌-◌, ◌<◌, ◌≤◌, Bool, true, false, List, length, true≢false, sym, refl, ap, ap₂, subst, ◌∙◌, arith, add-one}
use mathlib.Core.Path.{fun_ext}
use mathlib.Core.HLevel.{hedberg}
use Rattle.ring_core.specs.Ring.{RingOps, IsElem, IsClosed, IsRing, IsCommutative}
use Rattle.ring_core.specs.Coeffs.{coeff, are_elems, sum_below}
use Rattle.ring_core.proofs.Coefficients.{elem_read, coeff_past}
use Rattle.ring_core.proofs.Carrier.{RingOn, Element, elements, same_element, mul_zero}
use Rattle.ring_core.proofs.Twist.{no_twist, conv_is_sum}
use Rattle.ring_core.proofs.Values.{HasValues, ring_from_values, comm_from_values}
use Rattle.finite_ring.proofs.FieldOf.{commute_on}
use Rattle.residue_field.specs.Residue.{constant_at, times_x, residue, product, Places, residue_ops}
use Rattle.residue_field.specs.steps.Stored.{IsMonic, IsPlaces}
use Rattle.residue_field.proofs.Act.{x_act, act, constant}
use Rattle.residue_field.proofs.Reduce.{convolve, HasTop, Residue, same_below, residues, times-comm, product-acts}

-- `same` decides, so the elements are a set
pub elements_set : {E : Type 0} (r : RingOps E) → IsRing r → IsSet (Element r)
elements_set {E} r h = hedberg (λ x y. dec_of x y (r.same x.0 y.0) refl)
  where
    dec_of : (x y : Element r) (b : Bool) → r.same x.0 y.0 ≡ b → Dec (x ≡ y)
    dec_of x y true e = yes (same_element r x y (h.equal.same_eq x.0 y.0 x.1 y.1 e))
    dec_of x y false e = no (λ d. true≢false (sym (h.equal.same_refl x.0 x.1) ∙ ap (λ z. r.same x.0 z.0) d ∙ e))

-- What contracts say of sequences is what holds of sequences of elements.
module _ {E : Type 0} (r : RingOps E) (h : IsRing r) where
  pub product-value : (a b : ℕ → Element r) (k : ℕ) → product r (λ i. (a i).0) (λ i. (b i).0) k ≡ (convolve (elements h) a b k).0
  product-value a b k =
      ap (λ m. sum_below r m (λ i. r.mul (a i).0 (b (k - i)).0)) (add-one k)
      ∙ sym (conv_is_sum r h (λ x i. x) (no_twist r) k a b)

  -- c = c 1
  pub constant-value : (x : Element r) (i : ℕ) → constant_at r x.0 i ≡ r.mul x.0 (constant (elements h) (elements h).one i).0
  constant-value x zero = sym (h.mul_one x.0 x.1)
  constant-value x (suc i) = sym (ap (λ y. y.0) (mul_zero (elements h) x))

  pub constant-is : (x : Element r) (i : ℕ) → constant_at r x.0 i ≡ (constant (elements h) x i).0
  constant-is x zero = refl
  constant-is x (suc i) = refl

  module _ (n : ℕ) (f : ℕ → Element r) where
    pub times-x-value : (v : ℕ → Element r) (i : ℕ) → times_x r n (λ j. (f j).0) (λ j. (v j).0) i ≡ (x_act (elements h) n f v i).0
    times-x-value v zero = refl
    times-x-value v (suc i) = refl

    pub residue-value : (k : ℕ) (a : ℕ → Element r) (i : ℕ) → residue r n (λ j. (f j).0) k (λ j. (a j).0) i ≡ (act (elements h) n f k a (constant (elements h) (elements h).one) i).0
    residue-value zero a i = refl
    residue-value (suc k) a i =
        let rest = λ (j : ℕ). a (suc j) in
        ap₂ r.add (constant-value (a 0) i)
        (ap (λ v. times_x r n (λ j. (f j).0) v i) (fun_ext (residue-value k rest))
        ∙ times-x-value (act (elements h) n f k rest (constant (elements h) (elements h).one)) i)

module _ {E T : Type 0} (r : RingOps E) (h : IsRing r) (commutes : IsCommutative r) (n : ℕ) (f : ℕ → E) (m : IsMonic r n f) (c : Places E T) (p : IsPlaces r n c) where
  abbrev pub modulus_on : ℕ → Element r
  modulus_on i = (f i, m.coeff_in i)

  pub has_top : HasTop (elements h) n modulus_on
  has_top = record {
    top = same_element r _ _ m.top;
    past = λ i l. same_element r _ _ (m.past i l);
  }

  -- the ring of sequences that are zero past n
  abbrev pub residue_ring_on : RingOn (Residue (elements h) n)
  residue_ring_on = residues (elements h) (elements_set r h) (commute_on r h commutes) n modulus_on has_top

  abbrev pub place_on : (t : T) → c.is_elem t ≡ true → ℕ → Element r
  place_on t e i = (c.place t i, p.place_in t i e)

  abbrev pub value_on : Element (residue_ops r n f c) → Residue (elements h) n
  value_on t = (place_on t.0 t.1, λ i l. same_element r _ _ (p.place_past t.0 i t.1 l))

  pub product-is : (a b : Element (residue_ops r n f c)) (i : ℕ)
      → residue r n f (n + 1 + (n + 1)) (product r (c.place a.0) (c.place b.0)) i
      ≡ (act (elements h) n modulus_on (suc n) (value_on a).0 (value_on b).0 i).0
  product-is a b i =
      let count : n + 1 + (n + 1) ≡ suc n + suc n = omega arith in
      let u = (value_on a).0 in
      let v = (value_on b).0 in
      ap (λ k. residue r n f k (product r (c.place a.0) (c.place b.0)) i) count
      ∙ ap (λ g. residue r n f (suc n + suc n) g i) (fun_ext (product-value r h u v))
      ∙ residue-value r h n modulus_on (suc n + suc n) (convolve (elements h) u v) i
      ∙ ap (λ x. x.0) (product-acts (elements h) (elements_set r h) (commute_on r h commutes) n modulus_on has_top (value_on a) (value_on b) i)

  pub constant-in : (b : E) → IsElem r b → (i : ℕ) → IsElem r (constant_at r b i)
  constant-in b e zero = e
  constant-in b e (suc i) = h.closed.zero_in

  pub product-in : (a b : Element (residue_ops r n f c)) (i : ℕ) → IsElem r (residue r n f (n + 1 + (n + 1)) (product r (c.place a.0) (c.place b.0)) i)
  product-in a b i = subst (IsElem r) (sym (product-is a b i)) (act (elements h) n modulus_on (suc n) (value_on a).0 (value_on b).0 i).1

  pub residue_closed : IsClosed (residue_ops r n f c)
  residue_closed = record {
    zero_in = p.pack_in _ (λ i. h.closed.zero_in);
    one_in = p.pack_in _ (constant-in r.one h.closed.one_in);
    add_in = λ a b s t. p.pack_in _ (λ i. h.closed.add_in _ _ (p.place_in a i s) (p.place_in b i t));
    neg_in = λ a s. p.pack_in _ (λ i. h.closed.neg_in _ (p.place_in a i s));
    mul_in = λ a b s t. p.pack_in _ (product-in (a, s) (b, t));
  }

  -- a packed sequence has the value that agrees with it below n + 1
  pub value-pack : (g : ℕ → E) (e : (i : ℕ) → IsElem r (g i)) (s : c.is_elem (c.pack g) ≡ true) (u : Residue (elements h) n)
      → ((i : ℕ) → i < suc n → g i ≡ (u.0 i).0) → value_on (c.pack g, s) ≡ u
  value-pack g e s u agree =
      same_below (elements h) (elements_set r h) n _ u (λ i l. same_element r _ _ (p.place_pack g i e l ∙ agree i l))

  pub residue_values : HasValues (residue_ops r n f c) residue_ring_on value_on
  residue_values = record {
    closed = residue_closed;
    equal = record { same_refl = p.same_refl; same_eq = p.same_eq };
    inj = λ x y e. p.place_inj x.0 y.0 x.1 y.1 (λ i l. ap (λ u. (u.0 i).0) e);
    zero = value-pack _ (λ i. h.closed.zero_in) _ _ (λ i l. refl);
    one = value-pack _ (constant-in r.one h.closed.one_in) _ _ (λ i l. constant-is r h (elements h).one i);
    add = λ x y. value-pack _ (λ i. h.closed.add_in _ _ (p.place_in x.0 i x.1) (p.place_in y.0 i y.1)) _ _ (λ i l. refl);
    neg = λ x. value-pack _ (λ i. h.closed.neg_in _ (p.place_in x.0 i x.1)) _ _ (λ i l. refl);
    mul = λ x y. value-pack _ (product-in x y) _ _ (λ i l. product-is x y i);
  }

  pub residue_ring : IsRing (residue_ops r n f c)
  residue_ring = ring_from_values (residue_ops r n f c) residue_ring_on value_on residue_values

  pub residue_commutes : IsCommutative (residue_ops r n f c)
  residue_commutes =
      comm_from_values (residue_ops r n f c) residue_ring_on value_on residue_values
      (times-comm (elements h) (elements_set r h) (commute_on r h commutes) n modulus_on has_top)

  -- one is not zero
  pub residue_one : r.one ≢ r.zero → (residue_ops r n f c).one ≢ (residue_ops r n f c).zero
  residue_one ne e =
      let low : 0 < suc n = omega arith in
      ne (sym (p.place_pack (constant_at r r.one) 0 (constant-in r.one h.closed.one_in) low)
      ∙ ap (λ t. c.place t 0) e ∙ p.place_pack (λ i. r.zero) 0 (λ i. h.closed.zero_in) low)

-- a list with one at its end is a monic polynomial
pub list_monic : {E : Type 0} (r : RingOps E) → IsElem r r.zero → (modulus : List E) → 2 ≤ length modulus → are_elems r modulus ≡ true
    → coeff r modulus (length modulus - 1) ≡ r.one → IsMonic r (length modulus - 2) (coeff r modulus)
list_monic r z modulus degree elems top =
    let is : suc (length modulus - 2) ≡ length modulus - 1 = omega arith in
    record {
      coeff_in = λ i. elem_read r modulus z elems i;
      top = ap (coeff r modulus) is ∙ top;
      past = λ i l. coeff_past r modulus i (omega arith);
    }
