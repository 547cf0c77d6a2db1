-- What the product with a twist needs of the twist, and the coefficients of such a product as sums.
use native.Mathlib.Nat.{div-add-mod}
use Rattle.std.proofs.Common.{◌≡◌, ◌≢◌, ℕ, zero, suc, ◌+◌, ◌-◌, ◌*◌, ◌/◌, ◌%◌, ◌<◌, Option, None, Some, MatchOption, ⊎_elim, refl, sym, ◌∙◌, ap, ap₂, arith, mul-zero, mul-suc}
use mathlib.Core.Path.{fun_ext}
use Rattle.std.proofs.lemmas.Bool.{cases_eq}
use Rattle.ring_core.specs.Ring.{RingOps, IsElem, IsRing}
use Rattle.ring_core.specs.Field.{IsField, FrobOps, IsFrobField}
use Rattle.ring_core.specs.Coeffs.{sum_below}
pub use Rattle.ring_core.specs.Twisted.{IsTwist}
use Rattle.ring_core.proofs.Carrier.{Element, same_element, elements, zero_only, add_zero}
use Rattle.ring_core.proofs.Series.{IsEndo, conv, total, total_first}

-- The trivial twist.
abbrev pub no_twist : {E : Type 0} (r : RingOps E) → IsTwist r (λ c i. c)
no_twist r = record {
  twist_in = λ c i p. p;
  twist_zero = λ c p. refl;
  twist_plus = λ c i j p. refl;
  twist_add = λ a b i p q. refl;
  twist_mul = λ a b i p q. refl;
  twist_one = λ i. refl;
}

module _ {E : Type 0} (r : RingOps E) (h : IsRing r) where
  pub total_is : (n : ℕ) (g : ℕ → Element r) → (total (elements h) n g).0 ≡ sum_below r n (λ i. (g i).0)
  total_is zero g = refl
  total_is (suc n) g = ap (λ s. r.add s (g n).0) (total_is n g)

  pub sum_in : (n : ℕ) (g : ℕ → E) → ((i : ℕ) → i < n → IsElem r (g i)) → IsElem r (sum_below r n g)
  sum_in zero g p = h.closed.zero_in
  sum_in (suc n) g p =
      h.closed.add_in _ _ (sum_in n g (λ i (l : i < n). p i (omega arith))) (p n (omega arith))

  -- the first term in front
  pub sum_first : (n : ℕ) (g : ℕ → E) → ((i : ℕ) → IsElem r (g i)) → sum_below r (suc n) g ≡ r.add (g 0) (sum_below r n (λ i. g (suc i)))
  sum_first n g p =
      let terms : ℕ → Element r = λ i. (g i, p i) in
      sym (total_is (suc n) terms) ∙ ap (λ x. x.0) (total_first (elements h) n terms)
      ∙ ap (r.add (g 0)) (total_is n (λ i. terms (suc i)))

  pub sum_of_zeros : (n : ℕ) (g : ℕ → E) → ((i : ℕ) → i < n → g i ≡ r.zero) → sum_below r n g ≡ r.zero
  sum_of_zeros zero g e = refl
  sum_of_zeros (suc n) g e =
      ap₂ r.add (sum_of_zeros n g (λ i (l : i < n). e i (omega arith))) (e n (omega arith))
      ∙ h.zero_add r.zero h.closed.zero_in

  -- a sum with one term that may differ from zero
  pub sum_single : (n : ℕ) (g : ℕ → E) (k : ℕ) → k < n → IsElem r (g k) → ((i : ℕ) → i < n → i ≢ k → g i ≡ r.zero) → sum_below r n g ≡ g k
  sum_single zero g k l p e = absurd (omega arith)
  sum_single (suc n) g k l p e =
      ⊎_elim
      (λ (here : k ≡ n).
      ap₂ r.add (sum_of_zeros n g (λ i (m : i < n). let apart : i ≢ k = omega arith in e i (omega arith) apart)) (ap g (sym here)) ∙ h.zero_add (g k) p)
      (λ (other : k ≢ n).
      let apart : n ≢ k = omega arith in
      ap₂ r.add (sum_single n g k (omega arith) p (λ i (m : i < n). e i (omega arith))) (e n (omega arith) apart)
      ∙ ap (λ x. x.0) (add_zero (elements h) (g k, p)))
      (cases_eq k n)

  pub sum_same : (n : ℕ) (g k : ℕ → E) → ((i : ℕ) → i < n → g i ≡ k i) → sum_below r n g ≡ sum_below r n k
  sum_same zero g k e = refl
  sum_same (suc n) g k e =
      ap₂ r.add (sum_same n g k (λ i (l : i < n). e i (omega arith))) (e n (omega arith))

  -- zero is its own image under any additive map
  pub image_of_zero : (f : E → E) → ((a : E) → IsElem r a → IsElem r (f a)) → ((a b : E) → IsElem r a → IsElem r b → f (r.add a b) ≡ r.add (f a) (f b)) → f r.zero ≡ r.zero
  image_of_zero f inside keeps =
      let z = h.closed.zero_in in
      let image : Element r = (f r.zero, inside r.zero z) in
      ap (λ x. x.0) (zero_only (elements h) image (same_element r _ _ (sym (keeps r.zero r.zero z z) ∙ ap f (h.zero_add r.zero z))))

module _ {E : Type 0} (r : RingOps E) (h : IsRing r) (frob : E → ℕ → E) (t : IsTwist r frob) where
  pub twist_of_zero : (i : ℕ) → frob r.zero i ≡ r.zero
  twist_of_zero i = image_of_zero r h (λ c. frob c i) (λ a p. t.twist_in a i p) (λ a b p q. t.twist_add a b i p q)

  -- The twist on the elements.
  abbrev pub twist : ℕ → Element r → Element r
  twist i x = (frob x.0 i, t.twist_in x.0 i x.1)

  pub twist_endo : (i : ℕ) → IsEndo (elements h) (twist i)
  twist_endo i = record {
    add = λ a b. same_element r _ _ (t.twist_add a.0 b.0 i a.1 b.1);
    mul = λ a b. same_element r _ _ (t.twist_mul a.0 b.0 i a.1 b.1);
    zero = same_element r _ _ (twist_of_zero i);
    one = same_element r _ _ (t.twist_one i);
  }

  -- a coefficient that the first step of the twist has raised, at the next place
  raised : (n i : ℕ) (b : ℕ → Element r) → frob (frob (b (n - i)).0 1) i ≡ frob (b (suc n - suc i)).0 (suc i)
  raised n i b =
      let place : n - i ≡ suc n - suc i = omega arith in
      let power : 1 + i ≡ suc i = omega arith in
      sym (t.twist_plus (b (n - i)).0 1 i (b (n - i)).1) ∙ ap₂ (λ m j. frob (b m).0 j) place power

  -- a coefficient of a product, as its definition has it
  pub conv_is_sum : (n : ℕ) (a b : ℕ → Element r) → (conv (elements h) (twist 1) n a b).0 ≡ sum_below r (suc n) (λ i. r.mul (a i).0 (frob (b (n - i)).0 i))
  conv_is_sum zero a b =
      ap (r.mul (a 0).0) (sym (t.twist_zero (b 0).0 (b 0).1))
      ∙ sym (h.zero_add _ (h.closed.mul_in _ _ (a 0).1 (twist 0 (b 0)).1))
  conv_is_sum (suc n) a b =
      let term : ℕ → E = λ i. r.mul (a i).0 (frob (b (suc n - i)).0 i) in
      let last : suc n ≡ suc n - 0 = omega arith in
      ap (r.add (r.mul (a 0).0 (b (suc n)).0)) (conv_is_sum n (λ i. a (suc i)) (λ j. twist 1 (b j)))
      ∙ ap₂ r.add
      (ap (r.mul (a 0).0) (sym (t.twist_zero (b (suc n)).0 (b (suc n)).1) ∙ ap (λ m. frob (b m).0 0) last))
      (ap (sum_below r (suc n)) (fun_ext (λ i. ap (r.mul (a (suc i)).0) (raised n i b))))
      ∙ sym (sum_first r h (suc n) term (λ i. h.closed.mul_in _ _ (a i).1 (twist i (b (suc n - i))).1))

-- The Frobenius of a field is a twist.
module _ {E B : Type 0} (r : RingOps E) (inv : E → Option E) (base : RingOps B) (f : FrobOps E B) (k : IsField r inv) (l : IsFrobField r base f) where
  -- an element that is its own square is zero or one
  pub square_only : (a : E) → IsElem r a → r.mul a a ≡ a → a ≢ r.zero → (o : Option E) → MatchOption o (a ≡ r.zero) (λ b. IsElem r b × (r.mul a b ≡ r.one)) → a ≡ r.one
  square_only a p e nonzero None inverse = absurd (nonzero inverse)
  square_only a p e nonzero (Some b) inverse =
      let ring = k.ring in
      sym (ring.mul_one a p) ∙ ap (r.mul a) (sym inverse.1) ∙ sym (ring.mul_assoc a a b p p inverse.0)
      ∙ ap (λ x. r.mul x b) e ∙ inverse.1

  pub frob_of_zero : (i : ℕ) → f.frob r.zero i ≡ r.zero
  frob_of_zero i =
      image_of_zero r k.ring (λ c. f.frob c i) (λ a p. l.frob_in a i p) (λ a b p q. l.frob_add a b i p q)

  pub frob_of_one : (i : ℕ) → f.frob r.one i ≡ r.one
  frob_of_one i =
      let closed = k.ring.closed in
      let image = f.frob r.one i in
      let inside = l.frob_in r.one i closed.one_in in
      square_only image inside
      (sym (l.frob_mul r.one r.one i closed.one_in closed.one_in) ∙ ap (λ c. f.frob c i) (k.ring.one_mul r.one closed.one_in))
      (λ e. k.one_ne_zero (l.frob_inj r.one r.zero i closed.one_in closed.zero_in (e ∙ sym (frob_of_zero i))))
      (inv image) (k.inv_is image inside)

  pub frob_twist : IsTwist r f.frob
  frob_twist = record {
    twist_in = l.frob_in;
    twist_zero = l.frob_zero;
    twist_plus = l.frob_plus;
    twist_add = l.frob_add;
    twist_mul = l.frob_mul;
    twist_one = frob_of_one;
  }

-- The Frobenius comes back to where it was after `degree` steps, so its steps count modulo the degree.
module _ {E B : Type 0} (r : RingOps E) (base : RingOps B) (f : FrobOps E B) (laws : IsFrobField r base f) where
  pub frob_round : (c : E) (m : ℕ) → IsElem r c → f.frob c (f.degree * m) ≡ c
  frob_round c zero e = ap (f.frob c) (mul-zero f.degree) ∙ laws.frob_zero c e
  frob_round c (suc m) e =
      ap (f.frob c) (mul-suc f.degree m) ∙ laws.frob_plus c (f.degree * m) f.degree e
      ∙ ap (λ x. f.frob x f.degree) (frob_round c m e) ∙ laws.frob_degree c e

  pub frob_mod : (c : E) (i : ℕ) → IsElem r c → f.frob c (i % f.degree) ≡ f.frob c i
  frob_mod c i e =
      ap (λ x. f.frob x (i % f.degree)) (sym (frob_round c (i / f.degree) e))
      ∙ sym (laws.frob_plus c (f.degree * (i / f.degree)) (i % f.degree) e)
      ∙ ap (f.frob c) (div-add-mod i f.degree)

-- The base is a part of the field.
module _ {E B : Type 0} (r : RingOps E) (inv : E → Option E) (base : RingOps B) (base_inv : B → Option B) (f : FrobOps E B) (k : IsField r inv) (kb : IsField base base_inv) (l : IsFrobField r base f) where
  pub embed_zero : f.embed base.zero ≡ r.zero
  embed_zero =
      let z = kb.ring.closed.zero_in in
      let image : Element r = (f.embed base.zero, l.embed_in base.zero z) in
      ap (λ x. x.0) (zero_only (elements k.ring) image
      (same_element r _ _ (sym (l.embed_add base.zero base.zero z z) ∙ ap f.embed (kb.ring.zero_add base.zero z))))

  pub embed_one : f.embed base.one ≡ r.one
  embed_one =
      let closed = kb.ring.closed in
      let inside = l.embed_in base.one closed.one_in in
      square_only r inv base f k l (f.embed base.one) inside
      (sym (l.embed_mul base.one base.one closed.one_in closed.one_in) ∙ ap f.embed (kb.ring.one_mul base.one closed.one_in))
      (λ e. kb.one_ne_zero (l.embed_inj base.one base.zero closed.one_in closed.zero_in (e ∙ sym embed_zero)))
      (inv (f.embed base.one)) (k.inv_is (f.embed base.one) inside)
