-- The letter is an element.
use Rattle.std.proofs.Common.{◌≡◌, ℕ, zero, suc, true, sym, refl, ap, subst, ◌∙◌}
use mathlib.Core.Path.{fun_ext}
use Rattle.ring_core.specs.Ring.{RingOps, IsElem, IsRing, IsCommutative}
use Rattle.ring_core.proofs.Carrier.{Element, elements}
use Rattle.residue_field.specs.Residue.{constant_at, shifted, residue, Places, residue_letter}
use Rattle.residue_field.specs.steps.Stored.{IsMonic, IsPlaces}
use Rattle.residue_field.proofs.Act.{shift, act, constant}
use Rattle.residue_field.proofs.ResidueRing.{modulus_on, constant-is, residue-value}

module _ {E T : Type 0} (r : RingOps E) (h : IsRing r) (commutes : IsCommutative r) (n : ℕ) (f : ℕ → E) (m : IsMonic r n f) (c : Places E T) (p : IsPlaces r n c) where
  -- the polynomial x
  letter_on : ℕ → Element r
  letter_on = shift (elements h) (constant (elements h) (elements h).one)

  shifted-one : (i : ℕ) → shifted r (constant_at r r.one) i ≡ (letter_on i).0
  unfolding letter_on
  shifted-one zero = refl
  shifted-one (suc i) = constant-is r h (elements h).one i

  letter_elem : (i : ℕ) → IsElem r (residue r n f 2 (shifted r (constant_at r r.one)) i)
  letter_elem i =
      let fs = modulus_on r h commutes n f m c p in
      subst (IsElem r)
      (sym (ap (λ a. residue r n f 2 a i) (fun_ext shifted-one) ∙ residue-value r h n fs 2 letter_on i))
      (act (elements h) n fs 2 letter_on (constant (elements h) (elements h).one) i).1

  pub letter-in : c.is_elem (residue_letter r n f c) ≡ true
  letter-in = p.pack_in _ letter_elem
