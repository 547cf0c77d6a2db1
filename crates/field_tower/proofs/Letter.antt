-- The residue of the letter.
use Rattle.std.proofs.Common.{◌≡◌, ◌≢◌, ℕ, zero, suc, ◌<◌, sym, refl, ap, ◌∙◌, arith}
use mathlib.Core.Path.{fun_ext}
use Rattle.ring_core.specs.Ring.{RingOps, IsElem, IsRing}
use Rattle.ring_core.proofs.Carrier.{Element, elements, add_zero, zero_mul, neg_only}
use Rattle.residue_field.specs.Residue.{constant_at, shifted, times_x, residue}
use Rattle.field_tower.proofs.Shifts.{constant_at_in, shifted_in}

module _ {E : Type 0} (r : RingOps E) (h : IsRing r) (n : ℕ) (f : ℕ → E) (f_in : (i : ℕ) → IsElem r (f i)) where
  -- a multiple of the modulus by zero takes nothing away
  pub minus_none : (x : E) (i : ℕ) → IsElem r x → r.add x (r.neg (r.mul r.zero (f i))) ≡ x
  minus_none x i e =
      let R = elements h in
      let a : Element r = (x, e) in
      let b : Element r = (f i, f_in i) in
      ap (λ y. y.0) (ap (λ y. R.add a (R.neg y)) (zero_mul R b) ∙ ap (R.add a) (sym (neg_only R R.zero R.zero (R.zero_add R.zero))) ∙ add_zero R a)

  constant-one_in : (i : ℕ) → IsElem r (constant_at r r.one i)
  constant-one_in = constant_at_in r h r.one h.closed.one_in

  none-shifted : (i : ℕ) → shifted r (λ j. r.zero) i ≡ r.zero
  none-shifted zero = refl
  none-shifted (suc i) = refl

  -- the residue of the constant one
  one_is : (i : ℕ) → residue r n f 1 (constant_at r r.one) i ≡ constant_at r r.one i
  one_is i =
      ap (r.add (constant_at r r.one i)) (minus_none (shifted r (λ j. r.zero) i) i (shifted_in r h (λ j. r.zero) (λ j. h.closed.zero_in) i) ∙ none-shifted i)
      ∙ ap (λ y. y.0) (add_zero (elements h) (constant_at r r.one i, constant-one_in i))

  product_in : (x : E) (i : ℕ) → IsElem r x → IsElem r (r.neg (r.mul x (f i)))
  product_in x i e = h.closed.neg_in _ (h.closed.mul_in x (f i) e (f_in i))

  zero-constant : (x : E) (i : ℕ) → IsElem r x → r.add (constant_at r r.zero i) x ≡ x
  zero-constant x zero e = h.zero_add x e
  zero-constant x (suc i) e = h.zero_add x e

  letter_is : (i : ℕ) → residue r n f 2 (shifted r (constant_at r r.one)) i ≡ times_x r n f (constant_at r r.one) i
  letter_is i =
      ap (λ v. r.add (constant_at r r.zero i) (times_x r n f v i)) (fun_ext one_is)
      ∙ zero-constant _ i (h.closed.add_in _ _ (shifted_in r h (constant_at r r.one) constant-one_in i) (product_in _ i (constant-one_in n)))

  -- modulo a polynomial of degree 1 the letter is minus the constant of the modulus
  pub letter_low : n ≡ 0 → r.neg (f 0) ≡ residue r n f 2 (shifted r (constant_at r r.one)) 0
  letter_low e =
      sym (letter_is 0 ∙ ap (λ k. r.add r.zero (r.neg (r.mul (constant_at r r.one k) (f 0)))) e
      ∙ h.zero_add _ (product_in r.one 0 h.closed.one_in) ∙ ap r.neg (h.one_mul (f 0) (f_in 0)))

  letter_high : 0 < n → (i : ℕ) → residue r n f 2 (shifted r (constant_at r r.one)) i ≡ shifted r (constant_at r r.one) i
  letter_high pos i =
      letter_is i ∙ ap (λ x. r.add (shifted r (constant_at r r.one) i) (r.neg (r.mul x (f i)))) (past n pos)
      ∙ minus_none _ i (shifted_in r h (constant_at r r.one) constant-one_in i)
    where
      past : (k : ℕ) → 0 < k → constant_at r r.one k ≡ r.zero
      past zero l = absurd (omega arith)
      past (suc k) l = refl

  pub letter_one : 0 < n → r.one ≡ residue r n f 2 (shifted r (constant_at r r.one)) 1
  letter_one pos = sym (letter_high pos 1)

  pub letter_zero : 0 < n → (i : ℕ) → i ≢ 1 → r.zero ≡ residue r n f 2 (shifted r (constant_at r r.one)) i
  letter_zero pos i d = sym (letter_high pos i ∙ other i d)
    where
      other : (i : ℕ) → i ≢ 1 → shifted r (constant_at r r.one) i ≡ r.zero
      other zero d = refl
      other (suc zero) d = absurd (d refl)
      other (suc (suc i)) d = refl
