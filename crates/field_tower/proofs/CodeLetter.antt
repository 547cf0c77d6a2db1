-- The code of the letter of a base field: minus the constant of a modulus of degree 1, and else the code
-- with the digit one at place 1 alone.
use Rattle.std.proofs.Common.{◌≡◌, ℕ, suc, ◌+◌, ◌-◌, ◌*◌, ◌%◌, ◌<◌, slice_index, sym, ap, ap₂, ◌∙◌, arith}
use Rattle.ring_core.specs.Ring.{IsElem, IsRing}
use Rattle.ring_core.specs.Coeffs.{coeff}
use Rattle.ring_core.proofs.Coefficients.{elem_read}
use Rattle.residue_field.specs.Prime.{prime_ops}
use Rattle.residue_field.specs.Digits.{number}
use Rattle.residue_field.specs.Residue.{constant_at, shifted, residue}
use Rattle.residue_field.specs.Base.{Base, letter_code}
use Rattle.residue_field.proofs.Modular.{prime_ring}
use Rattle.residue_field.proofs.Listed.{listed_large}
use Rattle.residue_field.proofs.DigitLaws.{number-zeros}
use Rattle.field_tower.proofs.Letter.{letter_low, letter_one, letter_zero}

module _ (k : Base) where
  ring : IsRing (prime_ops k.p)
  ring = prime_ring k.p (listed_large k.p k.is_base.listed)

  abbrev f : ℕ → ℕ
  f = coeff (prime_ops k.p) k.modulus

  read : (i : ℕ) → IsElem (prime_ops k.p) (f i)
  read = elem_read (prime_ops k.p) k.modulus ring.closed.zero_in k.is_base.elems

  -- the digits of the letter
  abbrev z : ℕ → ℕ
  z = residue (prime_ops k.p) (k.s - 1) f 2 (shifted (prime_ops k.p) (constant_at (prime_ops k.p) 1))

  pub letter_code_low : k.s ≡ 1 → (k.p - slice_index k.modulus 0) % k.p ≡ letter_code k
  unfolding letter_code
  letter_code_low e =
      let none : k.s - 1 ≡ 0 = omega arith in
      letter_low (prime_ops k.p) ring (k.s - 1) f read none ∙ end (z 0)
      ∙ sym (ap (λ n. z 0 + k.p * number k.p n (λ i. z (suc i))) none)
    where
      end : (x : ℕ) → x ≡ x + k.p * 0
      end x = omega arith

  pub letter_code_high : 1 < k.s → k.p ≡ letter_code k
  unfolding letter_code
  letter_code_high l =
      let some : 0 < k.s - 1 = omega arith in
      let count : k.s - 1 ≡ suc (k.s - 2) = omega arith in
      let zero_at = letter_zero (prime_ops k.p) ring (k.s - 1) f read some in
      let constant : z 0 ≡ 0 = sym (zero_at 0 (λ e. absurd (omega arith))) in
      let one : z 1 ≡ 1 = sym (letter_one (prime_ops k.p) ring (k.s - 1) f read some) in
      let rest : number k.p (k.s - 2) (λ i. z (suc (suc i))) ≡ 0 =
      number-zeros k.p (k.s - 2) (λ i. z (suc (suc i))) (λ i b. sym (zero_at (suc (suc i)) (λ e. absurd (omega arith)))) in
      sym (ap (λ n. number k.p (suc n) z) count
      ∙ ap₂ (λ x y. x + k.p * y) constant (ap₂ (λ x y. x + k.p * y) one rest) ∙ once k.p)
    where
      once : (p : ℕ) → 0 + p * (1 + p * 0) ≡ p
      once p = omega arith
