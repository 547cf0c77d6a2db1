-- Sums and products of codes that need no table.
use native.Mathlib.Nat.{pow-zero}
use Rattle.std.proofs.Common.{◌≡◌, ℕ, zero, suc, ◌+◌, ◌-◌, ◌*◌, ◌/◌, ◌%◌, ◌^◌, ◌<◌, List, bit_xor, sym, refl, ap, ap₂, ◌∙◌, arith, lt-ltb, mod-lt, mod-eq_of_lt, pow-suc, div-lt_iff_lt-mul}
use Rattle.std.proofs.lemmas.Nat.{div-add-mod', xor_block}
use Rattle.ring_core.specs.Coeffs.{coeff}
use Rattle.finite_ring.proofs.PowerMaps.{IsEmbedding}
use Rattle.residue_field.specs.Residue.{constant_at}
use Rattle.residue_field.specs.Prime.{prime_ops}
use Rattle.residue_field.specs.Digits.{digit, number, code_places}
use Rattle.residue_field.specs.Base.{base_ops}
use Rattle.residue_field.proofs.Modular.{prime_ring, prime_commutes}
use Rattle.residue_field.proofs.Listed.{listed_large}
use Rattle.residue_field.proofs.DigitLaws.{code_stores, digit_below, number-same, number-digits}
use Rattle.residue_field.proofs.BaseLaws.{IsBaseShape, base_monic}
use Rattle.residue_field.proofs.ResidueAlgebra.{residue_embedding}

-- of degree one the codes are the numbers modulo p
module _ (p : ℕ) (modulus : List ℕ) (shape : IsBaseShape p 0 modulus) where
  large : 1 < p
  large = listed_large p shape.listed

  same : (a : ℕ) → number p 1 (constant_at (prime_ops p) a) ≡ a
  same a = omega arith

  embedding : IsEmbedding (prime_ops p) (base_ops p 0 modulus) (λ b. number p 1 (constant_at (prime_ops p) b))
  unfolding base_ops
  embedding =
      residue_embedding (prime_ops p) (prime_ring p large) (prime_commutes p) 0 (coeff (prime_ops p) modulus) (base_monic p 0 modulus shape) (code_places p 0) (code_stores p 0 (omega (arith, large)))

  pub prime_mul : (a b : ℕ) → a < p → b < p → (base_ops p 0 modulus).mul a b ≡ (a * b) % p
  prime_mul a b l m =
      sym (ap₂ (base_ops p 0 modulus).mul (same a) (same b)) ∙ sym (embedding.embed_mul a b (lt-ltb a p l) (lt-ltb b p m)) ∙ same ((a * b) % p)

  pub prime_add : (a b : ℕ) → a < p → b < p → (base_ops p 0 modulus).add a b ≡ (a + b) % p
  prime_add a b l m =
      sym (ap₂ (base_ops p 0 modulus).add (same a) (same b)) ∙ sym (embedding.embed_add a b (lt-ltb a p l) (lt-ltb b p m)) ∙ same ((a + b) % p)

  pub prime_neg : (a : ℕ) → a < p → (base_ops p 0 modulus).neg a ≡ (p - a) % p
  unfolding base_ops
  prime_neg a l = ap (λ x. (p - x) % p + p * 0) (mod-eq_of_lt l) ∙ omega arith

-- in characteristic two each code is its own negative, and the sum of codes is their exclusive or
bit_neg : (x : ℕ) → x < 2 → (2 - x) % 2 ≡ x
bit_neg zero l = refl
bit_neg (suc zero) l = refl
bit_neg (suc (suc x)) l = absurd (omega arith)

bit_sum : (x y : ℕ) → x < 2 → y < 2 → bit_xor x y ≡ (x + y) % 2
bit_sum zero zero l m = refl
bit_sum zero (suc zero) l m = refl
bit_sum (suc zero) zero l m = refl
bit_sum (suc zero) (suc zero) l m = refl
bit_sum (suc (suc x)) y l m = absurd (omega arith)
bit_sum zero (suc (suc y)) l m = absurd (omega arith)
bit_sum (suc zero) (suc (suc y)) l m = absurd (omega arith)

halved : (a k : ℕ) → a < 2 ^ suc k → a / 2 < 2 ^ k
halved a k l =
    let l2 : a < 2 ^ k * 2 = omega (arith, pow-suc 2 k) in
    (div-lt_iff_lt-mul (omega arith)).1 l2

xor_halves : (a b : ℕ) → bit_xor a b ≡ (a % 2 + b % 2) % 2 + 2 * bit_xor (a / 2) (b / 2)
xor_halves a b =
    let s : a % 2 < 2 = mod-lt a (omega arith) in
    let t : b % 2 < 2 = mod-lt b (omega arith) in
    let whole = ap₂ bit_xor (sym (div-add-mod' a 2)) (sym (div-add-mod' b 2)) in
    let apart : bit_xor (a / 2 * 2 ^ 1 + a % 2) (b / 2 * 2 ^ 1 + b % 2) ≡ bit_xor (a / 2) (b / 2) * 2 ^ 1 + bit_xor (a % 2) (b % 2) = xor_block 1 (a / 2) (b / 2) (a % 2) (b % 2) s t in
    let low : bit_xor (a % 2) (b % 2) ≡ (a % 2 + b % 2) % 2 = bit_sum (a % 2) (b % 2) s t in
    whole ∙ apart ∙ ap (λ n. bit_xor (a / 2) (b / 2) * 2 ^ 1 + n) low ∙ omega arith

pub sum-xor : (k a b : ℕ) → a < 2 ^ k → b < 2 ^ k → number 2 k (λ i. (digit 2 a i + digit 2 b i) % 2) ≡ bit_xor a b
sum-xor zero a b l m =
    let n : a ≡ 0 = omega (arith, pow-zero 2) in
    let o : b ≡ 0 = omega (arith, pow-zero 2) in
    sym (ap₂ bit_xor n o)
sum-xor (suc k) a b l m =
    ap (λ n. (a % 2 + b % 2) % 2 + 2 * n) (sum-xor k (a / 2) (b / 2) (halved a k l) (halved b k m)) ∙ sym (xor_halves a b)

pub add-xor : (n a b : ℕ) (modulus : List ℕ) → a < 2 ^ suc n → b < 2 ^ suc n → (base_ops 2 n modulus).add a b ≡ bit_xor a b
unfolding base_ops
add-xor n a b modulus l m = sum-xor (suc n) a b l m

pub neg-two : (n a : ℕ) (modulus : List ℕ) → a < 2 ^ suc n → (base_ops 2 n modulus).neg a ≡ a
unfolding base_ops
neg-two n a modulus l =
    let two : 0 < 2 = omega arith in
    number-same 2 (suc n) _ (digit 2 a) (λ i m. bit_neg (digit 2 a i) (digit_below 2 two a i)) ∙ number-digits 2 two (suc n) a l
