-- Where `p` ones add up to zero, for a prime `p`, the power `p` of a sum is the sum of the powers. That
-- `p` divides the binomials between the ends of row `p` is computed for each `p` that is used.
use Rattle.std.proofs.Common.{◌≡◌, ℕ, zero, suc, ◌+◌, ◌-◌, ◌*◌, ◌/◌, ◌%◌, ◌^◌, ◌<◌, List, [], ◌∷◌, length, sym, ◌∙◌, ap, ap₂, refl, pow-suc, add-zero, add-suc, mul-suc, mul-zero, arith}
use native.Mathlib.Nat.{div-add-mod, pow-zero}
use Rattle.ring_core.proofs.Carrier.{RingOn, add_zero, zero_mul, mul_zero}
use Rattle.finite_ring.proofs.Powers.{power, power-one, power-power, mul_swap}

-- The row of binomials after `bs`, modulo `p`, where `a` stands before them.
abbrev pub next_row : ℕ → ℕ → List ℕ → List ℕ
next_row p a [] = a ∷ []
next_row p a (b ∷ bs) = (a + b) % p ∷ next_row p b bs

-- Row `k` of the binomials, modulo `p`.
abbrev pub row : ℕ → ℕ → List ℕ
row p zero = 1 ∷ []
row p (suc k) = next_row p 0 (row p k)

-- `k` zeros, and then one.
abbrev pub zeros_one : ℕ → List ℕ
zeros_one zero = 1 ∷ []
zeros_one (suc k) = 0 ∷ zeros_one k

-- Row `p` has ones at its ends and zeros between them.
abbrev pub HasFreshRow : ℕ → Type 0
HasFreshRow p = row p p ≡ 1 ∷ zeros_one (p - 1)

pub fresh_2 : HasFreshRow 2
fresh_2 = refl

pub fresh_3 : HasFreshRow 3
fresh_3 = refl

pub fresh_5 : HasFreshRow 5
fresh_5 = refl

pub fresh_7 : HasFreshRow 7
fresh_7 = refl

pub fresh_11 : HasFreshRow 11
fresh_11 = refl

pub fresh_13 : HasFreshRow 13
fresh_13 = refl

pub fresh_251 : HasFreshRow 251
fresh_251 = refl

pub fresh_257 : HasFreshRow 257
fresh_257 = refl

-- The sum of `n` ones.
abbrev pub ones : {M : Type 0} → RingOn M → ℕ → M
ones R zero = R.zero
ones R (suc n) = R.add (ones R n) R.one

module _ {M : Type 0} (R : RingOn M) where
  pub ones-add : (m n : ℕ) → ones R (m + n) ≡ R.add (ones R m) (ones R n)
  ones-add m zero = ap (ones R) (add-zero m) ∙ sym (add_zero R (ones R m))
  ones-add m (suc n) =
      ap (ones R) (add-suc m n) ∙ ap (λ x. R.add x R.one) (ones-add m n) ∙ R.add_assoc (ones R m) (ones R n) R.one

  ones-multiple : (p : ℕ) → ones R p ≡ R.zero → (k : ℕ) → ones R (p * k) ≡ R.zero
  ones-multiple p char zero = ap (ones R) (mul-zero p)
  ones-multiple p char (suc k) =
      ap (ones R) (mul-suc p k) ∙ ones-add (p * k) p ∙ ap₂ R.add (ones-multiple p char k) char ∙ R.zero_add R.zero

  pub ones-mod : (p : ℕ) → ones R p ≡ R.zero → (n : ℕ) → ones R (n % p) ≡ ones R n
  ones-mod p char n =
      sym (R.zero_add (ones R (n % p))) ∙ ap (λ x. R.add x (ones R (n % p))) (sym (ones-multiple p char (n / p)))
      ∙ sym (ones-add (p * (n / p)) (n % p)) ∙ ap (ones R) (div-add-mod n p)

module _ {M : Type 0} (R : RingOn M) (comm : (a b : M) → R.mul a b ≡ R.mul b a) (x y : M) where
  -- the form in x and y with these coefficients, the highest power of x first
  abbrev form : List ℕ → M
  form [] = R.zero
  form (b ∷ bs) = R.add (R.mul (ones R b) (power R x (length bs))) (R.mul y (form bs))

  length-next : (p a : ℕ) (bs : List ℕ) → length (next_row p a bs) ≡ suc (length bs)
  length-next p a [] = refl
  length-next p a (b ∷ bs) = ap suc (length-next p b bs)

  -- the next row's form is the form times x + y, and the term of what stands before
  form-next : (p : ℕ) → ones R p ≡ R.zero → (a : ℕ) (bs : List ℕ)
      → form (next_row p a bs) ≡ R.add (R.mul (ones R a) (power R x (length bs))) (R.mul (R.add x y) (form bs))
  form-next p char a [] = ap (R.add (R.mul (ones R a) R.one)) (mul_zero R y ∙ sym (mul_zero R (R.add x y)))
  form-next p char a (b ∷ bs) =
      let n = length bs in
      let power_n = power R x n in
      let rest = form bs in
      let A = ones R a in
      let B = ones R b in
      ap₂ R.add
      (ap₂ R.mul (ones-mod R p char (a + b) ∙ ones-add R a b) (ap (power R x) (length-next p b bs))
      ∙ R.add_mul A B (power R x (suc n)))
      (ap (R.mul y) (form-next p char b bs) ∙ R.mul_add y (R.mul B power_n) (R.mul (R.add x y) rest))
      ∙ R.add_assoc (R.mul A (power R x (suc n))) (R.mul B (power R x (suc n)))
      (R.add (R.mul y (R.mul B power_n)) (R.mul y (R.mul (R.add x y) rest)))
      ∙ ap (R.add (R.mul A (power R x (suc n))))
      (sym (R.add_assoc (R.mul B (power R x (suc n))) (R.mul y (R.mul B power_n)) (R.mul y (R.mul (R.add x y) rest)))
      ∙ ap₂ R.add
      (ap (λ z. R.add z (R.mul y (R.mul B power_n))) (ap (R.mul B) (comm power_n x) ∙ mul_swap R comm B x power_n)
      ∙ sym (R.add_mul x y (R.mul B power_n)))
      (mul_swap R comm y (R.add x y) rest)
      ∙ sym (R.mul_add (R.add x y) (R.mul B power_n) (R.mul y rest)))

  one_times : (z : M) → R.mul (ones R 1) z ≡ z
  one_times z = ap (λ w. R.mul w z) (R.zero_add R.one) ∙ R.one_mul z

  form-row : (p : ℕ) → ones R p ≡ R.zero → (k : ℕ) → power R (R.add x y) k ≡ form (row p k)
  form-row p char zero =
      sym (ap₂ R.add (one_times R.one) (mul_zero R y) ∙ add_zero R R.one)
  form-row p char (suc k) =
      comm (power R (R.add x y) k) (R.add x y) ∙ ap (R.mul (R.add x y)) (form-row p char k)
      ∙ sym (R.zero_add (R.mul (R.add x y) (form (row p k))))
      ∙ ap (λ z. R.add z (R.mul (R.add x y) (form (row p k)))) (sym (zero_mul R (power R x (length (row p k)))))
      ∙ sym (form-next p char 0 (row p k))

  length-zeros : (k : ℕ) → length (zeros_one k) ≡ suc k
  length-zeros zero = refl
  length-zeros (suc k) = ap suc (length-zeros k)

  form-zeros : (k : ℕ) → form (zeros_one k) ≡ power R y k
  form-zeros zero = ap₂ R.add (one_times R.one) (mul_zero R y) ∙ add_zero R R.one
  form-zeros (suc k) =
      ap₂ R.add (zero_mul R (power R x (length (zeros_one k)))) (ap (R.mul y) (form-zeros k) ∙ comm y (power R y k))
      ∙ R.zero_add (power R y (suc k))

  pub sum_of_powers : (p : ℕ) → 0 < p → HasFreshRow p → ones R p ≡ R.zero
      → power R (R.add x y) p ≡ R.add (power R x p) (power R y p)
  sum_of_powers p positive fresh char =
      let is : suc (p - 1) ≡ p = omega arith in
      form-row p char p ∙ ap form fresh
      ∙ ap₂ R.add
      (one_times (power R x (length (zeros_one (p - 1)))) ∙ ap (power R x) (length-zeros (p - 1) ∙ is))
      (ap (R.mul y) (form-zeros (p - 1)) ∙ comm y (power R y (p - 1)) ∙ ap (power R y) is)

module _ {M : Type 0} (R : RingOn M) (comm : (a b : M) → R.mul a b ≡ R.mul b a) where
  -- The powers p^s of sums are the sums of the powers.
  pub frob_sum : (p : ℕ) → 0 < p → HasFreshRow p → ones R p ≡ R.zero → (s : ℕ) (x y : M)
      → power R (R.add x y) (p ^ s) ≡ R.add (power R x (p ^ s)) (power R y (p ^ s))
  frob_sum p positive fresh char zero x y =
      let one : p ^ zero ≡ 1 = pow-zero p in
      ap (power R (R.add x y)) one ∙ power-one R (R.add x y)
      ∙ sym (ap₂ R.add (ap (power R x) one ∙ power-one R x) (ap (power R y) one ∙ power-one R y))
  frob_sum p positive fresh char (suc s) x y =
      let level : (z : M) → power R z (p ^ suc s) ≡ power R (power R z (p ^ s)) p = λ z.
      ap (power R z) (pow-suc p s) ∙ sym (power-power R z (p ^ s) p) in
      level (R.add x y) ∙ ap (λ z. power R z p) (frob_sum p positive fresh char s x y)
      ∙ sum_of_powers R comm (power R x (p ^ s)) (power R y (p ^ s)) p positive fresh char
      ∙ ap₂ R.add (sym (level x)) (sym (level y))
