-- Powers in a ring.
use Rattle.std.proofs.Common.{◌≡◌, ℕ, zero, suc, ◌+◌, ◌*◌, sym, ◌∙◌, ap, refl, add-zero, add-suc, mul-zero, mul-suc}
use Rattle.ring_core.specs.Ring.{RingOps, IsRing}
use Rattle.ring_core.specs.Powers.{power_of}
use Rattle.ring_core.proofs.Carrier.{RingOn, Element, elements, mul_zero}

abbrev pub power : {M : Type 0} → RingOn M → M → ℕ → M
power R x zero = R.one
power R x (suc k) = R.mul (power R x k) x

-- a power of an element is the one that contracts speak of
pub power_value : {E : Type 0} (r : RingOps E) (h : IsRing r) (x : Element r) (k : ℕ) → (power (elements h) x k).0 ≡ power_of r x.0 k
power_value r h x zero = refl
power_value r h x (suc k) = ap (λ a. r.mul a x.0) (power_value r h x k)

module _ {M : Type 0} (R : RingOn M) where
  pub power-one : (x : M) → power R x 1 ≡ x
  power-one x = R.one_mul x

  pub power-two : (x : M) → power R x 2 ≡ R.mul x x
  power-two x = ap (λ y. R.mul y x) (power-one x)

  pub zero-power : (k : ℕ) → power R R.zero (suc k) ≡ R.zero
  zero-power k = mul_zero R (power R R.zero k)

  pub power-add : (x : M) (i j : ℕ) → power R x (i + j) ≡ R.mul (power R x i) (power R x j)
  power-add x i zero = ap (power R x) (add-zero i) ∙ sym (R.mul_one (power R x i))
  power-add x i (suc j) =
      ap (power R x) (add-suc i j) ∙ ap (λ y. R.mul y x) (power-add x i j) ∙ R.mul_assoc (power R x i) (power R x j) x

  pub power-power : (x : M) (i j : ℕ) → power R (power R x i) j ≡ power R x (i * j)
  power-power x i zero = sym (ap (power R x) (mul-zero i))
  power-power x i (suc j) =
      ap (λ y. R.mul y (power R x i)) (power-power x i j) ∙ sym (power-add x (i * j) i)
      ∙ sym (ap (power R x) (mul-suc i j))

-- Where products commute.
module _ {M : Type 0} (R : RingOn M) (comm : (a b : M) → R.mul a b ≡ R.mul b a) where
  -- a (b c) = b (a c)
  pub mul_swap : (a b c : M) → R.mul a (R.mul b c) ≡ R.mul b (R.mul a c)
  mul_swap a b c = sym (R.mul_assoc a b c) ∙ ap (λ x. R.mul x c) (comm a b) ∙ R.mul_assoc b a c

  -- (a b) (c d) = (a c) (b d)
  pub mul_exchange : (a b c d : M) → R.mul (R.mul a b) (R.mul c d) ≡ R.mul (R.mul a c) (R.mul b d)
  mul_exchange a b c d =
      R.mul_assoc a b (R.mul c d) ∙ ap (R.mul a) (mul_swap b c d) ∙ sym (R.mul_assoc a c (R.mul b d))

  pub power-product : (x y : M) (k : ℕ) → power R (R.mul x y) k ≡ R.mul (power R x k) (power R y k)
  power-product x y zero = sym (R.one_mul R.one)
  power-product x y (suc k) =
      ap (λ z. R.mul z (R.mul x y)) (power-product x y k) ∙ mul_exchange (power R x k) (power R y k) x y
