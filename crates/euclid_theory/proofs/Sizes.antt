-- Rings in which products of elements that aren't zero have the sum of the sizes less one, and in which the
-- top of an element can be taken away by a left multiple of another: twisted polynomials with their lengths.
use Rattle.std.proofs.Common.{◌≡◌, ℕ, zero, suc, ◌+◌, ◌-◌, ◌<◌, ◌≤◌, sym, ◌∙◌, ap, ⊎_elim, arith}
use Rattle.std.proofs.lemmas.Bool.{cases_lt}
use Rattle.ring_core.proofs.Carrier.{RingOn, add_zero, neg_add, add_cancel, zero_mul, neg_mul, mul_neg, minus_same, from_sum, difference}

abbrev pub minus : {M : Type 0} → RingOn M → M → M → M
minus R x y = R.add x (R.neg y)

module _ {M : Type 0} (R : RingOn M) where
  -- (x - y) + y = x
  pub minus_plus : (x y : M) → R.add (minus R x y) y ≡ x
  minus_plus x y = R.add_assoc x (R.neg y) y ∙ ap (R.add x) (neg_add R y) ∙ add_zero R x

  -- x - (x - y) = y
  pub minus_back : (x y : M) → minus R x (minus R x y) ≡ y
  minus_back x y = sym (from_sum R y (minus R x y) x (R.add_comm y (minus R x y) ∙ minus_plus x y))

  pub mul_minus : (x y b : M) → R.mul (minus R x y) b ≡ minus R (R.mul x b) (R.mul y b)
  mul_minus x y b = R.add_mul x (R.neg y) b ∙ ap (R.add (R.mul x b)) (neg_mul R y b)

  pub minus_mul : (b x y : M) → R.mul b (minus R x y) ≡ minus R (R.mul b x) (R.mul b y)
  minus_mul b x y = R.mul_add b x (R.neg y) ∙ ap (R.add (R.mul b x)) (mul_neg R b y)

pub record HasSizes {M : Type 0} (R : RingOn M) (size : M → ℕ) : Type 0 where
  pub empty : (x : M) → size x ≡ 0 → x ≡ R.zero
  pub none : size R.zero ≡ 0
  pub unit : size R.one ≡ 1
  pub sum : (x y : M) (n : ℕ) → size x ≤ n → size y ≤ n → size (R.add x y) ≤ n
  pub neg : (x : M) → size (R.neg x) ≤ size x
  pub product : (x y : M) → 0 < size x → 0 < size y → size (R.mul x y) + 1 ≡ size x + size y
  pub lowers : (a b : M) → 0 < size b → size b ≤ size a → (x : M) × (size (R.add a (R.mul x b)) < size a)

-- `a = quotient b + rest`, where the rest has a smaller size than `b`.
pub record Divided {M : Type 0} (R : RingOn M) (size : M → ℕ) (a b : M) : Type 0 where
  pub quotient : M
  pub rest : M
  pub sum : a ≡ R.add (R.mul quotient b) rest
  pub lower : size rest < size b

module _ {M : Type 0} (R : RingOn M) (size : M → ℕ) (h : HasSizes R size) where
  pub minus_small : (x y : M) (n : ℕ) → size x ≤ n → size y ≤ n → size (minus R x y) ≤ n
  minus_small x y n l m = let s : size (R.neg y) ≤ size y = h.neg y in h.sum x (R.neg y) n l (omega arith)

  -- a difference keeps the size of the larger
  pub minus_keeps : (x y : M) → size x < size y → size (minus R x y) ≡ size y
  minus_keeps x y l =
      let most : size (minus R x y) ≤ size y = minus_small x y (size y) (omega arith) (omega arith) in
      ⊎_elim
      (λ (m : size (minus R x y) < size y).
      let back : size (minus R x (minus R x y)) ≤ size y - 1 = minus_small x (minus R x y) (size y - 1) (omega arith) (omega arith) in
      let same : size (minus R x (minus R x y)) ≡ size y = ap size (minus_back R x y) in
      absurd (omega arith))
      (λ (m : size y ≤ size (minus R x y)). omega arith)
      (cases_lt (size (minus R x y)) (size y))

  -- a left multiple of `b` that is smaller than `b` is zero
  pub no_multiple : (x b : M) → size (R.mul x b) < size b → x ≡ R.zero
  no_multiple x b l =
      ⊎_elim
      (λ (none : size x < 1). h.empty x (omega arith))
      (λ (some : 1 ≤ size x).
      let all : size (R.mul x b) + 1 ≡ size x + size b = h.product x b some (omega arith) in
      absurd (omega arith))
      (cases_lt (size x) 1)

  pub no_divisors : (x b : M) → 0 < size b → R.mul x b ≡ R.zero → x ≡ R.zero
  no_divisors x b pos e =
      let none : size (R.mul x b) ≡ 0 = ap size e ∙ h.none in
      no_multiple x b (omega arith)

  pub cancel_right : (x y b : M) → 0 < size b → R.mul x b ≡ R.mul y b → x ≡ y
  cancel_right x y b pos e =
      minus_same R x y (no_divisors (minus R x y) b pos (mul_minus R x y b ∙ ap (λ t. minus R t (R.mul y b)) e ∙ R.add_neg (R.mul y b)))

  pub quotients_same : (b c d s t : M) → R.add (R.mul c b) s ≡ R.add (R.mul d b) t → size s < size b → size t < size b → (c ≡ d) × (s ≡ t)
  quotients_same b c d s t e l m =
      let small : size (minus R t s) ≤ size b - 1 = minus_small t s (size b - 1) (omega arith) (omega arith) in
      let multiple : size (R.mul (minus R c d) b) ≡ size (minus R t s) = ap size (difference R b c d s t e) in
      let same : c ≡ d = minus_same R c d (no_multiple (minus R c d) b (omega arith)) in
      (same, add_cancel R (R.mul d b) s t (ap (λ x. R.add (R.mul x b) s) (sym same) ∙ e))

  -- every element can be divided by one that isn't zero
  pub divide : (n : ℕ) (a b : M) → size a < n → 0 < size b → Divided R size a b
  divide zero a b l pos = absurd (omega arith)
  divide (suc n) a b l pos =
      ⊎_elim
      (λ (low : size a < size b).
      record { quotient = R.zero; rest = a; sum = sym (ap (λ x. R.add x a) (zero_mul R b) ∙ R.zero_add a); lower = low })
      (λ (high : size b ≤ size a).
      let x = (h.lowers a b pos high).0 in
      let less : size (R.add a (R.mul x b)) < size a = (h.lowers a b pos high).1 in
      let d = divide n (R.add a (R.mul x b)) b (omega arith) pos in
      record {
        quotient = minus R d.quotient x;
        rest = d.rest;
        sum =
            from_sum R a (R.mul x b) (R.add (R.mul d.quotient b) d.rest) d.sum
            ∙ R.add_assoc _ _ _ ∙ ap (R.add (R.mul d.quotient b)) (R.add_comm _ _) ∙ sym (R.add_assoc _ _ _)
            ∙ ap (λ t. R.add t d.rest) (sym (mul_minus R d.quotient x b));
        lower = d.lower;
      })
      (cases_lt (size a) (size b))
