-- Sums of numbers, and the same sums with each sum and product taken modulo `p`.
use Rattle.std.proofs.lemmas.Bool.{cases_lt}
use Rattle.std.proofs.Common.{inl, inr, zero-mul, mul-zero, refl, sym, ap₂, ◌≡◌, ℕ, zero, suc, ◌+◌, ◌-◌, ◌*◌, ◌<◌, ◌≤◌, ap, ◌∙◌, arith, add-mul}
use Rattle.std.proofs.lemmas.Nat.{mul-le}
use Rattle.field_tower.specs.steps.Lanes.{plain_sum}

pub plain-le : (n : ℕ) (f : ℕ → ℕ) (b : ℕ) → ((i : ℕ) → i < n → f i ≤ b) → plain_sum n f ≤ n * b
plain-le zero f b e = omega arith
plain-le (suc n) f b e =
    let before = plain-le n f b (λ i l. e i (omega arith)) in
    let last : f n ≤ b = e n (omega arith) in
    let count : suc n * b ≡ n * b + 1 * b = ap (λ k. k * b) (omega arith) ∙ add-mul n 1 b in
    omega arith

-- a product of two numbers below p
pub product-le : (p a b : ℕ) → a < p → b < p → a * b ≤ (p - 1) * (p - 1)
product-le p a b l m = mul-le a b (p - 1) (p - 1) (omega arith) (omega arith)

-- at most sixteen such products
pub sixteen-le : (p n : ℕ) (f : ℕ → ℕ) → n ≤ 16 → ((i : ℕ) → i < n → f i ≤ (p - 1) * (p - 1)) → plain_sum n f ≤ 16 * ((p - 1) * (p - 1))
sixteen-le p n f l e =
    let b = (p - 1) * (p - 1) in
    let some = plain-le n f b e in
    let all : n * b ≤ 16 * b = mul-le n b 16 b l (omega arith) in
    omega arith

pub square-le : (p : ℕ) → p ≤ 257 → 16 * ((p - 1) * (p - 1)) ≤ 1048576
square-le p l =
    let squares : (p - 1) * (p - 1) ≤ 256 * 256 = mul-le (p - 1) (p - 1) 256 256 (omega arith) (omega arith) in
    omega arith

-- a number and n such products
pub before-le : (p n s : ℕ) (f : ℕ → ℕ) (k : ℕ) → k ≤ n → s + n * ((p - 1) * (p - 1)) ≤ 16 * ((p - 1) * (p - 1))
    → ((i : ℕ) → i < k → f i ≤ (p - 1) * (p - 1)) → s + plain_sum k f ≤ 16 * ((p - 1) * (p - 1))
before-le p n s f k l room e =
    let b = (p - 1) * (p - 1) in
    let some = plain-le k f b e in
    let all : k * b ≤ n * b = mul-le k b n b l (omega arith) in
    omega arith

pub plain-same : (n : ℕ) (f g : ℕ → ℕ) → ((i : ℕ) → i < n → f i ≡ g i) → plain_sum n f ≡ plain_sum n g
plain-same zero f g e = refl
plain-same (suc n) f g e = ap₂ (λ a b. a + b) (plain-same n f g (λ i l. e i (omega arith))) (e n (omega arith))

-- terms that are zero add nothing
plain-longer : (d n : ℕ) (f : ℕ → ℕ) → ((i : ℕ) → n ≤ i → f i ≡ 0) → plain_sum (n + d) f ≡ plain_sum n f
plain-longer zero n f e = ap (λ k. plain_sum k f) (omega arith)
plain-longer (suc d) n f e =
    let count : n + suc d ≡ suc (n + d) = omega arith in
    ap (λ k. plain_sum k f) count ∙ omega (arith, plain-longer d n f e, e (n + d) (omega arith))

-- a sum of n terms, of which those of the product are not zero
pub slid_is : (n k : ℕ) (g a b : ℕ → ℕ) → ((i : ℕ) → n ≤ i → a i ≡ 0) → ((i : ℕ) → i < n → i ≤ k → g i ≡ b (k - i)) → ((i : ℕ) → i < n → k < i → g i ≡ 0)
    → plain_sum n (λ i. g i * a i) ≡ plain_sum (k + 1) (λ i. b (k - i) * a i)
slid_is n k g a b past here none =
    let f : ℕ → ℕ = λ i. g i * a i in
    let count : n + (k + 1) ≡ (k + 1) + n = omega arith in
    sym (plain-longer (k + 1) n f (λ i l. times_none (g i) (a i) (past i l)))
    ∙ ap (λ m. plain_sum m f) count
    ∙ plain-longer n (k + 1) f (λ i l. elim (cases_lt i n) [ inl m ↦ ap (λ x. x * a i) (none i m (omega arith)) ∙ zero-mul (a i) | inr m ↦ times_none (g i) (a i) (past i m) ])
    ∙ plain-same (k + 1) f (λ i. b (k - i) * a i) (λ i l. elim (cases_lt i n) [
      | inl m ↦ ap (λ x. x * a i) (here i m (omega arith))
      | inr m ↦ times_none (g i) (a i) (past i m) ∙ sym (times_none (b (k - i)) (a i) (past i m))
    ])
  where
    times_none : (x y : ℕ) → y ≡ 0 → x * y ≡ 0
    times_none x y e = ap (λ z. x * z) e ∙ mul-zero x
