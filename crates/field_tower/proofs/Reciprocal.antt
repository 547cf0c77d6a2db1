-- Remainders by a fraction that is known in advance: with `f` the quotient of `c k` by `p`, or one less, the quotient of `c x` by `p` is
-- that of `x f` by `k` or a little more. With `c` one, `f` is the reciprocal of `p`.
use native.Mathlib.Nat.{add-mul-mod_self_left}
use Rattle.std.proofs.Common.{◌≡◌, ℕ, ◌+◌, ◌-◌, ◌*◌, ◌/◌, ◌%◌, ◌<◌, ◌≤◌, sym, ap, ◌∙◌, arith, mul_comm, mul_right_comm, add-mul, mod-lt, le_of_mul-le-mul_right, lt_of_mul-lt-mul_right}
use Rattle.std.proofs.lemmas.Nat.{mul-le, div-add-mod', mod-mul-add}

module _ (k p c f x : ℕ) (some : 0 < k) (low : f * p ≤ c * k) (high : c * k ≤ f * p + p) where
  parts : (x * f / k) * k + (x * f) % k ≡ x * f
  parts = div-add-mod' (x * f) k

  part-lt : (x * f) % k < k
  part-lt = mod-lt (x * f) some

  pub fraction_low : x * f / k * p ≤ c * x
  fraction_low = scaled_low (x * f / k) (omega (arith, parts))
    where
      scaled_low : (q : ℕ) → q * k ≤ x * f → q * p ≤ c * x
      scaled_low q l =
          let a : (q * k) * p ≤ (x * f) * p = mul-le (q * k) p (x * f) p l (omega arith) in
          let b : (f * p) * x ≤ (c * k) * x = mul-le (f * p) x (c * k) x low (omega arith) in
          let b1 : (x * f) * p ≡ (f * x) * p = ap (λ n. n * p) (mul_comm x f) in
          let b2 : (f * x) * p ≡ (f * p) * x = mul_right_comm f x p in
          let d : (q * k) * p ≡ (q * p) * k = mul_right_comm q k p in
          let e : (c * k) * x ≡ (c * x) * k = mul_right_comm c k x in
          le_of_mul-le-mul_right (omega arith) some

  pub fraction_high : (n : ℕ) → x * p < n * k + p → c * x < x * f / k * p + (n + p)
  fraction_high n fits = scaled_high (x * f / k) (omega (arith, parts, part-lt))
    where
      scaled_high : (q : ℕ) → x * f + 1 ≤ q * k + k → c * x < q * p + (n + p)
      scaled_high q l =
          let a : (x * f + 1) * p ≤ (q * k + k) * p = mul-le (x * f + 1) p (q * k + k) p l (omega arith) in
          let a1 : (x * f + 1) * p ≡ (x * f) * p + 1 * p = add-mul (x * f) 1 p in
          let a2 : (q * k + k) * p ≡ (q * k) * p + k * p = add-mul (q * k) k p in
          let b : (c * k) * x ≤ (f * p + p) * x = mul-le (c * k) x (f * p + p) x high (omega arith) in
          let b1 : (f * p + p) * x ≡ (f * p) * x + p * x = add-mul (f * p) p x in
          let c1 : (x * f) * p ≡ (f * x) * p = ap (λ n. n * p) (mul_comm x f) in
          let c2 : (f * x) * p ≡ (f * p) * x = mul_right_comm f x p in
          let d : (q * k) * p ≡ (q * p) * k = mul_right_comm q k p in
          let e : (c * k) * x ≡ (c * x) * k = mul_right_comm c k x in
          let g : (q * p + (n + p)) * k ≡ (q * p) * k + (n + p) * k = add-mul (q * p) (n + p) k in
          let g1 : (n + p) * k ≡ n * k + p * k = add-mul n p k in
          let h : k * p ≡ p * k = mul_comm k p in
          let h1 : p * x ≡ x * p = mul_comm p x in
          let below : (c * x) * k < (q * p + (n + p)) * k = omega arith in
          lt_of_mul-lt-mul_right k below

module _ (k p x m : ℕ) (positive : 0 < p) (is : m ≡ k / p) (some : 0 < k) where
  whole : m * p + k % p ≡ k
  whole = ap (λ n. n * p + k % p) is ∙ div-add-mod' k p

  pub reciprocal_low : m * p ≤ 1 * k
  reciprocal_low = omega (arith, whole)

  pub reciprocal_high : 1 * k ≤ m * p + p
  reciprocal_high = omega (arith, whole, mod-lt k positive)

  pub quotient_low : x * m / k * p ≤ x
  quotient_low = omega (arith, fraction_low k p 1 m x some reciprocal_low reciprocal_high)

  -- less than `n + 1` times `p` is left where `x` is at most `n k`
  pub quotient_high : (n : ℕ) → x ≤ n * k → x < x * m / k * p + (n * p + p)
  quotient_high n fits =
      let scaled : x * p ≤ (n * k) * p = mul-le x p (n * k) p fits (omega arith) in
      let turned : (n * k) * p ≡ (n * p) * k = mul_right_comm n k p in
      omega (arith, fraction_high k p 1 m x some reciprocal_low reciprocal_high (n * p) (omega arith))

  pub remainder_same : (x - x * m / k * p) % p ≡ x % p
  remainder_same = rest_same (x * m / k) quotient_low
    where
      rest_same : (q : ℕ) → q * p ≤ x → (x - q * p) % p ≡ x % p
      rest_same q l =
          let turn = mul_comm p q in
          let whole : x ≡ (x - q * p) + p * q = omega arith in
          sym (ap (λ n. n % p) whole ∙ add-mul-mod_self_left (x - q * p) p q)

-- what is left after `n` times `p` more is the remainder, once it is below `p`
pub remainder_is : (p x q n w : ℕ) → q * p + (n * p + w) ≡ x → w < p → w ≡ x % p
remainder_is p x q n w e l =
    let add = add-mul q n p in
    let whole : (q + n) * p + w ≡ x = omega arith in
    sym (ap (λ y. y % p) (sym whole) ∙ mod-mul-add (q + n) p w l)

-- a product below `257 p` by the fraction of `c` in 16 bits
module _ (p x : ℕ) (small : p ≤ 257) (below : x < p) where
  product_fits : x * p < 1 * 65536 + p
  product_fits =
      let less : x - 1 ≤ 255 = omega arith in
      let scaled : (x - 1) * p ≤ 255 * 257 = mul-le (x - 1) p 255 257 less small in
      let same : (x - 1 + 1) * p ≡ (x - 1) * p + 1 * p = add-mul (x - 1) 1 p in
      let most : x * p ≤ (x - 1 + 1) * p = mul-le x p (x - 1 + 1) p (omega arith) (omega arith) in
      omega arith

-- a difference of words of 16 bits, where it has so few
wrapped : (a b : ℕ) → b ≤ a → a < b + 65536 → (a % 65536 + (65536 - b % 65536)) % 65536 ≡ a - b
wrapped a b l m = omega arith

module _ (p c f x : ℕ) (small : p ≤ 257) (below : x < p) (low : f * p ≤ c * 65536) (high : c * 65536 ≤ f * p + p) where
  pub taken_low : x * f / 65536 * p ≤ c * x
  taken_low = fraction_low 65536 p c f x (omega arith) low high

  pub taken_high : c * x ≤ x * f / 65536 * p + p
  taken_high = omega (arith, fraction_high 65536 p c f x (omega arith) low high 1 (product_fits p x small below))

  -- what is left of the product, in words
  pub product_rest : (c * x % 65536 + (65536 - x * f / 65536 * p % 65536)) % 65536 ≡ c * x - x * f / 65536 * p
  product_rest = wrapped (c * x) (x * f / 65536 * p) taken_low (omega (arith, taken_high))

-- the fraction of `c` in 16 bits, by the reciprocal in 32
module _ (p c m : ℕ) (small : p ≤ 257) (below : c < p) (is : m ≡ 4294967296 / p) where
  low : m * p ≤ 65536 * 65536
  low = omega (arith, reciprocal_low 4294967296 p 0 m (omega arith) is (omega arith))

  high : 65536 * 65536 ≤ m * p + p
  high = omega (arith, reciprocal_high 4294967296 p 0 m (omega arith) is (omega arith))

  pub share_low : c * m / 65536 * p ≤ c * 65536
  share_low = omega (arith, taken_low p 65536 m c small below low high)

  pub share_high : c * 65536 ≤ c * m / 65536 * p + p
  share_high = omega (arith, taken_high p 65536 m c small below low high)
