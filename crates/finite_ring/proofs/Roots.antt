-- A polynomial of degree `n` with `n` roots, whose differences can be cancelled, is its leading
-- coefficient times the product of the factors. So `x^q - x` is the product of the `x - c` over `q`
-- elements `c` that the power `q` fixes, and each element that it fixes is a root of that product: one of
-- them, where no two nonzero elements multiply to zero.
use Rattle.std.proofs.Common.{◌≡◌, ◌≢◌, ℕ, zero, suc, ◌<◌, ◌≤◌, ◌⊎◌, inl, inr, sym, ◌∙◌, ap, ap₂, refl, arith}
use Rattle.ring_core.proofs.Carrier.{RingOn, add_zero, mul_neg, neg_add, minus_same}
use Rattle.finite_ring.proofs.Powers.{power, mul_swap}
use Rattle.finite_ring.proofs.Counted.{NoPair}

-- `x - c`
abbrev pub minus : {M : Type 0} → RingOn M → M → M → M
minus R x c = R.add x (R.neg c)

-- The product of `x - c j` over `j` below `n`.
abbrev pub falling : {M : Type 0} → RingOn M → (ℕ → M) → ℕ → M → M
falling R c zero x = R.one
falling R c (suc n) x = R.mul (falling R c n x) (minus R x (c n))

-- Differences of two of the first `n` points can be cancelled.
abbrev pub AreApart : {M : Type 0} → RingOn M → (ℕ → M) → ℕ → Type 0
AreApart {M} R c n = (i j : ℕ) → i < j → j < n → (u : M) → R.mul (minus R (c j) (c i)) u ≡ R.zero → u ≡ R.zero

-- `h` is a polynomial function of degree `n` with the leading coefficient `top`: a constant, or
-- `a + x g x` with `g` of degree one less.
abbrev pub IsPolynomial : {M : Type 0} → RingOn M → ℕ → M → (M → M) → Type 0
IsPolynomial {M} R zero top h = (x : M) → h x ≡ top
IsPolynomial {M} R (suc n) top h = (a : M) × (g : M → M) × IsPolynomial R n top g × ((x : M) → h x ≡ R.add a (R.mul x (g x)))

module _ {M : Type 0} (R : RingOn M) where
  -- x = c + (x - c)
  split_minus : (x c : M) → x ≡ R.add c (minus R x c)
  split_minus x c =
      sym (add_zero R x) ∙ ap (R.add x) (sym (neg_add R c)) ∙ sym (R.add_assoc x (R.neg c) c)
      ∙ R.add_comm (minus R x c) c

  -- `falling` with its first factor in front
  falling_front : (n : ℕ) (c : ℕ → M) (x : M) → falling R c (suc n) x ≡ R.mul (minus R x (c 0)) (falling R (λ j. c (suc j)) n x)
  falling_front zero c x = R.one_mul (minus R x (c 0)) ∙ sym (R.mul_one (minus R x (c 0)))
  falling_front (suc n) c x =
      ap (λ y. R.mul y (minus R x (c (suc n)))) (falling_front n c x)
      ∙ R.mul_assoc (minus R x (c 0)) (falling R (λ j. c (suc j)) n x) (minus R x (c (suc n)))

  -- a + x v = (a + c v) + (x - c) v
  move_point : (a x c v : M) → R.add a (R.mul x v) ≡ R.add (R.add a (R.mul c v)) (R.mul (minus R x c) v)
  move_point a x c v =
      ap (R.add a) (ap (λ y. R.mul y v) (split_minus x c) ∙ R.add_mul c (minus R x c) v)
      ∙ sym (R.add_assoc a (R.mul c v) (R.mul (minus R x c) v))

module _ {M : Type 0} (R : RingOn M) (comm : (a b : M) → R.mul a b ≡ R.mul b a) where
  -- h x = h c + (x - c) g x with g of degree one less
  factor : (n : ℕ) (top : M) (h : M → M) → IsPolynomial R (suc n) top h → (c : M)
      → (g : M → M) × IsPolynomial R n top g × ((x : M) → h x ≡ R.add (h c) (R.mul (minus R x c) (g x)))
  factor zero top h p c =
      let a = p.0 in
      let g = p.1 in (
        g,
        p.2,
        λ x.
            p.3 x ∙ ap (λ v. R.add a (R.mul x v)) (p.2 x) ∙ move_point R a x c top
            ∙ ap₂ R.add (ap (λ v. R.add a (R.mul c v)) (sym (p.2 c)) ∙ sym (p.3 c)) (ap (R.mul (minus R x c)) (sym (p.2 x))),
      )
  factor (suc n) top h p c =
      let a = p.0 in
      let g = p.1 in
      let f = factor n top g p.2 c in
      let k = f.0 in (
        (λ x. R.add (g c) (R.mul x (k x))),
        (g c, k, f.1, λ x. refl),
        λ x.
            p.3 x ∙ ap (λ v. R.add a (R.mul x v)) (f.2 x) ∙ ap (R.add a) (R.mul_add x (g c) (R.mul (minus R x c) (k x)))
            ∙ sym (R.add_assoc a (R.mul x (g c)) (R.mul x (R.mul (minus R x c) (k x))))
            ∙ ap₂ R.add (move_point R a x c (g c)) (mul_swap R comm x (minus R x c) (k x))
            ∙ R.add_assoc (R.add a (R.mul c (g c))) (R.mul (minus R x c) (g c)) (R.mul (minus R x c) (R.mul x (k x)))
            ∙ ap₂ R.add (sym (p.3 c)) (sym (R.mul_add (minus R x c) (g c) (R.mul x (k x)))),
      )

  pub roots_product : (n : ℕ) (top : M) (h : M → M) → IsPolynomial R n top h → (c : ℕ → M) → AreApart R c n
      → ((j : ℕ) → j < n → h (c j) ≡ R.zero) → (x : M) → h x ≡ R.mul top (falling R c n x)
  roots_product zero top h p c apart roots x = p x ∙ sym (R.mul_one top)
  roots_product (suc n) top h p c apart roots x =
      let f = factor n top h p (c 0) in
      let g = f.0 in
      let first : h (c 0) ≡ R.zero = roots 0 (omega arith) in
      let whole : (y : M) → h y ≡ R.mul (minus R y (c 0)) (g y) = λ y.
      f.2 y ∙ ap (λ v. R.add v (R.mul (minus R y (c 0)) (g y))) first ∙ R.zero_add (R.mul (minus R y (c 0)) (g y)) in
      whole x
      ∙ ap (R.mul (minus R x (c 0)))
      (roots_product n top g f.1 (λ j. c (suc j)) (λ i j l m. apart (suc i) (suc j) (omega arith) (omega arith))
      (λ j l. apart 0 (suc j) (omega arith) (omega arith) (g (c (suc j))) (sym (whole (c (suc j))) ∙ roots (suc j) (omega arith))) x)
      ∙ mul_swap R comm (minus R x (c 0)) top (falling R (λ j. c (suc j)) n x)
      ∙ ap (R.mul top) (sym (falling_front R n c x))

  power_polynomial : (k : ℕ) → IsPolynomial R k R.one (λ x. power R x k)
  power_polynomial zero = λ x. refl
  power_polynomial (suc k) = (
    R.zero,
    (λ x. power R x k),
    power_polynomial k,
    λ x. comm (power R x k) x ∙ sym (R.zero_add (R.mul x (power R x k))),
  )

  -- x^q - x has degree q
  power_minus : (q : ℕ) → 2 ≤ q → IsPolynomial R q R.one (λ x. minus R (power R x q) x)
  power_minus zero l = absurd (omega arith)
  power_minus (suc zero) l = absurd (omega arith)
  power_minus (suc (suc k)) l = (
    R.zero,
    (λ x. minus R (power R x (suc k)) R.one),
    (
      R.neg R.one,
      (λ x. power R x k),
      power_polynomial k,
      λ x. ap (λ y. R.add y (R.neg R.one)) (comm (power R x k) x) ∙ R.add_comm (R.mul x (power R x k)) (R.neg R.one),
    ),
    λ x.
        ap₂ R.add (comm (power R x (suc k)) x) (ap R.neg (sym (R.mul_one x)) ∙ sym (mul_neg R x R.one))
        ∙ sym (R.mul_add x (power R x (suc k)) (R.neg R.one)) ∙ sym (R.zero_add (R.mul x (minus R (power R x (suc k)) R.one))),
  )

  -- x^q - x is the product of x - c over q elements c that the power q fixes.
  pub product_of_roots : (q : ℕ) → 2 ≤ q → (c : ℕ → M) → AreApart R c q → ((j : ℕ) → j < q → power R (c j) q ≡ c j)
      → (x : M) → minus R (power R x q) x ≡ falling R c q x
  product_of_roots q large c apart fixed x =
      roots_product q R.one (λ y. minus R (power R y q) y) (power_minus q large) c apart
      (λ j l. ap (λ y. R.add y (R.neg (c j))) (fixed j l) ∙ R.add_neg (c j)) x
      ∙ R.one_mul (falling R c q x)

  -- An element that the power q fixes is a root of that product.
  pub fixed_falls : (q : ℕ) → 2 ≤ q → (c : ℕ → M) → AreApart R c q → ((j : ℕ) → j < q → power R (c j) q ≡ c j)
      → (x : M) → power R x q ≡ x → falling R c q x ≡ R.zero
  fixed_falls q large c apart fixed x e =
      sym (product_of_roots q large c apart fixed x) ∙ ap (λ y. R.add y (R.neg x)) e ∙ R.add_neg x

module _ {M : Type 0} (R : RingOn M) (dec : (x : M) → (x ≡ R.zero) ⊎ (x ≢ R.zero)) where
  -- Where no two nonzero elements multiply to zero, a product is zero only where a factor is.
  pub root_among : R.one ≢ R.zero → NoPair R → (c : ℕ → M) (n : ℕ) (x : M) → falling R c n x ≡ R.zero → (k : ℕ) × (k < n) × (x ≡ c k)
  root_among ne no_pair c zero x e = absurd (ne e)
  root_among ne no_pair c (suc n) x e =
      elim (dec (falling R c n x)) [
        | inl d ↦
            let p = root_among ne no_pair c n x d in
            let l : p.0 < n = p.1 in
            (p.0, omega arith, p.2)
        | inr nd ↦ (
          n,
          omega arith,
          elim (dec (minus R x (c n))) [
            | inl m ↦ minus_same R x (c n) m
            | inr nm ↦ absurd (no_pair (falling R c n x) (minus R x (c n)) nd nm e)
          ],
        )
      ]
