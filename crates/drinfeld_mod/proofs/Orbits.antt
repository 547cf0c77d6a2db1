-- The product of x - c over an orbit of an endomorphism: its coefficients are fixed.
use Rattle.std.proofs.Common.{◌≡◌, ℕ, zero, suc, ◌<◌, sym, ◌∙◌, ap, ap₂, refl, arith}
use mathlib.Core.Path.{fun_ext}
use Rattle.ring_core.proofs.Carrier.{RingOn, add_zero, mul_zero, zero_mul, neg_zero, neg_neg, neg_add, neg_sum, neg_only, mul_neg, neg_mul, add_exchange}
use Rattle.ring_core.proofs.Series.{IsEndo, unit, total}
use Rattle.finite_ring.proofs.Powers.{power, mul_swap}

abbrev pub shift : {M : Type 0} → RingOn M → (ℕ → M) → ℕ → M
shift R v zero = R.zero
shift R v (suc i) = v i

-- The coefficients of (x - a) g.
abbrev pub linear : {M : Type 0} → RingOn M → M → (ℕ → M) → ℕ → M
linear R a g i = R.add (shift R g i) (R.neg (R.mul a (g i)))

-- The coefficients of the product of x - c j over j below n.
abbrev pub roots : {M : Type 0} → RingOn M → (ℕ → M) → ℕ → ℕ → M
roots R c zero = unit R
roots R c (suc n) = linear R (c n) (roots R c n)

-- A map of rings takes the value of a polynomial to that of its image.
module _ {M N : Type 0} (R : RingOn M) (S : RingOn N) (s : M → N) (none : s R.zero ≡ S.zero) (one : s R.one ≡ S.one)
    (add : (x y : M) → s (R.add x y) ≡ S.add (s x) (s y)) (mul : (x y : M) → s (R.mul x y) ≡ S.mul (s x) (s y)) where
  map_power : (x : M) (n : ℕ) → s (power R x n) ≡ power S (s x) n
  map_power x zero = one
  map_power x (suc n) = mul _ x ∙ ap (λ y. S.mul y (s x)) (map_power x n)

  pub map_value : (n : ℕ) (c : ℕ → M) (x : M) → s (total R n (λ i. R.mul (c i) (power R x i))) ≡ total S n (λ i. S.mul (s (c i)) (power S (s x) i))
  map_value zero c x = none
  map_value (suc n) c x = add _ _ ∙ ap₂ S.add (map_value n c x) (mul (c n) _ ∙ ap (S.mul (s (c n))) (map_power x n))

module _ {M : Type 0} (R : RingOn M) where
  shift_linear : (a : M) (f g : ℕ → M) (i : ℕ) → shift R (λ j. R.add (f j) (R.neg (R.mul a (g j)))) i ≡ R.add (shift R f i) (R.neg (R.mul a (shift R g i)))
  shift_linear a f g zero = sym (ap (R.add R.zero) (ap R.neg (mul_zero R a) ∙ neg_zero R) ∙ R.zero_add R.zero)
  shift_linear a f g (suc i) = refl

  pub roots_past : (c : ℕ → M) (n i : ℕ) → n < i → roots R c n i ≡ R.zero
  roots_past c zero zero l = absurd (omega arith)
  roots_past c zero (suc i) l = refl
  roots_past c (suc n) zero l = absurd (omega arith)
  roots_past c (suc n) (suc i) l =
      ap₂ (λ x y. R.add x (R.neg (R.mul (c n) y))) (roots_past c n i (omega arith)) (roots_past c n (suc i) (omega arith))
      ∙ ap (R.add R.zero) (ap R.neg (mul_zero R (c n)) ∙ neg_zero R) ∙ R.zero_add R.zero

  pub roots_top : (c : ℕ → M) (n : ℕ) → roots R c n n ≡ R.one
  roots_top c zero = refl
  roots_top c (suc n) =
      ap₂ (λ x y. R.add x (R.neg (R.mul (c n) y))) (roots_top c n) (roots_past c n (suc n) (omega arith))
      ∙ ap (R.add R.one) (ap R.neg (mul_zero R (c n)) ∙ neg_zero R) ∙ add_zero R R.one

  endo_neg : (f : M → M) → IsEndo R f → (x : M) → f (R.neg x) ≡ R.neg (f x)
  endo_neg f h x = neg_only R (f x) (f (R.neg x)) (sym (h.add x (R.neg x)) ∙ ap f (R.add_neg x) ∙ h.zero)

  shift_endo : (f : M → M) → IsEndo R f → (g : ℕ → M) (i : ℕ) → f (shift R g i) ≡ shift R (λ j. f (g j)) i
  shift_endo f h g zero = h.zero
  shift_endo f h g (suc i) = refl

  unit_endo : (f : M → M) → IsEndo R f → (i : ℕ) → f (unit R i) ≡ unit R i
  unit_endo f h zero = h.one
  unit_endo f h (suc i) = h.zero

  pub roots_endo : (f : M → M) → IsEndo R f → (c : ℕ → M) (n i : ℕ) → f (roots R c n i) ≡ roots R (λ j. f (c j)) n i
  roots_endo f h c zero i = unit_endo f h i
  roots_endo f h c (suc n) i =
      h.add _ _
      ∙ ap₂ R.add (shift_endo f h (roots R c n) i ∙ ap (λ g. shift R g i) (fun_ext (roots_endo f h c n)))
      (endo_neg f h _ ∙ ap R.neg (h.mul (c n) (roots R c n i) ∙ ap (R.mul (f (c n))) (roots_endo f h c n i)))

module _ {M : Type 0} (R : RingOn M) (comm : (a b : M) → R.mul a b ≡ R.mul b a) where
  linear_expanded : (a b : M) (g : ℕ → M) (i : ℕ) → linear R a (linear R b g) i
      ≡ R.add (R.add (shift R (shift R g) i) (R.neg (R.mul b (shift R g i)))) (R.add (R.neg (R.mul a (shift R g i))) (R.mul a (R.mul b (g i))))
  linear_expanded a b g i =
      ap₂ R.add (shift_linear R b (shift R g) g i)
      (ap R.neg (R.mul_add a (shift R g i) (R.neg (R.mul b (g i)))) ∙ neg_sum R _ _
      ∙ ap (R.add (R.neg (R.mul a (shift R g i)))) (ap R.neg (mul_neg R a (R.mul b (g i))) ∙ neg_neg R _))

  linear_swap : (a b : M) (g : ℕ → M) (i : ℕ) → linear R a (linear R b g) i ≡ linear R b (linear R a g) i
  linear_swap a b g i =
      linear_expanded a b g i ∙ add_exchange R _ _ _ _
      ∙ ap (R.add (R.add (shift R (shift R g) i) (R.neg (R.mul a (shift R g i))))) (ap (R.add (R.neg (R.mul b (shift R g i)))) (mul_swap R comm a b (g i)))
      ∙ sym (linear_expanded b a g i)

  roots_front : (c : ℕ → M) (n i : ℕ) → roots R c (suc n) i ≡ linear R (c 0) (roots R (λ j. c (suc j)) n) i
  roots_front c zero i = refl
  roots_front c (suc n) i =
      ap (λ g. linear R (c (suc n)) g i) (fun_ext (roots_front c n))
      ∙ linear_swap (c (suc n)) (c 0) (roots R (λ j. c (suc j)) n) i

  -- a cycle of roots
  pub roots_cycle : (c : ℕ → M) (n i : ℕ) → c (suc n) ≡ c 0 → roots R (λ j. c (suc j)) (suc n) i ≡ roots R c (suc n) i
  roots_cycle c n i e = ap (λ a. linear R a (roots R (λ j. c (suc j)) n) i) e ∙ sym (roots_front c n i)

  -- the value of (x - a) g at a, as far as it was summed
  linear_value : (a : M) (g : ℕ → M) (n : ℕ) → total R (suc n) (λ i. R.mul (linear R a g i) (power R a i)) ≡ R.neg (R.mul (R.mul a (g n)) (power R a n))
  linear_value a g zero =
      R.zero_add _ ∙ ap (λ x. R.mul x R.one) (R.zero_add (R.neg (R.mul a (g 0)))) ∙ neg_mul R (R.mul a (g 0)) R.one
  linear_value a g (suc n) =
      let p = power R a n in
      let last = R.neg (R.mul (R.mul a (g (suc n))) (R.mul p a)) in
      ap₂ R.add (linear_value a g n)
      (R.add_mul (g n) (R.neg (R.mul a (g (suc n)))) (R.mul p a)
      ∙ ap₂ R.add
      (sym (R.mul_assoc (g n) p a) ∙ comm (R.mul (g n) p) a ∙ sym (R.mul_assoc a (g n) p))
      (neg_mul R (R.mul a (g (suc n))) (R.mul p a)))
      ∙ sym (R.add_assoc (R.neg (R.mul (R.mul a (g n)) p)) (R.mul (R.mul a (g n)) p) last)
      ∙ ap (λ x. R.add x last) (neg_add R (R.mul (R.mul a (g n)) p)) ∙ R.zero_add last

  -- the first root
  pub roots_value : (c : ℕ → M) (n : ℕ) → total R (suc (suc n)) (λ i. R.mul (roots R c (suc n) i) (power R (c 0) i)) ≡ R.zero
  roots_value c n =
      ap (λ (h : ℕ → M). total R (suc (suc n)) (λ i. R.mul (h i) (power R (c 0) i))) (fun_ext (roots_front c n))
      ∙ linear_value (c 0) (roots R (λ j. c (suc j)) n) (suc n)
      ∙ ap R.neg (ap (λ x. R.mul x (power R (c 0) (suc n))) (ap (R.mul (c 0)) (roots_past R (λ j. c (suc j)) n (suc n) (omega arith)) ∙ mul_zero R (c 0)) ∙ zero_mul R _)
      ∙ neg_zero R
