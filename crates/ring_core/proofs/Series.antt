-- Sequences of coefficients under the product with a twist `f`, `(a b)_n = sum of a_i * f^i b_(n - i)`:
-- a ring for every endomorphism `f` of the ring of coefficients, the identity included.
use Rattle.std.proofs.Common.{◌≡◌, ℕ, zero, suc, sym, ◌∙◌, ap, ap₂}
use mathlib.Core.Path.{fun_ext}
use Rattle.ring_core.proofs.Carrier.{RingOn, add_zero, add_swap, add_exchange, zero_mul, mul_zero}

-- `f` keeps sums, products, zero and one.
pub record IsEndo {M : Type 0} (R : RingOn M) (f : M → M) : Type 0 where
  pub add : (a b : M) → f (R.add a b) ≡ R.add (f a) (f b)
  pub mul : (a b : M) → f (R.mul a b) ≡ R.mul (f a) (f b)
  pub zero : f R.zero ≡ R.zero
  pub one : f R.one ≡ R.one

-- Coefficient `n` of the product of `a` and `b`.
abbrev pub conv : {M : Type 0} → RingOn M → (M → M) → ℕ → (ℕ → M) → (ℕ → M) → M
conv R f zero a b = R.mul (a 0) (b 0)
conv R f (suc n) a b = R.add (R.mul (a 0) (b (suc n))) (conv R f n (λ i. a (suc i)) (λ j. f (b j)))

-- One, as a sequence.
abbrev pub unit : {M : Type 0} → RingOn M → ℕ → M
unit R zero = R.one
unit R (suc i) = R.zero

module _ {M : Type 0} (R : RingOn M) (f : M → M) where
  pub conv-add_left : (n : ℕ) (a b c : ℕ → M) → conv R f n (λ i. R.add (a i) (b i)) c ≡ R.add (conv R f n a c) (conv R f n b c)
  conv-add_left zero a b c = R.add_mul (a 0) (b 0) (c 0)
  conv-add_left (suc n) a b c =
      ap₂ R.add (R.add_mul (a 0) (b 0) (c (suc n)))
      (conv-add_left n (λ i. a (suc i)) (λ i. b (suc i)) (λ j. f (c j)))
      ∙ add_exchange R _ _ _ _

  pub conv-scale : (n : ℕ) (x : M) (a b : ℕ → M) → conv R f n (λ i. R.mul x (a i)) b ≡ R.mul x (conv R f n a b)
  conv-scale zero x a b = R.mul_assoc x (a 0) (b 0)
  conv-scale (suc n) x a b =
      ap₂ R.add (R.mul_assoc x (a 0) (b (suc n))) (conv-scale n x (λ i. a (suc i)) (λ j. f (b j)))
      ∙ sym (R.mul_add x _ _)

  pub zero_conv : (n : ℕ) (b : ℕ → M) → conv R f n (λ i. R.zero) b ≡ R.zero
  zero_conv zero b = zero_mul R (b 0)
  zero_conv (suc n) b =
      ap₂ R.add (zero_mul R (b (suc n))) (zero_conv n (λ j. f (b j))) ∙ R.zero_add R.zero

  pub unit_conv : (n : ℕ) (b : ℕ → M) → conv R f n (unit R) b ≡ b n
  unit_conv zero b = R.one_mul (b 0)
  unit_conv (suc n) b =
      ap₂ R.add (R.one_mul (b (suc n))) (zero_conv n (λ j. f (b j))) ∙ add_zero R (b (suc n))

module _ {M : Type 0} (R : RingOn M) (f : M → M) (h : IsEndo R f) where
  pub conv-add_right : (n : ℕ) (a b c : ℕ → M) → conv R f n a (λ j. R.add (b j) (c j)) ≡ R.add (conv R f n a b) (conv R f n a c)
  conv-add_right zero a b c = R.mul_add (a 0) (b 0) (c 0)
  conv-add_right (suc n) a b c =
      let rest = λ (i : ℕ). a (suc i) in
      ap₂ R.add (R.mul_add (a 0) (b (suc n)) (c (suc n)))
      (ap (conv R f n rest) (fun_ext (λ j. h.add (b j) (c j)))
      ∙ conv-add_right n rest (λ j. f (b j)) (λ j. f (c j)))
      ∙ add_exchange R _ _ _ _

  pub conv-endo : (n : ℕ) (a b : ℕ → M) → f (conv R f n a b) ≡ conv R f n (λ i. f (a i)) (λ j. f (b j))
  conv-endo zero a b = h.mul (a 0) (b 0)
  conv-endo (suc n) a b =
      h.add _ _
      ∙ ap₂ R.add (h.mul (a 0) (b (suc n))) (conv-endo n (λ i. a (suc i)) (λ j. f (b j)))

  unit_kept : (j : ℕ) → f (unit R j) ≡ unit R j
  unit_kept zero = h.one
  unit_kept (suc j) = h.zero

  pub conv_unit : (n : ℕ) (a : ℕ → M) → conv R f n a (unit R) ≡ a n
  conv_unit zero a = R.mul_one (a 0)
  conv_unit (suc n) a =
      let rest = λ (i : ℕ). a (suc i) in
      ap₂ R.add (mul_zero R (a 0)) (ap (conv R f n rest) (fun_ext unit_kept) ∙ conv_unit n rest)
      ∙ R.zero_add (a (suc n))

  pub conv_assoc : (n : ℕ) (a b c : ℕ → M) → conv R f n (λ i. conv R f i a b) c ≡ conv R f n a (λ j. conv R f j b c)
  conv_assoc zero a b c = R.mul_assoc (a 0) (b 0) (c 0)
  conv_assoc (suc n) a b c =
      let rest = λ (i : ℕ). a (suc i) in
      let up = λ (j : ℕ). f (b j) in
      let upper = λ (j : ℕ). f (c j) in
      ap₂ R.add (R.mul_assoc (a 0) (b 0) (c (suc n)))
      (conv-add_left R f n (λ i. R.mul (a 0) (b (suc i))) (λ i. conv R f i rest up) upper
      ∙ ap₂ R.add (conv-scale R f n (a 0) (λ i. b (suc i)) upper)
      (conv_assoc n rest up upper ∙ ap (conv R f n rest) (fun_ext (λ j. sym (conv-endo j b c)))))
      ∙ sym (R.add_assoc _ _ _)
      ∙ ap (λ x. R.add x (conv R f n rest (λ j. f (conv R f j b c)))) (sym (R.mul_add (a 0) _ _))

  -- The ring of sequences.
  abbrev pub series : RingOn (ℕ → M)
  series = record {
    zero = λ i. R.zero;
    one = unit R;
    add = λ a b i. R.add (a i) (b i);
    neg = λ a i. R.neg (a i);
    mul = λ a b i. conv R f i a b;
    add_assoc = λ a b c. fun_ext (λ i. R.add_assoc (a i) (b i) (c i));
    add_comm = λ a b. fun_ext (λ i. R.add_comm (a i) (b i));
    zero_add = λ a. fun_ext (λ i. R.zero_add (a i));
    add_neg = λ a. fun_ext (λ i. R.add_neg (a i));
    mul_assoc = λ a b c. fun_ext (λ i. conv_assoc i a b c);
    one_mul = λ a. fun_ext (λ i. unit_conv R f i a);
    mul_one = λ a. fun_ext (λ i. conv_unit i a);
    mul_add = λ a b c. fun_ext (λ i. conv-add_right i a b c);
    add_mul = λ a b c. fun_ext (λ i. conv-add_left R f i a b c);
  }

-- Without a twist, products of sequences commute where those of coefficients do.
module _ {M : Type 0} (R : RingOn M) (comm : (a b : M) → R.mul a b ≡ R.mul b a) where
  -- the last term in front
  conv_last : (n : ℕ) (a b : ℕ → M) → conv R (λ x. x) (suc n) a b ≡ R.add (R.mul (a (suc n)) (b 0)) (conv R (λ x. x) n a (λ j. b (suc j)))
  conv_last zero a b = R.add_comm _ _
  conv_last (suc n) a b =
      ap (R.add (R.mul (a 0) (b (suc (suc n))))) (conv_last n (λ i. a (suc i)) b) ∙ add_swap R _ _ _

  pub conv_comm : (n : ℕ) (a b : ℕ → M) → conv R (λ x. x) n a b ≡ conv R (λ x. x) n b a
  conv_comm zero a b = comm (a 0) (b 0)
  conv_comm (suc n) a b =
      conv_last n a b ∙ ap₂ R.add (comm (a (suc n)) (b 0)) (conv_comm n a (λ j. b (suc j)))

-- The sum of `g i` over `i` below `n`.
abbrev pub total : {M : Type 0} → RingOn M → ℕ → (ℕ → M) → M
total R zero g = R.zero
total R (suc n) g = R.add (total R n g) (g n)

module _ {M : Type 0} (R : RingOn M) where
  -- the first term in front
  pub total_first : (n : ℕ) (g : ℕ → M) → total R (suc n) g ≡ R.add (g 0) (total R n (λ i. g (suc i)))
  total_first zero g = R.add_comm R.zero (g 0)
  total_first (suc n) g = ap (λ x. R.add x (g (suc n))) (total_first n g) ∙ R.add_assoc _ _ _
