-- Finite sums, combinations of rows and products of matrices over a ring.
use Rattle.std.proofs.Common.{◌≡◌, ℕ, zero, suc, ◌<◌, ◌≤◌, ◌≢◌, ◌⊎◌, inl, inr, Bool, true, false, cond, nat_eq, refl, sym, ◌∙◌, ap, ap₂, arith, eq-eqb, eqb-true, ne_eqb}
use Rattle.std.proofs.lemmas.Bool.{eqb-false}
use Rattle.ring_core.proofs.Carrier.{RingOn, add_zero, zero_mul, mul_zero, add_exchange, neg_only}
use Rattle.ring_core.proofs.Series.{total}

-- The sum of `c i` times row `i`, at place `j`.
abbrev pub combine : {M : Type 0} → RingOn M → ℕ → (ℕ → M) → (ℕ → ℕ → M) → ℕ → M
combine R n c rows j = total R n (λ i. R.mul (c i) (rows i j))

-- The members of the unit matrix.
abbrev pub unit : {M : Type 0} → RingOn M → ℕ → ℕ → M
unit R i j = cond (nat_eq i j) R.one R.zero

-- By the two values of a test.
pub by_bool : {X : Type 0} (b : Bool) → (b ≡ true → X) → (b ≡ false → X) → X
by_bool true f g = f refl
by_bool false f g = g refl

pub same_or_other : (i j : ℕ) → (i ≡ j) ⊎ (i ≢ j)
same_or_other i j = by_bool (nat_eq i j) (λ e. inl (eqb-true i j e)) (λ e. inr (eqb-false i j e))

module _ {M : Type 0} (R : RingOn M) where
  pub total_same : (n : ℕ) (f g : ℕ → M) → ((i : ℕ) → i < n → f i ≡ g i) → total R n f ≡ total R n g
  total_same zero f g h = refl
  total_same (suc n) f g h = ap₂ R.add (total_same n f g (λ i l. h i (omega arith))) (h n (omega arith))

  pub total_zero : (n : ℕ) (f : ℕ → M) → ((i : ℕ) → i < n → f i ≡ R.zero) → total R n f ≡ R.zero
  total_zero zero f h = refl
  total_zero (suc n) f h =
      ap₂ R.add (total_zero n f (λ i l. h i (omega arith))) (h n (omega arith)) ∙ R.zero_add R.zero

  pub total_add : (n : ℕ) (f g : ℕ → M) → total R n (λ i. R.add (f i) (g i)) ≡ R.add (total R n f) (total R n g)
  total_add zero f g = sym (R.zero_add R.zero)
  total_add (suc n) f g =
      ap (λ x. R.add x (R.add (f n) (g n))) (total_add n f g)
      ∙ add_exchange R (total R n f) (total R n g) (f n) (g n)

  -- a common factor on the left
  pub total_left : (n : ℕ) (a : M) (f : ℕ → M) → total R n (λ i. R.mul a (f i)) ≡ R.mul a (total R n f)
  total_left zero a f = sym (mul_zero R a)
  total_left (suc n) a f =
      ap (λ x. R.add x (R.mul a (f n))) (total_left n a f) ∙ sym (R.mul_add a (total R n f) (f n))

  -- a common factor on the right
  pub total_right : (n : ℕ) (a : M) (f : ℕ → M) → total R n (λ i. R.mul (f i) a) ≡ R.mul (total R n f) a
  total_right zero a f = sym (zero_mul R a)
  total_right (suc n) a f =
      ap (λ x. R.add x (R.mul (f n) a)) (total_right n a f) ∙ sym (R.add_mul (total R n f) (f n) a)

  -- terms that are zero from `n` on
  pub total_rest : (n m : ℕ) (f : ℕ → M) → n ≤ m → ((i : ℕ) → n ≤ i → i < m → f i ≡ R.zero) → total R m f ≡ total R n f
  total_rest n zero f l h = let e : n ≡ 0 = omega arith in ap (λ k. total R k f) (sym e)
  total_rest n (suc m) f l h =
      elim (same_or_other n (suc m)) [
        | inl e ↦ ap (λ k. total R k f) (sym e)
        | inr ne ↦
            let below : n ≤ m = omega arith in
            ap₂ R.add (total_rest n m f below (λ i a b. h i a (omega arith))) (h m below (omega arith))
            ∙ add_zero R (total R n f)
      ]

  -- one term that is not zero
  pub total_single : (n p : ℕ) (f : ℕ → M) → p < n → ((i : ℕ) → i < n → i ≢ p → f i ≡ R.zero) → total R n f ≡ f p
  total_single zero p f l h = absurd (omega arith)
  total_single (suc n) p f l h =
      elim (same_or_other n p) [
        | inl e ↦
            ap (λ x. R.add x (f n)) (total_zero n f (λ i b. h i (omega arith) (λ q. omega arith)))
            ∙ R.zero_add (f n) ∙ ap f e
        | inr ne ↦
            ap₂ R.add (total_single n p f (omega arith) (λ i b d. h i (omega arith) d)) (h n (omega arith) ne)
            ∙ add_zero R (f p)
      ]

  pub unit_same : (i j : ℕ) → i ≡ j → unit R i j ≡ R.one
  unit_same i j e = ap (λ b. cond b R.one R.zero) (eq-eqb i j e)

  pub unit_other : (i j : ℕ) → i ≢ j → unit R i j ≡ R.zero
  unit_other i j ne = ap (λ b. cond b R.one R.zero) (ne_eqb i j ne)

  pub combine_same : (n : ℕ) (c d : ℕ → M) (rows : ℕ → ℕ → M) (j : ℕ) → ((i : ℕ) → i < n → c i ≡ d i) → combine R n c rows j ≡ combine R n d rows j
  combine_same n c d rows j h = total_same n _ _ (λ i l. ap (λ a. R.mul a (rows i j)) (h i l))

  -- row `p` of the unit matrix picks row `p`
  pub unit_combine : (n p : ℕ) (rows : ℕ → ℕ → M) (j : ℕ) → p < n → combine R n (unit R p) rows j ≡ rows p j
  unit_combine n p rows j l =
      total_single n p _ l (λ i _ ne. ap (λ a. R.mul a (rows i j)) (unit_other p i (λ e. ne (sym e))) ∙ zero_mul R (rows i j))
      ∙ ap (λ a. R.mul a (rows p j)) (unit_same p p refl) ∙ R.one_mul (rows p j)

  -- a combination of the unit rows has its coefficients as members
  pub combine_unit : (n : ℕ) (c : ℕ → M) (j : ℕ) → j < n → combine R n c (unit R) j ≡ c j
  combine_unit n c j l =
      total_single n j _ l (λ i _ ne. ap (R.mul (c i)) (unit_other i j ne) ∙ mul_zero R (c i))
      ∙ ap (R.mul (c j)) (unit_same j j refl) ∙ R.mul_one (c j)

  pub combine_add : (n : ℕ) (c d : ℕ → M) (rows : ℕ → ℕ → M) (j : ℕ)
      → combine R n (λ i. R.add (c i) (d i)) rows j ≡ R.add (combine R n c rows j) (combine R n d rows j)
  combine_add n c d rows j =
      total_same n _ _ (λ i l. R.add_mul (c i) (d i) (rows i j)) ∙ total_add n _ _

  pub combine_scale : (n : ℕ) (a : M) (c : ℕ → M) (rows : ℕ → ℕ → M) (j : ℕ)
      → combine R n (λ i. R.mul a (c i)) rows j ≡ R.mul a (combine R n c rows j)
  combine_scale n a c rows j =
      total_same n _ _ (λ i l. R.mul_assoc a (c i) (rows i j)) ∙ total_left n a _

  -- products of three matrices
  pub product_assoc : (n m : ℕ) (c : ℕ → M) (a b : ℕ → ℕ → M) (j : ℕ)
      → combine R n (combine R m c a) b j ≡ combine R m c (λ i. combine R n (a i) b) j
  product_assoc zero m c a b j = sym (total_zero m _ (λ i l. mul_zero R (c i)))
  product_assoc (suc n) m c a b j =
      ap₂ R.add (product_assoc n m c a b j)
      (sym (total_right m (b n j) (λ i. R.mul (c i) (a i n)))
      ∙ total_same m _ _ (λ i l. R.mul_assoc (c i) (a i n) (b n j)))
      ∙ sym (total_add m _ _)
      ∙ total_same m _ _ (λ i l. sym (R.mul_add (c i) (combine R n (a i) b j) (R.mul (a i n) (b n j))))

  pub combine_neg : (n : ℕ) (c : ℕ → M) (rows : ℕ → ℕ → M) (j : ℕ) → combine R n (λ i. R.neg (c i)) rows j ≡ R.neg (combine R n c rows j)
  combine_neg n c rows j =
      neg_only R (combine R n c rows j) _
      (sym (combine_add n c (λ i. R.neg (c i)) rows j)
      ∙ total_zero n _ (λ i l. ap (λ a. R.mul a (rows i j)) (R.add_neg (c i)) ∙ zero_mul R (rows i j)))
