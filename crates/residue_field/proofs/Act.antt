-- Polynomials act on sequences: `x` by a step that is linear, a polynomial by its coefficients. All
-- actions commute, and a polynomial acts on one as itself. Over any commutative ring.
use Rattle.std.proofs.Common.{◌≡◌, ℕ, zero, suc, ◌+◌, ◌≤◌, sym, refl, ap, ap₂, ◌∙◌, arith}
use mathlib.Core.Path.{fun_ext}
use Rattle.ring_core.proofs.Carrier.{RingOn, add_zero, zero_mul, mul_zero, add_exchange, neg_zero, neg_sum, mul_neg}

abbrev pub shift : {M : Type 0} → RingOn M → (ℕ → M) → ℕ → M
shift R v zero = R.zero
shift R v (suc i) = v i

-- x v, where the multiple of f by the coefficient of v at n is taken away
abbrev pub x_act : {M : Type 0} → RingOn M → ℕ → (ℕ → M) → (ℕ → M) → ℕ → M
x_act R n f v i = R.add (shift R v i) (R.neg (R.mul (v n) (f i)))

-- a_0 v + x (a_1 v + x (..)), with k coefficients of a
abbrev pub act : {M : Type 0} → RingOn M → ℕ → (ℕ → M) → ℕ → (ℕ → M) → (ℕ → M) → ℕ → M
act R n f zero a v i = R.zero
act R n f (suc k) a v i = R.add (R.mul (a 0) (v i)) (x_act R n f (act R n f k (λ j. a (suc j)) v) i)

abbrev pub constant : {M : Type 0} → RingOn M → M → ℕ → M
constant R c zero = c
constant R c (suc i) = R.zero

module _ {M : Type 0} (R : RingOn M) where
  -- a - 0 b = a
  pub minus_none : (a b : M) → R.add a (R.neg (R.mul R.zero b)) ≡ a
  minus_none a b = ap (λ x. R.add a (R.neg x)) (zero_mul R b) ∙ ap (R.add a) (neg_zero R) ∙ add_zero R a

  -- a_0 + x a' = a
  pub first-and-rest : (a : ℕ → M) (i : ℕ) → R.add (R.mul (a 0) (constant R R.one i)) (shift R (λ j. a (suc j)) i) ≡ a i
  first-and-rest a zero = add_zero R _ ∙ R.mul_one (a 0)
  first-and-rest a (suc i) = ap (λ x. R.add x (a (suc i))) (mul_zero R (a 0)) ∙ R.zero_add (a (suc i))

  pub shift-add : (v w : ℕ → M) (i : ℕ) → shift R (λ j. R.add (v j) (w j)) i ≡ R.add (shift R v i) (shift R w i)
  shift-add v w zero = sym (R.zero_add R.zero)
  shift-add v w (suc i) = refl

  pub shift-scale : (c : M) (v : ℕ → M) (i : ℕ) → shift R (λ j. R.mul c (v j)) i ≡ R.mul c (shift R v i)
  shift-scale c v zero = sym (mul_zero R c)
  shift-scale c v (suc i) = refl

  pub shift-zero : (i : ℕ) → shift R (λ j. R.zero) i ≡ R.zero
  shift-zero zero = refl
  shift-zero (suc i) = refl

module _ {M : Type 0} (R : RingOn M) (commutes : (a b : M) → R.mul a b ≡ R.mul b a) (n : ℕ) (f : ℕ → M) where
  x-add : (v w : ℕ → M) (i : ℕ) → x_act R n f (λ j. R.add (v j) (w j)) i ≡ R.add (x_act R n f v i) (x_act R n f w i)
  x-add v w i =
      ap₂ R.add (shift-add R v w i) (ap R.neg (R.add_mul (v n) (w n) (f i)) ∙ neg_sum R _ _)
      ∙ add_exchange R _ _ _ _

  x-scale : (c : M) (v : ℕ → M) (i : ℕ) → x_act R n f (λ j. R.mul c (v j)) i ≡ R.mul c (x_act R n f v i)
  x-scale c v i =
      ap₂ R.add (shift-scale R c v i) (ap R.neg (R.mul_assoc c (v n) (f i)) ∙ sym (mul_neg R c _))
      ∙ sym (R.mul_add c _ _)

  pub x-zero : (i : ℕ) → x_act R n f (λ j. R.zero) i ≡ R.zero
  x-zero i = minus_none R _ _ ∙ shift-zero R i

  pub x-eq : (v w : ℕ → M) → ((j : ℕ) → v j ≡ w j) → (i : ℕ) → x_act R n f v i ≡ x_act R n f w i
  x-eq v w e i = ap (λ u. x_act R n f u i) (fun_ext e)

  pub act-zero : (k : ℕ) (a : ℕ → M) (i : ℕ) → act R n f k a (λ j. R.zero) i ≡ R.zero
  act-zero zero a i = refl
  act-zero (suc k) a i =
      ap₂ R.add (mul_zero R (a 0)) (x-eq _ (λ j. R.zero) (act-zero k (λ j. a (suc j))) i ∙ x-zero i) ∙ R.zero_add R.zero

  pub act-add_right : (k : ℕ) (a v w : ℕ → M) (i : ℕ) → act R n f k a (λ j. R.add (v j) (w j)) i ≡ R.add (act R n f k a v i) (act R n f k a w i)
  act-add_right zero a v w i = sym (R.zero_add R.zero)
  act-add_right (suc k) a v w i =
      let rest = λ (j : ℕ). a (suc j) in
      ap₂ R.add (R.mul_add (a 0) (v i) (w i))
      (x-eq _ (λ j. R.add (act R n f k rest v j) (act R n f k rest w j)) (act-add_right k rest v w) i ∙ x-add _ _ i)
      ∙ add_exchange R _ _ _ _

  pub act-add_left : (k : ℕ) (a b v : ℕ → M) (i : ℕ) → act R n f k (λ j. R.add (a j) (b j)) v i ≡ R.add (act R n f k a v i) (act R n f k b v i)
  act-add_left zero a b v i = sym (R.zero_add R.zero)
  act-add_left (suc k) a b v i =
      let rest = λ (j : ℕ). a (suc j) in
      let other = λ (j : ℕ). b (suc j) in
      ap₂ R.add (R.add_mul (a 0) (b 0) (v i))
      (x-eq _ (λ j. R.add (act R n f k rest v j) (act R n f k other v j)) (act-add_left k rest other v) i ∙ x-add _ _ i)
      ∙ add_exchange R _ _ _ _

  pub act-scale : (k : ℕ) (c : M) (a v : ℕ → M) (i : ℕ) → act R n f k a (λ j. R.mul c (v j)) i ≡ R.mul c (act R n f k a v i)
  act-scale zero c a v i = sym (mul_zero R c)
  act-scale (suc k) c a v i =
      let rest = λ (j : ℕ). a (suc j) in
      ap₂ R.add (sym (R.mul_assoc (a 0) c (v i)) ∙ ap (λ x. R.mul x (v i)) (commutes (a 0) c) ∙ R.mul_assoc c (a 0) (v i))
      (x-eq _ (λ j. R.mul c (act R n f k rest v j)) (act-scale k c rest v) i ∙ x-scale c _ i)
      ∙ sym (R.mul_add c _ _)

  pub act-scale_left : (k : ℕ) (c : M) (a v : ℕ → M) (i : ℕ) → act R n f k (λ j. R.mul c (a j)) v i ≡ R.mul c (act R n f k a v i)
  act-scale_left zero c a v i = sym (mul_zero R c)
  act-scale_left (suc k) c a v i =
      let rest = λ (j : ℕ). a (suc j) in
      ap₂ R.add (R.mul_assoc c (a 0) (v i))
      (x-eq _ (λ j. R.mul c (act R n f k rest v j)) (act-scale_left k c rest v) i ∙ x-scale c _ i)
      ∙ sym (R.mul_add c _ _)

  pub act-x : (k : ℕ) (a v : ℕ → M) (i : ℕ) → act R n f k a (x_act R n f v) i ≡ x_act R n f (act R n f k a v) i
  act-x zero a v i = sym (x-zero i)
  act-x (suc k) a v i =
      let rest = λ (j : ℕ). a (suc j) in
      ap₂ R.add (sym (x-scale (a 0) v i)) (x-eq _ (x_act R n f (act R n f k rest v)) (act-x k rest v) i)
      ∙ sym (x-add (λ j. R.mul (a 0) (v j)) (x_act R n f (act R n f k rest v)) i)

  -- any two actions commute
  pub act-act : (k m : ℕ) (a b v : ℕ → M) (i : ℕ) → act R n f k a (act R n f m b v) i ≡ act R n f m b (act R n f k a v) i
  act-act zero m a b v i = sym (act-zero m b i)
  act-act (suc k) m a b v i =
      let rest = λ (j : ℕ). a (suc j) in
      ap₂ R.add (sym (act-scale m (a 0) b v i))
      (x-eq _ (act R n f m b (act R n f k rest v)) (act-act k m rest b v) i ∙ sym (act-x m b (act R n f k rest v) i))
      ∙ sym (act-add_right m b (λ j. R.mul (a 0) (v j)) (x_act R n f (act R n f k rest v)) i)

  -- no coefficient is ever cleared: one becomes the polynomial itself
  pub act-one : (k : ℕ) (a : ℕ → M) → k ≤ suc n → ((i : ℕ) → k ≤ i → a i ≡ R.zero) → (i : ℕ) → act R n f k a (constant R R.one) i ≡ a i
  act-one zero a low past i = sym (past i (omega arith))
  act-one (suc k) a low past i =
      let rest = λ (j : ℕ). a (suc j) in
      let top : rest n ≡ R.zero = past (suc n) low in
      ap (R.add (R.mul (a 0) (constant R R.one i)))
      (x-eq _ rest (act-one k rest (omega arith) (λ j l. past (suc j) (omega arith))) i
      ∙ ap (λ t. R.add (shift R rest i) (R.neg (R.mul t (f i)))) top ∙ minus_none R _ _)
      ∙ first-and-rest R a i

  pub act-none : (k : ℕ) (v : ℕ → M) (i : ℕ) → act R n f k (λ j. R.zero) v i ≡ R.zero
  act-none zero v i = refl
  act-none (suc k) v i = ap₂ R.add (zero_mul R (v i)) (x-eq _ (λ j. R.zero) (act-none k v) i ∙ x-zero i) ∙ R.zero_add R.zero

  -- coefficients that are zero add nothing
  pub act-longer : (d k : ℕ) (a v : ℕ → M) → ((i : ℕ) → k ≤ i → a i ≡ R.zero) → (i : ℕ) → act R n f (k + d) a v i ≡ act R n f k a v i
  act-longer d zero a v past i =
      ap (λ b. act R n f (0 + d) b v i) (fun_ext {g = λ j. R.zero} (λ j. past j (omega arith))) ∙ act-none (0 + d) v i
  act-longer d (suc k) a v past i =
      let rest = λ (j : ℕ). a (suc j) in
      let count : suc k + d ≡ suc (k + d) = omega arith in
      ap (λ m. act R n f m a v i) count
      ∙ ap (R.add (R.mul (a 0) (v i))) (x-eq _ (act R n f k rest v) (act-longer d k rest v (λ j l. past (suc j) (omega arith))) i)
