-- Relations of a central element `x` of a ring, with coefficients that a ring acts by, through coordinates in
-- which that action is multiplication.
use Rattle.std.proofs.Common.{◌≡◌, ◌≢◌, ℕ, zero, suc, ◌≤◌, inl, inr, refl, sym, ◌∙◌, ap, ap₂, arith}
use Rattle.std.proofs.lemmas.Bool.{cases_lt}
use Rattle.ring_core.proofs.Carrier.{RingOn, zero_mul, zero_only}
use Rattle.ring_core.proofs.Series.{total}
use Rattle.linear_algebra.proofs.Sums.{combine, total_same, total_right}
use Rattle.finite_ring.proofs.Powers.{power}
use Rattle.relation_theory.proofs.Euclid.{IsEuclidean, domain, zero_product}
use Rattle.relation_theory.proofs.Relations.{IsRel, rel_more}
use Rattle.relation_theory.proofs.Least.{IsLeast}

-- The sum of `act (c i) x^i` over `i` below `n`.
abbrev pub power_sum : {M N : Type 0} → RingOn N → (M → N) → N → ℕ → (ℕ → M) → N
power_sum S act x n c = total S n (λ i. S.mul (act (c i)) (power S x i))

-- `row u` are `w` coordinates of `u`, additive and one to one; multiplication by `act a` on the right multiplies
-- them by `a`; `x` commutes with each `act a`.
pub record IsCoordinates {M N : Type 0} (S : RingOn N) (A : RingOn M) (act : M → N) (x : N) (w : ℕ) (row : N → ℕ → M) : Type 0 where
  pub past : (u : N) (j : ℕ) → w ≤ j → row u j ≡ A.zero
  pub add : (u v : N) (j : ℕ) → row (S.add u v) j ≡ A.add (row u j) (row v j)
  pub scale : (u : N) (a : M) (j : ℕ) → row (S.mul u (act a)) j ≡ A.mul a (row u j)
  pub inj : (u : N) → ((j : ℕ) → row u j ≡ A.zero) → u ≡ S.zero
  pub central : (a : M) → S.mul x (act a) ≡ S.mul (act a) x
  pub nontrivial : S.one ≢ S.zero

module _ {M N : Type 0} (S : RingOn N) (A : RingOn M) (act : M → N) (x : N) (w : ℕ) (row : N → ℕ → M) (h : IsCoordinates S A act x w row) where
  -- The coordinates of the powers of x.
  pub power_rows : ℕ → ℕ → M
  power_rows i = row (power S x i)

  pub power_rows_is : (i j : ℕ) → power_rows i j ≡ row (power S x i) j
  unfolding power_rows
  power_rows_is i j = refl

  pub power_rows_past : (i j : ℕ) → w ≤ j → power_rows i j ≡ A.zero
  unfolding power_rows
  power_rows_past i j l = h.past (power S x i) j l

  -- the coordinates of a sum
  row_sum : (n : ℕ) (c : ℕ → M) (y : ℕ → N) (j : ℕ) → row (total S n (λ i. S.mul (y i) (act (c i)))) j ≡ combine A n c (λ i. row (y i)) j
  row_sum zero c y j = zero_only A (row S.zero j) (sym (h.add S.zero S.zero j) ∙ ap (λ t. row t j) (S.zero_add S.zero))
  row_sum (suc n) c y j = h.add _ _ j ∙ ap₂ A.add (row_sum n c y j) (h.scale (y n) (c n) j)

  powers_central : (a : M) (i : ℕ) → S.mul (act a) (power S x i) ≡ S.mul (power S x i) (act a)
  powers_central a zero = S.mul_one (act a) ∙ sym (S.one_mul (act a))
  powers_central a (suc i) =
      sym (S.mul_assoc (act a) (power S x i) x) ∙ ap (λ t. S.mul t x) (powers_central a i)
      ∙ S.mul_assoc (power S x i) (act a) x ∙ ap (S.mul (power S x i)) (sym (h.central a)) ∙ sym (S.mul_assoc (power S x i) x (act a))

  pub row_value : (n : ℕ) (c : ℕ → M) (j : ℕ) → row (power_sum S act x n c) j ≡ combine A n c power_rows j
  unfolding power_rows
  row_value n c j =
      ap (λ t. row t j) (total_same S n _ _ (λ i _. powers_central (c i) i)) ∙ row_sum n c (power S x) j

  pub value_zero : (n : ℕ) (c : ℕ → M) → ((j : ℕ) → combine A n c power_rows j ≡ A.zero) → power_sum S act x n c ≡ S.zero
  value_zero n c e = h.inj _ (λ j. row_value n c j ∙ e j)

  pub rows_zero : (n : ℕ) (c : ℕ → M) → power_sum S act x n c ≡ S.zero → (j : ℕ) → combine A n c power_rows j ≡ A.zero
  rows_zero n c e j = sym (row_value n c j) ∙ ap (λ t. row t j) e ∙ row_sum 0 c (power S x) j

  -- a relation moved up by one place is a relation
  pub moves : (n : ℕ) (c : ℕ → M) → IsRel A power_rows n c → (j : ℕ) → combine A n c (λ i. power_rows (suc i)) j ≡ A.zero
  unfolding power_rows
  moves n c s j =
      sym (row_sum n c (λ i. power S x (suc i)) j)
      ∙ ap (λ t. row t j)
      (total_same S n _ _ (λ i _. sym (powers_central (c i) (suc i)) ∙ sym (S.mul_assoc (act (c i)) (power S x i) x))
      ∙ total_right S n x _ ∙ ap (λ t. S.mul t x) (value_zero n c s.is) ∙ zero_mul S x)
      ∙ row_sum 0 c (power S x) j

  module _ (size : M → ℕ) (e : IsEuclidean A size) (d : ℕ) (f : ℕ → M) (least : IsLeast A power_rows d f) where
    -- one isn't a relation
    pub least_long : 1 ≤ d
    unfolding power_rows
    least_long = elim (cases_lt 0 d) [
      | inl l ↦ l
      | inr l ↦
          let z : d ≡ 0 = omega (arith, l) in
          absurd (h.nontrivial (h.inj S.one (λ j.
          zero_product A (domain A size e) (f 0) (row S.one j) (λ q. least.top (ap f z ∙ q))
          (sym (A.zero_add _) ∙ ap (λ n. combine A (suc n) f power_rows j) (sym z) ∙ least.relation.is j))))
    ]

    pub least_none : (n : ℕ) (c : ℕ → M) → n ≤ d → ((i : ℕ) → n ≤ i → c i ≡ A.zero) → power_sum S act x n c ≡ S.zero → (i : ℕ) → c i ≡ A.zero
    least_none n c l past z =
        least.none c (rel_more A power_rows n d c l (record { past = past; is = rows_zero n c z }))
