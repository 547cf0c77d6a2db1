-- Lists of rows, and of slots, to which members are pushed.
use Rattle.std.proofs.Common.{◌≡◌, ◌≢◌, ℕ, zero, suc, ◌+◌, ◌<◌, inl, inr, true, Option, Some, None, List, [], ◌∷◌, ◌++◌, length, cond, replicate, refl, sym, ◌∙◌, ap, ap₂, subst, arith, eq-eqb, ne_eqb}
use Rattle.std.proofs.lemmas.Bool.{and_from, and_parts}
use Rattle.std.proofs.lemmas.List.{get_or_append_left, get_or_push, length_push, length-replicate}
use Rattle.ring_core.specs.Ring.{RingOps}
use Rattle.ring_core.specs.Coeffs.{coeff, is_canonical, first_values}
use Rattle.ring_core.proofs.Coefficients.{coeff-first_values}
use Rattle.ring_core.proofs.FirstValues.{values_same, values_pushed}
use Rattle.linear_algebra.specs.Linear.{row_at}
use Rattle.linear_algebra.proofs.Sums.{same_or_other}
use Rattle.flat_modules.specs.Flat.{are_flat, unit_at}
use Rattle.flat_reduce.specs.steps.Settled.{slot_of, IsUnsettled}
use Rattle.flat_reduce.proofs.Settling.{none_not_some}

-- no slot is taken
pub free : (w t : ℕ) → slot_of (replicate w None) t ≡ None
free zero t = refl
free (suc w) zero = refl
free (suc w) (suc t) = free w t

pub free_len : (w : ℕ) → length (replicate {A = Option ℕ} w None) ≡ w
free_len w = length-replicate w None

pub not_free : (w j q : ℕ) → slot_of (replicate w None) j ≡ Some q → ⊥
not_free w j q e = none_not_some q (slot_of (replicate w None) j) (free w j) e

module _ {E : Type 0} where
  pub push_low : (rows : List (List E)) (x : List E) (i : ℕ) → i < length rows → row_at (rows ++ x ∷ []) i ≡ row_at rows i
  push_low rows x i l = get_or_append_left rows (x ∷ []) [] i l

  pub push_last : (rows : List (List E)) (x : List E) (i : ℕ) → length rows ≡ i → row_at (rows ++ x ∷ []) i ≡ x
  push_last rows x i l = get_or_push rows x [] i l

  pub flat_push : (r : RingOps E) (rows : List (List E)) (x : List E) → are_flat r rows ≡ true → is_canonical r x ≡ true → are_flat r (rows ++ x ∷ []) ≡ true
  flat_push r [] x e h = and_from _ _ h refl
  flat_push r (y ∷ ys) x e h = and_from _ _ (and_parts _ _ e).0 (flat_push r ys x (and_parts _ _ e).1 h)

  -- what holds of each row with its number, as rows are pushed
  pub push_each : (P : ℕ → List E → Type 0) (rows after : List (List E)) (x : List E) (n : ℕ) → after ≡ rows ++ x ∷ [] → length rows ≡ n → ((i : ℕ) → i < n → P i (row_at rows i)) → P n x → (i : ℕ) → i < n + 1 → P i (row_at after i)
  push_each P rows after x n pushed len before last i l = elim (same_or_other n i) [
    | inl e ↦ subst (λ k. P k (row_at after k)) e (subst (P n) (sym (ap (λ v. row_at v n) pushed ∙ push_last rows x n len)) last)
    | inr ne ↦ subst (P i) (sym (ap (λ v. row_at v i) pushed ∙ push_low rows x i (omega (arith, l, ne, len)))) (before i (omega (arith, l, ne)))
  ]

  pub push_len : (rows after : List (List E)) (x : List E) (n : ℕ) → after ≡ rows ++ x ∷ [] → length rows ≡ n → length after ≡ n + 1
  push_len rows after x n pushed len = let e = length_push rows x in ap length pushed ∙ omega (arith, e, len)

  -- zeros and then one
  pub zeros_one : (r : RingOps E) (n t : ℕ) → coeff r (first_values n (λ _. r.zero) ++ r.one ∷ []) t ≡ unit_at r n t
  zeros_one r n t =
      let other : (i : ℕ) → n ≢ i → unit_at r n i ≡ r.zero = λ i ne. ap (λ b. cond b r.one r.zero) (ne_eqb n i ne) in
      ap (λ u. coeff r u t)
      (ap₂ (λ z o. z ++ o ∷ []) (values_same n (λ _. r.zero) (unit_at r n) (λ i l. sym (other i (λ e. omega (arith, e, l))))) (ap (λ b. cond b r.one r.zero) (sym (eq-eqb n n refl)))
      ∙ values_pushed n (unit_at r n))
      ∙ coeff-first_values r (suc n) (unit_at r n) (λ i l. other i (λ e. omega (arith, e, l))) t

-- no row is settled yet
pub unsettled_start : {E : Type 0} (w : ℕ) (slot : List (Option ℕ)) (image : List (List E)) → slot ≡ replicate w None → IsUnsettled w 0 0 slot image
unsettled_start w slot image is = record {
  len = ap length is ∙ free_len w;
  names = λ j q e. absurd (not_free w j q (ap (λ s. slot_of s j) (sym is) ∙ e));
  all = λ k l ne nz. absurd (ne (omega (arith, l)));
}
