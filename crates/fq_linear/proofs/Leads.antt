-- Leads of rows that are lists.
use Rattle.std.proofs.Common.{◌≡◌, ℕ, zero, suc, ◌<◌, true, false, cond, List, [], ◌∷◌, length, get_or, map, refl, sym, ◌∙◌, ap, arith}
use Rattle.std.proofs.lemmas.Bool.{and_parts}
use Rattle.ring_core.specs.Ring.{RingOps, IsElem, IsRing}
use Rattle.ring_core.specs.Coeffs.{coeff, trim, cons_trimmed, are_elems}
use Rattle.ring_core.proofs.Coefficients.{coeff-trim, coeff_past}
use Rattle.linear_algebra.specs.Linear.{lead}
use Rattle.linear_algebra.proofs.Sums.{by_bool}

pub at_map : {X : Type 0} (f : ℕ → X) (xs : List ℕ) (i : ℕ) (d : X) → i < length xs → get_or (map f xs) i d ≡ f (get_or xs i 0)
at_map f [] i d l = absurd (omega arith)
at_map f (x ∷ xs) zero d l = refl
at_map f (x ∷ xs) (suc i) d l = at_map f xs i d (omega arith)

pub length_map : {X : Type 0} (f : ℕ → X) (xs : List ℕ) → length (map f xs) ≡ length xs
length_map f [] = refl
length_map f (x ∷ xs) = ap suc (length_map f xs)

module _ {E : Type 0} (r : RingOps E) where
  length_cons : (x : E) (t : List E) → 0 < length t → length (cons_trimmed r x t) ≡ suc (length t)
  length_cons x [] l = absurd (omega arith)
  length_cons x (y ∷ ys) l = refl

module _ {E : Type 0} (r : RingOps E) (h : IsRing r) where
  trim_zero : (u : List E) → ((i : ℕ) → coeff r u i ≡ r.zero) → trim r u ≡ []
  trim_zero [] e = refl
  trim_zero (x ∷ xs) e =
      ap (cons_trimmed r x) (trim_zero xs (λ i. e (suc i)))
      ∙ ap (λ b. cond b [] (x ∷ [])) (ap (λ y. r.same y r.zero) (e 0) ∙ h.equal.same_refl r.zero h.closed.zero_in)

  not_same : (x : E) → IsElem r x → (x ≡ r.zero → ⊥) → r.same x r.zero ≡ false
  not_same x xi ne = by_bool (r.same x r.zero) (λ t. absurd (ne (h.equal.same_eq x r.zero xi h.closed.zero_in t))) (λ f. f)

  length_trim_top : (u : List E) (j : ℕ) → are_elems r u ≡ true → (coeff r u j ≡ r.zero → ⊥) → ((k : ℕ) → j < k → coeff r u k ≡ r.zero) → length (trim r u) ≡ suc j
  length_trim_top [] j e ne above = absurd (ne refl)
  length_trim_top (x ∷ xs) zero e ne above =
      ap (λ t. length (cons_trimmed r x t)) (trim_zero xs (λ i. above (suc i) (omega arith)))
      ∙ ap (λ b. length (cond b [] (x ∷ []))) (not_same x (and_parts _ _ e).0 ne)
  length_trim_top (x ∷ xs) (suc j) e ne above =
      let below = length_trim_top xs j (and_parts _ _ e).1 ne (λ k (l : j < k). above (suc k) (omega arith)) in
      length_cons r x (trim r xs) (omega (arith, below)) ∙ ap suc below

  pub lead_is : (u : List E) (j : ℕ) → are_elems r u ≡ true → (coeff r u j ≡ r.zero → ⊥) → ((k : ℕ) → j < k → coeff r u k ≡ r.zero) → lead r u ≡ j
  lead_is u j e ne above = let len = length_trim_top u j e ne above in omega (arith, len)

  pub lead_above : (u : List E) (k : ℕ) → are_elems r u ≡ true → lead r u < k → coeff r u k ≡ r.zero
  lead_above u k e l = sym (coeff-trim r h.closed.zero_in h.equal u e k) ∙ coeff_past r (trim r u) k (omega arith)
