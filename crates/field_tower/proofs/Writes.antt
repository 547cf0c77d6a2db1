-- A list written place by place.
use Rattle.std.proofs.Common.{◌≡◌, ◌≢◌, ℕ, zero, suc, ◌<◌, List, length, slice_set, get_or-set_other, get_or-set_same, ⊎_elim, sym, refl, ap, ap₂, ◌∙◌, arith}
use Rattle.std.proofs.lemmas.Bool.{cases_eq}
use Rattle.ring_core.specs.Ring.{RingOps}
use Rattle.ring_core.specs.Coeffs.{coeff}
use Rattle.residue_field.specs.Residue.{shifted, times_x}

module _ {E : Type 0} (r : RingOps E) where
  -- what a write at `i` leaves at `j`
  pub written : (u : List E) (i : ℕ) (v : E) (g : ℕ → E) (j : ℕ) → i < length u → v ≡ g i → (j ≢ i → coeff r u j ≡ g j) → coeff r (slice_set u i v) j ≡ g j
  written u i v g j l e other =
      ⊎_elim
      (λ same. ap (coeff r (slice_set u i v)) same ∙ get_or-set_same u i v r.zero l ∙ e ∙ ap g (sym same))
      (λ differ. get_or-set_other u i j v r.zero differ ∙ other differ)
      (cases_eq j i)

  pub unwritten : (u : List E) (i : ℕ) (v : E) (j : ℕ) {x : E} → j ≢ i → coeff r u j ≡ x → coeff r (slice_set u i v) j ≡ x
  unwritten u i v j differ e = get_or-set_other u i j v r.zero differ ∙ e

  pub shifted_same : (v w : ℕ → E) (i : ℕ) → ((j : ℕ) → j < i → v j ≡ w j) → shifted r v i ≡ shifted r w i
  shifted_same v w zero e = refl
  shifted_same v w (suc i) e = e i (omega arith)

  pub times-x_same : (n : ℕ) (f v w : ℕ → E) (i : ℕ) → i < suc n → ((j : ℕ) → j < suc n → v j ≡ w j) → times_x r n f v i ≡ times_x r n f w i
  times-x_same n f v w i l e =
      ap₂ r.add (shifted_same v w i (λ j (k : j < i). e j (omega arith))) (ap (λ t. r.neg (r.mul t (f i))) (e n (omega arith)))
