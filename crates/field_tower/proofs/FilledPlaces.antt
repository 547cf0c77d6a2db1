-- Places that a loop fills from the lowest on.
use Rattle.std.proofs.Common.{◌≡◌, ◌≢◌, ℕ, suc, ◌+◌, ◌<◌, ◌≤◌, List, length, slice_set, length-set, ◌∙◌, arith}
use Rattle.ring_core.specs.Ring.{RingOps}
use Rattle.ring_core.specs.Coeffs.{coeff}
use Rattle.residue_field.specs.declared.TheConstants.{WIDTH}
use Rattle.field_tower.specs.steps.Places.{stored}
use Rattle.field_tower.proofs.Writes.{written, unwritten}
use Rattle.field_tower.proofs.Stored.{top_elem, stored_from}

-- `g` at the places below `i`, and zero past them.
pub record AreFilled (r : RingOps ℕ) (g : ℕ → ℕ) (i : ℕ) (u : List ℕ) : Type 0 where
  pub width : length u ≡ WIDTH
  pub done : (j : ℕ) → j < i → coeff r u j ≡ g j
  pub rest : (j : ℕ) → i ≤ j → coeff r u j ≡ r.zero

module _ (r : RingOps ℕ) (g : ℕ → ℕ) where
  pub filled_none : (u : List ℕ) → length u ≡ WIDTH → ((j : ℕ) → coeff r u j ≡ r.zero) → AreFilled r g 0 u
  filled_none u width zeros = record { width = width; done = λ j l. absurd (omega arith); rest = λ j l. zeros j }

  pub filled_more : (u : List ℕ) (i x : ℕ) → i < WIDTH → AreFilled r g i u → x ≡ g i → AreFilled r g (i + 1) (slice_set u i x)
  filled_more u i x room f e =
      let width = f.width in
      record {
        width = length-set u i x ∙ width;
        done = λ j (l : j < i + 1). written r u i x g j (omega arith) e (λ (d : j ≢ i). f.done j (omega arith));
        rest = λ j (l : i + 1 ≤ j). let d : j ≢ i = omega arith in unwritten r u i x j d (f.rest j (omega arith));
      }

  pub filled_all : (u : List ℕ) (i d : ℕ) → i ≡ suc d → AreFilled r g i u → top_elem u ≡ stored r d g
  filled_all u i d last f =
      stored_from r d u g f.width (λ j (l : j < suc d). f.done j (omega arith)) (λ j (l : suc d ≤ j). f.rest j (omega arith))
