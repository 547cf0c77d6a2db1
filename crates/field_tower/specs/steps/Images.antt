-- The Frobenius of a top field as a linear map that is kept as a list.
use Rattle.std.specs.Prelude.{ℕ, ◌+◌, ◌-◌, ◌/◌, ◌%◌, ◌^◌, List, [], slice_index_or}
use Rattle.ring_core.specs.Ring.{RingOps}
use Rattle.ring_core.specs.Coeffs.{coeff}
use Rattle.ring_core.specs.Powers.{power_of}
use Rattle.linear_algebra.specs.Combines.{combined as combined_rows}
use Rattle.residue_field.specs.declared.TopElem.{TopElem}
use Rattle.residue_field.specs.steps.Stored.{residue_unit}
use Rattle.residue_field.specs.TopElem.{top_places}
use Rattle.residue_field.specs.Base.{Base, ops_of, size_of}
use Rattle.residue_field.specs.Top.{top_ops}

-- The power by `q^(k / n)` of the residue with one at place `k % n` and zero elsewhere, which is that of
-- the power `k % n` of the letter, where `base` has `q` elements.
unfoldable pub frob_image : Base → ℕ → List ℕ → ℕ → TopElem
frob_image base n modulus k =
    power_of (top_ops base (n - 1) modulus) (residue_unit (ops_of base) (top_places (ops_of base) (n - 1)) (k % n)) (size_of base ^ (k / n))

-- The member at `k`.
abbrev pub image_at : List TopElem → ℕ → TopElem
image_at images k = slice_index_or images k (record { 0 = [] })

-- Coefficient `l` of the sum of the `n` images from the place `start` on, each multiplied with the
-- coefficient of `c` at its place.
unfoldable pub combined_images : RingOps ℕ → ℕ → List TopElem → ℕ → TopElem → ℕ → ℕ
combined_images r n images start c = combined_rows r n (coeff r c.0) (λ j. coeff r (image_at images (start + j)).0)
