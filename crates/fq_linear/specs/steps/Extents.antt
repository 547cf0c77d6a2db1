-- Where the rows of a table can be nonzero.
use Rattle.std.specs.Prelude.{◌≡◌, ℕ, ◌<◌, ◌≤◌, Option, List, length, slice_index_or}
use Rattle.ring_core.specs.Ring.{RingOps}
use Rattle.fq_linear.specs.declared.extent.Extent.{Extent}
use Rattle.fq_linear.specs.steps.Elimination.{slot}

-- The row is zero outside the places of the extent.
pub record HasExtent {E : Type 0} (r : RingOps E) (e : Extent) (row : ℕ → E) : Type 0 where
  pub below : (k : ℕ) → k < e.low → row k ≡ r.zero
  pub between : (k : ℕ) → e.end ≤ k → k < e.high → row k ≡ r.zero

-- The row with lead `j` has the extent at `j`.
pub record HaveExtents {E : Type 0} (r : RingOps E) (w : ℕ) (index : List (Option ℕ)) (cells : List E) (extents : List Extent) : Type 0 where
  pub len : length extents ≡ w
  pub is : (j : ℕ) (past : Extent) → j < w → HasExtent r (slice_index_or extents j past) (slot r w index cells j)
