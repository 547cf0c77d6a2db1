-- Rows of coordinates, read as twisted polynomials.
use Rattle.std.specs.Prelude.{◌≡◌, ℕ, ◌<◌, List, length, true}
use Rattle.ring_core.specs.Ring.{RingOps}
use Rattle.ring_core.specs.Field.{FrobOps}
use Rattle.ring_core.specs.Coeffs.{coeff, is_canonical}
use Rattle.linear_algebra.specs.Linear.{row_at}
use Rattle.central_coords.specs.Coordinates.{coordinate}

-- `u` has the coordinates `x`.
pub record IsReadRow {E B : Type 0} (r : RingOps E) (base : RingOps B) (f : FrobOps E B) (x : List B) (u : List E) : Type 0 where
  pub canonical : is_canonical r u ≡ true
  pub coords : (c : ℕ) → coordinate r f u c ≡ coeff base x c

-- Member `i` of the list has the coordinates of row `i`, for each row.
pub record AreReadRows {E B : Type 0} (r : RingOps E) (base : RingOps B) (f : FrobOps E B) (rows : List (List B)) (list : List (List E)) : Type 0 where
  pub count : length list ≡ length rows
  pub each : (i : ℕ) → i < length list → IsReadRow r base f (row_at rows i) (row_at list i)
