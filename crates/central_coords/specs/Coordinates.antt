-- The coordinates of a twisted polynomial over the base.
use Rattle.std.specs.Prelude.{◌≡◌, ◌≢◌, ℕ, ◌<◌, ◌/◌, ◌%◌, List}
use Rattle.ring_core.specs.Ring.{RingOps}
use Rattle.ring_core.specs.Field.{FrobOps}
use Rattle.ring_core.specs.Coeffs.{coeff, first_values}

-- Coordinate `i n + j`, for `j` below the degree `n`, is the `j`-th base coordinate of the coefficient at `i`.
abbrev pub coordinate : {E B : Type 0} → RingOps E → FrobOps E B → List E → ℕ → B
coordinate r f u c = f.coord (coeff r u (c / f.degree)) (c % f.degree)

-- The first `w` coordinates.
abbrev pub coordinate_row : {E B : Type 0} → RingOps E → FrobOps E B → ℕ → List E → List B
coordinate_row r f w u = first_values w (coordinate r f u)

-- `c` is the highest index with a nonzero coordinate.
pub record IsLeadingPlace {E B : Type 0} (r : RingOps E) (base : RingOps B) (f : FrobOps E B) (u : List E) (c : ℕ) : Type 0 where
  pub nonzero : coordinate r f u c ≢ base.zero
  pub above : (j : ℕ) → c < j → coordinate r f u j ≡ base.zero
