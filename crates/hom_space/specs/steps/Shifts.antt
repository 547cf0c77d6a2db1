-- Products of a list's members with powers of tau^n that have degree at most `d`, as rows of coordinates.
use Rattle.std.specs.Prelude.{◌≡◌, ℕ, ◌+◌, ◌-◌, ◌*◌, ◌/◌, ◌<◌, List, length}
use Rattle.ring_core.specs.Ring.{RingOps}
use Rattle.ring_core.specs.Field.{FrobOps}
use Rattle.ring_core.specs.Coeffs.{first_values}
use Rattle.linear_algebra.specs.Linear.{row_at}
use Rattle.flat_modules.specs.Flat.{shifted}
use Rattle.central_coords.specs.Coordinates.{coordinate}

-- The first `(d + 1) n` coordinates of `tau^(n e) u`, where `n` is the degree of the field.
abbrev pub shifted_row : {E B : Type 0} → RingOps E → RingOps B → FrobOps E B → ℕ → List E → ℕ → List B
shifted_row r base f d u e = first_values ((d + 1) * f.degree) (shifted base (e * (f.degree * f.degree)) (coordinate r f u))

-- How many of the products `tau^(n e) u` have degree at most `d`, for a `u` of `len` coefficients that isn't zero.
abbrev pub shift_count : ℕ → ℕ → ℕ → ℕ
shift_count n d len = (d + 1 + n - len) / n

-- The rows are those of the first `count` members of the list.
pub record AreShifts {E B : Type 0} (r : RingOps E) (base : RingOps B) (f : FrobOps E B) (d count : ℕ) (list : List (List E)) (rows : List (List B)) : Type 0 where
  pub each : (m : ℕ) → m < length rows → (i e : ℕ) × (i < count) × (e < shift_count f.degree d (length (row_at list i))) × (row_at rows m ≡ shifted_row r base f d (row_at list i) e)
  pub all : (i e : ℕ) → i < count → e < shift_count f.degree d (length (row_at list i)) → (m : ℕ) × (m < length rows) × (row_at rows m ≡ shifted_row r base f d (row_at list i) e)
