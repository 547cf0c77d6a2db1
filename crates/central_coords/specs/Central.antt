-- Coordinates over the polynomials in tau^n, where `n` is the degree of the field: `tau^n` commutes with every
-- twisted polynomial, and a letter `x` stands for it.
use Rattle.std.specs.Prelude.{◌≡◌, ℕ, ◌+◌, ◌*◌, ◌<◌, List, length, true}
use Rattle.ring_core.specs.Ring.{RingOps}
use Rattle.ring_core.specs.Field.{FrobOps}
use Rattle.ring_core.specs.Coeffs.{coeff}
use Rattle.linear_algebra.specs.Linear.{row_at}
use Rattle.flat_modules.specs.Flat.{are_flat}
use Rattle.central_coords.specs.Coordinates.{coordinate}

-- The `n^2` polynomials in `x` over the base that belong to `u`. The coefficient of `x^m` in polynomial `i n + j` is
-- coordinate `(n m + i) n + j` of `u`.
pub record AreCentralCoordinates {E B : Type 0} (r : RingOps E) (base : RingOps B) (f : FrobOps E B) (u : List E) (list : List (List B)) : Type 0 where
  pub count : length list ≡ f.degree * f.degree
  pub polys : are_flat base list ≡ true
  pub is : (m i j : ℕ) → i < f.degree → j < f.degree → coeff base (row_at list (i * f.degree + j)) m ≡ coordinate r f u ((f.degree * m + i) * f.degree + j)
