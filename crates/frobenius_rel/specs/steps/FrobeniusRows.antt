-- The matrix by which multiplication by the power of tau of the degree of the field acts on motive coordinates.
use Rattle.std.specs.Prelude.{◌≡◌, ℕ, ◌+◌, ◌<◌, true, List, length}
use Rattle.ring_core.specs.Ring.{RingOps}
use Rattle.ring_core.specs.Field.{FrobOps}
use Rattle.ring_core.specs.Monomial.{tau_power}
use Rattle.linear_algebra.specs.Linear.{row_at, are_rows}
use Rattle.fq_poly.specs.Poly.{poly_ops}
use Rattle.drinfeld_mod.specs.Module.{rank_of}
use Rattle.motive_coords.specs.Motive.{IsMotive}

-- Row `i` holds the motive coordinates of `tau^(n + i)`, for `i` below the rank and a field of degree `n`.
pub record AreFrobeniusRows {E B : Type 0} (r : RingOps E) (f : FrobOps E B) (phi : List E) (rows : List (List (List E))) : Type 0 where
  pub count : length rows ≡ rank_of phi
  pub shape : are_rows (poly_ops r) (rank_of phi) rows ≡ true
  pub each : (i : ℕ) → i < rank_of phi → IsMotive r f.frob phi (tau_power r (f.degree + i)) (row_at rows i)
