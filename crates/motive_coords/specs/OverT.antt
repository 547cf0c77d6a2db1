-- Coordinates over the polynomials in T with coefficients in the base.
use Rattle.std.specs.Prelude.{◌≡◌, ◌*◌, ◌/◌, ◌%◌, List, length}
use Rattle.ring_core.specs.Ring.{RingOps}
use Rattle.ring_core.specs.Field.{FrobOps}
use Rattle.ring_core.specs.Coeffs.{coeff, list_of, first_values}
use Rattle.fq_poly.specs.Poly.{poly_ops}
use Rattle.motive_coords.specs.Motive.{IsMotive}

-- The base coordinates of the members, in a field of degree `n` over the base: number `i n + j` has the `j`-th
-- base coordinates of the coefficients of member `i`.
abbrev pub base_parts : {E B : Type 0} → RingOps E → RingOps B → FrobOps E B → List (List E) → List (List B)
base_parts r base f list =
    let member = coeff (poly_ops r) list in
    first_values (length list * f.degree) (λ q. list_of base (length (member (q / f.degree))) (λ e. f.coord (coeff r (member (q / f.degree)) e) (q % f.degree)))

-- `v` holds the base coordinates of the motive coordinates of `u`.
pub record IsOverT {E B : Type 0} (r : RingOps E) (base : RingOps B) (f : FrobOps E B) (phi u : List E) (v : List (List B)) : Type 0 where
  pub motive : List (List E)
  pub is_motive : IsMotive r f.frob phi u motive
  pub is : v ≡ base_parts r base f motive
