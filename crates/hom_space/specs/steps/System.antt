-- The rows of the linear system: the coordinates of `u phi_T - psi_T u` for each `u` with a single coordinate.
use Rattle.std.specs.Prelude.{ℕ, ◌*◌, ◌/◌, ◌%◌, List, ◌++◌, length, max, nat_eq, if◌then◌else◌}
use Rattle.ring_core.specs.Ring.{RingOps}
use Rattle.ring_core.specs.Field.{FrobOps}
use Rattle.ring_core.specs.Coeffs.{coeff, first_values}
use Rattle.central_coords.specs.Coordinates.{coordinate_row}

-- The element with the coordinate one at `j` and zero elsewhere.
abbrev pub unit_element : {E B : Type 0} → RingOps B → FrobOps E B → ℕ → E
unit_element base f j = f.of_coords (first_values f.degree (λ i. if nat_eq i j then base.one else base.zero))

-- The first `s` coefficients of `phi`, each raised `i` times.
abbrev pub raised_list : {E B : Type 0} → RingOps E → FrobOps E B → List E → ℕ → ℕ → List E
raised_list r f phi s i = first_values s (λ m. f.frob (coeff r phi m) i)

-- The first `s` coefficients of `psi` times `z`.
abbrev pub turned_list : {E B : Type 0} → RingOps E → FrobOps E B → List E → ℕ → E → List E
turned_list r f psi s z = first_values s (λ m. r.mul (coeff r psi m) (f.frob z m))

-- `z` times one list less the other, behind `i` zeros.
abbrev pub image_list : {E : Type 0} → RingOps E → ℕ → E → List E → List E → List E
image_list r i z raised turned = first_values i (λ m. r.zero) ++ first_values (length raised) (λ m. r.add (r.mul z (coeff r raised m)) (r.neg (coeff r turned m)))

-- Row `c` for `count` coefficients: that of `u = z tau^i` for `c = i n + j`, where `z` is unit element `j`.
abbrev pub system_row : {E B : Type 0} → RingOps E → RingOps B → FrobOps E B → List E → List E → ℕ → ℕ → List B
system_row r base f phi psi count c =
    let s = max (length phi) (length psi) in
    let i = c / f.degree in
    let z = unit_element base f (c % f.degree) in
    coordinate_row r f (count * f.degree) (image_list r i z (raised_list r f phi s i) (turned_list r f psi s z))
