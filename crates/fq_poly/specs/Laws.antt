-- What holds of all polynomials over a field.
use Rattle.std.specs.Prelude.{◌≡◌, ◌≢◌, ◌+◌, true, List, [], length}
use Rattle.ring_core.specs.Ring.{RingOps}
use Rattle.ring_core.specs.Coeffs.{is_canonical}
use Rattle.fq_poly.specs.Poly.{poly_mul}
use Rattle.fq_poly.specs.Division.{IsDivision}
use Rattle.fq_poly.specs.Monic.{IsMonicMultiple}

-- The degree, the length less one, of a product is the sum of the degrees.
abbrev pub DegreesAdd : {E : Type 0} → RingOps E → Type 0
DegreesAdd {E} r =
    (a b : List E) → is_canonical r a ≡ true → is_canonical r b ≡ true → a ≢ [] → b ≢ []
    → length (poly_mul r a b) + 1 ≡ length a + length b

-- At most one pair of quotient and remainder serves.
abbrev pub DivisionIsUnique : {E : Type 0} → RingOps E → Type 0
DivisionIsUnique {E} r =
    (a b c d rest other : List E) → is_canonical r b ≡ true → IsDivision r a b c rest → IsDivision r a b d other
    → (c ≡ d) × (rest ≡ other)

-- At most one multiple by a constant has the top coefficient one.
abbrev pub MonicIsUnique : {E : Type 0} → RingOps E → Type 0
MonicIsUnique {E} r =
    (a m other : List E) → is_canonical r a ≡ true → IsMonicMultiple r a m → IsMonicMultiple r a other → m ≡ other
