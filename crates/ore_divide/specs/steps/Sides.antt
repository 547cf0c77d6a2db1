-- Multiples and divisions on either side.
use Rattle.std.specs.Prelude.{ℕ, List}
use Rattle.ring_core.specs.Ring.{RingOps}
use Rattle.ring_core.specs.Coeffs.{coeff}
use Rattle.ring_core.specs.Twisted.{list_mul}
use Rattle.ore_divide.specs.declared.side.Side.{Side}
use Rattle.ore_divide.specs.declared.side.Side.TheVariants.{Right, Left}
use Rattle.ore_divide.specs.Division.{IsRightDivision, IsLeftDivision}

-- The multiple of `b` by `c` that a division on that side takes away.
abbrev pub multiple_on : {E : Type 0} → Side → RingOps E → (E → ℕ → E) → List E → List E → List E
multiple_on Right r frob c b = list_mul r frob c b
multiple_on Left r frob c b = list_mul r frob b c

-- The coefficient `k + j` of such a multiple by `c tau^k`.
abbrev pub term_on : {E : Type 0} → Side → RingOps E → (E → ℕ → E) → E → ℕ → List E → ℕ → E
term_on Right r frob c k b j = r.mul c (frob (coeff r b j) k)
term_on Left r frob c k b j = r.mul (coeff r b j) (frob c j)

-- `c` and `rest` are the quotient and the remainder of `a` by `b`.
abbrev pub IsDivision : {E : Type 0} → Side → RingOps E → (E → ℕ → E) → List E → List E → List E → List E → Type 0
IsDivision Right r frob a b c rest = IsRightDivision r frob a b c rest
IsDivision Left r frob a b c rest = IsLeftDivision r frob a b c rest
