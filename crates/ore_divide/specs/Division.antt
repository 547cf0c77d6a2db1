-- Division of twisted polynomials with remainder, on either side.
use Rattle.std.specs.Prelude.{◌≡◌, ◌≢◌, ℕ, ◌<◌, true, List, [], length}
use Rattle.ring_core.specs.Ring.{RingOps}
use Rattle.ring_core.specs.Coeffs.{is_canonical}
use Rattle.ring_core.specs.Twisted.{list_add, list_mul}
use Rattle.ore_divide.specs.declared.fault.OreFault.{OreFault}
use Rattle.ore_divide.specs.declared.fault.OreFault.TheVariants.{ZeroDivisor, NoMemory}

-- `a = c b + rest`, where the rest is zero or of lower degree than `b`: it has fewer coefficients.
pub record IsRightDivision {E : Type 0} (r : RingOps E) (frob : E → ℕ → E) (a b c rest : List E) : Type 0 where
  pub quotient : is_canonical r c ≡ true
  pub remainder : is_canonical r rest ≡ true
  pub sum : a ≡ list_add r (list_mul r frob c b) rest
  pub lower : length rest < length b

-- `a = b c + rest`, with such a rest.
pub record IsLeftDivision {E : Type 0} (r : RingOps E) (frob : E → ℕ → E) (a b c rest : List E) : Type 0 where
  pub quotient : is_canonical r c ≡ true
  pub remainder : is_canonical r rest ≡ true
  pub sum : a ≡ list_add r (list_mul r frob b c) rest
  pub lower : length rest < length b

-- Why a division by `b` has no answer: `b` is zero, or memory was refused, which is told only where it isn't.
abbrev pub IsDivisionFault : {E : Type 0} → List E → OreFault → Type 0
IsDivisionFault b ZeroDivisor = b ≡ []
IsDivisionFault b NoMemory = b ≢ []
