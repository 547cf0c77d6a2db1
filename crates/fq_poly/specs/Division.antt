-- Division with remainder.
use Rattle.std.specs.Prelude.{◌≡◌, ◌≢◌, ◌<◌, true, Result, Ok, Err, List, [], length}
use Rattle.ring_core.specs.Ring.{RingOps}
use Rattle.ring_core.specs.Coeffs.{is_canonical}
use Rattle.ring_core.specs.Twisted.{list_add}
use Rattle.fq_poly.specs.Poly.{poly_mul}
use Rattle.fq_poly.specs.declared.fault.PolyFault.{PolyFault}
use Rattle.fq_poly.specs.declared.fault.PolyFault.TheVariants.{ZeroDivisor, NoMemory}

-- `a = c b + rest`, where `rest` is zero or of lower degree than `b`: it has fewer coefficients.
pub record IsDivision {E : Type 0} (r : RingOps E) (a b c rest : List E) : Type 0 where
  pub quotient : is_canonical r c ≡ true
  pub remainder : is_canonical r rest ≡ true
  pub sum : a ≡ list_add r (poly_mul r c b) rest
  pub lower : length rest < length b

-- What a division of `a` by `b` answers: quotient and remainder, or the fault that `b` is zero,
-- which comes exactly there.
abbrev pub IsDivisionAnswer : {E : Type 0} → RingOps E → List E → List E → Result (List E × List E) PolyFault → Type 0
IsDivisionAnswer r a b (Ok (c, rest)) = IsDivision r a b c rest
IsDivisionAnswer r a b (Err ZeroDivisor) = b ≡ []
IsDivisionAnswer r a b (Err NoMemory) = b ≢ []
