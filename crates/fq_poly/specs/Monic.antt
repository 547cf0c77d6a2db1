-- The multiple of a polynomial by a constant with top coefficient one.
use Rattle.std.specs.Prelude.{◌≡◌, ◌≢◌, ◌-◌, true, Result, Ok, Err, List, [], length}
use Rattle.ring_core.specs.Ring.{RingOps, IsElem}
use Rattle.ring_core.specs.Coeffs.{coeff, is_canonical}
use Rattle.ring_core.specs.Monomial.{constant}
use Rattle.fq_poly.specs.Poly.{poly_mul}
use Rattle.fq_poly.specs.declared.fault.PolyFault.{PolyFault}
use Rattle.fq_poly.specs.declared.fault.PolyFault.TheVariants.{ZeroDivisor, NoMemory}

-- `m` is `factor a`, and has the top coefficient one.
pub record IsMonicMultiple {E : Type 0} (r : RingOps E) (a m : List E) : Type 0 where
  pub canonical : is_canonical r m ≡ true
  pub factor : E
  pub factor_in : IsElem r factor
  pub multiple : m ≡ poly_mul r (constant r factor) a
  pub top : coeff r m (length m - 1) ≡ r.one

-- The answer for `a`: that multiple, or the fault that `a` is zero, which comes exactly there.
abbrev pub IsMonicAnswer : {E : Type 0} → RingOps E → List E → Result (List E) PolyFault → Type 0
IsMonicAnswer r a (Ok m) = IsMonicMultiple r a m
IsMonicAnswer r a (Err ZeroDivisor) = a ≡ []
IsMonicAnswer r a (Err NoMemory) = a ≢ []
