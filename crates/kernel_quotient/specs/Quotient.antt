-- Quotients of a Drinfeld module by a twisted polynomial, and why there is none.
use Rattle.std.specs.Prelude.{◌≡◌, ◌≢◌, ℕ, List, [], Result, Ok, Err}
use Rattle.ring_core.specs.Ring.{RingOps}
use Rattle.ring_core.specs.Twisted.{list_mul}
use Rattle.ore_divide.specs.Division.{IsRightDivision}
use Rattle.drinfeld_mod.specs.Module.{IsModule, constant_of}
use Rattle.morphism.specs.Homomorphism.{IsHomomorphism}
use Rattle.kernel_quotient.specs.declared.fault.NoQuotient.{NoQuotient}
use Rattle.kernel_quotient.specs.declared.fault.NoQuotient.TheVariants.{Zero, Remainder, Constant, NoMemory}

-- `psi` is the module with the constant of `phi` to which `u`, which isn't zero, is a homomorphism from `phi`.
pub record IsQuotient {E : Type 0} (r : RingOps E) (frob : E → ℕ → E) (phi u psi : List E) : Type 0 where
  pub nonzero : u ≢ []
  pub target : IsModule r psi
  pub constant : constant_of r psi ≡ constant_of r phi
  pub hom : IsHomomorphism r frob phi psi u

-- `u phi_T` is `c u` and the rest: `c` is the other factor where the rest is zero.
abbrev pub IsOtherFactor : {E : Type 0} → RingOps E → (E → ℕ → E) → List E → List E → List E → List E → Type 0
IsOtherFactor r frob phi u c rest = IsRightDivision r frob (list_mul r frob u phi) u c rest

-- What is answered: the quotient, or why there is none: `u` is zero, or else it leaves a remainder when it divides
-- `u phi_T` on the right, or else the constant of the other factor isn't that of `phi`.
abbrev pub IsQuotientAnswer : {E : Type 0} → RingOps E → (E → ℕ → E) → List E → List E → Result (List E) (NoQuotient E) → Type 0
IsQuotientAnswer r frob phi u (Ok psi) = IsQuotient r frob phi u psi
IsQuotientAnswer r frob phi u (Err Zero) = u ≡ []
IsQuotientAnswer {E} r frob phi u (Err (Remainder rest)) = (u ≢ []) × (rest ≢ []) × ((c : List E) × IsOtherFactor r frob phi u c rest)
IsQuotientAnswer {E} r frob phi u (Err (Constant z)) = (u ≢ []) × (z ≢ constant_of r phi) × ((c : List E) × IsOtherFactor r frob phi u c [] × (z ≡ constant_of r c))
IsQuotientAnswer r frob phi u (Err NoMemory) = u ≢ []

-- A refusal that isn't want of memory.
abbrev pub IsRefusal : {E : Type 0} → NoQuotient E → Type 0
IsRefusal Zero = Unit {0}
IsRefusal (Remainder rest) = Unit {0}
IsRefusal (Constant z) = Unit {0}
IsRefusal NoMemory = ⊥
