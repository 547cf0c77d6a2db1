-- A homomorphism with its two modules.
use Rattle.std.specs.Prelude.{◌≡◌, ℕ, List}
use Rattle.ring_core.specs.Ring.{RingOps}
use Rattle.drinfeld_mod.specs.Module.{IsModule, constant_of}
use Rattle.morphism.specs.Homomorphism.{IsHomomorphism}

-- A twisted polynomial, and two lists of coefficients.
pub record Arrow (E : Type 0) : Type 0 where
  pub ore : List E
  pub source : List E
  pub target : List E

-- The two lists are modules with the same constant, and the twisted polynomial is a homomorphism from the
-- first to the second.
pub record IsMorphism {E : Type 0} (r : RingOps E) (frob : E → ℕ → E) (m : Arrow E) : Type 0 where
  pub source : IsModule r m.source
  pub target : IsModule r m.target
  pub constants : constant_of r m.source ≡ constant_of r m.target
  pub hom : IsHomomorphism r frob m.source m.target m.ore

-- The arrow with this twisted polynomial from `phi` to `psi`.
abbrev pub arrow : {E : Type 0} → List E → List E → List E → Arrow E
arrow u phi psi = record { ore = u; source = phi; target = psi }
