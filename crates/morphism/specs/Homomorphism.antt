-- Homomorphisms of Drinfeld modules.
use Rattle.std.specs.Prelude.{◌≡◌, ℕ, List, true}
use Rattle.ring_core.specs.Ring.{RingOps}
use Rattle.ring_core.specs.Coeffs.{is_canonical}
use Rattle.ring_core.specs.Twisted.{list_mul}

-- The twisted polynomial `u` is a homomorphism from `phi` to `psi` where `u phi_T = psi_T u`.
pub record IsHomomorphism {E : Type 0} (r : RingOps E) (frob : E → ℕ → E) (phi psi u : List E) : Type 0 where
  pub canonical : is_canonical r u ≡ true
  pub commutes : list_mul r frob u phi ≡ list_mul r frob psi u
