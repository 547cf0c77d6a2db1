-- Isogenies, which are the homomorphisms that aren't zero.
use Rattle.std.specs.Prelude.{◌≡◌, ◌≢◌, ◌<◌, List, [], length}
use Rattle.ring_core.specs.Ring.{RingOps}
use Rattle.ring_core.specs.Field.{FrobOps}
use Rattle.linear_algebra.specs.Linear.{row_at}
use Rattle.morphism.specs.Homomorphism.{IsHomomorphism}
use Rattle.hom_space.specs.Full.{IsFullList}

-- `u` is an isogeny, and the first member of the full list.
pub record IsFirstIsogeny {E B : Type 0} (r : RingOps E) (base : RingOps B) (f : FrobOps E B) (phi psi u : List E) : Type 0 where
  pub nonzero : u ≢ []
  pub hom : IsHomomorphism r f.frob phi psi u
  pub list : List (List E)
  pub full : IsFullList r base f phi psi list
  pub some : 0 < length list
  pub first : row_at list 0 ≡ u

-- No twisted polynomial but zero is a homomorphism.
abbrev pub HasNoIsogeny : {E B : Type 0} → RingOps E → FrobOps E B → List E → List E → Type 0
HasNoIsogeny {E} r f phi psi = (u : List E) → u ≢ [] → IsHomomorphism r f.frob phi psi u → ⊥
