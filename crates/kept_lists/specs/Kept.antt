-- Kept full lists.
use Rattle.std.specs.Prelude.{◌≡◌, List}
use Rattle.std.specs.List.{All}
use Rattle.ring_core.specs.Ring.{RingOps}
use Rattle.ring_core.specs.Field.{FrobOps}
use Rattle.drinfeld_mod.specs.Module.{IsModule, constant_of}
use Rattle.hom_space.specs.Full.{IsFullList}
use Rattle.kept_lists.specs.declared.kept.KeptList.{KeptList}

-- The list is the full list of its two modules, whose constants are equal.
pub record IsKeptList {E B : Type 0} (r : RingOps E) (base : RingOps B) (f : FrobOps E B) (k : KeptList E) : Type 0 where
  pub source : IsModule r k.source
  pub target : IsModule r k.target
  pub constants : constant_of r k.source ≡ constant_of r k.target
  pub full : IsFullList r base f k.source k.target k.members

abbrev pub AreFullLists : {E B : Type 0} → RingOps E → RingOps B → FrobOps E B → List (KeptList E) → Type 0
AreFullLists r base f kept = All (IsKeptList r base f) kept
