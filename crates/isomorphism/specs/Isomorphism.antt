-- Isomorphisms over the field of two modules: constants that aren't zero and are homomorphisms.
use Rattle.std.specs.Prelude.{◌≡◌, ◌≢◌, ◌<◌, List, [], ◌∷◌, length}
use Rattle.ring_core.specs.Ring.{RingOps, IsElem}
use Rattle.ring_core.specs.Field.{FrobOps}
use Rattle.linear_algebra.specs.Linear.{row_at}
use Rattle.morphism.specs.Homomorphism.{IsHomomorphism}
use Rattle.hom_space.specs.Bounded.{IsBoundedList}

-- `c` is such a constant, and the first member of the bounded list for the degree 0.
pub record IsFirstIsomorphism {E B : Type 0} (r : RingOps E) (base : RingOps B) (f : FrobOps E B) (phi psi : List E) (c : E) : Type 0 where
  pub elem : IsElem r c
  pub nonzero : c ≢ r.zero
  pub hom : IsHomomorphism r f.frob phi psi (c ∷ [])
  pub list : List (List E)
  pub bounded : IsBoundedList r base f phi psi 0 list
  pub some : 0 < length list
  pub first : row_at list 0 ≡ c ∷ []

-- There is no such constant.
abbrev pub HasNoIsomorphism : {E B : Type 0} → RingOps E → FrobOps E B → List E → List E → Type 0
HasNoIsomorphism {E} r f phi psi = (c : E) → IsElem r c → c ≢ r.zero → IsHomomorphism r f.frob phi psi (c ∷ []) → ⊥
