-- The ring of stored residues by coordinates.
use Rattle.std.specs.Prelude.{ℕ, ◌-◌, List, length}
use Rattle.ring_core.specs.Ring.{RingOps, IsRing, IsCommutative}
use Rattle.residue_field.specs.declared.TopElem.{TopElem}
use Rattle.residue_field.specs.Algebra.{Coordinates, IsAlgebra, residue_coords}
use Rattle.residue_field.specs.TopElem.{top_places}
use Rattle.residue_field.proofs.ResidueAlgebra.{modulo_algebra}
use Rattle.field_tower.specs.steps.Places.{IsModulus, stored_ops}

-- The coordinates of a residue are its coefficients.
abbrev pub stored_coords : RingOps ℕ → List ℕ → Coordinates ℕ TopElem
stored_coords r modulus = residue_coords r (length modulus - 2) (top_places r (length modulus - 2))

pub stored_algebra : (r : RingOps ℕ) → IsRing r → IsCommutative r → (modulus : List ℕ) → IsModulus r modulus
    → IsAlgebra r (stored_ops r modulus) (stored_coords r modulus)
unfolding stored_ops
stored_algebra r ring commutes modulus m = modulo_algebra r ring commutes modulus m.degree m.room m.elems m.monic
