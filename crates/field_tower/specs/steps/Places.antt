-- Residues over a field of codes, stored in `WIDTH` places.
use Rattle.std.specs.Prelude.{◌≡◌, ℕ, ◌+◌, ◌-◌, ◌≤◌, List, length, true}
use Rattle.ring_core.specs.Ring.{RingOps}
use Rattle.ring_core.specs.Coeffs.{coeff, are_elems}
use Rattle.residue_field.specs.declared.TopElem.{TopElem}
use Rattle.residue_field.specs.declared.TheConstants.{WIDTH}
use Rattle.residue_field.specs.Residue.{residue_ops}
use Rattle.residue_field.specs.TopElem.{top_places}
use Rattle.residue_field.specs.Base.{base_ops}

-- The modulus is monic, of a degree from 1 to `WIDTH`.
pub record IsModulus (r : RingOps ℕ) (modulus : List ℕ) : Type 0 where
  pub degree : 2 ≤ length modulus
  pub room : length modulus ≤ WIDTH + 1
  pub elems : are_elems r modulus ≡ true
  pub monic : coeff r modulus (length modulus - 1) ≡ r.one

-- `a` has elements of `r` at its first `d + 1` places, and zero past them.
abbrev pub IsStored : RingOps ℕ → ℕ → TopElem → Type 0
IsStored r d a = (top_places r d).is_elem a ≡ true

-- The residue with the coefficients `g`, of which there are `d + 1`.
unfoldable pub stored : RingOps ℕ → ℕ → (ℕ → ℕ) → TopElem
stored r d g = (top_places r d).pack g

-- The ring of the residues modulo `modulus`.
unfoldable pub stored_ops : RingOps ℕ → List ℕ → RingOps TopElem
stored_ops r modulus = residue_ops r (length modulus - 2) (coeff r modulus) (top_places r (length modulus - 2))

-- The same ring on codes, over the numbers modulo `p`.
abbrev pub codes_modulo : ℕ → List ℕ → RingOps ℕ
codes_modulo p modulus = base_ops p (length modulus - 2) modulus
