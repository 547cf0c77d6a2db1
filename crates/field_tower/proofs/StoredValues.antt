-- What code finds of residues, over any commutative ring of codes.
use Rattle.std.proofs.Common.{◌≡◌, ℕ, ◌-◌, true, List, length}
use Rattle.ring_core.specs.Ring.{RingOps, IsElem, IsRing, IsCommutative}
use Rattle.ring_core.specs.Coeffs.{are_elems}
use Rattle.residue_field.specs.declared.TopElem.{TopElem}
use Rattle.residue_field.specs.Residue.{constant_at}
use Rattle.residue_field.specs.TopElem.{top_places}
use Rattle.residue_field.proofs.TopPlaces.{elems_of}
use Rattle.field_tower.specs.steps.Places.{IsModulus, IsStored, stored_ops}
use Rattle.field_tower.proofs.Shifts.{constant_at_in}
use Rattle.field_tower.proofs.Stored.{fits_of, stores_of, elem_of, stored_of}

module _ (r : RingOps ℕ) (hb : IsRing r) (commutes : IsCommutative r) (modulus : List ℕ) (monic : IsModulus r modulus) where
  abbrev d : ℕ
  d = length modulus - 2

  pub residue_elems : (a : TopElem) → IsElem (stored_ops r modulus) a → are_elems r a.0 ≡ true
  residue_elems a e = elems_of r hb d (fits_of r hb modulus monic) a (stored_of r modulus a e)

  constant_stored : (b : ℕ) → IsElem r b → IsStored r d ((top_places r d).pack (constant_at r b))
  constant_stored b e = (stores_of r hb modulus monic).pack_in (constant_at r b) (constant_at_in r hb b e)

  pub constant_in : (b : ℕ) → IsElem r b → IsElem (stored_ops r modulus) ((top_places r d).pack (constant_at r b))
  constant_in b e = elem_of r modulus _ (constant_stored b e)
