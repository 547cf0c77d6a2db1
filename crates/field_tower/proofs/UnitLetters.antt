-- The units of the ring of stored residues are the powers of the letter.
use Rattle.std.proofs.Common.{◌≡◌, ℕ, suc, ◌-◌, ◌≤◌, List, length, ap₂, ◌∙◌, arith}
use Rattle.ring_core.specs.Ring.{RingOps}
use Rattle.ring_core.specs.Coeffs.{first_values}
use Rattle.ring_core.specs.Powers.{power_of}
use Rattle.residue_field.specs.declared.TopElem.{TopElem}
use Rattle.residue_field.specs.TopElem.{top_places}
use Rattle.residue_field.specs.steps.Stored.{residue_unit}
use Rattle.field_tower.specs.UnitPowers.{unit_power}
use Rattle.field_tower.specs.steps.Places.{IsModulus, stored_ops}
use Rattle.field_tower.specs.steps.Algebra.{stored_coords}
use Rattle.field_tower.specs.steps.LetterPowers.{letter_image}

pub units_from : (r : RingOps ℕ) (q : ℕ) (modulus : List ℕ) → IsModulus r modulus → (powers : List TopElem)
    → powers ≡ first_values (length modulus - 1) (letter_image r q modulus)
    → powers ≡ first_values (stored_coords r modulus).dimension (unit_power r (stored_ops r modulus) (stored_coords r modulus) q)
units_from r q modulus monic powers is =
    let degree : 2 ≤ length modulus = monic.degree in
    let count : length modulus - 1 ≡ suc (length modulus - 2) = omega arith in
    let place : length modulus - 1 - 1 ≡ length modulus - 2 = omega arith in
    is ∙ ap₂ (λ n d. first_values n (λ j. power_of (stored_ops r modulus) (residue_unit r (top_places r d) j) q)) count place
