-- The powers of the letter modulo a polynomial over a field of codes, and their powers by the number of constants.
use Rattle.std.specs.Prelude.{ℕ, ◌-◌, List, length}
use Rattle.ring_core.specs.Ring.{RingOps}
use Rattle.ring_core.specs.Powers.{power_of}
use Rattle.residue_field.specs.declared.TopElem.{TopElem}
use Rattle.residue_field.specs.steps.Stored.{residue_unit}
use Rattle.residue_field.specs.TopElem.{top_places}
use Rattle.field_tower.specs.steps.Places.{stored_ops}

-- The residue with one at place `j` and zero elsewhere, for `j` below `n`: it is that of the power `j` of
-- the letter modulo a polynomial of degree `n`.
abbrev pub letter_power : RingOps ℕ → ℕ → ℕ → TopElem
letter_power r n j = residue_unit r (top_places r (n - 1)) j

-- The power by `q` of that residue.
abbrev pub letter_image : RingOps ℕ → ℕ → List ℕ → ℕ → TopElem
letter_image r q modulus j = power_of (stored_ops r modulus) (letter_power r (length modulus - 1) j) q
