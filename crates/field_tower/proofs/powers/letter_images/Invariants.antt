use Rattle.std.proofs.Common.{◌≡◌}
use Rattle.ring_core.specs.Coeffs.{first_values}
use Rattle.residue_field.specs.Base.{ops_of, size_of}
use Rattle.field_tower.specs.steps.LetterPowers.{letter_image}
use Rattle.field_tower.proofs.powers.letter_images.Given as goal

abbrev pub invariant-loop-j : goal.invariant-loop-j
invariant-loop-j l = l.images.items ≡ first_values l.j (letter_image (ops_of l.base) (size_of l.base) l.modulus)
