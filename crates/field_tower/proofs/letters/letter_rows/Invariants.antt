use Rattle.std.proofs.Common.{◌≡◌}
use Rattle.ring_core.specs.Coeffs.{first_values}
use Rattle.field_tower.specs.steps.Lanes.{letter_row}
use Rattle.field_tower.proofs.letters.letter_rows.Given as goal

abbrev pub invariant-loop-t : goal.invariant-loop-t
invariant-loop-t g l =
    let r = g.F.Field.ops l.field in
    record { row : l.x ≡ letter_row r l.modulus l._t; rows : l.rows.items ≡ first_values l._t (letter_row r l.modulus) }
