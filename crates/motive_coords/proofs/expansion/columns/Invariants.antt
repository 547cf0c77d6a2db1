use Rattle.std.proofs.Common.{◌≡◌}
use Rattle.ring_core.specs.Coeffs.{first_values}
use Rattle.motive_coords.specs.steps.Expansion.{column_at}
use Rattle.motive_coords.proofs.expansion.columns.Given as goal

abbrev pub invariant-loop-i : goal.invariant-loop-i
invariant-loop-i g l =
    l.list.items ≡ first_values l.i (column_at (g.K.Field.ops l.field) (g.K.FrobField.frob_ops l.field).frob l.digits)
