use Rattle.std.proofs.Common.{◌≡◌}
use Rattle.ring_core.specs.Coeffs.{first_values}
use Rattle.field_tower.specs.steps.Codes.{code_ops}
use Rattle.field_tower.proofs.tables.negative_row.Given as goal

abbrev pub invariant-loop-a : goal.invariant-loop-a
invariant-loop-a l = l.row.items ≡ first_values l.a (code_ops l.codes).neg
