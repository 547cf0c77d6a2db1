use Rattle.std.proofs.Common.{◌≡◌, ◌*◌}
use Rattle.field_tower.specs.steps.Codes.{first_sums}
use Rattle.field_tower.proofs.tables.sum_table.Given as goal

abbrev pub invariant-loop-a : goal.invariant-loop-a
invariant-loop-a l = l.table.items ≡ first_sums l.codes (l.a * l.codes.q)
