use Rattle.std.proofs.Common.{◌≡◌, ◌+◌, ◌*◌}
use Rattle.field_tower.specs.steps.Codes.{first_sums}
use Rattle.field_tower.proofs.tables.push_sums.Given as goal

abbrev pub invariant-loop-b : goal.invariant-loop-b
invariant-loop-b l = l.table.items ≡ first_sums l.codes (l.a * l.codes.q + l.b)
