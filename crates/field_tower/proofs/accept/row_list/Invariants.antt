use Rattle.std.proofs.Common.{◌≡◌, take}
use Rattle.linear_algebra.specs.Linear.{row_at}
use Rattle.field_tower.proofs.accept.row_list.Given as goal

abbrev pub invariant-loop-k : goal.invariant-loop-k
invariant-loop-k l = l.list.items ≡ take l.k (row_at l.rows.rows l.i)
