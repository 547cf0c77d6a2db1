use Rattle.std.proofs.Common.{◌<◌, length}
use Rattle.field_tower.proofs.logs.returns_early.Given as goal

abbrev pub invariant-loop-i : goal.invariant-loop-i
invariant-loop-i l = l.code < length l.row
