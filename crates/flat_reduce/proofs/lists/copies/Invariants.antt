use Rattle.std.proofs.Common.{◌≡◌, take}
use Rattle.flat_reduce.proofs.lists.copies.Given as goal

abbrev pub invariant-loop-i : goal.invariant-loop-i
invariant-loop-i g l = l.list.items ≡ take l.i l.rows
