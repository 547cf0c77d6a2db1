use Rattle.std.proofs.Common.{◌≡◌, None, replicate}
use Rattle.flat_reduce.proofs.lists.free_slots.Given as goal

abbrev pub invariant-loop-i : goal.invariant-loop-i
invariant-loop-i l = l.list.items ≡ replicate l.i None
