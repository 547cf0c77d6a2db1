use Rattle.std.proofs.Common.{length}
use Rattle.script_lang.proofs.Operands.{ItemsSoFar}
use Rattle.script_lang.proofs.operand.read_items.Given as goal

abbrev pub invariant-loop-list : goal.invariant-loop-list
invariant-loop-list l = ItemsSoFar l.tokens l.rest l.list

abbrev pub decreases-loop-list : goal.decreases-loop-list
decreases-loop-list l = length l.rest
