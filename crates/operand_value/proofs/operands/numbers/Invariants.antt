use Rattle.std.proofs.Common.{◌≡◌, take}
use Rattle.operand_value.proofs.operands.numbers.Given as goal

abbrev pub invariant-loop-c : goal.invariant-loop-c
invariant-loop-c l = record { value : l.numbers.items ≡ take l.c-index l.list }
