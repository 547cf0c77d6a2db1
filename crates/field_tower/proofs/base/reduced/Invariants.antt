use Rattle.std.proofs.Common.{◌≡◌, ◌%◌, take, map}
use Rattle.field_tower.proofs.base.reduced.Given as goal

abbrev pub invariant-loop-c : goal.invariant-loop-c
invariant-loop-c l = l.list.items ≡ map (λ x. x % l.p) (take l.c-index l.modulus)
