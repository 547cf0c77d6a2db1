use Rattle.std.proofs.Common.{◌≡◌, take, true}
use Rattle.ring_core.specs.Coeffs.{are_elems}
use Rattle.ring_core.proofs.lists.all_elems.Given as goal

abbrev pub invariant-loop-c : goal.invariant-loop-c
invariant-loop-c g l = are_elems (g.K.Field.ops l.field) (take l.c-index l.list) ≡ true
