use Rattle.std.proofs.Common.{◌≡◌}
use Rattle.hom_space.specs.steps.System.{turned_list}
use Rattle.hom_space.proofs.system.turned.Given as goal

abbrev pub invariant-loop-m : goal.invariant-loop-m
invariant-loop-m g l = l.list.items ≡ turned_list (g.K.Field.ops l.k) (g.K.FrobField.frob_ops l.k) l.psi l.m l.z
