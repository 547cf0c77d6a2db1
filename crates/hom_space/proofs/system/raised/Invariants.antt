use Rattle.std.proofs.Common.{◌≡◌}
use Rattle.hom_space.specs.steps.System.{raised_list}
use Rattle.hom_space.proofs.system.raised.Given as goal

abbrev pub invariant-loop-m : goal.invariant-loop-m
invariant-loop-m g l = l.list.items ≡ raised_list (g.K.Field.ops l.k) (g.K.FrobField.frob_ops l.k) l.phi l.m l.i
