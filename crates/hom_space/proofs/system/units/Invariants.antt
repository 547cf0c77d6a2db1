use Rattle.std.proofs.Common.{◌≡◌}
use Rattle.ring_core.specs.Coeffs.{first_values}
use Rattle.hom_space.specs.steps.System.{unit_element}
use Rattle.hom_space.proofs.system.units.Given as goal

abbrev pub invariant-loop-j : goal.invariant-loop-j
invariant-loop-j g l = l.list.items ≡ first_values l.j (unit_element (g.K.Base.Field.ops (g.K.FrobField.base_of l.k)) (g.K.FrobField.frob_ops l.k))
