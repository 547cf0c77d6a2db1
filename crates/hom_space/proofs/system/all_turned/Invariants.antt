use Rattle.std.proofs.Common.{◌≡◌}
use Rattle.ring_core.specs.Coeffs.{coeff, first_values}
use Rattle.hom_space.specs.steps.System.{turned_list}
use Rattle.hom_space.proofs.system.all_turned.Given as goal

abbrev pub invariant-loop-j : goal.invariant-loop-j
invariant-loop-j g l =
    let r = g.K.Field.ops l.k in
    l.list.items ≡ first_values l.j (λ j. turned_list r (g.K.FrobField.frob_ops l.k) l.psi l.s (coeff r l.elements j))
