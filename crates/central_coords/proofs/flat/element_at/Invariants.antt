use Rattle.std.proofs.Common.{◌≡◌, ◌+◌, ◌*◌}
use Rattle.ring_core.specs.Coeffs.{coeff, first_values}
use Rattle.central_coords.proofs.flat.element_at.Given as goal

abbrev pub invariant-loop-j : goal.invariant-loop-j
invariant-loop-j g l =
    let base = g.K.Base.Field.ops (g.K.FrobField.base_of l.k) in
    let n = (g.K.FrobField.frob_ops l.k).degree in
    l.list.items ≡ first_values l.j (λ j. coeff base l.x (l.i * n + j))
