use Rattle.std.proofs.Common.{◌≡◌, ◌+◌, ◌*◌}
use Rattle.ring_core.specs.Coeffs.{coeff, first_values}
use Rattle.central_coords.proofs.flat.of_coordinates.Given as goal

abbrev pub invariant-loop-i : goal.invariant-loop-i
invariant-loop-i g l =
    let base = g.K.Base.Field.ops (g.K.FrobField.base_of l.k) in
    let f = g.K.FrobField.frob_ops l.k in
    l.list.items ≡ first_values l.i (λ i. f.of_coords (first_values f.degree (λ j. coeff base l.x (i * f.degree + j))))
