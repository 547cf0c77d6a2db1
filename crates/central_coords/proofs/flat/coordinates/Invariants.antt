use Rattle.std.proofs.Common.{◌≡◌, ◌*◌}
use Rattle.central_coords.specs.Coordinates.{coordinate_row}
use Rattle.central_coords.proofs.flat.coordinates.Given as goal

abbrev pub invariant-loop-i : goal.invariant-loop-i
invariant-loop-i g l =
    let f = g.K.FrobField.frob_ops l.k in
    l.list.items ≡ coordinate_row (g.K.Field.ops l.k) f (l.i * f.degree) l.u
