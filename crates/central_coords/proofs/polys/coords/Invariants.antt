use Rattle.std.proofs.Common.{◌≡◌, ◌+◌, ◌*◌}
use Rattle.ring_core.specs.Coeffs.{first_values, list_of}
use Rattle.central_coords.specs.Coordinates.{coordinate}
use Rattle.central_coords.proofs.polys.coords.Given as goal

abbrev pub invariant-loop-place : goal.invariant-loop-place
invariant-loop-place g l =
    let f = g.K.FrobField.frob_ops l.k in
    l.list.items ≡ first_values l.place (λ p. list_of (g.K.Base.Field.ops (g.K.FrobField.base_of l.k)) l.count (λ m. coordinate (g.K.Field.ops l.k) f l.u (m * (f.degree * f.degree) + p)))
