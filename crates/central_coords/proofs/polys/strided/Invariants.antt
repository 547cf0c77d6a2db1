use Rattle.std.proofs.Common.{◌≡◌, ◌+◌, ◌*◌}
use Rattle.ring_core.specs.Coeffs.{first_values}
use Rattle.central_coords.specs.Coordinates.{coordinate}
use Rattle.central_coords.proofs.polys.strided.Given as goal

abbrev pub invariant-loop-m : goal.invariant-loop-m
invariant-loop-m g l = l.list.items ≡ first_values l.m (λ m. coordinate (g.K.Field.ops l.k) (g.K.FrobField.frob_ops l.k) l.u (m * l.w + l.place))
