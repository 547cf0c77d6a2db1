use Rattle.std.proofs.Common.{◌≡◌, ◌++◌}
use Rattle.ring_core.specs.Coeffs.{first_values}
use Rattle.central_coords.proofs.flat.push_coordinates.Given as goal

abbrev pub invariant-loop-j : goal.invariant-loop-j
invariant-loop-j g l = l.list.items ≡ l.fn.list.items ++ first_values l.j ((g.K.FrobField.frob_ops l.k).coord l.c)
