use Rattle.std.proofs.Common.{◌≡◌}
use Rattle.ring_core.specs.Coeffs.{first_values}
use Rattle.fq_poly.specs.Poly.{poly_ops}
use Rattle.flat_modules.specs.Flat.{unit_at}
use Rattle.poly_reduce.proofs.matrix.unit_row.Given as goal

abbrev pub invariant-loop-j : goal.invariant-loop-j
invariant-loop-j g l =
    l.row.items ≡ first_values l.j (unit_at (poly_ops (g.F.Field.ops l.f)) l.i)
