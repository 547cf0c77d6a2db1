use Rattle.std.proofs.Common.{◌≡◌}
use Rattle.ring_core.specs.Coeffs.{first_values}
use Rattle.fq_poly.specs.Poly.{poly_ops}
use Rattle.flat_modules.specs.Flat.{unit_at}
use Rattle.poly_reduce.proofs.matrix.unit_rows.Given as goal

abbrev pub invariant-loop-i : goal.invariant-loop-i
invariant-loop-i g l =
    l.rows.items ≡ first_values l.i (λ i. first_values l.n (unit_at (poly_ops (g.F.Field.ops l.f)) i))
