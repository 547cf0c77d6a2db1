use Rattle.std.proofs.Common.{◌≡◌, length}
use Rattle.ring_core.specs.Coeffs.{coeff, first_values}
use Rattle.linear_algebra.specs.Combines.{combined}
use Rattle.linear_algebra.specs.Linear.{entry}
use Rattle.fq_poly.specs.Poly.{poly_ops}
use Rattle.poly_reduce.proofs.matrix.product_row.Given as goal

abbrev pub invariant-loop-j : goal.invariant-loop-j
invariant-loop-j g l =
    let p = poly_ops (g.F.Field.ops l.f) in
    l.entries.items ≡ first_values l.j (combined p (length l.b) (coeff p l.row) (entry p l.b))
