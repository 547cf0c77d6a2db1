use Rattle.std.proofs.Common.{◌≡◌}
use Rattle.ring_core.specs.Coeffs.{first_values}
use Rattle.linear_algebra.specs.Linear.{row_at}
use Rattle.fq_poly.specs.Poly.{poly_ops}
use Rattle.poly_reduce.specs.Matrices.{row_times}
use Rattle.poly_reduce.proofs.matrix.product_rows.Given as goal

abbrev pub invariant-loop-i : goal.invariant-loop-i
invariant-loop-i g l =
    let p = poly_ops (g.F.Field.ops l.f) in
    l.rows.items ≡ first_values l.i (λ i. row_times p l.w (row_at l.a i) l.b)
