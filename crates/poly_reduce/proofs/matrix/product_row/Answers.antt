use Rattle.std.proofs.Common.{length}
use Rattle.ring_core.specs.Coeffs.{coeff}
use Rattle.ring_core.proofs.Coefficients.{values_more}
use Rattle.linear_algebra.specs.Combines.{combined}
use Rattle.linear_algebra.specs.Linear.{entry}
use Rattle.fq_poly.specs.Poly.{poly_ops}
use Rattle.poly_reduce.proofs.matrix.product_row.Goals as goal

pub loop-j-preserved : goal.loop-j-preserved
loop-j-preserved g c =
    let p = poly_ops (g.F.Field.ops c.args.f.now) in
    values_more p c.loop-j.j (combined p (length c.args.b.now) (coeff p c.args.row.now) (entry p c.args.b.now)) _ _ _ c.in_ok-push.ensures.items c.loop-j.invariant c.in_ok-product_entry.ensures.value
