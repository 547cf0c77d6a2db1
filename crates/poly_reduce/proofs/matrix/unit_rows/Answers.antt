use Rattle.ring_core.specs.Coeffs.{first_values}
use Rattle.ring_core.proofs.Coefficients.{values_more}
use Rattle.fq_poly.specs.Poly.{poly_ops}
use Rattle.flat_modules.specs.Flat.{unit_at}
use Rattle.poly_reduce.proofs.matrix.unit_rows.Goals as goal

pub loop-i-preserved : goal.loop-i-preserved
loop-i-preserved g c =
    let p = poly_ops (g.F.Field.ops c.args.f.now) in
    values_more (poly_ops p) c.loop-i.i (λ i. first_values c.args.n (unit_at p i)) _ _ _ c.in_ok-push.ensures.items c.loop-i.invariant c.in_ok-unit_row.ensures
