use Rattle.ring_core.proofs.Coefficients.{values_more}
use Rattle.fq_poly.specs.Poly.{poly_ops}
use Rattle.flat_modules.specs.Flat.{unit_at}
use Rattle.poly_reduce.proofs.matrix.unit_row.Goals as goal

pub loop-j-preserved : goal.loop-j-preserved
loop-j-preserved g c =
    let p = poly_ops (g.F.Field.ops c.args.f.now) in
    values_more p c.loop-j.j (unit_at p c.args.i) _ _ _ c.in_ok-push.ensures.items c.loop-j.invariant c.in_ok-unit_entry.ensures
