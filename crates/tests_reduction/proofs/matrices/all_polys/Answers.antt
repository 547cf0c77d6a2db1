use Rattle.std.proofs.Common.{ap, sym, ◌∙◌}
use Rattle.ring_core.specs.Coeffs.{is_canonical}
use Rattle.ring_core.proofs.Coefficients.{elems_read_more, elems_miss}
use Rattle.fq_poly.specs.Poly.{poly_ops}
use Rattle.tests_reduction.proofs.matrices.all_polys.Goals as goal

pub returns-then-not-are_canonical : goal.returns-then-not-are_canonical
returns-then-not-are_canonical g c =
    let r = g.F.Field.ops c.args.f.now in
    sym (elems_miss (poly_ops r) c.args.list.now c.loop-a.a-index _ c.loop-a-test.true c.a-item.is (ap (is_canonical r) (sym c.as_slice.ensures) ∙ sym c.are_canonical.ensures ∙ c.if-not-are_canonical.true))

pub loop-a-preserved : goal.loop-a-preserved
loop-a-preserved g c =
    let r = g.F.Field.ops c.args.f.now in
    elems_read_more (poly_ops r) c.args.list.now c.loop-a.a-index _ c.loop-a-test.true c.a-item.is c.loop-a.invariant (ap (is_canonical r) (sym c.as_slice.ensures) ∙ sym c.are_canonical.ensures ∙ c.if-not-are_canonical.false)
