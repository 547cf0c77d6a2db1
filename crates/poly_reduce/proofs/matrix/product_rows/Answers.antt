use Rattle.std.proofs.Common.{length, ap, ◌∙◌, ◌<◌, arith}
use Rattle.ring_core.proofs.Coefficients.{values_more}
use Rattle.linear_algebra.specs.Linear.{row_at, is_row}
use Rattle.linear_algebra.proofs.RowLists.{rows_at}
use Rattle.fq_poly.specs.Poly.{poly_ops}
use Rattle.flat_reduce.proofs.Reading.{read_row}
use Rattle.poly_reduce.specs.Matrices.{row_times}
use Rattle.poly_reduce.proofs.matrix.product_rows.Goals as goal

pub product_row-requires-clause-row : goal.product_row-requires-clause-row
product_row-requires-clause-row g c =
    let p = poly_ops (g.F.Field.ops c.args.f.now) in
    let a = c.args.a.now in
    let n = length c.args.b.now in
    let i = c.loop-i.i in
    let inside : i < length a = omega arith in
    ap (is_row p n) (read_row a i _ c.index-a-i.result inside (c.as_slice.ensures ∙ c.index-a-i.is)) ∙ rows_at p n a c.requires.left i inside

pub loop-i-preserved : goal.loop-i-preserved
loop-i-preserved g c =
    let p = poly_ops (g.F.Field.ops c.args.f.now) in
    let a = c.args.a.now in
    let i = c.loop-i.i in
    values_more (poly_ops p) i (λ i. row_times p c.args.w (row_at a i) c.args.b.now) _ _ _ c.in_ok-push.ensures.items c.loop-i.invariant
    (c.in_ok-product_row.ensures ∙ ap (λ u. row_times p c.args.w u c.args.b.now) (read_row a i _ c.index-a-i.result (omega arith) (c.as_slice.ensures ∙ c.index-a-i.is)))
