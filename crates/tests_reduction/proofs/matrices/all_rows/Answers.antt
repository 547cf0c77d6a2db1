use Rattle.std.proofs.Common.{inl, inr, ap, ◌∙◌, sym, arith}
use Rattle.linear_algebra.specs.Linear.{row_at, is_row}
use Rattle.linear_algebra.proofs.RowLists.{rows_by_places}
use Rattle.linear_algebra.proofs.Sums.{same_or_other}
use Rattle.fq_poly.specs.Poly.{poly_ops}
use Rattle.flat_reduce.proofs.Reading.{read_row}
use Rattle.tests_reduction.proofs.matrices.all_rows.Goals as goal

pub loop-i-preserved : goal.loop-i-preserved
loop-i-preserved g c =
    let p = poly_ops (g.F.Field.ops c.args.f.now) in
    let rows = c.args.rows.now in
    let i = c.loop-i.i in
    let read = read_row rows i _ c.index-rows-i.result (omega arith) (c.as_slice-row.ensures ∙ c.index-rows-i.is) in
    λ k l. elim (same_or_other k i) [
      | inl here ↦ ap (λ k. is_row p c.args.w (row_at rows k)) here ∙ ap (is_row p c.args.w) (sym read) ∙ c.is_row_of.ensures c.if-not-is_row_of.false
      | inr ne ↦ c.loop-i.invariant k (omega (arith, l, ne))
    ]

pub returns : goal.returns
returns g c = λ _. rows_by_places (poly_ops (g.F.Field.ops c.args.f.now)) c.args.w c.args.rows.now (λ k l. c.loop-i.invariant k (omega (arith, l)))
