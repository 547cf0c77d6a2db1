use Rattle.std.proofs.Common.{◌≡◌, length, ap, ◌∙◌, arith}
use Rattle.ring_core.specs.Coeffs.{coeff, first_values}
use Rattle.ring_core.proofs.Coefficients.{values_more, values-coeff}
use Rattle.linear_algebra.specs.Linear.{row_at}
use Rattle.linear_algebra.proofs.RowLists.{row_len, rows_at}
use Rattle.hom_space.proofs.reading.row_list.Goals as goal

pub loop-j-preserved : goal.loop-j-preserved
loop-j-preserved g c =
    let r = g.F.Field.ops c.args.f.now in
    values_more r c.loop-j.j (coeff r (row_at c.args.rows.now.rows c.args.i)) c.loop-j.list.items c.push.new.self.items c.at.result c.in_ok-push.ensures.items c.loop-j.invariant (c.at.ensures.value r.zero)

pub returns : goal.returns
returns g c =
    let r = g.F.Field.ops c.args.f.now in
    let rows = c.args.rows.now in
    let row = row_at rows.rows c.args.i in
    let long : length row ≡ rows.width = row_len r rows.width row (rows_at r rows.width rows.rows c.requires.rows c.args.i c.requires.place) in
    let all : c.loop-j.j ≡ length row = omega (arith, c.width-j-end.ensures, long) in
    c.loop-j.invariant ∙ ap (λ n. first_values n (coeff r row)) all ∙ values-coeff r row
