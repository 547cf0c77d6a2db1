use Rattle.std.proofs.Common.{sym, ◌∙◌}
use Rattle.linear_algebra.proofs.RowLists.{rows_at, row_len}
use Rattle.linear_algebra.specs.Linear.{row_at}
use Rattle.fq_poly.specs.Poly.{poly_ops}
use Rattle.poly_reduce.proofs.convert.unflatten.Goals as goal

pub from_vec-requires : goal.from_vec-requires
from_vec-requires g c =
    let p = poly_ops (g.F.Field.ops c.args.f.now) in
    let rows = c.in_ok-rows.rows.items in
    λ i l. row_len p c.width.result (row_at rows i) (rows_at p c.width.result rows c.in_ok-rows.ensures.shape i l) ∙ c.width.ensures.value ∙ sym c.width-2.ensures.value
