use Rattle.std.proofs.Common.{◌<◌, length, ap, ◌∙◌, arith}
use Rattle.ring_core.specs.Coeffs.{are_elems}
use Rattle.linear_algebra.proofs.RowLists.{rows_at, row_len, row_elems}
use Rattle.field_tower.proofs.accept.find_above.Goals as goal

pub row_list-requires-clause-width : goal.row_list-requires-clause-width
row_list-requires-clause-width g c =
    let r = g.A.Constants.Field.ops (g.A.Algebra.constants_of c.args.algebra.now) in
    let rows = c.args.rows.now in
    let low : c.loop-i.i < length rows.rows = omega arith in
    row_len r rows.width _ (rows_at r rows.width rows.rows c.requires.rows c.loop-i.i low)

pub of_coords-requires-clause-elems : goal.of_coords-requires-clause-elems
of_coords-requires-clause-elems g c =
    let r = g.A.Constants.Field.ops (g.A.Algebra.constants_of c.args.algebra.now) in
    let rows = c.args.rows.now in
    let low : c.loop-i.i < length rows.rows = omega arith in
    ap (are_elems r) (c.deref.ensures.value ∙ c.in_ok-list.ensures)
    ∙ row_elems r rows.width _ (rows_at r rows.width rows.rows c.requires.rows c.loop-i.i low)

pub of_coords-requires-clause-places : goal.of_coords-requires-clause-places
of_coords-requires-clause-places g c =
    let r = g.A.Constants.Field.ops (g.A.Algebra.constants_of c.args.algebra.now) in
    let rows = c.args.rows.now in
    let low : c.loop-i.i < length rows.rows = omega arith in
    ap length (c.deref.ensures.value ∙ c.in_ok-list.ensures)
    ∙ row_len r rows.width _ (rows_at r rows.width rows.rows c.requires.rows c.loop-i.i low) ∙ c.requires.width
