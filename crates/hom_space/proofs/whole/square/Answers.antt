use Rattle.std.proofs.Common.{[], ap, ◌∙◌, arith}
use Rattle.ring_core.specs.Coeffs.{are_elems, trim}
use Rattle.linear_algebra.specs.Linear.{row_at}
use Rattle.linear_algebra.proofs.RowLists.{row_elems, rows_at}
use Rattle.central_coords.proofs.Rows.{values_after}
use Rattle.hom_space.proofs.whole.square.Goals as goal

pub push-requires : goal.push-requires
push-requires g c =
    let r = g.F.Field.ops c.args.f.now in
    let rows = c.args.rows.now in
    ap (are_elems r) (c.deref.ensures.value ∙ c.in_ok-row.ensures) ∙ row_elems r rows.width (row_at rows.rows c.loop-i.i) (rows_at r rows.width rows.rows c.requires.rows c.loop-i.i (omega arith))

pub loop-i-preserved : goal.loop-i-preserved
loop-i-preserved g c =
    let r = g.F.Field.ops c.args.f.now in
    record {
      width = c.in_ok-push.ensures.width ∙ c.loop-i.invariant.width;
      rows = values_after [] c.loop-i.i (λ i. trim r (row_at c.args.rows.now.rows i)) _ _ _ c.in_ok-push.ensures.rows c.loop-i.invariant.rows (ap (trim r) (c.deref.ensures.value ∙ c.in_ok-row.ensures));
    }
