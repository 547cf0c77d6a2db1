use Rattle.std.proofs.Common.{arith}
use Rattle.popov_basis.proofs.Clearing.{rows_none, rows_more}
use Rattle.popov_basis.proofs.clear.clear_rows.Goals as goal

pub loop-p-init : goal.loop-p-init
loop-p-init g c =
    let f = c.args.f.now in
    record { flat = c.requires.rows; cleared = rows_none (g.F.Field.ops f) (g.F.Field.inv_of f) (g.met.F.Field.laws f) c.args.w c.args.rows.now }

pub loop-p-preserved : goal.loop-p-preserved
loop-p-preserved g c =
    let f = c.args.f.now in
    let before = c.loop-p.invariant in
    record {
      flat = c.in_ok-clear_row.ensures.flat;
      cleared = rows_more (g.F.Field.ops f) (g.F.Field.inv_of f) (g.met.F.Field.laws f) c.args.w c.loop-p.p (omega (arith, c.requires.width)) c.args.slot.now c.args.rows.now c.loop-p.rows c.clear_row.new.rows
          before.flat c.in_ok-clear_row.ensures.flat before.cleared c.in_ok-clear_row.ensures.cleared;
    }
