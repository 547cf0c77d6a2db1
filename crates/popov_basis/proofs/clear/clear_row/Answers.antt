use Rattle.std.proofs.Common.{◌≡◌, ◌+◌, ◌-◌, sym, subst, arith}
use Rattle.flat_reduce.proofs.Reading.{read_len}
use Rattle.popov_basis.specs.steps.Leading.{IsClearedFrom}
use Rattle.popov_basis.proofs.Clearing.{clear_start, clear_more}
use Rattle.popov_basis.proofs.clear.clear_row.Goals as goal

pub loop-t-init : goal.loop-t-init
loop-t-init g c =
    let f = c.args.f.now in
    let r = g.F.Field.ops f in
    let rows = c.args.rows.now in
    let len = read_len rows c.args.p c.len-t.result c.index-rows-p.result c.requires.first c.len-t.ensures in
    record {
      flat = c.requires.rows;
      cleared = subst (λ n. IsClearedFrom r c.args.w c.args.p (n - 1) rows rows) (sym len)
          (clear_start r (g.F.Field.inv_of f) (g.met.F.Field.laws f) c.args.w c.args.p (omega (arith, c.requires.width)) c.args.slot.now rows c.requires.rows c.requires.naming c.requires.first);
    }

pub loop-t-preserved : goal.loop-t-preserved
loop-t-preserved g c =
    let f = c.args.f.now in
    let r = g.F.Field.ops f in
    let rows = c.args.rows.now in
    let t = c.loop-t.t in
    let before = c.loop-t.invariant in
    let len = read_len rows c.args.p c.len-t.result c.index-rows-p.result c.requires.first c.len-t.ensures in
    let same : t ≡ t - 1 + 1 = omega arith in
    record {
      flat = c.in_ok-clear_at.ensures.flat;
      cleared = clear_more r (g.F.Field.inv_of f) (g.met.F.Field.laws f) c.args.w c.args.p (omega (arith, c.requires.width)) c.args.slot.now rows c.loop-t.rows c.clear_at.new.rows before.flat c.in_ok-clear_at.ensures.flat (t - 1)
          (omega (arith, len)) (subst (λ n. IsClearedFrom r c.args.w c.args.p n rows c.loop-t.rows) same before.cleared) c.in_ok-clear_at.ensures.cleared;
    }
