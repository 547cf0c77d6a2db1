use Rattle.std.proofs.Common.{◌++◌, sym, ◌∙◌, ap, subst}
use Rattle.fq_linear.specs.steps.Elimination.{is_lead, slot, AreFinished, cut_rows}
use Rattle.fq_linear.proofs.Gathered.{gathered_more}
use Rattle.fq_linear.proofs.gather.push_all.Goals as goal

pub loop-j-preserved : goal.loop-j-preserved
loop-j-preserved g c =
    let r = g.F.Field.ops c.args.f.now in
    let before = c.loop-j.invariant in
    let index = c.args.index.now in
    let cells = c.args.cells.now in
    let lead = is_lead index in
    record {
      width = c.push_finished.ensures.width ∙ before.width;
      row_len = c.push_finished.ensures.row_len ∙ before.row_len;
      row_elems = c.push_finished.ensures.row_elems;
      rows = λ finished fin.
          c.in_ok-push_finished.ensures.rows finished (subst (λ n. AreFinished r n lead (slot r n index cells) finished) (sym before.row_len) fin)
          ∙ ap (λ m. c.loop-j.basis.rows ++ cut_rows m lead finished c.loop-j.j) before.width
          ∙ gathered_more c.args.cut lead finished c.loop-j.j c.args.basis.now.rows c.loop-j.basis.rows (before.rows finished fin);
    }
