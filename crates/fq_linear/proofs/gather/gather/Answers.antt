use Rattle.std.proofs.Common.{◌++◌, length, map, sym, ◌∙◌, ap, subst, arith}
use Rattle.ring_core.specs.Coeffs.{first_values}
use Rattle.ring_core.proofs.FirstValues.{length-first_values}
use Rattle.linear_algebra.proofs.Gather.{leads}
use Rattle.fq_linear.specs.steps.Elimination.{is_lead, slot, IsLedTable, AreFinished}
use Rattle.fq_linear.proofs.gather.gather.Goals as goal

pub push_all-requires-clause-table : goal.push_all-requires-clause-table
push_all-requires-clause-table g c =
    let r = g.F.Field.ops c.args.f.now in
    let wide = ap length (c.deref_mut.ensures.value ∙ c.in_ok-row.ensures.value) ∙ length-first_values (length c.args.index.now) (λ i. r.zero) in
    subst (λ n. IsLedTable r n c.args.index.now c.args.cells.now) (sym wide) c.requires.table

pub push_all-requires-clause-cut : goal.push_all-requires-clause-cut
push_all-requires-clause-cut g c =
    let r = g.F.Field.ops c.args.f.now in
    let wide = ap length (c.deref_mut.ensures.value ∙ c.in_ok-row.ensures.value) ∙ length-first_values (length c.args.index.now) (λ i. r.zero) in
    omega (arith, wide, c.requires.cut)

pub returns-clause-rows : goal.returns-clause-rows
returns-clause-rows g c =
    let r = g.F.Field.ops c.args.f.now in
    let wide = ap length (c.deref_mut.ensures.value ∙ c.in_ok-row.ensures.value) ∙ length-first_values (length c.args.index.now) (λ i. r.zero) in
    let lead = is_lead c.args.index.now in
    λ finished fin.
    c.in_ok-push_all.ensures.rows finished (subst (λ n. AreFinished r n lead (slot r n c.args.index.now c.args.cells.now) finished) (sym wide) fin)
    ∙ ap (λ u. u ++ map (λ j. first_values c.args.cut (finished j)) (leads lead c.args.cut)) c.new-basis.ensures.rows
