use Rattle.std.proofs.Common.{◌∙◌, sym, ap, arith, eq-eqb}
use Rattle.std.proofs.lemmas.Bool.{and_from}
use Rattle.linear_algebra.specs.Linear.{are_rows}
use Rattle.linear_algebra.proofs.RowLists.{rows_push}
use Rattle.benchmarks.proofs.random.push_row.Goals as goal

pub returns-in_ok-push-clause-rows : goal.returns-in_ok-push-clause-rows
returns-in_ok-push-clause-rows g c = let r = g.K.Field.ops c.args.field.now in ap (λ w. are_rows r w c.push.new.self.rows) c.in_ok-push.ensures.width
    ∙ ap (are_rows r c.args.rows.now.width) c.in_ok-push.ensures.rows
    ∙ rows_push r c.args.rows.now.width c.args.rows.now.rows c.args.row.now c.requires
    (and_from _ _ (eq-eqb _ _ (omega (arith, c.if-row-width.true, c.width.ensures))) (sym c.all_elems.ensures ∙ c.if-all_elems.true))
