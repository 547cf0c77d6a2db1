use Rattle.std.proofs.Common.{subst, sym}
use Rattle.statement_operands.specs.Fits.{DemandsFit}
use Rattle.statement_operands.specs.Resolved.{AreOperands}
use Rattle.statement_operands.proofs.Fitting.{demands_fit}
use Rattle.statement_operands.proofs.Given.{operands_in}
use Rattle.statement_work.proofs.RanksFirst.{stop_first, on_ok}
use Rattle.statement_work.proofs.work.answer_of.Goals as goal

pub resolve-requires-clause-fits : goal.resolve-requires-clause-fits
resolve-requires-clause-fits c = subst DemandsFit (sym c.requires.asked) (demands_fit c.args.form.now c.requires.within)

pub returns-in-Err-clause-stop : goal.returns-in-Err-clause-stop
returns-in-Err-clause-stop c = stop_first c.args.t.now c.args.names.now c.args.form.now _ _ c.requires.asked c.in-Err.ensures.stop

pub returns-in-Ok-clause-operands : goal.returns-in-Ok-clause-operands
returns-in-Ok-clause-operands c =
    on_ok _ (subst (AreOperands c.args.t.now c.args.names.now) c.requires.asked (operands_in c.args.t.now c.args.names.now _ _ c.in-Ok.ensures.resolved))
