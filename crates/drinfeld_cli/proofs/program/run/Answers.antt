use Rattle.drinfeld_cli.proofs.Completeness.{complete}
use Rattle.drinfeld_cli.proofs.CompleteStop.{complete_stop}
use Rattle.drinfeld_cli.proofs.program.run.Goals as goal

pub returns-clause-complete : goal.returns-clause-complete
returns-clause-complete g c = λ taken. complete _ _ _ (c.answer-status.ensures.says taken)

pub returns-clause-stopped : goal.returns-clause-stopped
returns-clause-stopped g c = λ taken. complete_stop _ _ _ (c.answer-status.ensures.says taken)
