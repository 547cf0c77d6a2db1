use Rattle.drinfeld_cli.proofs.Once.{runs_once}
use Rattle.drinfeld_cli.proofs.laws.one_text.Goals as goal

pub returns : goal.returns
returns c = runs_once
