use Rattle.sample_script.proofs.Statements.{sample_is_script}
use Rattle.sample_script.proofs.laws.sample_is_script.Goals as goal

pub returns : goal.returns
returns c = sample_is_script
