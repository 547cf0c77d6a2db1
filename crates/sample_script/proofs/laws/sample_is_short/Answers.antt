use Rattle.sample_script.proofs.Short.{sample_short}
use Rattle.sample_script.proofs.laws.sample_is_short.Goals as goal

pub returns : goal.returns
returns c = sample_short
