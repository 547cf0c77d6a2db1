use Rattle.session.proofs.Existence.{outcome}
use Rattle.session.proofs.laws.some_outcome.Goals as goal

pub returns : goal.returns
returns c = outcome
