use Rattle.statement_work.proofs.OneAnswer.{one_work}
use Rattle.statement_work.proofs.laws.one_answer.Goals as goal

pub returns : goal.returns
returns c = λ t ns f a b o h g. one_work t ns f a b o h g
