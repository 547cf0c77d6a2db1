use Rattle.statement_work.proofs.SomeAnswer.{some_work}
use Rattle.statement_work.proofs.laws.some_answer.Goals as goal

pub returns : goal.returns
returns c = λ t ns f o over known free. some_work t ns f o over known free
