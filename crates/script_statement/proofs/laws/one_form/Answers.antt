use Rattle.script_statement.proofs.OneForm.{statement_once}
use Rattle.script_statement.proofs.laws.one_form.Goals as goal

pub returns : goal.returns
returns c tokens f g x y = statement_once x y
