use Rattle.script_parse.proofs.OneScript.{stands_once}
use Rattle.script_parse.proofs.laws.one_form_of_line.Goals as goal

pub returns : goal.returns
returns c = stands_once
