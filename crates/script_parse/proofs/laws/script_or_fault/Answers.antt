use Rattle.script_parse.proofs.OneScript.{no_fault}
use Rattle.script_parse.proofs.laws.script_or_fault.Goals as goal

pub returns : goal.returns
returns c lim n at s g ls xs r x y = no_fault x y
