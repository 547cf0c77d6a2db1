use Rattle.script_parse.proofs.OneScript.{script_once}
use Rattle.script_parse.proofs.laws.one_script.Goals as goal

pub returns : goal.returns
returns c lim n at s g ls xs ys x y = script_once x y
