use Rattle.script_parse.proofs.OneScript.{fault_once}
use Rattle.script_parse.proofs.laws.one_fault.Goals as goal

pub returns : goal.returns
returns c lim n s g ls p q x y = fault_once x y
