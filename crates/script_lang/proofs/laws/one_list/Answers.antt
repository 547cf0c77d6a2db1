use Rattle.script_lang.proofs.Operands.{list_once}
use Rattle.script_lang.proofs.laws.one_list.Goals as goal

pub returns : goal.returns
returns c tokens rest more list items x y = list_once x y
