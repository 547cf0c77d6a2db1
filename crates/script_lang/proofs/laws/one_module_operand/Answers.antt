use Rattle.script_lang.proofs.Operands.{module_once}
use Rattle.script_lang.proofs.laws.one_module_operand.Goals as goal

pub returns : goal.returns
returns c tokens rest more m n x y = module_once x y
