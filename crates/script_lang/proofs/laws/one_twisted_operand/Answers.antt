use Rattle.script_lang.proofs.Operands.{twisted_once}
use Rattle.script_lang.proofs.laws.one_twisted_operand.Goals as goal

pub returns : goal.returns
returns c tokens rest more u v x a y b = twisted_once x a y b
