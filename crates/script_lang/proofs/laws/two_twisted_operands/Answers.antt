use Rattle.script_lang.proofs.Operands.{two_once}
use Rattle.script_lang.proofs.laws.two_twisted_operands.Goals as goal

pub returns : goal.returns
returns c tokens mid between u v x y a b e f = two_once a b e f
