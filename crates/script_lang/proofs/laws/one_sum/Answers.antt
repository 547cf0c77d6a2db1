use Rattle.script_lang.proofs.OneReading.{sum_once}
use Rattle.script_lang.proofs.laws.one_sum.Goals as goal

pub returns : goal.returns
returns c k d lead tokens rest more s u x a y b = sum_once x a y b
