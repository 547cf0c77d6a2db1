use Rattle.script_lang.proofs.Splitting.{lines_of_last}
use Rattle.script_lang.proofs.laws.last_line.Goals as goal

pub returns : goal.returns
returns c = lines_of_last
