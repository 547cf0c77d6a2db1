use Rattle.script_lang.proofs.Splitting.{lines_of_line}
use Rattle.script_lang.proofs.laws.lines_at_feed.Goals as goal

pub returns : goal.returns
returns c = lines_of_line
