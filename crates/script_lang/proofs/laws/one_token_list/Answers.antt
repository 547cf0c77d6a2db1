use Rattle.script_lang.proofs.Lexing.{tokens_once}
use Rattle.script_lang.proofs.laws.one_token_list.Goals as goal

pub returns : goal.returns
returns c = tokens_once
