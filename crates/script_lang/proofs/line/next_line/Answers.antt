use Rattle.std.proofs.Common.{arith, rules}
use Rattle.std.proofs.lemmas.Bool.Decides.{nat_tests}
use Rattle.script_lang.proofs.Splitting.{split_at_feed, not_split}
use Rattle.script_lang.proofs.line.next_line.Goals as goal

pub returns-in_default-clause-first : goal.returns-in_default-clause-first
returns-in_default-clause-first c = not_split c.args.script.now (grind (arith, nat_tests)) (search rules)

pub returns-clause-first : goal.returns-clause-first
returns-clause-first c = split_at_feed c.args.script.now c.in-Some.end (search rules)
