use Rattle.drinfeld_cli.proofs.FaultLine.{first_front, second_front}
use Rattle.drinfeld_cli.proofs.fault_line.write_both.Goals as goal

pub returns-in_err-write_whole-clause-prefix : goal.returns-in_err-write_whole-clause-prefix
returns-in_err-write_whole-clause-prefix g c =
    first_front _ _ c.args.first.now c.args.second.now c.write_whole.ensures.prefix.0 c.write_whole.ensures.prefix.1

pub returns-clause-prefix : goal.returns-clause-prefix
returns-clause-prefix g c =
    second_front _ _ _ c.args.first.now c.args.second.now c.write_whole-2.ensures.prefix.0 c.in_ok-write_whole.ensures.ok c.write_whole-2.ensures.prefix.1
