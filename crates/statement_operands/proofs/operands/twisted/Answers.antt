use Rattle.std.proofs.Common.{◌≡◌, Some, rules}
use Rattle.answer.specs.declared.Value.TheVariants as value
use Rattle.statement_operands.specs.Names.{value_of}
use Rattle.statement_operands.proofs.SoundNames.{value_in}
use Rattle.statement_operands.proofs.operands.twisted.Goals as goal

pub returns-in-Some-Ore-clause-elem : goal.returns-in-Some-Ore-clause-elem
returns-in-Some-Ore-clause-elem c =
    let is : value_of c.args.names.now c.in-Name.name.bytes ≡ Some (value.Ore c.in-Some-Ore.u) = search rules in
    value_in c.args.t.now c.args.names.now c.in-Name.name.bytes (value.Ore c.in-Some-Ore.u) c.requires.sound is
