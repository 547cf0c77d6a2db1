use Rattle.std.proofs.Common.{◌≡◌, Some, rules}
use Rattle.residue_field.specs.Top.{ops_of_top}
use Rattle.answer.specs.declared.Value.TheVariants as value
use Rattle.statement_operands.specs.Names.{value_of}
use Rattle.statement_operands.proofs.Modules.{told_module}
use Rattle.statement_operands.proofs.SoundNames.{value_in}
use Rattle.statement_operands.proofs.operands.module.Goals as goal

pub returns-in-Some-Module-clause-elem : goal.returns-in-Some-Module-clause-elem
returns-in-Some-Module-clause-elem c =
    let is : value_of c.args.names.now c.in-Name.name.bytes ≡ Some (value.Module c.in-Some-Module.phi) = search rules in
    told_module (ops_of_top c.args.t.now) _
    (value_in c.args.t.now c.args.names.now c.in-Name.name.bytes (value.Module c.in-Some-Module.phi) c.requires.sound is)
