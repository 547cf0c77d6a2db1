use Rattle.std.proofs.Common.{◌≡◌, length, arith}
use Rattle.residue_field.specs.declared.TheConstants.{WIDTH}
use Rattle.field_tower.proofs.CodeDigits.{digits_are, digits_stored}
use Rattle.field_tower.proofs.codes.Codes.residue.Goals as goal

pub returns-clause-digits : goal.returns-clause-digits
returns-clause-digits c = digits_are c.args.self.now c.digits.result c.args.a c.requires c.digits.ensures.values c.digits.ensures.past

pub returns-clause-elem : goal.returns-clause-elem
returns-clause-elem c =
    let width : length c.digits.result.0 ≡ WIDTH = omega arith in
    digits_stored c.args.self.now c.digits.result c.args.a width (returns-clause-digits c) c.digits.ensures.past
