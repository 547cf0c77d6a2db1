use Rattle.field_tower.proofs.CodeDigits.{digits_below}
use Rattle.field_tower.proofs.codes.Codes.code.Goals as goal

pub number-requires-clause-digits : goal.number-requires-clause-digits
number-requires-clause-digits c = digits_below c.args.self.now c.args.a c.requires
