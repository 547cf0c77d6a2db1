use Rattle.field_tower.proofs.Reciprocal.{share_low, share_high}
use Rattle.field_tower.proofs.remainders.fraction_of.Goals as goal

pub returns-clause-low : goal.returns-clause-low
returns-clause-low c = share_low c.args.p c.args.c c.args.reciprocal c.requires.small c.requires.factor c.requires.reciprocal

pub returns-clause-high : goal.returns-clause-high
returns-clause-high c = share_high c.args.p c.args.c c.args.reciprocal c.requires.small c.requires.factor c.requires.reciprocal
