use Rattle.field_tower.proofs.PackedBits.{chosen_bits}
use Rattle.field_tower.proofs.bits.chosen.Goals as goal

pub returns : goal.returns
returns c = chosen_bits c.args.bit c.args.x c.requires c.ranges.x.fits
