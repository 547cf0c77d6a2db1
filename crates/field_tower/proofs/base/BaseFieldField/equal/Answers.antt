use Rattle.std.proofs.Common.{◌-◌, sym}
use Rattle.field_tower.proofs.BaseValues.{base-same}
use Rattle.field_tower.proofs.base.BaseFieldField.equal.Goals as goal

pub returns : goal.returns
returns c = let k = c.args.self.now in sym (base-same k.p (k.s - 1) k.modulus c.args.a c.args.b)
