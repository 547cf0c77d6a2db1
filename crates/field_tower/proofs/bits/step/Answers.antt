use Rattle.std.proofs.Common.{◌-◌}
use Rattle.std.proofs.lemmas.Nat.Bits.{shr_and_one}
use Rattle.field_tower.proofs.PackedBits.{step_at}
use Rattle.field_tower.proofs.bits.step.Goals as goal

pub returns : goal.returns
returns c =
    step_at c.args.n c.args.modulus c.args.c c.args.b c.args.r c.chosen.result c.chosen-2.result _ c.requires.room c.requires.factor
    (shr_and_one c.args.r (c.args.n - 1)) c.chosen.ensures c.chosen-2.ensures
