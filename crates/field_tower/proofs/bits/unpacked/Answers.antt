use Rattle.std.proofs.Common.{◌≤◌, arith}
use Rattle.std.specs.Int.{bit_at}
use Rattle.std.proofs.lemmas.Nat.Bits.{shr_and_one}
use Rattle.residue_field.specs.declared.TheConstants.{WIDTH}
use Rattle.residue_field.specs.Prime.{prime_ops}
use Rattle.field_tower.proofs.FilledPlaces.{filled_more}
use Rattle.field_tower.proofs.bits.unpacked.Goals as goal

pub loop-i-preserved : goal.loop-i-preserved
loop-i-preserved c =
    let room : c.args.n ≤ WIDTH = c.requires.room in
    filled_more (prime_ops 2) (bit_at c.args.c) c.loop-i.places c.loop-i.i _ (omega arith) c.loop-i.invariant (shr_and_one c.args.c c.loop-i.i)
