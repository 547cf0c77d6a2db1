use Rattle.std.specs.Int.{bit_at}
use Rattle.residue_field.specs.Prime.{prime_ops}
use Rattle.field_tower.proofs.FilledPlaces.{AreFilled}
use Rattle.field_tower.proofs.bits.unpacked.Given as goal

abbrev pub invariant-loop-i : goal.invariant-loop-i
invariant-loop-i l = AreFilled (prime_ops 2) (bit_at l.c) l.i l.places
