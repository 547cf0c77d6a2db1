use Rattle.std.proofs.Common.{◌+◌, ◌-◌, ◌*◌, ◌^◌, ◌≤◌, ◌<◌, slice_index, refl, arith}
use Rattle.residue_field.specs.declared.TheConstants.{WIDTH}
use Rattle.field_tower.proofs.CodeDigits.{step_below, step_fits}
use Rattle.field_tower.proofs.PackedBits.{packed_fits, bit_pushed}
use Rattle.field_tower.proofs.bits.packed.Goals as goal

pub overflow_mul-c : goal.overflow_mul-c
overflow_mul-c c =
    let i = c.loop-i.i in
    let room : c.args.n ≤ WIDTH = c.requires.room in
    let low : c.loop-i.c * 2 + slice_index c.args.list.now (i - 1) < 2 ^ c.args.n = step_fits 2 c.args.n i c.loop-i.c _ (2 ^ c.args.n) (omega arith) (omega arith) c.loop-i.invariant.below (c.requires.bits (i - 1)) (omega arith) in
    omega (arith, packed_fits c.args.n c.loop-i.c _ (omega arith) low)

pub overflow_add-c : goal.overflow_add-c
overflow_add-c c =
    let i = c.loop-i.i in
    let room : c.args.n ≤ WIDTH = c.requires.room in
    let low : c.loop-i.c * 2 + slice_index c.args.list.now (i - 1) < 2 ^ c.args.n = step_fits 2 c.args.n i c.loop-i.c _ (2 ^ c.args.n) (omega arith) (omega arith) c.loop-i.invariant.below (c.requires.bits (i - 1)) (omega arith) in
    omega (arith, packed_fits c.args.n c.loop-i.c _ (omega arith) low)

pub loop-i-preserved : goal.loop-i-preserved
loop-i-preserved c =
    let i = c.loop-i.i in
    record {
      bits = bit_pushed (slice_index c.args.list.now) c.loop-i.c _ c.args.n i (omega arith) (c.requires.bits (i - 1)) refl c.loop-i.invariant.bits;
      below = step_below 2 c.args.n i c.loop-i.c _ (omega arith) (omega arith) c.loop-i.invariant.below (c.requires.bits (i - 1));
    }
