use Rattle.std.proofs.Common.{◌-◌, slice_index, arith}
use Rattle.field_tower.specs.declared.size.TheConstants.{CODES}
use Rattle.field_tower.proofs.CodeDigits.{number_step, step_below, step_fits}
use Rattle.field_tower.proofs.codes.number.Goals as goal

pub overflow_mul-c : goal.overflow_mul-c
overflow_mul-c c =
    let i = c.loop-i.i in
    omega (arith, step_fits c.args.p c.args.n i c.loop-i.c _ CODES (omega arith) (omega arith) c.loop-i.invariant.below (c.requires.digits (i - 1)) c.requires.small)

pub overflow_add-c : goal.overflow_add-c
overflow_add-c c =
    let i = c.loop-i.i in
    omega (arith, step_fits c.args.p c.args.n i c.loop-i.c _ CODES (omega arith) (omega arith) c.loop-i.invariant.below (c.requires.digits (i - 1)) c.requires.small)

pub loop-i-preserved : goal.loop-i-preserved
loop-i-preserved c =
    let i = c.loop-i.i in
    record {
      value = number_step c.args.p c.args.n i (slice_index c.args.a.0) c.loop-i.c (omega arith) (omega arith) c.loop-i.invariant.value;
      below = step_below c.args.p c.args.n i c.loop-i.c _ (omega arith) (omega arith) c.loop-i.invariant.below (c.requires.digits (i - 1));
    }
