use Rattle.std.proofs.Common.{◌≡◌, ◌+◌, ◌<◌, suc, length, cond, nat_lt, slice_index, sym, ap, subst, ◌∙◌, arith}
use Rattle.ring_core.proofs.Coefficients.{values_more}
use Rattle.residue_field.specs.Prime.{prime_ops}
use Rattle.field_tower.specs.steps.Logs.{steps_from_one, steps_below}
use Rattle.field_tower.proofs.LogSteps.{step_inside}
use Rattle.field_tower.proofs.logs.walk.Goals as goal

pub bounds-row-code : goal.bounds-row-code
bounds-row-code c =
    let row = c.args.row.now in
    subst (λ x. x < length row) (sym c.loop-i.invariant.1) (step_inside row c.requires.steps c.loop-i.i)

pub loop-i-preserved : goal.loop-i-preserved
loop-i-preserved c =
    let row = c.args.row.now in
    let i = c.loop-i.i in
    let n = c.args.n in
    let next : suc i ≡ i + 1 = omega arith in
    let here = c.below.ensures ∙ ap (λ x. cond (nat_lt i n) x 0) c.loop-i.invariant.1 in (
      values_more (prime_ops 2) i (steps_below n row) _ _ _ c.in_ok-push.ensures.items c.loop-i.invariant.0 here,
      ap (slice_index row) c.loop-i.invariant.1 ∙ ap (steps_from_one row) next,
    )
