use Rattle.std.proofs.Common.{◌<◌, length, sym, ap, subst, ◌∙◌}
use Rattle.ring_core.proofs.FirstValues.{length-first_values}
use Rattle.field_tower.proofs.LogSteps.{row_below, row_sum}
use Rattle.field_tower.proofs.logs.multiple.Goals as goal

pub bounds-row-rest : goal.bounds-row-rest
bounds-row-rest c = subst (λ n. c.in-Some.rest < n) (sym (ap length c.requires.before ∙ length-first_values c.args.a _)) c.in-Some.ensures.rest_low

pub bounds-row-place : goal.bounds-row-place
bounds-row-place c = subst (λ n. c.args.place < n) (sym (ap length c.requires.before ∙ length-first_values c.args.a _)) c.in-Some.ensures.place_low

pub sum-requires-clause-left : goal.sum-requires-clause-left
sum-requires-clause-left c =
    row_below c.args.codes.now c.args.g c.requires.factor c.args.a c.requires.code c.args.row.now c.requires.before c.in-Some.rest c.in-Some.ensures.rest_low

pub sum-requires-clause-right : goal.sum-requires-clause-right
sum-requires-clause-right c =
    row_below c.args.codes.now c.args.g c.requires.factor c.args.a c.requires.code c.args.row.now c.requires.before c.args.place c.in-Some.ensures.place_low

pub returns-in-Some : goal.returns-in-Some
returns-in-Some c =
    c.sum.ensures
    ∙ row_sum c.args.codes.now c.args.g c.requires.factor c.args.a c.requires.code c.args.row.now c.requires.before c.in-Some.rest c.args.place c.in-Some.ensures.rest_low
    c.in-Some.ensures.place_low c.in-Some.ensures.whole
