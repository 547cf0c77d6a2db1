use Rattle.std.proofs.Common.{slice_index_or, ap, ◌∙◌}
use lib.Lanes.{zip2}
use Rattle.field_tower.specs.steps.Lanes.{sixteen}
use Rattle.field_tower.proofs.LaneValues.{minus, times, down, rests-lane, rest-is}
use Rattle.field_tower.proofs.lanes.rests.Goals as goal

pub returns-clause-lanes : goal.returns-clause-lanes
returns-clause-lanes c = λ j l.
    let x = c.args.x in
    let p = c.args.p in
    ap (λ v. slice_index_or v j 0)
    (c.less.ensures
    ∙ ap (zip2 minus x)
    (c.scaled-2.ensures
    ∙ ap (λ v. zip2 times v (sixteen p)) (c.shifted-quotient.ensures ∙ ap (λ v. zip2 down v (sixteen 19)) c.scaled.ensures)))
    ∙ rests-lane x p c.args.m c.requires.len j l
    ∙ rest-is (slice_index_or x j 0) p c.args.m c.requires.large c.requires.small c.requires.reciprocal (c.requires.lanes j l)
