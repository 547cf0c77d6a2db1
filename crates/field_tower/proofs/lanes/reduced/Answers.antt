use Rattle.std.proofs.Common.{◌≤◌, ◌-◌, ◌/◌, slice_index_or, refl, ap, ◌∙◌, arith}
use Rattle.field_tower.proofs.LaneValues.{rest-lt, once_le, remainder}
use Rattle.field_tower.proofs.lanes.reduced.Goals as goal

pub less_once-requires-clause-small : goal.less_once-requires-clause-small
less_once-requires-clause-small c = λ j l.
    let p = c.args.p in
    let small : p ≤ 257 = c.requires.small in
    omega (arith, c.rests-rest.ensures.lanes j l, rest-lt (slice_index_or c.args.x j 0) p (524288 / p) c.requires.large c.requires.small refl (c.requires.lanes j l))

pub less_once-requires-2-clause-small : goal.less_once-requires-2-clause-small
less_once-requires-2-clause-small c = λ j l.
    let p = c.args.p in
    let small : p ≤ 257 = c.requires.small in
    omega (arith, c.rests-rest.ensures.lanes j l, rest-lt (slice_index_or c.args.x j 0) p (524288 / p) c.requires.large c.requires.small refl (c.requires.lanes j l), once_le (slice_index_or c.rests-rest.result j 0) (slice_index_or c.less_once.result j 0) p (c.less_once.ensures.low j l) (c.less_once.ensures.high j l))

pub returns-clause-lanes : goal.returns-clause-lanes
returns-clause-lanes c = λ j l.
    let p = c.args.p in
    let x = slice_index_or c.args.x j 0 in
    let y = slice_index_or c.rests-rest.result j 0 in
    let z = slice_index_or c.less_once.result j 0 in
    let is = c.rests-rest.ensures.lanes j l in
    remainder x p (524288 / p) c.requires.large c.requires.small refl (c.requires.lanes j l)
    z (λ m. c.less_once.ensures.low j l (omega (arith, is, m)) ∙ is) (λ m. c.less_once.ensures.high j l (omega (arith, is, m)) ∙ ap (λ n. n - p) is)
    (slice_index_or c.less_once-2.result j 0) (c.less_once-2.ensures.low j l) (c.less_once-2.ensures.high j l)
