use Rattle.std.proofs.Common.{slice_index_or, ap, ◌∙◌}
use lib.Lanes.{zip2}
use Rattle.field_tower.proofs.LaneValues.{lesser, once_low, once_high}
use Rattle.field_tower.proofs.lanes.less_once.Goals as goal

pub returns-clause-low : goal.returns-clause-low
returns-clause-low c = λ j l m.
    ap (λ v. slice_index_or v j 0) (c.least.ensures ∙ ap (zip2 lesser c.args.x) c.less.ensures)
    ∙ once_low c.args.x c.args.p c.requires.len j l m c.requires.low

pub returns-clause-high : goal.returns-clause-high
returns-clause-high c = λ j l m.
    ap (λ v. slice_index_or v j 0) (c.least.ensures ∙ ap (zip2 lesser c.args.x) c.less.ensures)
    ∙ once_high c.args.x c.args.p c.requires.len j l c.requires.positive m (c.requires.small j l)
