use Rattle.std.proofs.Common.{◌<◌, ◌+◌, ◌*◌, slice_index_or, ap, ◌∙◌, arith}
use Rattle.std.proofs.Math.Nat.{mod-eq_of_lt}
use lib.Lanes.{zip2}
use Rattle.field_tower.specs.steps.Lanes.{sixteen}
use Rattle.field_tower.proofs.LaneValues.{times, plus, lane-zip, lane-splat, width-splat}
use Rattle.field_tower.proofs.lanes.added.Goals as goal

pub returns-clause-lanes : goal.returns-clause-lanes
returns-clause-lanes c = λ j l.
    let sum = c.args.sum in
    let row = c.args.row in
    let s = slice_index_or sum j 0 in
    let r = slice_index_or row j 0 in
    let k = c.args.c in
    let fits : s + r * k < 4294967296 = c.requires.fits j l in
    ap (λ v. slice_index_or v j 0) (c.both.ensures ∙ ap (zip2 plus sum) c.scaled.ensures)
    ∙ lane-zip plus sum c.requires.sum (zip2 times row (sixteen k)) (width-splat times row c.requires.row k) j l
    ∙ ap (plus s) (lane-splat times row c.requires.row k j l ∙ mod-eq_of_lt (omega arith))
    ∙ mod-eq_of_lt fits
