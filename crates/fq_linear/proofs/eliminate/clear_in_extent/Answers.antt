use Rattle.std.proofs.Common.{length, sym, ◌∙◌}
use Rattle.ring_core.specs.Coeffs.{coeff}
use Rattle.ring_core.proofs.Coefficients.{elem_read}
use Rattle.fq_linear.specs.steps.Elimination.{slot}
use Rattle.fq_linear.proofs.Places.{same_tells}
use Rattle.fq_linear.proofs.Slots.{slot_in, cleared_nothing}
use Rattle.fq_linear.proofs.Extents.{extent_cleared}
use Rattle.fq_linear.proofs.eliminate.clear_in_extent.Goals as goal

pub returns-then-equal-clause-cleared : goal.returns-then-equal-clause-cleared
returns-then-equal-clause-cleared g c =
    let r = g.F.Field.ops c.args.f.now in
    let ring = (g.met.F.Field.laws c.args.f.now).ring in
    let w = length c.args.row.now in
    let si = slot_in r ring w c.args.index.now c.args.cells.now c.requires.table.elems in
    cleared_nothing r ring c.args.j (slot r w c.args.index.now c.args.cells.now c.args.j) c.args.row.now c.requires.row (si c.args.j)
    (sym c.coeff_at.ensures.value ∙ same_tells r ring _ _ _ c.coeff_at.ensures.elem c.zero.ensures.elem c.equal.ensures c.if-equal.true ∙ c.zero.ensures.value)

pub returns-clause-extent : goal.returns-clause-extent
returns-clause-extent g c =
    let r = g.F.Field.ops c.args.f.now in
    let ring = (g.met.F.Field.laws c.args.f.now).ring in
    let w = length c.args.row.now in
    extent_cleared r ring c.args.extent.now _ c.joined.result c.args.j (coeff r c.args.row.now) (slot r w c.args.index.now c.args.cells.now c.args.j) (coeff r c.clear_by_slot.new.row)
    (elem_read r c.args.row.now ring.closed.zero_in c.requires.row) c.clear_by_slot.ensures.cleared c.requires.extent (c.requires.extents.is c.args.j _ c.requires.place)
    c.joined.ensures.low_left c.joined.ensures.low_right c.joined.ensures.end_left c.joined.ensures.end_right c.joined.ensures.high_left c.joined.ensures.high_right
