use Rattle.std.proofs.Common.{ℕ, length, is_some, sym, ◌∙◌, ap, subst}
use Rattle.ring_core.specs.Coeffs.{coeff}
use Rattle.ring_core.proofs.Coefficients.{elem_read}
use Rattle.fq_linear.specs.steps.Places.{cleared}
use Rattle.fq_linear.specs.steps.Extents.{HasExtent}
use Rattle.fq_linear.specs.steps.Elimination.{row_number, is_lead, slot, numbered_cells}
use Rattle.fq_linear.proofs.Places.{elems_range, same_tells}
use Rattle.fq_linear.proofs.Slots.{slot_in, none_left, cleared_none, cleared_nothing}
use Rattle.fq_linear.proofs.Steps.{cleared_at}
use Rattle.fq_linear.proofs.eliminate.clear_by_slot.Goals as goal

pub clear_by-requires-clause-row : goal.clear_by-requires-clause-row
clear_by-requires-clause-row g c = elems_range (g.F.Field.ops c.args.f.now) (g.met.F.Field.laws c.args.f.now).ring c.args.cells.now _ _ c.requires.table.elems

pub clear_by-requires-clause-extent : goal.clear_by-requires-clause-extent
clear_by-requires-clause-extent g c =
    let r = g.F.Field.ops c.args.f.now in
    let w = length c.args.row.now in
    subst (λ o. HasExtent r c.args.extent (coeff r (numbered_cells w w c.args.cells.now o))) c.in-Some.is c.requires.extent

pub returns-then-equal-clause-cleared : goal.returns-then-equal-clause-cleared
returns-then-equal-clause-cleared g c =
    let r = g.F.Field.ops c.args.f.now in
    let ring = (g.met.F.Field.laws c.args.f.now).ring in
    let w = length c.args.row.now in
    let si = slot_in r ring w c.args.index.now c.args.cells.now c.requires.table.elems in
    cleared_nothing r ring c.args.j (slot r w c.args.index.now c.args.cells.now c.args.j) c.args.row.now c.requires.row (si c.args.j)
    (sym c.coeff_at.ensures.value ∙ same_tells r ring _ _ _ c.coeff_at.ensures.elem c.zero.ensures.elem c.equal.ensures c.if-equal.true ∙ c.zero.ensures.value)

pub returns-clause-cleared : goal.returns-clause-cleared
returns-clause-cleared g c =
    let r = g.F.Field.ops c.args.f.now in
    let ring = (g.met.F.Field.laws c.args.f.now).ring in
    let w = length c.args.row.now in
    let cells = c.args.cells.now in
    let t = c.requires.table in
    λ k. c.clear_by.ensures.cleared k ∙ ap (λ o. cleared r c.args.j (coeff r (numbered_cells w w cells o)) (coeff r c.args.row.now) k) (sym c.in-Some.is)

pub returns-clause-zero : goal.returns-clause-zero
returns-clause-zero g c =
    let r = g.F.Field.ops c.args.f.now in
    let ring = (g.met.F.Field.laws c.args.f.now).ring in
    let w = length c.args.row.now in
    let index = c.args.index.now in
    let cells = c.args.cells.now in
    let t = c.requires.table in
    let told = λ (k : ℕ). c.clear_by.ensures.cleared k ∙ ap (λ o. cleared r c.args.j (coeff r (numbered_cells w w cells o)) (coeff r c.args.row.now) k) (sym c.in-Some.is) in
    λ _. cleared_at r ring w (is_lead index) (slot r w index cells) t.led c.args.j (coeff r c.args.row.now) (coeff r c.clear_by.new.out)
    (elem_read r c.args.row.now ring.closed.zero_in c.requires.row) told (ap is_some c.in-Some.is)

pub returns-in_default-clause-cleared : goal.returns-in_default-clause-cleared
returns-in_default-clause-cleared g c =
    let r = g.F.Field.ops c.args.f.now in
    let ring = (g.met.F.Field.laws c.args.f.now).ring in
    cleared_none r ring (length c.args.row.now) c.args.j (row_number c.args.index.now c.args.j) c.args.cells.now c.args.row.now (none_left _ c.in_default.not-Some) c.requires.row
