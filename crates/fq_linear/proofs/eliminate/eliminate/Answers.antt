use Rattle.std.proofs.Common.{◌≡◌, ◌+◌, ◌*◌, length, sym, ◌∙◌, ap, subst₂, take_at, arith}
use Rattle.ring_core.specs.Coeffs.{coeff, are_elems}
use Rattle.ring_core.proofs.FirstValues.{length-first_values}
use Rattle.linear_algebra.specs.Linear.{entry, are_rows}
use Rattle.fq_linear.specs.Table.{row_cells}
use Rattle.fq_linear.specs.steps.Elimination.{IsEliminated, augmented}
use Rattle.fq_linear.proofs.Tables.{elems_of_rows}
use Rattle.fq_linear.proofs.Steps.{eliminated_rows}
use Rattle.fq_linear.proofs.eliminate.eliminate.Goals as goal

pub insert_all-requires-clause-source : goal.insert_all-requires-clause-source
insert_all-requires-clause-source g c =
    let r = g.F.Field.ops c.args.f.now in
    let z = (g.met.F.Field.laws c.args.f.now).ring.closed.zero_in in
    let rows = c.args.rows.now in
    elems_of_rows r rows.width (length rows.rows) c.cells.result.now z (ap (are_rows r rows.width) c.cells.ensures.rows ∙ c.requires) c.cells.ensures.len

pub insert_all-requires-clause-cells : goal.insert_all-requires-clause-cells
insert_all-requires-clause-cells g c = ap (are_elems (g.F.Field.ops c.args.f.now)) c.deref_mut-2.ensures.value ∙ c.in_ok-cells.ensures.elems

pub insert_all-requires-clause-row : goal.insert_all-requires-clause-row
insert_all-requires-clause-row g c = ap (are_elems (g.F.Field.ops c.args.f.now)) c.deref_mut-4.ensures.value ∙ c.in_ok-row.ensures.elems

pub insert_all-requires-clause-cells_len : goal.insert_all-requires-clause-cells_len
insert_all-requires-clause-cells_len g c =
    ap length (c.deref_mut-2.ensures.value ∙ c.in_ok-cells.ensures.value) ∙ length-first_values c.in-Some-checked_mul.size _ ∙ c.in-Some-checked_mul.ensures.1
    ∙ ap (λ k. c.len-n.result * k) (c.in-Some.ensures.1 ∙ ap (λ k. c.args.offset + k) (c.width.ensures ∙ sym c.width-2.ensures))

pub insert_all-requires-clause-row_len : goal.insert_all-requires-clause-row_len
insert_all-requires-clause-row_len g c =
    ap length (c.deref_mut-4.ensures.value ∙ c.in_ok-row.ensures.value) ∙ length-first_values c.in-Some.w _ ∙ c.in-Some.ensures.1
    ∙ ap (λ k. c.args.offset + k) (c.width.ensures ∙ sym c.width-2.ensures)

pub returns : goal.returns
returns g c =
    let r = g.F.Field.ops c.args.f.now in
    let ring = (g.met.F.Field.laws c.args.f.now).ring in
    let rows = c.args.rows.now in
    let offset = c.args.offset in
    let index = c.insert_all.new.index in
    let cells = c.insert_all.new.cells in
    let source = c.cells.result.now in
    let done = subst₂ (λ w n. IsEliminated r (offset + w) n (augmented r offset (λ i. coeff r (row_cells w source i))) index cells) c.width-2.ensures c.len-n.ensures c.insert_all.ensures in
    let all = eliminated_rows r ring offset rows.width source rows.rows index cells c.cells.ensures.rows done in
    let one : length index ≡ c.in_ok-index.index.len = omega (arith, c.insert_all.auto.index, c.deref_mut.ensures.len) in
    let two : length cells ≡ c.in_ok-cells.cells.len = omega (arith, c.insert_all.auto.cells, c.deref_mut-2.ensures.len) in
    subst₂ (IsEliminated r (offset + rows.width) (length rows.rows) (augmented r offset (entry r rows.rows)))
    (sym (take_at index _ _ one)) (sym (take_at cells _ _ two)) all
