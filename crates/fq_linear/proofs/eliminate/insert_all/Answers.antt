use Rattle.std.proofs.Common.{◌≡◌, ◌+◌, ◌*◌, ◌<◌, inl, length, sym, ◌∙◌, ap, subst, zero-add, arith}
use Rattle.ring_core.specs.Coeffs.{coeff}
use Rattle.ring_core.proofs.Coefficients.{elem_read}
use Rattle.fq_linear.specs.Table.{row_cells}
use Rattle.fq_linear.specs.steps.Extents.{HaveExtents}
use Rattle.fq_linear.specs.steps.Elimination.{slot, IsLedTable, IsInserted, IsEliminated, augmented}
use Rattle.ring_core.proofs.Written.{elems_written}
use Rattle.fq_linear.proofs.Places.{elems_range}
use Rattle.fq_linear.proofs.Tables.{length-row_cells}
use Rattle.fq_linear.proofs.Slots.{none_is_not, loaded, augmented_in}
use Rattle.fq_linear.proofs.Steps.{empty_slot, eliminated_none, eliminated_more}
use Rattle.fq_linear.proofs.eliminate.insert_all.Goals as goal

pub loop-i-init : goal.loop-i-init
loop-i-init g c =
    let r = g.F.Field.ops c.args.f.now in
    let ring = (g.met.F.Field.laws c.args.f.now).ring in
    let z = ring.closed.zero_in in
    let source = c.args.source.now in
    let width = c.args.width in
    record {
      row = c.requires.row;
      row_len = c.requires.row_len;
      cells_len = c.requires.cells_len;
      extents = record {
        len = c.requires.extents_len;
        is = λ j past b.
            let zero = empty_slot r ring (c.args.offset + width) c.args.index.now c.args.cells.now c.requires.empty j in
            record { below = λ k _. zero k; between = λ k _ _. zero k };
      };
      below = record { is = λ j i e. let f = c.requires.empty j in absurd (none_is_not i (sym f ∙ e)) };
      eliminated = eliminated_none r ring (c.args.offset + width) (augmented r c.args.offset (λ i. coeff r (row_cells width source i))) c.args.index.now c.args.cells.now
          (augmented_in r z ring.closed.one_in c.args.offset _ (λ i. elem_read r (row_cells width source i) z (elems_range r ring source (i * width) (i * width + width) c.requires.source)))
          c.requires.index_len c.requires.cells c.requires.empty;
    }

pub first_extent-extent-requires-clause-row : goal.first_extent-extent-requires-clause-row
first_extent-extent-requires-clause-row g c =
    let r = g.F.Field.ops c.args.f.now in
    let ring = (g.met.F.Field.laws c.args.f.now).ring in
    let z = ring.closed.zero_in in
    let part = row_cells c.args.width c.args.source.now c.loop-i.i in
    let pi = elems_range r ring c.args.source.now (c.loop-i.i * c.args.width) (c.loop-i.i * c.args.width + c.args.width) c.requires.source in
    elems_written r z c.args.offset (length part) (coeff r part) c.write_unit.new.row c.write_at.new.cells c.write_unit.ensures.elems
    (λ k _. elem_read r part z pi k) (c.write_at.ensures.written r.zero)

pub first_extent-extent-requires-clause-unit : goal.first_extent-extent-requires-clause-unit
first_extent-extent-requires-clause-unit g c =
    let r = g.F.Field.ops c.args.f.now in
    λ k l. (c.write_at.ensures.written r.zero).outside k (inl l) ∙ ap (coeff r c.write_unit.new.row) (sym (zero-add k)) ∙ c.write_unit.ensures.written.inside k l

pub insert_row-requires-clause-row : goal.insert_row-requires-clause-row
insert_row-requires-clause-row g c =
    let r = g.F.Field.ops c.args.f.now in
    let ring = (g.met.F.Field.laws c.args.f.now).ring in
    let z = ring.closed.zero_in in
    let part = row_cells c.args.width c.args.source.now c.loop-i.i in
    let pi = elems_range r ring c.args.source.now (c.loop-i.i * c.args.width) (c.loop-i.i * c.args.width + c.args.width) c.requires.source in
    elems_written r z c.args.offset (length part) (coeff r part) c.write_unit.new.row c.write_at.new.cells c.write_unit.ensures.elems
    (λ k _. elem_read r part z pi k) (c.write_at.ensures.written r.zero)

pub loop-i-preserved : goal.loop-i-preserved
loop-i-preserved g c =
    let r = g.F.Field.ops c.args.f.now in
    let ring = (g.met.F.Field.laws c.args.f.now).ring in
    let z = ring.closed.zero_in in
    let source = c.args.source.now in
    let width = c.args.width in
    let offset = c.args.offset in
    let i = c.loop-i.i in
    let before = c.loop-i.invariant in
    let part = row_cells width source i in
    let inside : i < c.args.n = omega arith in
    let full = length-row_cells width c.args.n source i inside (omega (arith, c.requires.source_len)) in
    let wide = c.write_at.ensures.len ∙ c.write_unit.ensures.len ∙ before.row_len in
    let rows = augmented r offset (λ i. coeff r (row_cells width source i)) in
    let loads = loaded r ring offset width i part c.loop-i.row c.write_unit.new.row c.write_at.new.cells full wide c.write_unit.ensures.written (c.write_at.ensures.written r.zero) in
    record {
      row = c.insert_row.ensures.row_elems;
      row_len = c.insert_row.ensures.row_len ∙ wide;
      cells_len = c.insert_row.ensures.cells_len ∙ before.cells_len;
      extents = subst (λ w. HaveExtents r w c.insert_row.new.index c.insert_row.new.cells c.insert_row.new.extents) wide c.insert_row.ensures.extents;
      below = c.insert_row.ensures.below;
      eliminated = eliminated_more r ring (offset + width) i rows c.loop-i.index c.insert_row.new.index c.loop-i.cells c.insert_row.new.cells (coeff r c.write_at.new.cells)
          (augmented_in r z ring.closed.one_in offset _ (λ i. elem_read r (row_cells width source i) z (elems_range r ring source (i * width) (i * width + width) c.requires.source)))
          before.eliminated (subst (λ w. IsLedTable r w c.insert_row.new.index c.insert_row.new.cells) wide c.insert_row.ensures.table) loads
          (subst (λ w. IsInserted r w (slot r w c.loop-i.index c.loop-i.cells) (slot r w c.insert_row.new.index c.insert_row.new.cells) (coeff r c.write_at.new.cells)) wide c.insert_row.ensures.inserted);
    }

pub returns : goal.returns
returns g c =
    let r = g.F.Field.ops c.args.f.now in
    let all : c.loop-i.i ≡ c.args.n = omega arith in
    subst (λ n. IsEliminated r (c.args.offset + c.args.width) n (augmented r c.args.offset (λ i. coeff r (row_cells c.args.width c.args.source.now i))) c.loop-i.index c.loop-i.cells) all c.loop-i.invariant.eliminated
