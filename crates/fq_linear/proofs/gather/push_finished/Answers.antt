use Rattle.std.proofs.Common.{◌≡◌, ℕ, ◌∷◌, [], ◌++◌, length, take, is_some, sym, ◌∙◌, ap, subst, arith}
use Rattle.ring_core.specs.Coeffs.{coeff}
use Rattle.ring_core.proofs.Coefficients.{elem_read}
use Rattle.ring_core.proofs.Written.{elems_written}
use Rattle.linear_algebra.specs.Combines.{Combines}
use Rattle.linear_algebra.specs.steps.Slots.{minus}
use Rattle.linear_algebra.proofs.Lift.{combines_as}
use Rattle.fq_linear.specs.Table.{row_cells}
use Rattle.fq_linear.specs.steps.Elimination.{is_lead, slot, numbered_cells}
use Rattle.fq_linear.proofs.Places.{elems_range}
use Rattle.fq_linear.proofs.Tables.{length-range_within}
use Rattle.fq_linear.proofs.Slots.{slot_in, none_left}
use Rattle.fq_linear.proofs.Gathered.{no_row, one_row, first_members, copied}
use Rattle.fq_linear.proofs.Finished.{finished_is}
use Rattle.fq_linear.proofs.gather.push_finished.Goals as goal

pub returns-in_default-clause-rows : goal.returns-in_default-clause-rows
returns-in_default-clause-rows g c =
    λ finished fin. no_row c.args.basis.now.width (is_lead c.args.index.now) finished c.args.j c.args.basis.now.rows (ap is_some (none_left _ c.in_default.not-Some))

pub reduce_below-requires-clause-row : goal.reduce_below-requires-clause-row
reduce_below-requires-clause-row g c =
    let r = g.F.Field.ops c.args.f.now in
    let ring = (g.met.F.Field.laws c.args.f.now).ring in
    let z = ring.closed.zero_in in
    let part = row_cells (length c.args.row.now) c.args.cells.now c.in-Some.i in
    elems_written r z 0 (length part) (coeff r part) c.args.row.now c.write_at.new.cells c.requires.row
    (λ k _. elem_read r part z (elems_range r ring c.args.cells.now _ _ c.requires.table.elems) k) (c.write_at.ensures.written r.zero)

pub returns-clause-rows : goal.returns-clause-rows
returns-clause-rows g c =
    let r = g.F.Field.ops c.args.f.now in
    let ring = (g.met.F.Field.laws c.args.f.now).ring in
    let z = ring.closed.zero_in in
    let w = length c.args.row.now in
    let i = c.in-Some.i in
    let j = c.args.j in
    let index = c.args.index.now in
    let cells = c.args.cells.now in
    let t = c.requires.table in
    let part = row_cells w cells i in
    let slots = slot r w index cells in
    let si = slot_in r ring w index cells t.elems in
    let wide = c.write_at.ensures.len in
    let m = ap is_some c.in-Some.is in
    let start : (k : ℕ) → coeff r c.write_at.new.cells k ≡ slots j k =
    λ k. copied r part c.args.row.now c.write_at.new.cells (length-range_within w i cells (t.stored.is j i c.in-Some.is)) wide (c.write_at.ensures.written r.zero) k
    ∙ sym (ap (λ o. coeff r (numbered_cells w w cells o) k) c.in-Some.is) in
    let taken = subst (λ n. Combines r j (slot r n index cells) (minus r (coeff r c.write_at.new.cells) (coeff r c.reduce_below.new.row))) wide c.reduce_below.ensures.taken in
    λ finished fin.
    let is = finished_is r ring w (is_lead index) slots finished si t.led fin j m (coeff r c.reduce_below.new.row) (elem_read r c.reduce_below.new.row z c.reduce_below.ensures.elems)
    (combines_as r ring j slots _ _ (λ k. ap (λ a. r.add a (r.neg (coeff r c.reduce_below.new.row k))) (sym (start k))) taken) (λ k b l. c.reduce_below.ensures.clear k b l) in
    c.in_ok-push.ensures.rows ∙ ap (λ n. c.args.basis.now.rows ++ take n c.reduce_below.new.row ∷ []) c.width-cut.ensures
    ∙ ap (λ u. c.args.basis.now.rows ++ u ∷ []) (first_members r c.args.basis.now.width c.reduce_below.new.row (finished j) (omega arith) is)
    ∙ one_row c.args.basis.now.width (is_lead index) finished j c.args.basis.now.rows m
