use Rattle.std.proofs.Common.{◌-◌, ℕ, length, refl, ◌∙◌, ap, arith}
use Rattle.ring_core.specs.Coeffs.{coeff}
use Rattle.ring_core.proofs.Coefficients.{elem_read}
use Rattle.fq_linear.specs.steps.Places.{cleared}
use Rattle.fq_linear.specs.steps.Elimination.{is_lead, slot}
use Rattle.fq_linear.proofs.Slots.{slot_in}
use Rattle.fq_linear.proofs.Steps.{taken_none, taken_more, clear_more}
use Rattle.fq_linear.proofs.eliminate.reduce_below.Goals as goal

pub loop-j-init : goal.loop-j-init
loop-j-init g c =
    let r = g.F.Field.ops c.args.f.now in
    let ring = (g.met.F.Field.laws c.args.f.now).ring in
    let row = c.args.row.now in
    record {
      len = refl;
      elems = c.requires.row;
      taken = taken_none r ring c.args.top _ (coeff r row) (slot_in r ring (length row) c.args.index.now c.args.cells.now c.requires.table.elems) (elem_read r row ring.closed.zero_in c.requires.row);
      clear = λ k a b m. absurd (omega arith);
    }

pub loop-j-preserved : goal.loop-j-preserved
loop-j-preserved g c =
    let r = g.F.Field.ops c.args.f.now in
    let ring = (g.met.F.Field.laws c.args.f.now).ring in
    let z = ring.closed.zero_in in
    let before = c.loop-j.invariant in
    let w = length c.args.row.now in
    let index = c.args.index.now in
    let cells = c.args.cells.now in
    let j = c.loop-j.j - 1 in
    let slots = slot r w index cells in
    let si = slot_in r ring w index cells c.requires.table.elems in
    let yi = elem_read r c.loop-j.row z before.elems in
    let step = λ (k : ℕ). c.clear_by_slot.ensures.cleared k ∙ ap (λ n. cleared r j (slot r n index cells j) (coeff r c.loop-j.row) k) before.len in
    record {
      len = c.clear_by_slot.ensures.len ∙ before.len;
      elems = c.clear_by_slot.ensures.elems;
      taken = taken_more r ring c.args.top slots j (coeff r c.args.row.now) (coeff r c.loop-j.row) _ si (omega arith)
          (elem_read r c.args.row.now z c.requires.row) yi step before.taken;
      clear = clear_more r ring w (is_lead index) slots c.requires.table.led j (coeff r c.loop-j.row) _ yi step c.args.top (λ k a b m. before.clear k (omega arith) b m);
    }
