use Rattle.std.proofs.Common.{◌-◌, ℕ, length, refl, ◌∙◌, ap, arith}
use Rattle.ring_core.specs.Coeffs.{coeff}
use Rattle.ring_core.proofs.Coefficients.{elem_read, coeff_past}
use Rattle.fq_linear.specs.steps.Places.{cleared}
use Rattle.fq_linear.specs.steps.Elimination.{is_lead, slot}
use Rattle.fq_linear.proofs.Slots.{slot_in}
use Rattle.fq_linear.proofs.Steps.{taken_none, taken_more, cleared_past, zero_more}
use Rattle.fq_linear.proofs.eliminate.reduce_top.Goals as goal

pub loop-j-init : goal.loop-j-init
loop-j-init g c =
    let r = g.F.Field.ops c.args.f.now in
    let ring = (g.met.F.Field.laws c.args.f.now).ring in
    let row = c.args.row.now in
    record {
      len = refl;
      elems = c.requires.row;
      taken = taken_none r ring (length row) _ (coeff r row) (slot_in r ring (length row) c.args.index.now c.args.cells.now c.requires.table.elems) (elem_read r row ring.closed.zero_in c.requires.row);
      zero = λ k l. coeff_past r row k (omega arith);
      extent = c.requires.extent;
    }

pub loop-j-preserved : goal.loop-j-preserved
loop-j-preserved g c =
    let r = g.F.Field.ops c.args.f.now in
    let ring = (g.met.F.Field.laws c.args.f.now).ring in
    let z = ring.closed.zero_in in
    let before = c.loop-j.invariant in
    let w = length c.args.row.now in
    let index = c.args.index.now in
    let cells = c.args.cells.now in
    let j = c.loop-j.j - 1 in
    let slots = slot r w index cells in
    let si = slot_in r ring w index cells c.requires.table.elems in
    let yi = elem_read r c.loop-j.row z before.elems in
    let step = λ (k : ℕ). c.clear_in_extent.ensures.cleared k ∙ ap (λ n. cleared r j (slot r n index cells j) (coeff r c.loop-j.row) k) before.len in
    record {
      len = c.clear_in_extent.ensures.len ∙ before.len;
      elems = c.clear_in_extent.ensures.elems;
      taken = taken_more r ring w slots j (coeff r c.args.row.now) (coeff r c.loop-j.row) _ si (omega arith)
          (elem_read r c.args.row.now z c.requires.row) yi step before.taken;
      zero = zero_more r ring w (is_lead index) slots c.requires.table.led j (coeff r c.loop-j.row) _ yi step (c.clear_in_extent.ensures.zero c.if-not-clear_in_extent.false) (λ k a. before.zero k (omega arith));
      extent = c.clear_in_extent.ensures.extent;
    }

pub returns-then-not-clear_in_extent-clause-taken : goal.returns-then-not-clear_in_extent-clause-taken
returns-then-not-clear_in_extent-clause-taken g c =
    let r = g.F.Field.ops c.args.f.now in
    let ring = (g.met.F.Field.laws c.args.f.now).ring in
    let z = ring.closed.zero_in in
    let before = c.loop-j.invariant in
    let w = length c.args.row.now in
    let index = c.args.index.now in
    let cells = c.args.cells.now in
    let j = c.loop-j.j - 1 in
    let slots = slot r w index cells in
    let si = slot_in r ring w index cells c.requires.table.elems in
    let yi = elem_read r c.loop-j.row z before.elems in
    let step = λ (k : ℕ). c.clear_in_extent.ensures.cleared k ∙ ap (λ n. cleared r j (slot r n index cells j) (coeff r c.loop-j.row) k) before.len in
    taken_more r ring w slots j (coeff r c.args.row.now) (coeff r c.loop-j.row) _ si (omega arith)
    (elem_read r c.args.row.now z c.requires.row) yi step before.taken

pub returns-then-not-clear_in_extent-clause-top : goal.returns-then-not-clear_in_extent-clause-top
returns-then-not-clear_in_extent-clause-top g c =
    let r = g.F.Field.ops c.args.f.now in
    let ring = (g.met.F.Field.laws c.args.f.now).ring in
    let z = ring.closed.zero_in in
    let before = c.loop-j.invariant in
    let w = length c.args.row.now in
    let index = c.args.index.now in
    let cells = c.args.cells.now in
    let j = c.loop-j.j - 1 in
    let yi = elem_read r c.loop-j.row z before.elems in
    let step = λ (k : ℕ). c.clear_in_extent.ensures.cleared k ∙ ap (λ n. cleared r j (slot r n index cells j) (coeff r c.loop-j.row) k) before.len in
    record {
      top = record {
        within = omega (arith, c.clear_in_extent.ensures.len, before.len);
        nonzero = c.clear_in_extent.ensures.nonzero c.if-not-clear_in_extent.true;
        above = λ k l. cleared_past r ring w (is_lead index) (slot r w index cells) c.requires.table.led j (coeff r c.loop-j.row) _ yi step k l ∙ before.zero k (omega arith);
      };
      free = c.clear_in_extent.ensures.free c.if-not-clear_in_extent.true;
    }
