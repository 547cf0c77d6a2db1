use Rattle.std.proofs.Common.{ℕ, ◌+◌, ◌*◌, ◌<◌, ◌≤◌, Some, length, set, refl, sym, ◌∙◌, subst, arith, length-set}
use Rattle.ring_core.specs.Coeffs.{coeff}
use Rattle.ring_core.proofs.Coefficients.{elem_read}
use Rattle.fq_linear.specs.steps.Elimination.{is_lead, slot, HasRowsWithin}
use Rattle.ring_core.proofs.Written.{elems_written}
use Rattle.fq_linear.proofs.Slots.{slot_in, below_joined, stored_joined}
use Rattle.fq_linear.proofs.Joined.{joined_to, joined_led, joined_inserted}
use Rattle.fq_linear.proofs.eliminate.keep_row.Goals as goal

pub returns : goal.returns
returns g c =
    let r = g.F.Field.ops c.args.f.now in
    let ring = (g.met.F.Field.laws c.args.f.now).ring in
    let z = ring.closed.zero_in in
    let w = length c.args.row.now in
    let t = c.requires.table in
    let joins = c.requires.joins in
    let row = c.args.row.now in
    let index = c.args.index.now in
    let cells = c.args.cells.now in
    let after = c.write_at.new.cells in
    let mark = set index c.args.l (Some c.args.count) in
    let written = c.write_at.ensures.written r.zero in
    let inside : c.args.l < length index = omega (arith, joins.within, t.index_len) in
    let len = c.write_at.ensures.len in
    let joined = joined_to r w c.args.count c.args.l index cells after row refl inside c.requires.below written in
    let elems = elems_written r z (c.args.count * w) w (coeff r row) cells after t.elems (λ k _. elem_read r row z c.requires.row k) written in
    let ai = slot_in r ring w mark after elems in
    record {
      cells_len = len;
      table = record {
        index_len = length-set _ _ _ ∙ t.index_len;
        elems = elems;
        stored = stored_joined index c.args.l c.args.count w (length after) inside (subst (λ (m : ℕ). c.args.count * w + w ≤ m) (sym len) c.requires.room)
            (subst (HasRowsWithin w index) (sym len) t.stored);
        led = joined_led r ring w index cells row c.args.l (is_lead mark) (slot r w mark after) refl t joins joined ai;
      };
      below = below_joined index c.args.l c.args.count inside c.requires.below;
      inserted = joined_inserted r ring w index cells row c.args.l (is_lead mark) (slot r w mark after) refl t joins joined ai;
      new = joined.new;
      kept = joined.old;
    }
