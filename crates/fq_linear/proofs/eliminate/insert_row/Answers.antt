use Rattle.std.proofs.Common.{◌≡◌, ◌≢◌, ℕ, length, ◌∙◌, subst, arith}
use Rattle.ring_core.specs.Coeffs.{coeff}
use Rattle.ring_core.proofs.Coefficients.{elem_read}
use Rattle.fq_linear.specs.steps.Elimination.{slot, IsInserted}
use Rattle.ring_core.proofs.Terms.{times_zero}
use Rattle.fq_linear.proofs.Slots.{when_none, slot_in}
use Rattle.fq_linear.proofs.Extents.{extents_joined, extent_scaled}
use Rattle.fq_linear.proofs.Joined.{inserted_from, inserted_nothing}
use Rattle.fq_linear.proofs.eliminate.insert_row.Goals as goal

pub returns-in_default-clause-inserted : goal.returns-in_default-clause-inserted
returns-in_default-clause-inserted g c =
    let f = c.args.f.now in
    let r = g.F.Field.ops f in
    let ring = (g.met.F.Field.laws f).ring in
    let z = ring.closed.zero_in in
    let w = length c.args.row.now in
    let si = slot_in r ring w c.args.index.now c.args.cells.now c.requires.table.elems in
    inserted_nothing r ring w _ _ si si (coeff r c.args.row.now) (coeff r c.reduce_top.new.row) (elem_read r c.args.row.now z c.requires.row)
    (elem_read r c.reduce_top.new.row z c.reduce_top.ensures.elems) c.reduce_top.ensures.taken
    (when_none _ _ c.reduce_top.result c.in_default.not-Some c.reduce_top.ensures.top)

pub keep_row-requires-clause-joins : goal.keep_row-requires-clause-joins
keep_row-requires-clause-joins g c =
    let r = g.F.Field.ops c.args.f.now in
    let ring = (g.met.F.Field.laws c.args.f.now).ring in
    let free = c.in-Some.ensures.top in
    let top = free.top in
    let monic = c.make_monic.ensures.monic in
    record {
      within = omega (arith, top.within, c.make_monic.ensures.len);
      one = monic.one;
      above = λ k b. monic.is k ∙ times_zero r ring monic.factor _ monic.elem (top.above k b);
      free = free.free;
    }

pub returns-clause-inserted : goal.returns-clause-inserted
returns-clause-inserted g c =
    let f = c.args.f.now in
    let r = g.F.Field.ops f in
    let ring = (g.met.F.Field.laws f).ring in
    let z = ring.closed.zero_in in
    let w = length c.args.row.now in
    let index = c.args.index.now in
    let cells = c.args.cells.now in
    let monic = c.make_monic.ensures.monic in
    let same = c.make_monic.ensures.len ∙ c.reduce_top.ensures.len in
    let zi = elem_read r c.reduce_top.new.row z c.reduce_top.ensures.elems in
    inserted_from r ring w (slot r w index cells) (slot r w c.keep_row.new.index c.keep_row.new.cells)
    (slot_in r ring w index cells c.requires.table.elems) (slot_in r ring w c.keep_row.new.index c.keep_row.new.cells c.keep_row.ensures.table.elems)
    (coeff r c.args.row.now) (coeff r c.reduce_top.new.row) (elem_read r c.args.row.now z c.requires.row) zi c.reduce_top.ensures.taken
    (coeff r c.make_monic.new.row) (elem_read r c.make_monic.new.row z c.make_monic.ensures.elems)
    monic.factor (coeff r c.reduce_top.new.row c.in-Some.l) monic.elem (zi c.in-Some.l) monic.is monic.back
    (subst (λ w. IsInserted r w (slot r w index cells) (slot r w c.keep_row.new.index c.keep_row.new.cells) (coeff r c.make_monic.new.row)) same c.keep_row.ensures.inserted)

pub returns-clause-extents : goal.returns-clause-extents
returns-clause-extents g c =
    let r = g.F.Field.ops c.args.f.now in
    let ring = (g.met.F.Field.laws c.args.f.now).ring in
    let w = length c.args.row.now in
    let monic = c.make_monic.ensures.monic in
    let same = c.make_monic.ensures.len ∙ c.reduce_top.ensures.len in
    let index = c.args.index.now in
    let cells = c.args.cells.now in
    let mark = c.keep_row.new.index in
    let after = c.keep_row.new.cells in
    let top = c.in-Some.ensures.top in
    extents_joined r w c.in-Some.l index mark cells after c.args.extents.now c.reduce_top.new.extent (coeff r c.make_monic.new.row)
    (omega (arith, top.top.within, c.reduce_top.ensures.len, c.requires.extents.len)) c.requires.extents
    (extent_scaled r ring c.reduce_top.new.extent monic.factor (coeff r c.reduce_top.new.row) (coeff r c.make_monic.new.row) monic.elem monic.is c.reduce_top.ensures.extent)
    (subst (λ w. (k : ℕ) → slot r w mark after c.in-Some.l k ≡ coeff r c.make_monic.new.row k) same c.keep_row.ensures.new)
    (subst (λ w. (j k : ℕ) → j ≢ c.in-Some.l → slot r w mark after j k ≡ slot r w index cells j k) same c.keep_row.ensures.kept)
