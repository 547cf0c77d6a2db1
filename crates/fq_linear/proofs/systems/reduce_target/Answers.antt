use Rattle.std.proofs.Common.{length, sym, ◌∙◌, ap, subst, arith}
use Rattle.ring_core.specs.Coeffs.{coeff}
use Rattle.ring_core.proofs.Coefficients.{elem_read}
use Rattle.linear_algebra.specs.Combines.{Combines}
use Rattle.linear_algebra.specs.steps.Slots.{minus}
use Rattle.linear_algebra.proofs.Lift.{combines_as}
use Rattle.fq_linear.specs.steps.Elimination.{slot}
use Rattle.ring_core.proofs.Written.{elems_written}
use Rattle.fq_linear.proofs.Slots.{target_loaded}
use Rattle.fq_linear.proofs.systems.reduce_target.Goals as goal

pub reduce_below-requires-clause-row : goal.reduce_below-requires-clause-row
reduce_below-requires-clause-row g c =
    let r = g.F.Field.ops c.args.f.now in
    let z = (g.met.F.Field.laws c.args.f.now).ring.closed.zero_in in
    let target = c.args.target.now in
    elems_written r z c.args.n (length target) (coeff r target) c.args.row.now c.write_at.new.cells c.requires.row
    (λ k _. elem_read r target z c.requires.target k) (c.write_at.ensures.written r.zero)

pub returns-clause-reduced : goal.returns-clause-reduced
returns-clause-reduced g c =
    let r = g.F.Field.ops c.args.f.now in
    let ring = (g.met.F.Field.laws c.args.f.now).ring in
    let target = c.args.target.now in
    let index = c.args.index.now in
    let cells = c.args.cells.now in
    let w = length c.args.row.now in
    let wide = c.write_at.ensures.len in
    let start = target_loaded r c.args.n target c.args.row.now c.write_at.new.cells (wide ∙ c.requires.row_len) c.requires.zero (c.write_at.ensures.written r.zero) in
    let taken = subst (λ m. Combines r m (slot r m index cells) (minus r (coeff r c.write_at.new.cells) (coeff r c.reduce_below.new.row))) wide c.reduce_below.ensures.taken in
    let table = c.requires.table in
    record {
      len = c.reduce_below.ensures.len ∙ wide;
      elems = c.reduce_below.ensures.elems;
      taken = combines_as r ring w (slot r w index cells) _ _ (λ k. ap (λ a. r.add a (r.neg (coeff r c.reduce_below.new.row k))) (sym (start k))) taken;
      clear = λ k m. let b = table.led.within k m in c.reduce_below.ensures.clear k (omega (arith, b, wide)) m;
    }
