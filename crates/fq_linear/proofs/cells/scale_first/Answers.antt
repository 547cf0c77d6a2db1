use Rattle.std.proofs.Common.{◌<◌, length, sym, ◌∙◌, ap, arith, length-set, zero-add}
use Rattle.ring_core.specs.Coeffs.{coeff}
use Rattle.ring_core.proofs.Coefficients.{elems_set}
use Rattle.ring_core.proofs.Written.{written_more, next_place}
use Rattle.fq_linear.proofs.cells.scale_first.Goals as goal

pub loop-k-preserved : goal.loop-k-preserved
loop-k-preserved g c =
    let r = g.F.Field.ops c.args.f.now in
    let before = c.loop-k.invariant in
    let within : c.loop-k.k < length c.loop-k.row = omega arith in
    let was = next_place r.zero 0 c.loop-k.k _ c.args.row.now c.loop-k.row before.written in
    let place = zero-add c.loop-k.k in
    record {
      len = length-set _ _ _ ∙ before.len;
      elems = elems_set r _ _ _ before.elems c.mul.ensures.elem;
      written = written_more r.zero 0 c.loop-k.k _ _ _ _ _ before.written (sym place) within
          (c.mul.ensures.value ∙ ap (r.mul c.args.c) (c.coeff_at.ensures.value ∙ ap (coeff r c.loop-k.row) (sym place) ∙ was ∙ ap (coeff r c.args.row.now) place));
    }
