use Rattle.std.proofs.Common.{◌<◌, length, sym, ◌∙◌, arith, length-set, zero-add}
use Rattle.ring_core.proofs.Coefficients.{elems_set}
use Rattle.ring_core.proofs.Written.{written_more}
use Rattle.fq_linear.proofs.cells.write_unit.Goals as goal

pub loop-k-preserved : goal.loop-k-preserved
loop-k-preserved g c =
    let r = g.F.Field.ops c.args.f.now in
    let before = c.loop-k.invariant in
    let within : c.loop-k.k < length c.loop-k.row = omega arith in
    record {
      len = length-set _ _ _ ∙ before.len;
      elems = elems_set r _ _ _ before.elems c.unit_at.ensures.elem;
      written = written_more r.zero 0 c.loop-k.k _ _ _ _ _ before.written (sym (zero-add c.loop-k.k)) within c.unit_at.ensures.value;
    }
