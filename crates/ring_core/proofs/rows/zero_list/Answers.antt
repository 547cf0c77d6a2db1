use Rattle.ring_core.proofs.Coefficients.{values_more, elems_more}
use Rattle.ring_core.proofs.rows.zero_list.Goals as goal

pub loop-i-preserved : goal.loop-i-preserved
loop-i-preserved g c =
    let r = g.K.Field.ops c.args.field.now in
    record {
      elems =
          elems_more r _ _ _ c.in_ok-push.ensures.items c.loop-i.invariant.elems c.zero-zero.ensures.elem;
      value =
          values_more r c.loop-i.i (λ i. r.zero) _ _ _ c.in_ok-push.ensures.items c.loop-i.invariant.value c.zero-zero.ensures.value;
    }
