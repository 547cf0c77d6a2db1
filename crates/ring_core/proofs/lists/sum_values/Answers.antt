use Rattle.std.proofs.Common.{ap₂, ◌∙◌}
use Rattle.ring_core.specs.Coeffs.{coeff}
use Rattle.ring_core.proofs.Coefficients.{values_more, elems_more}
use Rattle.ring_core.proofs.lists.sum_values.Goals as goal

pub loop-i-preserved : goal.loop-i-preserved
loop-i-preserved g c =
    let r = g.K.Field.ops c.args.field.now in
    let left = c.coeff_at-left.ensures in
    let right = c.coeff_at-right.ensures in
    record {
      elems =
          elems_more r _ _ _ c.in_ok-push.ensures.items c.loop-i.invariant.elems
          c.add-sum.ensures.elem;
      value =
          values_more r c.loop-i.i (λ i. r.add (coeff r c.args.a.now i) (coeff r c.args.b.now i)) _ _ _ c.in_ok-push.ensures.items c.loop-i.invariant.value
          (c.add-sum.ensures.value ∙ ap₂ r.add left.value right.value);
    }
