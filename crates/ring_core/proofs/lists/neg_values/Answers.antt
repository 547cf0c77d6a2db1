use Rattle.std.proofs.Common.{ap, ◌∙◌}
use Rattle.ring_core.specs.Coeffs.{coeff}
use Rattle.ring_core.proofs.Coefficients.{values_more, elems_more}
use Rattle.ring_core.proofs.lists.neg_values.Goals as goal

pub loop-i-preserved : goal.loop-i-preserved
loop-i-preserved g c =
    let r = g.K.Field.ops c.args.field.now in
    let read = c.coeff_at-coeff.ensures in
    record {
      elems =
          elems_more r _ _ _ c.in_ok-push.ensures.items c.loop-i.invariant.elems
          c.neg-negative.ensures.elem;
      value =
          values_more r c.loop-i.i (λ i. r.neg (coeff r c.args.list.now i)) _ _ _ c.in_ok-push.ensures.items c.loop-i.invariant.value
          (c.neg-negative.ensures.value ∙ ap r.neg read.value);
    }
