use Rattle.std.proofs.Common.{ap, ◌∙◌}
use Rattle.ring_core.specs.Coeffs.{coeff}
use Rattle.ring_core.proofs.Coefficients.{values_more, elems_more}
use Rattle.motive_coords.proofs.over_base.base_part.Goals as goal

pub loop-e-preserved : goal.loop-e-preserved
loop-e-preserved g c =
    let field = c.args.field.now in
    let r = g.K.Field.ops field in
    let base = g.K.Base.Field.ops (g.K.FrobField.base_of field) in
    let f = g.K.FrobField.frob_ops field in
    let found = c.coeff_at-member.ensures in
    record {
      elems =
          elems_more base _ _ _ c.in_ok-push.ensures.items c.loop-e.invariant.elems
          c.coord-part.ensures.elem;
      value =
          values_more base c.loop-e.e (λ e. f.coord (coeff r c.args.list.now e) c.args.j) _ _ _ c.in_ok-push.ensures.items c.loop-e.invariant.value
          (c.coord-part.ensures.value ∙ ap (λ t. f.coord t c.args.j) found.value);
    }
