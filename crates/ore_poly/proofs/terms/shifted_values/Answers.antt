use Rattle.std.proofs.Common.{◌-◌, nat_lt, if◌then◌else◌}
use Rattle.ring_core.specs.Coeffs.{coeff}
use Rattle.ring_core.proofs.Coefficients.{values_more, elems_more}
use Rattle.ore_poly.proofs.terms.shifted_values.Goals as goal

pub loop-j-preserved : goal.loop-j-preserved
loop-j-preserved g c =
    let r = g.K.Field.ops c.args.field.now in
    let frob = (g.K.FrobField.frob_ops c.args.field.now).frob in
    let k = c.args.k in
    let found = c.shifted_at-member.ensures in
    record {
      elems = elems_more r _ _ _ c.in_ok-push.ensures.items c.loop-j.invariant.elems found.elem;
      value =
          values_more r c.loop-j.j (λ j. if nat_lt j k then r.zero else frob (coeff r c.args.list.now (j - k)) k) _ _ _ c.in_ok-push.ensures.items c.loop-j.invariant.value found.value;
    }
