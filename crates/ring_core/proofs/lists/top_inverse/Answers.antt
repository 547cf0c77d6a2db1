use Rattle.std.proofs.Common.{◌≡◌, ◌-◌, ◌<◌, length, ap, ◌∙◌, arith}
use Rattle.ring_core.specs.Coeffs.{coeff}
use Rattle.ring_core.proofs.Degrees.{top_inverse_is}
use Rattle.ring_core.proofs.lists.top_inverse.Goals as goal

pub returns : goal.returns
returns g c =
    let k = c.args.field.now in
    let r = g.K.Field.ops k in
    let list = c.args.list.now in
    let pos : 0 < length list = omega (arith, c.in-Some.ensures) in
    let place : c.in-Some.last ≡ length list - 1 = omega (arith, c.in-Some.ensures) in
    top_inverse_is r (g.K.Field.inv_of k) (g.met.K.Field.laws k) list c.coeff_at-top.result c.inv.result c.requires pos (c.coeff_at-top.ensures.value ∙ ap (coeff r list) place) c.inv.ensures.value
