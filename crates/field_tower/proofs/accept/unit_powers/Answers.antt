use Rattle.std.proofs.Common.{ap, ◌∙◌}
use Rattle.ring_core.specs.Powers.{power_of}
use Rattle.ring_core.proofs.Coefficients.{values_more}
use Rattle.field_tower.specs.UnitPowers.{unit_power}
use Rattle.field_tower.proofs.accept.unit_powers.Goals as goal

pub loop-j-preserved : goal.loop-j-preserved
loop-j-preserved g c =
    let algebra = c.args.algebra.now in
    let r = g.A.Constants.Field.ops (g.A.Algebra.constants_of algebra) in
    let t = g.A.Algebra.ops algebra in
    let q = c.args.q in
    values_more t c.loop-j.j (unit_power r t (g.A.Algebra.coords_of algebra) q) _ _ _ c.in_ok-push.ensures.items c.loop-j.invariant
    (c.power.ensures.value ∙ ap (λ x. power_of t x q) c.unit.ensures.value)
