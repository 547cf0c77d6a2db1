use Rattle.ring_core.proofs.Coefficients.{values_more}
use Rattle.minimal_poly.proofs.relation.coordinates.Goals as goal

pub loop-j-preserved : goal.loop-j-preserved
loop-j-preserved g c =
    let k = c.args.k.now in
    values_more (g.K.Base.Field.ops (g.K.FrobField.base_of k)) c.loop-j.j ((g.K.FrobField.frob_ops k).coord c.args.c) c.loop-j.list.items c.push.new.self.items c.coord.result c.in_ok-push.ensures.items c.loop-j.invariant c.coord.ensures.value
