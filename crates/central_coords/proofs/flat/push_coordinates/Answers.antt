use Rattle.central_coords.proofs.Rows.{values_after}
use Rattle.central_coords.proofs.flat.push_coordinates.Goals as goal

pub loop-j-preserved : goal.loop-j-preserved
loop-j-preserved g c =
    values_after c.args.list.now.items c.loop-j.j ((g.K.FrobField.frob_ops c.args.k.now).coord c.args.c) _ _ _ c.in_ok-push.ensures.items c.loop-j.invariant c.coord.ensures.value
