use Rattle.ring_core.specs.Twisted.{twisted_ops}
use Rattle.ring_core.proofs.Coefficients.{values_more}
use Rattle.motive_coords.specs.steps.Expansion.{column_at}
use Rattle.motive_coords.proofs.expansion.columns.Goals as goal

pub loop-i-preserved : goal.loop-i-preserved
loop-i-preserved g c =
    let r = g.K.Field.ops c.args.field.now in
    let frob = (g.K.FrobField.frob_ops c.args.field.now).frob in
    values_more (twisted_ops r frob) c.loop-i.i (column_at r frob c.args.digits.now) _ _ _ c.in_ok-push.ensures.items c.loop-i.invariant c.in_ok-one.ensures
