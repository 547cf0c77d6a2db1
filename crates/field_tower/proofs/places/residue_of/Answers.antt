use Rattle.std.proofs.Common.{◌-◌, ◌<◌, ◌≤◌, length, arith}
use Rattle.residue_field.specs.declared.TheConstants.{WIDTH}
use Rattle.field_tower.proofs.FilledPlaces.{filled_none, filled_more, filled_all}
use Rattle.field_tower.proofs.places.residue_of.Goals as goal

pub loop-i-init : goal.loop-i-init
loop-i-init g c = filled_none (g.F.Field.ops c.args.field.now) _ c.zeros-places.result (omega arith) c.zeros-places.ensures.values

pub loop-i-preserved : goal.loop-i-preserved
loop-i-preserved g c =
    let room : length c.args.list.now ≤ WIDTH = c.requires.room in
    filled_more (g.F.Field.ops c.args.field.now) _ c.loop-i.places c.loop-i.i _ (omega arith) c.loop-i.invariant c.coeff_at.ensures.value

pub returns : goal.returns
returns g c =
    let some : 0 < length c.args.list.now = c.requires.some in
    filled_all (g.F.Field.ops c.args.field.now) _ c.loop-i.places c.loop-i.i (length c.args.list.now - 1) (omega arith) c.loop-i.invariant
