use Rattle.std.proofs.Common.{◌<◌, ◌≤◌, arith}
use Rattle.motive_coords.proofs.OfMotive.{value_step}
use Rattle.motive_coords.proofs.coordinates.value_below.Goals as goal

pub loop-j-preserved : goal.loop-j-preserved
loop-j-preserved g c =
    let field = c.args.field.now in
    let j = c.loop-j.j in
    let pos : 0 < j = omega arith in
    let most : j ≤ c.args.n = omega arith in
    record {
      value =
          value_step (g.K.Field.ops field) (g.K.FrobField.frob_ops field).frob c.args.letter.now c.args.list.now c.args.n j c.loop-j.sum c.in_ok-shifted.shifted c.in_ok-lowest.lowest c.in_ok-sum-2.sum pos most
          c.loop-j.invariant.value (rw c.new-ring.ensures at c.in_ok-shifted.ensures.value) c.in_ok-lowest.ensures.value (rw c.new-ring.ensures at c.in_ok-sum-2.ensures.value);
      elem = rw c.new-ring.ensures at c.in_ok-sum-2.ensures.elem;
    }
