use Rattle.std.proofs.Common.{◌≡◌, drop}
use Rattle.ring_core.specs.Ring.{IsElem}
use Rattle.ring_core.specs.Powers.{value_at}
use Rattle.ring_core.proofs.powers.value_of.Given as goal

abbrev pub invariant-loop-i : goal.invariant-loop-i
invariant-loop-i g l =
    let r = g.F.Field.ops l.field in
    record { elem : IsElem r l.sum; value : l.sum ≡ value_at r (drop l.i l.list) l.x }
