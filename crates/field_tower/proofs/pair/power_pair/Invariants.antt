use Rattle.std.proofs.Common.{◌≡◌, ◌≢◌}
use Rattle.ring_core.specs.Ring.{IsElem}
use Rattle.ring_core.specs.Powers.{power_of}
use Rattle.field_tower.proofs.pair.power_pair.Given as goal

abbrev pub invariant-loop-i : goal.invariant-loop-i
invariant-loop-i g l =
    let t = g.A.Algebra.ops l.algebra in
    record {
      elem : IsElem t l.power;
      value : l.power ≡ power_of t l.x l._i;
      nonzero : l.power ≢ t.zero;
    }
