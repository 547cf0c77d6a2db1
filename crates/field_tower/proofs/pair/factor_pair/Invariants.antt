use Rattle.std.proofs.Common.{◌≡◌, ◌≢◌}
use Rattle.ring_core.specs.Ring.{IsElem}
use Rattle.finite_ring.specs.Finite.{root_product}
use Rattle.field_tower.proofs.pair.factor_pair.Given as goal

abbrev pub invariant-loop-c : goal.invariant-loop-c
invariant-loop-c g l =
    let t = g.A.Algebra.ops l.algebra in
    record {
      elem : IsElem t l.product;
      value : l.product ≡ root_product t (g.A.Algebra.coords_of l.algebra).embed l.c l.x;
      nonzero : l.product ≢ t.zero;
    }
