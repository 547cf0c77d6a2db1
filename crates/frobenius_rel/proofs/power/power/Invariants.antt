use Rattle.std.proofs.Common.{◌≡◌, ◌<◌, true, length}
use Rattle.ring_core.specs.Coeffs.{is_canonical}
use Rattle.ring_core.specs.Powers.{power_of}
use Rattle.fq_poly.specs.Poly.{poly_ops}
use Rattle.frobenius_rel.proofs.power.power.Given as goal

abbrev pub invariant-loop : goal.invariant-loop
invariant-loop g l =
    let p = poly_ops (g.F.Field.ops l.base) in
    record {
      elem : is_canonical p l.list.items ≡ true;
      some : 0 < length l.list.items;
      value : l.list.items ≡ power_of (poly_ops p) l.a l.counter;
    }
