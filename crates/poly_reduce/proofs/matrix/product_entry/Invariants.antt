use Rattle.std.proofs.Common.{◌≡◌, true}
use Rattle.ring_core.specs.Coeffs.{coeff, is_canonical}
use Rattle.linear_algebra.specs.Combines.{combined}
use Rattle.linear_algebra.specs.Linear.{entry}
use Rattle.fq_poly.specs.Poly.{poly_ops}
use Rattle.poly_reduce.proofs.matrix.product_entry.Given as goal

abbrev pub invariant-loop-k : goal.invariant-loop-k
invariant-loop-k g l =
    let r = g.F.Field.ops l.f in
    let p = poly_ops r in
    record {
      is : l.sum ≡ combined p l.k (coeff p l.row) (entry p l.b) l.j;
      elem : is_canonical r l.sum ≡ true;
    }
