use Rattle.std.proofs.Common.{◌≡◌, ◌-◌, true}
use Rattle.ring_core.specs.Coeffs.{coeff, sum_below, is_canonical}
use Rattle.fq_poly.specs.Poly.{poly_ops, poly_mul}
use Rattle.frobenius_rel.proofs.power.coefficient.Given as goal

abbrev pub invariant-loop-i : goal.invariant-loop-i
invariant-loop-i g l =
    let r = g.F.Field.ops l.base in
    let p = poly_ops r in
    record {
      elem : is_canonical r l.sum ≡ true;
      value : l.sum ≡ sum_below p l.i (λ i. poly_mul r (coeff p l.a i) (coeff p l.b (l.k - i)));
    }
