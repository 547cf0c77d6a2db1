use Rattle.std.proofs.Common.{◌≡◌}
use Rattle.ring_core.specs.Ring.{IsElem}
use Rattle.ring_core.specs.Coeffs.{coeff, sum_below}
use Rattle.ore_poly.proofs.terms.apply_list.Given as goal

abbrev pub invariant-loop-i : goal.invariant-loop-i
invariant-loop-i g l =
    let r = g.K.Field.ops l.field in
    let frob = (g.K.FrobField.frob_ops l.field).frob in
    record {
      sum_elem : IsElem r l.sum;
      power_elem : IsElem r l.power;
      power : l.power ≡ frob l.fn.x l.i;
      value : l.sum ≡ sum_below r l.i (λ i. r.mul (coeff r l.list i) (frob l.fn.x i));
    }
