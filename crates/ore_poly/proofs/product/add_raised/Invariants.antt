use Rattle.std.proofs.Common.{◌≡◌, length, true}
use Rattle.ring_core.specs.Coeffs.{coeff, are_elems, first_values}
use Rattle.ring_core.proofs.RowSteps.{HasRows}
use Rattle.ore_poly.proofs.product.add_raised.Given as goal

abbrev pub invariant-loop-i : goal.invariant-loop-i
invariant-loop-i g l =
    let r = g.K.Field.ops l.field in
    let frob = (g.K.FrobField.frob_ops l.field).frob in
    record {
      elems : are_elems r l.out ≡ true;
      rows : HasRows r frob l.a l.b l.out (first_values (length l.b) (λ k. frob (coeff r l.b k) l.i)) l.i;
    }
