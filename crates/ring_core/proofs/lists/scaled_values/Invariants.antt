use Rattle.std.proofs.Common.{◌≡◌, true}
use Rattle.ring_core.specs.Coeffs.{coeff, are_elems, first_values}
use Rattle.ring_core.proofs.lists.scaled_values.Given as goal

abbrev pub invariant-loop-i : goal.invariant-loop-i
invariant-loop-i g l =
    let r = g.K.Field.ops l.field in
    record {
      elems : are_elems r l.values.items ≡ true;
      value : l.values.items ≡ first_values l.i (λ i. r.mul l.c (coeff r l.list i));
    }
