use Rattle.std.proofs.Common.{◌≡◌, true}
use Rattle.ring_core.specs.Coeffs.{coeff, are_elems, first_values}
use Rattle.ring_core.proofs.lists.sum_values.Given as goal

abbrev pub invariant-loop-i : goal.invariant-loop-i
invariant-loop-i g l =
    let r = g.K.Field.ops l.field in
    record {
      elems : are_elems r l.sums.items ≡ true;
      value : l.sums.items ≡ first_values l.i (λ i. r.add (coeff r l.a i) (coeff r l.b i));
    }
