use Rattle.std.proofs.Common.{◌≡◌, true}
use Rattle.ring_core.specs.Coeffs.{are_elems, first_values}
use Rattle.ring_core.proofs.rows.zero_list.Given as goal

abbrev pub invariant-loop-i : goal.invariant-loop-i
invariant-loop-i g l =
    let r = g.K.Field.ops l.field in
    record {
      elems : are_elems r l.zeros.items ≡ true;
      value : l.zeros.items ≡ first_values l.i (λ i. r.zero);
    }
