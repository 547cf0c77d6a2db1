use Rattle.std.proofs.Common.{◌≡◌, true}
use Rattle.ring_core.specs.Coeffs.{coeff, are_elems, first_values}
use Rattle.ring_core.specs.Twisted.{twisted_ops}
use Rattle.motive_coords.proofs.expansion.column.Given as goal

abbrev pub invariant-loop-j : goal.invariant-loop-j
invariant-loop-j g l =
    let r = g.K.Field.ops l.field in
    let s = twisted_ops r (g.K.FrobField.frob_ops l.field).frob in
    record {
      elems : are_elems r l.values.items ≡ true;
      value : l.values.items ≡ first_values l.j (λ j. coeff r (coeff s l.digits j) l.i);
    }
