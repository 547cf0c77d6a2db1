use Rattle.std.proofs.Common.{◌≡◌, true}
use Rattle.ring_core.specs.Coeffs.{coeff, are_elems, first_values}
use Rattle.fq_poly.specs.Poly.{poly_ops}
use Rattle.motive_coords.proofs.coordinates.digit.Given as goal

abbrev pub invariant-loop-i : goal.invariant-loop-i
invariant-loop-i g l =
    let r = g.K.Field.ops l.field in
    record {
      elems : are_elems r l.values.items ≡ true;
      value : l.values.items ≡ first_values l.i (λ i. coeff r (coeff (poly_ops r) l.list i) l.j);
    }
