use Rattle.std.proofs.Common.{◌≡◌, true}
use Rattle.ring_core.specs.Coeffs.{coeff, are_elems}
use Rattle.ring_core.specs.Written.{IsWritten}
use Rattle.ore_poly.proofs.terms.raise_row.Given as goal

abbrev pub invariant-loop-j : goal.invariant-loop-j
invariant-loop-j g l =
    let r = g.K.Field.ops l.field in
    let frob = (g.K.FrobField.frob_ops l.field).frob in
    record {
      elems : are_elems r l.row ≡ true;
      written : IsWritten r.zero 0 l.j (λ k. frob (coeff r l.initial.row k) 1) l.initial.row l.row;
    }
