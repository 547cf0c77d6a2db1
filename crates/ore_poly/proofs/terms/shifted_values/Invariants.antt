use Rattle.std.proofs.Common.{◌≡◌, ◌-◌, true, if◌then◌else◌, nat_lt}
use Rattle.ring_core.specs.Coeffs.{coeff, are_elems, first_values}
use Rattle.ore_poly.proofs.terms.shifted_values.Given as goal

abbrev pub invariant-loop-j : goal.invariant-loop-j
invariant-loop-j g l =
    let r = g.K.Field.ops l.field in
    let frob = (g.K.FrobField.frob_ops l.field).frob in
    record {
      elems : are_elems r l.values.items ≡ true;
      value : l.values.items ≡ first_values l.j (λ j. if nat_lt j l.k then r.zero else frob (coeff r l.list (j - l.k)) l.k);
    }
