use Rattle.std.proofs.Common.{◌≡◌, ◌+◌, ◌*◌, true}
use Rattle.ring_core.specs.Coeffs.{coeff, are_elems, first_values}
use Rattle.poly_reduce.proofs.convert.entry_of.Given as goal

abbrev pub invariant-loop-e : goal.invariant-loop-e
invariant-loop-e g l =
    let r = g.F.Field.ops l.f in
    record {
      is : l.coefficients.items ≡ first_values l.e (λ e. coeff r l.flat (e * l.w + l.j));
      elems : are_elems r l.coefficients.items ≡ true;
    }
