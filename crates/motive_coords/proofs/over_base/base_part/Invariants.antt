use Rattle.std.proofs.Common.{◌≡◌, true}
use Rattle.ring_core.specs.Coeffs.{coeff, are_elems, first_values}
use Rattle.motive_coords.proofs.over_base.base_part.Given as goal

abbrev pub invariant-loop-e : goal.invariant-loop-e
invariant-loop-e g l =
    let r = g.K.Field.ops l.field in
    let base = g.K.Base.Field.ops (g.K.FrobField.base_of l.field) in
    record {
      elems : are_elems base l.values.items ≡ true;
      value : l.values.items ≡ first_values l.e (λ e. (g.K.FrobField.frob_ops l.field).coord (coeff r l.list e) l.j);
    }
