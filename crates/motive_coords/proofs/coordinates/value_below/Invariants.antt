use Rattle.std.proofs.Common.{◌≡◌, ◌-◌, true}
use Rattle.ring_core.specs.Coeffs.{is_canonical}
use Rattle.motive_coords.specs.steps.Expansion.{digits_value}
use Rattle.motive_coords.proofs.coordinates.value_below.Given as goal

abbrev pub invariant-loop-j : goal.invariant-loop-j
invariant-loop-j g l =
    let r = g.K.Field.ops l.field in
    record {
      value : l.sum ≡ digits_value r (g.K.FrobField.frob_ops l.field).frob l.letter l.list l.j (l.n - l.j);
      elem : is_canonical r l.sum ≡ true;
    }
