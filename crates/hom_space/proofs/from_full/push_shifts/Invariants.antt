use Rattle.std.proofs.Common.{◌≡◌, ◌++◌}
use Rattle.ring_core.specs.Coeffs.{first_values}
use Rattle.hom_space.specs.steps.Shifts.{shifted_row}
use Rattle.hom_space.proofs.from_full.push_shifts.Given as goal

abbrev pub invariant-loop-e : goal.invariant-loop-e
invariant-loop-e g l =
    let r = g.K.Field.ops l.k in
    let f = g.K.FrobField.frob_ops l.k in
    record {
      width : l.rows.width ≡ l.fn.rows.width;
      rows : l.rows.rows ≡ l.fn.rows.rows ++ first_values l.e (shifted_row r (g.K.Base.Field.ops (g.K.FrobField.base_of l.k)) f l.d l.u);
    }
