use Rattle.std.proofs.Common.{◌≡◌, ◌*◌}
use Rattle.ring_core.specs.Coeffs.{first_values}
use Rattle.hom_space.specs.steps.System.{system_row}
use Rattle.hom_space.proofs.system.system.Given as goal

abbrev pub invariant-loop-i : goal.invariant-loop-i
invariant-loop-i g l =
    let r = g.K.Field.ops l.k in
    let f = g.K.FrobField.frob_ops l.k in
    record {
      width : l.rows.width ≡ l.count * f.degree;
      rows : l.rows.rows ≡ first_values (l.i * f.degree) (system_row r (g.K.Base.Field.ops (g.K.FrobField.base_of l.k)) f l.phi l.psi l.count);
    }
