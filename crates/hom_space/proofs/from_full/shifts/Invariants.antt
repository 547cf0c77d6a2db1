use Rattle.std.proofs.Common.{◌≡◌, ◌+◌, ◌*◌}
use Rattle.hom_space.specs.steps.Shifts.{AreShifts}
use Rattle.hom_space.proofs.from_full.shifts.Given as goal

abbrev pub invariant-loop-i : goal.invariant-loop-i
invariant-loop-i g l =
    let r = g.K.Field.ops l.k in
    let f = g.K.FrobField.frob_ops l.k in
    record {
      width : l.rows.width ≡ (l.d + 1) * f.degree;
      rows : AreShifts r (g.K.Base.Field.ops (g.K.FrobField.base_of l.k)) f l.d l.i l.full l.rows.rows;
    }
