use Rattle.popov_basis.specs.steps.Leading.{IsNaming}
use Rattle.popov_basis.proofs.clear.name_rows.Given as goal

abbrev pub invariant-loop-i : goal.invariant-loop-i
invariant-loop-i g l = IsNaming l.w l.i l.slot l.rows
