use Rattle.std.proofs.Common.{◌≡◌, true}
use Rattle.flat_modules.specs.Flat.{are_flat}
use Rattle.popov_basis.specs.steps.Leading.{AreCleared}
use Rattle.popov_basis.proofs.clear.clear_rows.Given as goal

abbrev pub invariant-loop-p : goal.invariant-loop-p
invariant-loop-p g l =
    let r = g.F.Field.ops l.f in
    record {
      flat : are_flat r l.rows ≡ true;
      cleared : AreCleared r l.w l.p l.fn.rows l.rows;
    }
