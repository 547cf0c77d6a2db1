use Rattle.std.proofs.Common.{◌≡◌, true}
use Rattle.flat_modules.specs.Flat.{are_flat}
use Rattle.popov_basis.specs.steps.Leading.{IsClearedFrom}
use Rattle.popov_basis.proofs.clear.clear_row.Given as goal

abbrev pub invariant-loop-t : goal.invariant-loop-t
invariant-loop-t g l =
    let r = g.F.Field.ops l.f in
    record {
      flat : are_flat r l.rows ≡ true;
      cleared : IsClearedFrom r l.w l.p l.t l.fn.rows l.rows;
    }
