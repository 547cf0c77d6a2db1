use Rattle.std.proofs.Common.{◌≡◌, true}
use Rattle.ring_core.specs.Coeffs.{are_elems}
use Rattle.flat_modules.specs.Flat.{are_flat}
use Rattle.popov_basis.specs.steps.Division.{IsDividedFrom}
use Rattle.popov_basis.proofs.divide.divide.Given as goal

abbrev pub invariant-loop-t : goal.invariant-loop-t
invariant-loop-t g l =
    let r = g.F.Field.ops l.f in
    record {
      flat : are_flat r l.by ≡ true;
      elems : are_elems r l.rest ≡ true;
      divided : IsDividedFrom r l.w l.t l.basis l.fn.by l.by l.fn.rest l.rest;
    }
