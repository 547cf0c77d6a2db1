use Rattle.std.proofs.Common.{◌≡◌, ◌-◌, true}
use Rattle.flat_modules.specs.Flat.{are_flat}
use Rattle.flat_modules.proofs.Lists.{longest}
use Rattle.popov_basis.specs.steps.Leading.{IsLeading}
use Rattle.popov_basis.proofs.leading.leading.Given as goal

abbrev pub invariant-loop-i : goal.invariant-loop-i
invariant-loop-i g l =
    let r = g.F.Field.ops l.f in
    record {
      flat : are_flat r l.list.items ≡ true;
      leading : IsLeading r l.image l.above l.list.items;
    }

abbrev pub decreases-loop-i : goal.decreases-loop-i
decreases-loop-i g l = (longest (g.F.Field.ops l.f) l.image).0 - l.above
