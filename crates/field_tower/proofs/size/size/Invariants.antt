use Rattle.std.proofs.Common.{◌≡◌, ◌^◌, ◌<◌, ◌≤◌}
use Rattle.field_tower.specs.declared.size.TheConstants.{CODES}
use Rattle.field_tower.proofs.size.size.Given as goal

abbrev pub invariant-loop-i : goal.invariant-loop-i
invariant-loop-i l = record { value : l.q ≡ l.p ^ l._i; positive : 0 < l.q; small : l.q ≤ CODES }
