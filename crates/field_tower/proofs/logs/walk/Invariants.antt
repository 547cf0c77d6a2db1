use Rattle.std.proofs.Common.{◌≡◌}
use Rattle.ring_core.specs.Coeffs.{first_values}
use Rattle.field_tower.specs.steps.Logs.{steps_from_one, steps_below}
use Rattle.field_tower.proofs.logs.walk.Given as goal

abbrev pub invariant-loop-i : goal.invariant-loop-i
invariant-loop-i l =
    (l.list.items ≡ first_values l.i (steps_below l.n l.row)) × (l.code ≡ steps_from_one l.row l.i)
