use Rattle.std.proofs.Common.{◌≡◌, ℕ, ◌<◌, ◌≤◌}
use Rattle.linear_algebra.specs.Linear.{entry}
use Rattle.field_tower.proofs.accept.is_low_row.Given as goal

abbrev pub invariant-loop-k : goal.invariant-loop-k
invariant-loop-k g l =
    let r = g.F.Field.ops l.field in
    (j : ℕ) → l.low ≤ j → j < l.k → entry r l.rows.rows l.i j ≡ r.zero
