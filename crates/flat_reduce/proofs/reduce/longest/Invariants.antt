use Rattle.std.proofs.Common.{◌≤◌, ◌<◌, ℕ, length}
use Rattle.linear_algebra.specs.Linear.{row_at}
use Rattle.flat_reduce.proofs.reduce.longest.Given as goal

abbrev pub invariant-loop-i : goal.invariant-loop-i
invariant-loop-i g l = (j : ℕ) → j < l.i → length (row_at l.rows j) ≤ l.len
