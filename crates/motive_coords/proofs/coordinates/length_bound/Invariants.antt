use Rattle.std.proofs.Common.{ℕ, ◌<◌, ◌≤◌, length}
use Rattle.linear_algebra.specs.Linear.{row_at}
use Rattle.motive_coords.proofs.coordinates.length_bound.Given as goal

abbrev pub invariant-loop-i : goal.invariant-loop-i
invariant-loop-i g l = (i : ℕ) → i < l.i → length (row_at l.list i) ≤ l.most
