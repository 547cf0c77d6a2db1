use Rattle.std.proofs.Common.{◌<◌, ◌≤◌, ℕ, length, MatchOption}
use Rattle.linear_algebra.specs.Linear.{row_at}
use Rattle.popov_basis.proofs.Leads.{IsBest}
use Rattle.popov_basis.proofs.leading.next_row.Given as goal

abbrev pub invariant-loop-i : goal.invariant-loop-i
invariant-loop-i g l = MatchOption l.found ((k : ℕ) → k < l.i → length (row_at l.image k) ≤ l.above) (IsBest l.image l.above l.i)
