use Rattle.std.proofs.Common.{◌≡◌, drop}
use Rattle.statement_work.specs.Greatest.{greatest_degree}
use Rattle.statement_work.proofs.lists.greatest_degree.Given as goal

abbrev pub invariant-loop-i : goal.invariant-loop-i
invariant-loop-i l = l.greatest ≡ greatest_degree (drop l.i l.list)
