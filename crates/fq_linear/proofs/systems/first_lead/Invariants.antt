use Rattle.std.proofs.Common.{◌≡◌, ℕ, ◌<◌, false}
use Rattle.fq_linear.specs.steps.Elimination.{is_lead}
use Rattle.fq_linear.proofs.systems.first_lead.Given as goal

abbrev pub invariant-loop-k : goal.invariant-loop-k
invariant-loop-k l = (j : ℕ) → j < l.k → is_lead l.index j ≡ false
