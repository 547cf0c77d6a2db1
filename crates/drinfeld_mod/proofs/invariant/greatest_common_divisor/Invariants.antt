use Rattle.std.proofs.Common.{ℕ, ◌<◌}
use Rattle.drinfeld_mod.specs.Invariant.{Divides}
use Rattle.drinfeld_mod.proofs.invariant.greatest_common_divisor.Given as goal

abbrev pub invariant-loop-i : goal.invariant-loop-i
invariant-loop-i l = (d : ℕ) → l.i < d → Divides d l.k → Divides d l.n → ⊥
