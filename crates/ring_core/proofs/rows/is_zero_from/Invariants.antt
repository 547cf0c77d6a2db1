use Rattle.std.proofs.Common.{◌≡◌, ℕ, ◌<◌, ◌≤◌}
use Rattle.ring_core.specs.Coeffs.{coeff}
use Rattle.ring_core.proofs.rows.is_zero_from.Given as goal

abbrev pub invariant-loop-k : goal.invariant-loop-k
invariant-loop-k g l =
    let r = g.K.Field.ops l.field in
    (k : ℕ) → l.n ≤ k → k < l.k → coeff r l.row k ≡ r.zero
