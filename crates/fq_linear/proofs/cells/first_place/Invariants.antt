use Rattle.std.proofs.Common.{◌≡◌, ℕ, ◌<◌, ◌≤◌}
use Rattle.ring_core.specs.Coeffs.{coeff}
use Rattle.fq_linear.proofs.cells.first_place.Given as goal

abbrev pub invariant-loop-k : goal.invariant-loop-k
invariant-loop-k g l =
    let r = g.F.Field.ops l.f in
    (m : ℕ) → l.from ≤ m → m < l.k → coeff r l.row m ≡ r.zero
