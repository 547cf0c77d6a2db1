use Rattle.std.proofs.Common.{◌≡◌, ℕ, ◌<◌, true}
use Rattle.ring_core.specs.Coeffs.{coeff}
use Rattle.ring_core.proofs.lists.equal_lists.Given as goal

abbrev pub invariant-loop-i : goal.invariant-loop-i
invariant-loop-i g l =
    let r = g.K.Field.ops l.field in
    (k : ℕ) → k < l.i → r.same (coeff r l.a k) (coeff r l.b k) ≡ true
