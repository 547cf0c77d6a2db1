use Rattle.std.proofs.Common.{◌≡◌, ℕ, ◌<◌, true}
use Rattle.ring_core.specs.Coeffs.{coeff}
use Rattle.field_tower.proofs.places.are_zero.Given as goal

abbrev pub invariant-loop-i : goal.invariant-loop-i
invariant-loop-i g l =
    let r = g.F.Field.ops l.field in
    (j : ℕ) → j < l.i → r.same (coeff r l.list j) r.zero ≡ true
