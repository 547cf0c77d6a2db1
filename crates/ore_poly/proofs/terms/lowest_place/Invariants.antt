use Rattle.std.proofs.Common.{◌≡◌, ℕ, ◌<◌}
use Rattle.ring_core.specs.Coeffs.{coeff}
use Rattle.ore_poly.proofs.terms.lowest_place.Given as goal

abbrev pub invariant-loop-i : goal.invariant-loop-i
invariant-loop-i g l =
    let r = g.K.Field.ops l.field in
    (k : ℕ) → k < l.i → coeff r l.list k ≡ r.zero
