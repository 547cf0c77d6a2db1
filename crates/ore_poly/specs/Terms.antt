-- Single terms of a twisted polynomial, and its value as an additive polynomial.
use Rattle.std.specs.Prelude.{◌≡◌, ◌≢◌, ℕ, ◌<◌, List, length}
use Rattle.ring_core.specs.Ring.{RingOps}
use Rattle.ring_core.specs.Coeffs.{coeff, sum_below}

-- The coefficient at `i` is the lowest one that isn't zero.
pub record IsLowest {E : Type 0} (r : RingOps E) (u : List E) (i : ℕ) : Type 0 where
  pub within : i < length u
  pub nonzero : coeff r u i ≢ r.zero
  pub below : (j : ℕ) → j < i → coeff r u j ≡ r.zero

-- The value of `u` at `x`, where tau acts as `frob`: the sum of `u_i * frob x i`.
abbrev pub applied_at : {E : Type 0} → RingOps E → (E → ℕ → E) → List E → E → E
applied_at r frob u x = sum_below r (length u) (λ i. r.mul (coeff r u i) (frob x i))
