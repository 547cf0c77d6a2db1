-- Powers, and values of polynomials, in a ring.
use Rattle.std.specs.Prelude.{ℕ, zero, suc, List, length}
use Rattle.ring_core.specs.Ring.{RingOps}
use Rattle.ring_core.specs.Coeffs.{coeff, sum_below}

-- `a` multiplied `k` times, one for `k = 0`.
abbrev pub power_of : {E : Type 0} → RingOps E → E → ℕ → E
power_of r a zero = r.one
power_of r a (suc k) = r.mul (power_of r a k) a

-- The sum of `coeffs[i] * a^i`.
abbrev pub value_at : {E : Type 0} → RingOps E → List E → E → E
value_at r coeffs a = sum_below r (length coeffs) (λ i. r.mul (coeff r coeffs i) (power_of r a i))

-- The value at `x` of a polynomial `a` with coefficients in a base, which `embed` takes into the field of `x`.
abbrev pub base_value : {E B : Type 0} → RingOps E → RingOps B → (B → E) → List B → E → E
base_value r base embed a x = sum_below r (length a) (λ i. r.mul (embed (coeff base a i)) (power_of r x i))
