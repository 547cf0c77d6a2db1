-- Products of images under the Frobenius, by which powers with large exponents are made.
use Rattle.std.specs.Prelude.{ℕ, zero, suc, ◌*◌}
use Rattle.ring_core.specs.Ring.{RingOps}

-- The product of `frob c (step i)` over `i` below `n`.
abbrev pub frob_product : {E : Type 0} → RingOps E → (E → ℕ → E) → E → ℕ → ℕ → E
frob_product r frob c step zero = r.one
frob_product r frob c step (suc n) = r.mul (frob_product r frob c step n) (frob c (step * n))
