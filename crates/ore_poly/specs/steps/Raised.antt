-- Rows of coefficients, kept one after the other, each raised by one step of the twist more than the one before.
use Rattle.std.specs.Prelude.{◌≡◌, ℕ, ◌+◌, ◌*◌, ◌<◌, List, length}
use Rattle.ring_core.specs.Ring.{RingOps}
use Rattle.ring_core.specs.Coeffs.{coeff}

-- Row `j` of `rows`, as far as it stands there, is `b` raised by `j` steps.
abbrev pub AreRaised : {E : Type 0} → RingOps E → (E → ℕ → E) → List E → List E → Type 0
AreRaised r frob b rows = (j k : ℕ) → k < length b → j * length b + k < length rows → coeff r rows (j * length b + k) ≡ frob (coeff r b k) j
