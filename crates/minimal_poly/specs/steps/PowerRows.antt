-- The rows among which the first dependence gives a polynomial of least degree.
use Rattle.std.specs.Prelude.{ℕ, List}
use Rattle.ring_core.specs.Ring.{RingOps}
use Rattle.ring_core.specs.Field.{FrobOps}
use Rattle.ring_core.specs.Coeffs.{first_values}
use Rattle.ring_core.specs.Powers.{power_of}

-- The coordinates of the power `i` of `x`.
abbrev pub power_row : {E B : Type 0} → RingOps E → FrobOps E B → E → ℕ → List B
power_row r f x i = first_values f.degree (f.coord (power_of r x i))
