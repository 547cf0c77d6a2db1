-- Powers that are made before they are looked up.
use Rattle.std.specs.Prelude.{◌≡◌, List, length}
use Rattle.ring_core.specs.Ring.{RingOps}
use Rattle.ring_core.specs.Coeffs.{first_values}
use Rattle.ring_core.specs.Powers.{power_of}

-- The first powers of `x`, from the power zero on, as many as there are.
abbrev pub ArePowers : {E : Type 0} → RingOps E → E → List E → Type 0
ArePowers r x powers = powers ≡ first_values (length powers) (power_of r x)
