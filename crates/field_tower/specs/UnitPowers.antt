-- The powers of the units of an algebra.
use Rattle.std.specs.Prelude.{ℕ}
use Rattle.ring_core.specs.Ring.{RingOps}
use Rattle.ring_core.specs.Powers.{power_of}
use Rattle.residue_field.specs.Algebra.{Coordinates, unit_of}

-- The power by `q` of the element with coordinate one at place `j` and zero at the others.
abbrev pub unit_power : {E T : Type 0} → RingOps E → RingOps T → Coordinates E T → ℕ → ℕ → T
unit_power r t c q j = power_of t (unit_of r c j) q
