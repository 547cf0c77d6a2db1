-- The highest coordinate of an element that isn't zero.
use Rattle.std.specs.Prelude.{◌≡◌, ◌≢◌, ℕ, ◌<◌}
use Rattle.ring_core.specs.Ring.{RingOps}
use Rattle.ring_core.specs.Field.{FrobOps}

pub record IsHighestCoordinate {E B : Type 0} (base : RingOps B) (f : FrobOps E B) (c : E) (j : ℕ) : Type 0 where
  pub within : j < f.degree
  pub nonzero : f.coord c j ≢ base.zero
  pub above : (i : ℕ) → j < i → i < f.degree → f.coord c i ≡ base.zero
