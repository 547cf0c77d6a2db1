-- Fields of two elements.
use Rattle.std.specs.Prelude.{◌≡◌}
use Rattle.residue_field.specs.Base.{Base}

-- The base has the two elements 0 and 1.
pub record IsBinary (base : Base) : Type 0 where
  pub prime : base.p ≡ 2
  pub degree : base.s ≡ 1
