-- The characteristic of a Drinfeld module, and its height.
use Rattle.std.specs.Prelude.{ℕ, ◌-◌, ◌*◌, List, length}
use Rattle.ring_core.specs.Ring.{RingOps}
use Rattle.ring_core.specs.Field.{FrobOps}
use Rattle.ore_poly.specs.Terms.{IsLowest}
use Rattle.minimal_poly.specs.MinPoly.{IsMinPoly}
use Rattle.drinfeld_mod.specs.Module.{constant_of}
use Rattle.drinfeld_mod.specs.Image.{image}

-- The monic polynomial of least degree over the base that has the constant of the module as a root.
abbrev pub IsCharacteristic : {E B : Type 0} → RingOps E → RingOps B → FrobOps E B → List E → List B → Type 0
IsCharacteristic r base f phi p = IsMinPoly r base f.embed (constant_of r phi) p

-- The lowest power of tau in `phi_P` is `h` times the degree of `P`, where `P` is the characteristic.
pub record IsHeight {E B : Type 0} (r : RingOps E) (base : RingOps B) (f : FrobOps E B) (phi : List E) (h : ℕ) : Type 0 where
  pub p : List B
  pub characteristic : IsCharacteristic r base f phi p
  pub lowest : IsLowest r (image r base f phi p) (h * (length p - 1))
