-- What making a top field answers.
use Rattle.std.specs.Prelude.{◌≡◌, ℕ, ◌+◌, ◌-◌, ◌<◌, ◌≤◌, List, length, Result, Ok, Err}
use Rattle.field_tower.specs.declared.fault.TowerFault.{TowerFault}
use Rattle.field_tower.specs.declared.fault.TowerFault.TheVariants.{TooLarge, BadModulus, ZeroDivisors, NoMemory}
use Rattle.field_tower.specs.declared.tower.TowerRefused.{TowerRefused}
use Rattle.residue_field.specs.Sizes.{most_places}
use Rattle.ring_core.specs.Coeffs.{coeff}
use Rattle.residue_field.specs.Base.{Base, ops_of}
use Rattle.residue_field.specs.Top.{Top, top_ops}
use Rattle.field_tower.specs.Pairs.{IsPair}

-- The places suffice for a degree of `n`.
abbrev pub HasTopSize : ℕ → Type 0
HasTopSize n = (0 < n) × (n ≤ most_places)

-- The list is a monic polynomial of degree `n` over the base.
abbrev pub IsMonicOver : Base → ℕ → List ℕ → Type 0
IsMonicOver base n modulus = (length modulus ≡ n + 1) × (coeff (ops_of base) modulus n ≡ (ops_of base).one)

-- Where each refusal comes. Want of memory may come once the size and the modulus are known to hold.
abbrev pub IsTopFault : Base → ℕ → List ℕ → TowerFault → Type 0
IsTopFault base n modulus TooLarge = HasTopSize n → ⊥
IsTopFault base n modulus BadModulus = HasTopSize n × (IsMonicOver base n modulus → ⊥)
IsTopFault base n modulus (ZeroDivisors a b) =
    HasTopSize n × IsMonicOver base n modulus × IsPair (top_ops base (n - 1) modulus) a b
IsTopFault base n modulus NoMemory = HasTopSize n × IsMonicOver base n modulus

-- The field of the data that were handed in, in which no two nonzero residues multiply to zero, or a
-- refusal with its cause, which hands the base back.
abbrev pub MakesTop : Base → ℕ → List ℕ → Result Top TowerRefused → Type 0
MakesTop base n modulus (Ok t) = (t.base ≡ base) × (t.n ≡ n) × (t.modulus ≡ modulus)
MakesTop base n modulus (Err refused) = (refused.base ≡ base) × IsTopFault base n modulus refused.why
