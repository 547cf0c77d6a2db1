-- What making a base field answers.
use Rattle.std.specs.Prelude.{◌≡◌, ℕ, ◌+◌, ◌-◌, ◌%◌, ◌^◌, ◌<◌, ◌≤◌, List, length, map, slice_index, true, Result, Ok, Err}
use Rattle.field_tower.specs.declared.fault.BaseFault.{BaseFault}
use Rattle.field_tower.specs.declared.fault.BaseFault.TheVariants.{TooLarge, BadModulus, ZeroDivisors, NoMemory}
use Rattle.residue_field.specs.Sizes.{most_codes}
use Rattle.residue_field.specs.Prime.{is_listed}
use Rattle.residue_field.specs.Base.{Base, base_ops}
use Rattle.field_tower.specs.Pairs.{IsPair}

-- The numbers modulo `p`.
abbrev pub reduced : ℕ → List ℕ → List ℕ
reduced p modulus = map (λ c. c % p) modulus

-- `p` is a listed prime, and the codes suffice for `p^s` elements.
abbrev pub HasBaseSize : ℕ → ℕ → Type 0
HasBaseSize p s = (is_listed p ≡ true) × (0 < s) × (p ^ s ≤ most_codes)

-- The numbers, modulo `p`, are a monic polynomial of degree `s`.
abbrev pub IsMonicModulo : ℕ → ℕ → List ℕ → Type 0
IsMonicModulo p s modulus = (length modulus ≡ s + 1) × (slice_index modulus s % p ≡ 1)

-- The base field of these data.
abbrev pub IsBaseOf : ℕ → ℕ → List ℕ → Base → Type 0
IsBaseOf p s modulus k = (k.p ≡ p) × (k.s ≡ s) × (k.modulus ≡ modulus)

-- Where each refusal comes. Want of memory may come once the size and the modulus are known to hold.
abbrev pub IsBaseFault : ℕ → ℕ → List ℕ → BaseFault → Type 0
IsBaseFault p s modulus TooLarge = HasBaseSize p s → ⊥
IsBaseFault p s modulus BadModulus = HasBaseSize p s × (IsMonicModulo p s modulus → ⊥)
IsBaseFault p s modulus (ZeroDivisors a b) =
    HasBaseSize p s × IsMonicModulo p s modulus × IsPair (base_ops p (s - 1) (reduced p modulus)) a b
IsBaseFault p s modulus NoMemory = HasBaseSize p s × IsMonicModulo p s modulus

-- The field of the data that were handed in, in which no two nonzero codes multiply to zero, or a
-- refusal with its cause.
abbrev pub MakesBase : ℕ → ℕ → List ℕ → Result Base BaseFault → Type 0
MakesBase p s modulus (Ok k) =
    HasBaseSize p s × IsMonicModulo p s modulus × IsBaseOf p s (reduced p modulus) k
MakesBase p s modulus (Err why) = IsBaseFault p s modulus why
