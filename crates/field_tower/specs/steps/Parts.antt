-- What the functions behind the making of fields answer.
use Rattle.std.specs.Prelude.{◌≡◌, ℕ, ◌-◌, ◌*◌, List, length}
use Rattle.ring_core.specs.Coeffs.{first_values}
use Rattle.residue_field.specs.declared.TopElem.{TopElem}
use Rattle.residue_field.specs.Base.{Base, base_ops, ops_of}
use Rattle.residue_field.specs.Top.{IsTop}
use Rattle.field_tower.specs.declared.fault.BaseFault.{BaseFault}
use Rattle.field_tower.specs.declared.fault.BaseFault.TheVariants.{TooLarge, BadModulus, ZeroDivisors, NoMemory}
use Rattle.field_tower.specs.Pairs.{IsPair}
use Rattle.field_tower.specs.steps.Images.{frob_image}
use Rattle.field_tower.specs.steps.Lanes.{letter_row}

-- What refuses data that are monic: two nonzero codes whose product is zero, or want of memory.
abbrev pub IsFaultOf : ℕ → ℕ → List ℕ → BaseFault → Type 0
IsFaultOf p s modulus TooLarge = ⊥
IsFaultOf p s modulus BadModulus = ⊥
IsFaultOf p s modulus (ZeroDivisors a b) = IsPair (base_ops p (s - 1) modulus) a b
IsFaultOf p s modulus NoMemory = Unit {0}

-- The modulus, the images and the residues of the powers of the letter that the top field of these data keeps.
pub record ArePartsOf (base : Base) (n : ℕ) (modulus kept : List ℕ) (images letters : List TopElem) : Type 0 where
  pub is_top : IsTop base n modulus
  pub kept_is : kept ≡ modulus
  pub images_are : images ≡ first_values (n * n) (frob_image base n modulus)
  pub letters_are : letters ≡ first_values (length modulus - 1) (letter_row (ops_of base) modulus)
