-- Sums in sixteen lanes.
use Rattle.std.specs.Prelude.{ℕ, zero, suc, ◌+◌, ◌-◌, ◌*◌, List, length, replicate, slice_index_or}
use Rattle.ring_core.specs.Ring.{RingOps}
use Rattle.ring_core.specs.Coeffs.{coeff}
use Rattle.residue_field.specs.declared.TopElem.{TopElem}
use Rattle.residue_field.specs.Residue.{constant_at, times_x}
use Rattle.field_tower.specs.steps.Places.{stored}

-- The number in each of sixteen lanes.
abbrev pub sixteen : ℕ → List ℕ
sixteen c = replicate 16 c

-- The sum of `f i` over `i` below `n`, as a number.
abbrev pub plain_sum : ℕ → (ℕ → ℕ) → ℕ
plain_sum zero f = 0
plain_sum (suc n) f = plain_sum n f + f n

-- The place `i` of a stored residue.
abbrev pub place_of : TopElem → ℕ → ℕ
place_of a i = slice_index_or a.0 i 0

-- The coefficient `k` of the product, as a number.
abbrev pub plain_product : TopElem → TopElem → ℕ → ℕ
plain_product a b k = plain_sum (k + 1) (λ i. place_of b (k - i) * place_of a i)

-- The residue of the power `k` of the letter.
abbrev pub letter_residue : {E : Type 0} → RingOps E → ℕ → (ℕ → E) → ℕ → ℕ → E
letter_residue r n f zero = constant_at r r.one
letter_residue r n f (suc k) = times_x r n f (letter_residue r n f k)

-- The residues of the powers of the letter from the degree of the modulus on.
unfoldable pub letter_row : RingOps ℕ → List ℕ → ℕ → TopElem
letter_row r modulus t = stored r (length modulus - 2) (letter_residue r (length modulus - 2) (coeff r modulus) (length modulus - 1 + t))
