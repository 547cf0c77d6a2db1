-- The sample script of a number: a field of 256 elements, twelve modules of rank 2 with drawn coefficients, and a
-- count of the endomorphisms of each.
use Rattle.std.specs.Prelude.{ℕ, zero, suc, ◌+◌, ◌-◌, ◌*◌, ◌/◌, ◌%◌, ◌==◌, if◌then◌else◌, List, ◌++◌, codes, decimal}
use Rattle.std.specs.List.{flat_map}
use Rattle.ring_core.specs.Coeffs.{first_values}
use Rattle.residue_field.specs.Digits.{digit}
use Rattle.answer.specs.Sums.{tight}
use Rattle.answer.specs.Elements.{numbers}

-- The value of the generator after `x`.
unfoldable pub next_value : ℕ → ℕ
next_value x = (1664525 * x + 1013904223) % 4294967296

-- Its value after `i` steps from `n`.
abbrev pub value_at : ℕ → ℕ → ℕ
value_at n zero = n
value_at n (suc i) = next_value (value_at n i)

-- The `i`-th draw, the highest 8 of the 32 bits.
abbrev pub draw : ℕ → ℕ → ℕ
draw n i = value_at n i / 16777216

-- The element of the field whose coefficients in `z` are the bits of a draw.
unfoldable pub element : ℕ → List ℕ
element d = tight numbers (codes "z") (first_values 8 (digit 2 d))

-- The same for the highest coefficient of a module, which is 1 where the draw is 0.
abbrev pub top_element : ℕ → List ℕ
top_element d = if d == 0 then codes "1" else element d

abbrev pub name_of : ℕ → List ℕ
name_of k = codes "m" ++ decimal k

-- The line of the module with the number `k`, from 1 on, of the draws `g` and `h`.
abbrev pub module_text : ℕ → ℕ → ℕ → List ℕ
module_text k g h = codes "module " ++ name_of k ++ codes " = [z, " ++ element g ++ codes ", " ++ top_element h ++ codes "]\n"

abbrev pub module_line : ℕ → ℕ → List ℕ
module_line n k = module_text k (draw n (2 * k - 1)) (draw n (2 * k))

abbrev pub count_line : ℕ → List ℕ
count_line k = codes "fullsize " ++ name_of k ++ codes " " ++ name_of k ++ codes "\n"

-- A text for each of the numbers from 1 to 12.
unfoldable pub twelve : (ℕ → List ℕ) → List ℕ
twelve line = flat_map line (first_values 12 suc)

unfoldable pub sample_text : ℕ → List ℕ
sample_text n = codes "base 2\nover 8 z^8+z^4+z^3+z+1\n" ++ twelve (module_line n) ++ twelve count_line
