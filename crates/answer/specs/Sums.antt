-- The texts of sums of terms in a letter, over coefficients that have a text.
use Rattle.std.specs.Prelude.{ℕ, suc, ◌-◌, ◌==◌, Bool, true, Option, Some, None, List, [], ◌∷◌, ◌++◌, length, codes, decimal, if◌then◌else◌, slice_get}
use Rattle.std.specs.List.{list_any, flat_map}
use Rattle.std.specs.Str.{bytes_eq}
use Rattle.ring_core.specs.Coeffs.{first_values}

-- How the coefficients of a sum are printed: which are zero, and the text of each.
pub record Printer (E : Type 0) : Type 0 where
  pub is_zero : E → Bool
  pub text : E → List ℕ

-- A power of the letter, which stands alone where the exponent is 1.
abbrev pub power_text : List ℕ → ℕ → List ℕ
power_text letter k = if k == 1 then letter else letter ++ codes "^" ++ decimal k

-- The text is that of a sum: it has a plus.
abbrev pub has_plus : List ℕ → Bool
has_plus text = list_any (λ b. b == 43) text

-- A coefficient before a power: in parentheses where it is a sum.
abbrev pub factor_text : List ℕ → List ℕ
factor_text text = if has_plus text then codes "(" ++ text ++ codes ")" else text

-- The term at the power `k` whose coefficient has this text. The coefficient stands alone at the power
-- 0, and the power alone where the coefficient is 1.
abbrev pub term_text : List ℕ → List ℕ → ℕ → List ℕ
term_text letter text k =
    if k == 0 then text
    else if bytes_eq text (codes "1") then power_text letter k
    else factor_text text ++ codes "*" ++ power_text letter k

abbrev pub term_of : {E : Type 0} → Printer E → List ℕ → ℕ → Option E → List (List ℕ)
term_of s letter k None = []
term_of s letter k (Some c) = if s.is_zero c then [] else term_text letter (s.text c) k ∷ []

-- The term at the power `k` of a list of coefficients, lowest first; none where the coefficient is zero.
abbrev pub term_at : {E : Type 0} → Printer E → List ℕ → List E → ℕ → List (List ℕ)
term_at s letter list k = term_of s letter k (slice_get list k)

-- The `i`-th of `n` powers, from the highest down where `falls`, else from the lowest up.
abbrev pub place : Bool → ℕ → ℕ → ℕ
place falls n i = if falls then n - suc i else i

-- The terms at the first `count` powers in their order.
abbrev pub first_terms : {E : Type 0} → Printer E → List ℕ → Bool → List E → ℕ → List (List ℕ)
first_terms s letter falls list count = flat_map (λ i. term_at s letter list (place falls (length list) i)) (first_values count (λ i. i))

-- The texts in a row, with a separator between each two.
abbrev pub joined : List ℕ → List (List ℕ) → List ℕ
joined separator [] = []
joined separator (t ∷ ts) = t ++ flat_map (λ u. separator ++ u) ts

abbrev pub or_zero : List ℕ → List (List ℕ) → List ℕ
or_zero separator [] = codes "0"
or_zero separator (t ∷ ts) = joined separator (t ∷ ts)

-- The sum of the terms with a nonzero coefficient, `0` where there are none.
unfoldable pub sum_text : {E : Type 0} → Printer E → List ℕ → List ℕ → Bool → List E → List ℕ
sum_text s letter separator falls list = or_zero separator (first_terms s letter falls list (length list))

-- From the highest power down, without spaces.
abbrev pub tight : {E : Type 0} → Printer E → List ℕ → List E → List ℕ
tight s letter list = sum_text s letter (codes "+") true list
