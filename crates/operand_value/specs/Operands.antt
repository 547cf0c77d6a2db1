-- The values of what a statement's sums stand for.
use Rattle.std.specs.Prelude.{ℕ, Option, Some, None, List, [], ◌∷◌}
use Rattle.residue_field.specs.declared.TopElem.{TopElem}
use Rattle.residue_field.specs.Prime.{prime_ops}
use Rattle.residue_field.specs.Base.{Base, ops_of}
use Rattle.residue_field.specs.Top.{Top, ops_of_top}
use Rattle.script_lang.specs.declared.Sum.{Sum}
use Rattle.operand_value.specs.Values.{sum_values, poly_value}
use Rattle.operand_value.specs.Fields.{prime_letters, base_letters, top_letters}

-- The modulus of a base over the numbers modulo `p`: the polynomial in `a` that is typed, and `a` itself
-- where none is.
unfoldable pub base_modulus : ℕ → Option Sum → List ℕ
base_modulus p None = 0 ∷ 1 ∷ []
base_modulus p (Some s) = poly_value (prime_ops p) (prime_letters p) s

-- The polynomial over a base that is typed, in `z` or in `T`.
unfoldable pub base_polynomial : Base → Sum → List ℕ
base_polynomial k s = poly_value (ops_of k) (base_letters k) s

-- The modulus of a top field over a base: the polynomial in `z` that is typed.
abbrev pub top_modulus : Base → Sum → List ℕ
top_modulus k s = base_polynomial k s

-- The elements of a top field that a list of sums is.
unfoldable pub list_values : Top → List Sum → List TopElem
list_values t list = sum_values (ops_of_top t) (top_letters t) list

-- A twisted polynomial: each term is its value times the power of `t` that ends it.
unfoldable pub twisted_sum : Top → Sum → List TopElem
twisted_sum t s = poly_value (ops_of_top t) (top_letters t) s
