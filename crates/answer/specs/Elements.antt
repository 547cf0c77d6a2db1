-- The texts of the elements of the fields, and of polynomials, twisted polynomials, modules and relations over them.
use Rattle.std.specs.Prelude.{ℕ, ◌==◌, true, false, List, ◌++◌, length, take, map, codes, decimal, if◌then◌else◌}
use Rattle.std.specs.List.{list_all}
use Rattle.ring_core.specs.Coeffs.{first_values}
use Rattle.residue_field.specs.declared.TopElem.{TopElem}
use Rattle.residue_field.specs.Base.{Base}
use Rattle.residue_field.specs.Top.{Top}
use Rattle.residue_field.specs.Digits.{digit}
use Rattle.answer.specs.Sums.{Printer, tight, sum_text, joined}

-- Numbers, in decimal.
abbrev pub numbers : Printer ℕ
numbers = record { is_zero = λ n. n == 0; text = decimal }

-- An element of a base: its number in decimal over a prime, else the sum in `a` of its digits.
unfoldable pub code_text : Base → ℕ → List ℕ
code_text k c = if k.s == 1 then decimal c else tight numbers (codes "a") (first_values k.s (digit k.p c))

abbrev pub codes_of : Base → Printer ℕ
codes_of k = record { is_zero = λ c. c == 0; text = code_text k }

-- An element of a top field: the sum in `z` of its coordinates.
unfoldable pub element_text : Top → TopElem → List ℕ
element_text t c = tight (codes_of t.base) (codes "z") (take t.n c.0)

abbrev pub elements_of : Top → Printer TopElem
elements_of t = record { is_zero = λ c. list_all (λ x. x == 0) c.0; text = element_text t }

-- A polynomial over the base: the sum in `T`.
unfoldable pub polynomial_text : Base → List ℕ → List ℕ
polynomial_text k list = tight (codes_of k) (codes "T") list

abbrev pub polynomials_of : Base → Printer (List ℕ)
polynomials_of k = record { is_zero = λ a. length a == 0; text = polynomial_text k }

-- A polynomial over the top field: the sum in `T`.
unfoldable pub coordinate_text : Top → List TopElem → List ℕ
coordinate_text t list = tight (elements_of t) (codes "T") list

-- A relation of Frobenius: the sum in `X`, from the highest power down, with spaces.
unfoldable pub relation_text : Base → List (List ℕ) → List ℕ
relation_text k list = sum_text (polynomials_of k) (codes "X") (codes " + ") true list

-- A twisted polynomial: the sum in `t`, from the lowest power up, with spaces.
unfoldable pub twisted_text : Top → List TopElem → List ℕ
twisted_text t u = sum_text (elements_of t) (codes "t") (codes " + ") false u

-- Texts in brackets, with a comma and a space between each two.
abbrev pub bracketed : List (List ℕ) → List ℕ
bracketed texts = codes "[" ++ joined (codes ", ") texts ++ codes "]"

-- A Drinfeld module: its coefficients from the constant up, in brackets.
unfoldable pub module_text : Top → List TopElem → List ℕ
module_text t phi = bracketed (map (element_text t) phi)

-- Motive coordinates: the polynomials over the top field, in brackets.
unfoldable pub coordinates_text : Top → List (List TopElem) → List ℕ
coordinates_text t list = bracketed (map (coordinate_text t) list)
