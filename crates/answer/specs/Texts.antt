-- The text of an answer: its lines, each with a line feed.
use Rattle.std.specs.Prelude.{ℕ, Bool, true, false, Option, Some, None, List, [], ◌++◌, length, codes, decimal}
use Rattle.std.specs.List.{flat_map}
use Rattle.residue_field.specs.declared.TopElem.{TopElem}
use Rattle.residue_field.specs.Top.{Top}
use Rattle.answer.specs.declared.value.Answer.{Answer}
use Rattle.answer.specs.declared.value.Answer.TheVariants as answer
use Rattle.answer.specs.declared.field.FieldState.{FieldState}
use Rattle.answer.specs.declared.field.FieldState.TheVariants as field
use Rattle.answer.specs.declared.field.Printing.{Printing}
use Rattle.answer.specs.declared.field.Printing.TheVariants as printing
use Rattle.answer.specs.declared.value.Value.{Value}
use Rattle.answer.specs.declared.value.Value.TheVariants as value
use Rattle.answer.specs.Elements.{element_text, polynomial_text, twisted_text, module_text, relation_text, coordinates_text}

-- The field of a printing.
abbrev pub field_of : Printing → FieldState
field_of printing.Nothing = field.Nothing
field_of (printing.Base k) = field.Base k.now
field_of (printing.Top t) = field.Top t.now

-- The top field in which elements are read, None before there is one.
abbrev pub top_of : FieldState → Option Top
top_of field.Nothing = None
top_of (field.Base k) = None
top_of (field.Top t) = Some t

abbrev pub line : List ℕ → List ℕ → List ℕ
line label text = label ++ text ++ codes "\n"

abbrev pub truth_text : Bool → List ℕ
truth_text true = codes "yes"
truth_text false = codes "no"

abbrev pub value_text : Top → Value → List ℕ
value_text t (value.Module phi) = module_text t phi
value_text t (value.Ore u) = twisted_text t u

-- A text with elements of the top field; where there is no such field it is empty.
abbrev pub over : Option Top → (Top → List ℕ) → List ℕ
over None text = []
over (Some t) text = text t

-- A common divisor or multiple of two operands, and the cofactors of the left and of the right one.
abbrev pub with_cofactors : Top → List ℕ → List TopElem → List TopElem → List TopElem → List ℕ
with_cofactors t label u s w = line label (twisted_text t u) ++ line (codes "left ") (twisted_text t s) ++ line (codes "right ") (twisted_text t w)

-- The greatest degree of some twisted polynomials, where there are any.
abbrev pub degree_text : Option ℕ → List ℕ
degree_text None = []
degree_text (Some d) = codes ", degree " ++ decimal d

-- How many members a list has, and then a line for each.
abbrev pub members_text : Top → List (List TopElem) → List ℕ
members_text t list = line (codes "members ") (decimal (length list)) ++ flat_map (λ u. line [] (twisted_text t u)) list

-- The lines of an answer, whose elements are those of the top field.
unfoldable pub text_over : Option Top → Answer → List ℕ
text_over top (answer.Q q) = line (codes "q = ") (decimal q)
text_over top (answer.N n) = line (codes "n = ") (decimal n)
text_over top (answer.Named name v) = over top (λ t. line (name.bytes ++ codes " = ") (value_text t v))
text_over top (answer.Shown v) = over top (λ t. line [] (value_text t v))
text_over top (answer.Number n) = line [] (decimal n)
text_over top (answer.Truth b) = line [] (truth_text b)
text_over top (answer.BasePoly a) = over top (λ t. line [] (polynomial_text t.base a))
text_over top (answer.Element c) = over top (λ t. line [] (element_text t c))
text_over top (answer.Twisted u) = over top (λ t. line [] (twisted_text t u))
text_over top (answer.Division c rest) = over top (λ t. line (codes "quotient ") (twisted_text t c) ++ line (codes "remainder ") (twisted_text t rest))
text_over top (answer.Common c) = over top (λ t. with_cofactors t (codes "divisor ") c.d c.s c.w)
text_over top (answer.Multiple m) = over top (λ t. with_cofactors t (codes "multiple ") m.m m.s m.w)
text_over top (answer.Quotient phi) = over top (λ t. line (codes "quotient ") (module_text t phi))
text_over top answer.NoneZero = line [] (codes "no quotient: zero")
text_over top (answer.NoneRemainder rest) = over top (λ t. line (codes "no quotient: remainder ") (twisted_text t rest))
text_over top (answer.NoneConstant c) = over top (λ t. line (codes "no quotient: constant ") (element_text t c))
text_over top (answer.Iso None) = line [] (codes "not isomorphic")
text_over top (answer.Iso (Some c)) = over top (λ t. line (codes "isomorphic by ") (element_text t c))
text_over top (answer.Isogenous None) = line [] (codes "not isogenous")
text_over top (answer.Isogenous (Some u)) = over top (λ t. line (codes "isogenous by ") (twisted_text t u))
text_over top (answer.Members list) = over top (λ t. members_text t list)
text_over top (answer.Count n degree) = line (codes "members ") (decimal n ++ degree_text degree)
text_over top (answer.Motive list) = over top (λ t. line [] (coordinates_text t list))
text_over top (answer.Relation list) = over top (λ t. line [] (relation_text t.base list))
text_over top (answer.NoPower m r) = line (codes "no power: degree ") (decimal m ++ codes " does not divide rank " ++ decimal r)

-- The text of an answer in a field.
abbrev pub text_of : FieldState → Answer → List ℕ
text_of f a = text_over (top_of f) a
