-- The values of names: pairs of the bytes of a name and its value, in order of definition.
use Rattle.std.specs.Prelude.{ℕ, Bool, true, false, Option, Some, None, List, [], ◌∷◌, nat_eq, if◌then◌else◌}
use Rattle.std.specs.Cmp.Lexicographic.{pointwise}
use Rattle.answer.specs.declared.Value.{Value}
use Rattle.answer.specs.declared.Value.TheVariants as value

-- The value that these bytes have, None for no name.
abbrev pub value_of : List (List ℕ × Value) → List ℕ → Option Value
value_of [] name = None
value_of (e ∷ es) name = if pointwise nat_eq name e.0 then Some e.1 else value_of es name

abbrev pub is_module : Option Value → Bool
is_module (Some (value.Module phi)) = true
is_module v = false

abbrev pub is_twisted : Option Value → Bool
is_twisted (Some (value.Ore u)) = true
is_twisted v = false
