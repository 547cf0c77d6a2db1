-- The names of a session are a table's entries.
use Rattle.std.proofs.Common.{◌≡◌, ℕ, Some, List, [], ◌∷◌, map, nat_eq, refl, ap, if◌then◌else◌}
use Rattle.std.specs.Map.{lookup}
use Rattle.std.specs.Cmp.Lexicographic.{pointwise}
use Rattle.answer.specs.declared.Value.{Value}
use Rattle.statement_operands.specs.Names.{value_of}

pub looked_up : {K : Type 0} (items : K → List ℕ) (name : List ℕ) (es : List (K × Value))
    → lookup (λ k. pointwise nat_eq name (items k)) es ≡ value_of (map (λ e. (items e.0, e.1)) es) name
looked_up items name [] = refl
looked_up items name (e ∷ es) = ap (λ v. if pointwise nat_eq name (items e.0) then Some e.1 else v) (looked_up items name es)
