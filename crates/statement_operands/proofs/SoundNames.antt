-- The value of a name is one of the field.
use Rattle.std.proofs.Common.{◌≡◌, ℕ, Bool, true, false, Some, List, [], ◌∷◌, ◌∙◌, nat_eq, ap, sym, if◌then◌else◌}
use Rattle.std.specs.Cmp.Lexicographic.{pointwise}
use Rattle.residue_field.specs.Top.{Top}
use Rattle.std.proofs.lemmas.Option.{none-some}
use Rattle.script_lang.proofs.Equal.{same_some}
use Rattle.answer.specs.declared.Value.{Value}
use Rattle.statement_operands.specs.Names.{value_of}
use Rattle.statement_operands.specs.Sound.{is_value, are_values, AreValues}
use Rattle.statement_operands.proofs.Truths.{both_left, both_right}

pub value_in : (t : Top) (ns : List (List ℕ × Value)) (name : List ℕ) (v : Value) → AreValues t ns → value_of ns name ≡ Some v → is_value t v ≡ true
value_in t [] name v sound is = absurd (none-some v is)
value_in t (e ∷ es) name v sound is = by (value_in t es name v (both_right (is_value t e.1) (are_values t es) sound)) (pointwise nat_eq name e.0) is
  where
    by : (value_of es name ≡ Some v → is_value t v ≡ true) → (b : Bool) → (if b then Some e.1 else value_of es name) ≡ Some v → is_value t v ≡ true
    by rest true h = ap (is_value t) (sym (same_some h)) ∙ both_left (is_value t e.1) (are_values t es) sound
    by rest false h = rest h
