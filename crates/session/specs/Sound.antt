-- Names have values only once a top field is set, and then over that field.
use Rattle.std.specs.Prelude.{ℕ, Bool, Option, Some, None, List, ⊤}
use Rattle.residue_field.specs.Base.{Base}
use Rattle.residue_field.specs.Top.{Top}
use Rattle.answer.specs.declared.FieldState.{FieldState}
use Rattle.answer.specs.declared.FieldState.TheVariants as field
use Rattle.answer.specs.declared.Value.{Value}
use Rattle.answer.specs.Texts.{top_of}
use Rattle.statement_operands.specs.Sound.{are_values}
use Rattle.statement_work.specs.Refusals.{is_nil}

abbrev pub sound_over : Option Top → List (List ℕ × Value) → Bool
sound_over None ns = is_nil ns
sound_over (Some t) ns = are_values t ns

abbrev pub is_sound : FieldState → List (List ℕ × Value) → Bool
is_sound k ns = sound_over (top_of k) ns

-- The base that is set, before a top is.
abbrev pub OverBase : FieldState → (Base → Type 0) → Type 0
OverBase (field.Base k) P = P k
OverBase k P = ⊥

abbrev pub IsBaseSet : FieldState → Type 0
IsBaseSet (field.Base k) = ⊤
IsBaseSet k = ⊥
