-- The refusals of a statement that values tell, in their order: the field,
-- an operand that isn't defined or is of the other kind, a new name that is taken; then, for the forms
-- that set a field, a polynomial that isn't monic of the stated degree, and what the work of the others
-- refuses.
use Rattle.std.specs.Prelude.{ℕ, ◌+◌, ◌==◌, ◌&&◌, not, Bool, Option, Some, None, option_map, List, length}
use Rattle.std.specs.Option.{option_or}
use Rattle.ring_core.specs.Ring.{RingOps}
use Rattle.ring_core.specs.Coeffs.{coeff, are_elems}
use Rattle.residue_field.specs.Prime.{prime_ops}
use Rattle.residue_field.specs.Base.{Base, ops_of}
use Rattle.residue_field.specs.Top.{Top}
use Rattle.script_statement.specs.declared.Form.{Form}
use Rattle.script_statement.specs.declared.Form.TheVariants as form
use Rattle.script_lang.specs.declared.Sum.{Sum}
use Rattle.answer.specs.declared.FieldState.{FieldState}
use Rattle.answer.specs.declared.FieldState.TheVariants as field
use Rattle.answer.specs.declared.Value.{Value}
use Rattle.answer.specs.Texts.{top_of}
use Rattle.statement_operands.specs.declared.MeaningKind.{MeaningKind}
use Rattle.statement_operands.specs.declared.MeaningKind.TheVariants as meaning
use Rattle.statement_operands.specs.declared.Need.{Need}
use Rattle.statement_operands.specs.declared.Need.TheVariants as need
use Rattle.statement_operands.specs.declared.Stop.{Stop}
use Rattle.statement_operands.specs.declared.Stop.TheVariants as stop
use Rattle.statement_operands.specs.Asked.{unknown_name, wrong_kind, name_taken}
use Rattle.statement_operands.specs.Demands.{Demands, demands}
use Rattle.operand_value.specs.Operands.{base_modulus, top_modulus}
use Rattle.statement_work.specs.Refusals.{when, work_refusal}
use Rattle.session.specs.State.{State}

-- Whether the field stands in the way.
abbrev pub field_refusal : Need → FieldState → Option MeaningKind
field_refusal need.NoBase field.Nothing = None
field_refusal need.NoBase (field.Base k) = Some meaning.FieldSet
field_refusal need.NoBase (field.Top t) = Some meaning.FieldSet
field_refusal need.NoTop field.Nothing = Some meaning.FieldMissing
field_refusal need.NoTop (field.Base k) = None
field_refusal need.NoTop (field.Top t) = Some meaning.FieldSet
field_refusal need.ATop field.Nothing = Some meaning.FieldMissing
field_refusal need.ATop (field.Base k) = Some meaning.FieldMissing
field_refusal need.ATop (field.Top t) = None

-- What is refused before a value is looked at.
unfoldable pub name_refusal : State → Demands → Option MeaningKind
name_refusal st d =
    option_or (field_refusal d.field st.field)
    (option_or (when (unknown_name st.names d) meaning.UnknownName)
    (option_or (when (wrong_kind st.names d) meaning.WrongKind)
    (when (name_taken st.names d) meaning.NameTaken)))

-- The list is a monic polynomial of this degree, lowest coefficient first.
abbrev pub is_monic : {E : Type 0} → RingOps E → ℕ → List E → Bool
is_monic r n list = are_elems r list && ((length list == n + 1) && r.same (coeff r list n) r.one)

unfoldable pub base_refusal : ℕ → ℕ → Option Sum → Option Stop
base_refusal p s modulus = when (not (is_monic (prime_ops p) s (base_modulus p modulus))) (stop.Meaning meaning.BadModulus)

unfoldable pub top_refusal : Base → ℕ → Sum → Option Stop
top_refusal k n modulus = when (not (is_monic (ops_of k) n (top_modulus k modulus))) (stop.Meaning meaning.BadModulus)

-- What a form that sets a field refuses by its polynomial.
abbrev pub modulus_refusal : FieldState → Form → Option Stop
modulus_refusal field.Nothing (form.Base p s modulus) = base_refusal p s modulus
modulus_refusal (field.Base k) (form.Over n modulus) = top_refusal k n modulus
modulus_refusal k f = None

-- What is refused once the field and the names are as the form asks. The forms other than those that set
-- a field stand over the top field.
abbrev pub refusal_over : Option Top → FieldState → List (List ℕ × Value) → Form → Option Stop
refusal_over (Some t) k ns f = work_refusal t ns f
refusal_over None k ns f = modulus_refusal k f

abbrev pub value_refusal : FieldState → List (List ℕ × Value) → Form → Option Stop
value_refusal k ns f = refusal_over (top_of k) k ns f

-- The first refusal that applies, of all that values tell.
abbrev pub refusal : State → Form → Option Stop
refusal st f =
    option_or (option_map (λ k. stop.Meaning k) (name_refusal st (demands f)))
    (value_refusal st.field st.names f)
