-- What a statement does: it stops, or it answers and leaves a state.
use Rattle.std.specs.Prelude.{◌≡◌, ℕ, ◌-◌, Option, Some, None, List, [], ◌∷◌, ◌++◌, Result, Ok, Err}
use Rattle.residue_field.specs.declared.TopElem.{TopElem}
use Rattle.residue_field.specs.Base.{Base, base_ops, size_of}
use Rattle.residue_field.specs.Top.{Top, top_ops}
use Rattle.field_tower.specs.Pairs.{IsPair}
use Rattle.field_tower.specs.MakeBase.{IsBaseOf}
use Rattle.script_statement.specs.declared.Form.{Form}
use Rattle.script_statement.specs.declared.Form.TheVariants as form
use Rattle.script_lang.specs.declared.Name.{Name}
use Rattle.script_lang.specs.declared.Sum.{Sum}
use Rattle.answer.specs.declared.Answer.{Answer}
use Rattle.answer.specs.declared.Answer.TheVariants as answer
use Rattle.answer.specs.declared.FieldState.{FieldState}
use Rattle.answer.specs.declared.FieldState.TheVariants as field
use Rattle.answer.specs.declared.Value.{Value}
use Rattle.answer.specs.Texts.{top_of}
use Rattle.statement_operands.specs.declared.MeaningKind.TheVariants as meaning
use Rattle.statement_operands.specs.declared.Stop.{Stop}
use Rattle.statement_operands.specs.declared.Stop.TheVariants as stop
use Rattle.statement_operands.specs.Demands.{demands}
use Rattle.statement_operands.specs.Resolved.{AreOperands}
use Rattle.operand_value.specs.Operands.{base_modulus, top_modulus}
use Rattle.statement_work.specs.Results.{named_value}
use Rattle.statement_work.specs.Works.{Works}
use Rattle.session.specs.State.{State}
use Rattle.session.specs.Refusals.{refusal}

-- Two nonzero residues modulo the polynomial of a base multiply to zero, or two modulo that of a top.
abbrev pub HasBasePair : ℕ → ℕ → Option Sum → Type 0
HasBasePair p s modulus = (a b : ℕ) × IsPair (base_ops p (s - 1) (base_modulus p modulus)) a b

abbrev pub HasTopPair : Base → ℕ → Sum → Type 0
HasTopPair k n modulus = (a b : TopElem) × IsPair (top_ops k (n - 1) (top_modulus k modulus)) a b

-- The one refusal that no value tells.
abbrev pub IsReducible : FieldState → Form → Stop → Type 0
IsReducible field.Nothing (form.Base p s modulus) c = (c ≡ stop.Meaning meaning.BaseReducible) × HasBasePair p s modulus
IsReducible (field.Base k) (form.Over n modulus) c = (c ≡ stop.Meaning meaning.TopReducible) × HasTopPair k n modulus
IsReducible k f c = ⊥

-- After the first refusal, if any, or by the rest.
abbrev pub StopsAfter : Option Stop → Stop → Type 0 → Type 0
StopsAfter (Some r) c rest = c ≡ r
StopsAfter None c rest = rest

-- A statement of this form stops for this cause.
abbrev pub Stops : State → Form → Stop → Type 0
Stops st f c = StopsAfter (refusal st f) c (IsReducible st.field f c)

-- The names with one more at the end, where there is a value for it.
abbrev pub added : List ℕ → Option Value → List (List ℕ × Value) → List (List ℕ × Value)
added name None ns = ns
added name (Some v) ns = ns ++ (name, v) ∷ []

abbrev pub with_name : Option Name → Option Value → List (List ℕ × Value) → List (List ℕ × Value)
with_name None v ns = ns
with_name (Some name) v ns = added name.bytes v ns

-- The base of the polynomial, in which no two nonzero residues multiply to zero, and its answer.
abbrev pub SetsBase : ℕ → ℕ → Option Sum → Answer → FieldState → Type 0
SetsBase p s modulus a next =
    (b : Base) × IsBaseOf p s (base_modulus p modulus) b × (a ≡ answer.Q (size_of b)) × (next ≡ field.Base b)

-- The top of the polynomial over the base, in which no two nonzero residues multiply to zero.
abbrev pub SetsTop : Base → ℕ → Sum → Answer → FieldState → Type 0
SetsTop k n modulus a next =
    (t : Top) × (t.base ≡ k) × (t.n ≡ n) × (t.modulus ≡ top_modulus k modulus) × (a ≡ answer.N n) × (next ≡ field.Top t)

-- The field that a form sets, and its answer.
abbrev pub SetsField : FieldState → Form → Answer → FieldState → Type 0
SetsField field.Nothing (form.Base p s modulus) a next = SetsBase p s modulus a next
SetsField (field.Base k) (form.Over n modulus) a next = SetsTop k n modulus a next
SetsField k f a next = ⊥

-- The answer of a form that nothing refuses, and the state after it. Over a top field the operands are
-- modules and twisted polynomials over it.
abbrev pub GivesOver : Option Top → State → Form → Answer → State → Type 0
GivesOver (Some t) st f a next =
    AreOperands t st.names (demands f) × Works t st.names f a × (next ≡ record { field = st.field; names = with_name (demands f).gives (named_value a) st.names })
GivesOver None st f a next = (k : FieldState) × SetsField st.field f a k × (next ≡ record { field = k; names = st.names })

abbrev pub Gives : State → Form → Answer → State → Type 0
Gives st f a next = GivesOver (top_of st.field) st f a next

-- A statement of this form is answered so, and leaves this state.
abbrev pub Answers : State → Form → Answer → State → Type 0
Answers st f a next = (refusal st f ≡ None) × Gives st f a next

-- The outcome of a statement and the state after it. Here want of memory may come anywhere, and like
-- each stop it leaves the state.
abbrev pub Does : State → Form → Result Answer Stop → State → Type 0
Does st f (Ok a) next = Answers st f a next
Does st f (Err stop.NoMemory) next = next ≡ st
Does st f (Err c) next = Stops st f c × (next ≡ st)
