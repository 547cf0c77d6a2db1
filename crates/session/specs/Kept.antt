-- The full lists that a session keeps, and the pairs of their modules.
use Rattle.std.specs.Prelude.{◌≡◌, ℕ, Bool, true, false, Option, Some, None, List, [], Result, Ok, Err}
use Rattle.residue_field.specs.declared.TopElem.{TopElem}
use Rattle.residue_field.specs.Top.{Top}
use Rattle.kept_lists.specs.declared.KeptList.{KeptList}
use Rattle.script_statement.specs.declared.Form.{Form}
use Rattle.answer.specs.declared.Answer.{Answer}
use Rattle.answer.specs.declared.FieldState.{FieldState}
use Rattle.answer.specs.declared.Value.{Value}
use Rattle.answer.specs.Texts.{top_of}
use Rattle.statement_operands.specs.declared.Stop.{Stop}
use Rattle.statement_work.specs.Keeps.{AreItsFullLists, pairs_after, is_kept_count}
use Rattle.session.specs.Sound.{is_sound}
use Rattle.session.specs.State.{State}

-- Lists are kept only once a top field is set, and then each is the full list of its modules over that field.
abbrev pub AreOver : Option Top → List (KeptList TopElem) → Type 0
AreOver None kept = kept ≡ []
AreOver (Some t) kept = AreItsFullLists t kept

abbrev pub AreKeptOver : FieldState → List (KeptList TopElem) → Type 0
AreKeptOver k kept = AreOver (top_of k) kept

-- The fields of a session: the names have values over its field, and each kept list is full over it.
pub record AreSessionParts (k : FieldState) (ns : List (List ℕ × Value)) (kept : List (KeptList TopElem)) : Type 0 where
  pub sound : is_sound k ns ≡ true
  pub full : AreKeptOver k kept

abbrev pub pairs_over : Option Top → State → Form → List (List TopElem × List TopElem) → List (List TopElem × List TopElem)
pairs_over None st f pairs = pairs
pairs_over (Some t) st f pairs = pairs_after t st.names f pairs

-- The pairs that are kept after a statement with this outcome, of those that were before it.
abbrev pub pairs_next : State → Form → Result Answer Stop → List (List TopElem × List TopElem) → List (List TopElem × List TopElem)
pairs_next st f (Ok a) pairs = pairs_over (top_of st.field) st f pairs
pairs_next st f (Err c) pairs = pairs

abbrev pub counts_over : Option Top → State → Form → List (List TopElem × List TopElem) → Bool
counts_over None st f pairs = false
counts_over (Some t) st f pairs = is_kept_count t st.names f pairs

-- The statement is `fullsize` of two names whose pair is kept.
abbrev pub is_count_of_kept : State → Form → List (List TopElem × List TopElem) → Bool
is_count_of_kept st f pairs = counts_over (top_of st.field) st f pairs
