-- The pairs of modules whose full lists are kept after an answer, and the counts that a kept list answers.
use Rattle.std.specs.Prelude.{ℕ, ◌&&◌, Bool, true, false, List}
use Rattle.residue_field.specs.declared.TopElem.{TopElem}
use Rattle.residue_field.specs.Base.{ops_of}
use Rattle.residue_field.specs.Top.{Top, ops_of_top, frob_of_top}
use Rattle.script_lang.specs.declared.ModArg.{ModArg}
use Rattle.script_statement.specs.declared.Form.{Form}
use Rattle.script_statement.specs.declared.Form.TheVariants as form
use Rattle.answer.specs.declared.Value.{Value}
use Rattle.statement_operands.specs.Named.{is_name}
use Rattle.statement_operands.specs.Values.{module_value}
use Rattle.kept_lists.specs.declared.KeptList.{KeptList}
use Rattle.kept_lists.specs.Kept.{AreFullLists}
use Rattle.kept_lists.specs.Pairs.{has_pair, with_pair}

-- Each kept list is the full list of its modules over the field.
abbrev pub AreItsFullLists : Top → List (KeptList TopElem) → Type 0
AreItsFullLists t kept = AreFullLists (ops_of_top t) (ops_of t.base) (frob_of_top t) kept

-- The pairs that are kept after the answer of a form: three forms have the pair of their two modules kept.
abbrev pub pairs_after : Top → List (List ℕ × Value) → Form → List (List TopElem × List TopElem) → List (List TopElem × List TopElem)
pairs_after t ns (form.Isogenous m n) pairs = with_pair (ops_of_top t) (module_value t ns m) (module_value t ns n) pairs
pairs_after t ns (form.Full m n) pairs = with_pair (ops_of_top t) (module_value t ns m) (module_value t ns n) pairs
pairs_after t ns (form.Fullsize m n) pairs = with_pair (ops_of_top t) (module_value t ns m) (module_value t ns n) pairs
pairs_after t ns f pairs = pairs

-- A count for two names whose pair is kept.
abbrev pub is_kept_count : Top → List (List ℕ × Value) → Form → List (List TopElem × List TopElem) → Bool
is_kept_count t ns (form.Fullsize m n) pairs = (is_name m && is_name n) && has_pair (ops_of_top t) (module_value t ns m) (module_value t ns n) pairs
is_kept_count t ns f pairs = false
