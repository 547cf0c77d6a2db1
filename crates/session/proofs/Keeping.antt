-- The full lists that a session keeps, and what statements do to them.
use Rattle.std.proofs.Common.{◌≡◌, ℕ, ◌<◌, ◌≤◌, ◌-◌, ◌||◌, not, true, false, Option, Some, None, is_some, Result, Ok, Err, List, [], ◌∷◌, length, refl, sym, ap, ap₂, ◌∙◌, arith}
use Rattle.std.specs.Prelude.{OnOk, OnErr}
use Rattle.std.specs.Option.{option_or}
use Rattle.std.proofs.lemmas.Bool.{false≢true, and_parts}
use Rattle.ring_core.specs.Ring.{RingOps}
use Rattle.ring_core.specs.Coeffs.{same_lists}
use Rattle.residue_field.specs.declared.TopElem.{TopElem}
use Rattle.residue_field.specs.Base.{ops_of}
use Rattle.residue_field.specs.Top.{Top, ops_of_top, frob_of_top}
use Rattle.drinfeld_mod.specs.Module.{IsModule}
use Rattle.kept_lists.specs.declared.KeptList.{KeptList}
use Rattle.kept_lists.specs.Pairs.{pairs_of}
use Rattle.kept_lists.proofs.There.{there}
use Rattle.script_lang.specs.declared.ModArg.{ModArg}
use Rattle.script_lang.specs.declared.ModArg.TheVariants as module_operand
use Rattle.script_statement.specs.declared.Form.{Form}
use Rattle.script_statement.specs.declared.Form.TheVariants as form
use Rattle.answer.specs.declared.Answer.{Answer}
use Rattle.answer.specs.declared.FieldState.{FieldState}
use Rattle.answer.specs.declared.FieldState.TheVariants as field
use Rattle.answer.specs.declared.Value.{Value}
use Rattle.answer.specs.declared.Value.TheVariants as value
use Rattle.answer.specs.Texts.{top_of}
use Rattle.statement_operands.specs.declared.MeaningKind.TheVariants as meaning
use Rattle.statement_operands.specs.declared.Stop.{Stop}
use Rattle.statement_operands.specs.Asked.{unknown_module, wrong_module}
use Rattle.statement_operands.specs.Demands.{demands}
use Rattle.statement_operands.specs.Names.{value_of, is_twisted}
use Rattle.statement_operands.specs.Values.{as_module, module_value}
use Rattle.statement_work.specs.Keeps.{pairs_after}
use Rattle.statement_work.specs.Refusals.{when}
use Rattle.session.specs.Kept.{AreKeptOver, pairs_over, pairs_next, is_count_of_kept}
use Rattle.session.specs.State.{State}
use Rattle.session.specs.Refusals.{name_refusal}

-- Over a top field they are those of the work.
pub pairs_top : (st : State) (f : Form) (t : Top) (r : Result Answer Stop) (pairs next : List (List TopElem × List TopElem)) → st.field ≡ field.Top t
    → OnOk r (next ≡ pairs_after t st.names f pairs) → OnErr r (next ≡ pairs) → next ≡ pairs_next st f r pairs
pairs_top st f t (Ok a) pairs next is ok same = ok ∙ sym (ap (λ o. pairs_over o st f pairs) (ap top_of is))
pairs_top st f t (Err c) pairs next is ok same = same

-- A name whose value equals a kept module is that of a module.
not_same : {E : Type 0} (r : RingOps E) (u : List E) → 0 < length u → same_lists r u [] ≡ true → ⊥
not_same r [] long h = absurd (omega arith)
not_same r (x ∷ xs) long h = false≢true h

of_value : (r : RingOps TopElem) (u : List TopElem) (v : Option Value) → 0 < length u → same_lists r u (as_module v) ≡ true → (not (is_some v) ≡ false) × (is_twisted v ≡ false)
of_value r u None long h = absurd (not_same r u long h)
of_value r u (Some (value.Module phi)) long h = (refl, refl)
of_value r u (Some (value.Ore v)) long h = absurd (not_same r u long h)

of_name : (t : Top) (ns : List (List ℕ × Value)) (u : List TopElem) (m : ModArg) → IsModule (ops_of_top t) u → same_lists (ops_of_top t) u (module_value t ns m) ≡ true
    → (unknown_module ns m ≡ false) × (wrong_module ns m ≡ false)
of_name t ns u (module_operand.Name n) source h =
    let rank : 1 ≤ length u - 1 = source.rank_pos in
    of_value (ops_of_top t) u (value_of ns n.bytes) (omega (arith, rank)) h
of_name t ns u (module_operand.List list) source h = (refl, refl)

-- Nothing refuses a count of a kept pair before its values are looked at.
pub count_free : (k : FieldState) (ns : List (List ℕ × Value)) (f : Form) (kept : List (KeptList TopElem)) → AreKeptOver k kept
    → is_count_of_kept (record { field = k; names = ns }) f (pairs_of kept) ≡ true → name_refusal (record { field = k; names = ns }) (demands f) ≡ None
unfolding name_refusal
count_free field.Nothing ns f kept full h = absurd (false≢true h)
count_free (field.Base b) ns f kept full h = absurd (false≢true h)
count_free (field.Top t) ns (form.Fullsize m n) kept full h =
    let r = ops_of_top t in
    let one = there r (ops_of t.base) (frob_of_top t) (module_value t ns m) (module_value t ns n) kept full (and_parts _ _ h).1 in
    let same = and_parts (same_lists r one.0.source (module_value t ns m)) (same_lists r one.0.target (module_value t ns n)) one.2 in
    let left = of_name t ns one.0.source m one.1.source same.0 in
    let right = of_name t ns one.0.target n one.1.target same.1 in
    ap₂ (λ a b. option_or (when a meaning.UnknownName) (option_or (when b meaning.WrongKind) None))
    (ap₂ (λ x y. x || y || false || false || false) left.0 right.0) (ap₂ (λ x y. x || y || false || false) left.1 right.1)
count_free (field.Top t) ns f kept full h = absurd (false≢true h)

pub on_err : {A X P : Type 0} (r : Result A X) → P → OnErr r P
on_err (Ok a) p = tt
on_err (Err e) p = p
