-- What a statement does, from what its parts do.
use Rattle.std.proofs.Common.{◌≡◌, ◌≢◌, ℕ, Bool, true, false, Option, Some, None, option_map, Result, Ok, Err, List, refl, sym, ap, subst, ◌∙◌}
use Rattle.std.specs.Prelude.{IfOk, IfErr, OnErr}
use Rattle.std.specs.Option.{option_or}
use Rattle.std.proofs.lemmas.Bool.{false≢true}
use Rattle.std.proofs.lemmas.Option.{none-some}
use Rattle.script_statement.specs.declared.Form.{Form}
use Rattle.script_statement.specs.declared.Form.TheVariants as form
use Rattle.script_lang.specs.declared.Sum.{Sum}
use Rattle.answer.specs.declared.Answer.{Answer}
use Rattle.answer.specs.declared.FieldState.{FieldState}
use Rattle.answer.specs.declared.FieldState.TheVariants as field
use Rattle.answer.specs.declared.Value.{Value}
use Rattle.answer.specs.Texts.{top_of}
use Rattle.statement_operands.specs.declared.Need.{Need}
use Rattle.statement_operands.specs.declared.Need.TheVariants as need
use Rattle.residue_field.specs.Top.{Top}
use Rattle.statement_operands.specs.declared.Stop.{Stop}
use Rattle.statement_operands.specs.declared.Stop.TheVariants as stop
use Rattle.statement_operands.specs.Demands.{demands}
use Rattle.statement_operands.specs.Resolved.{AreOperands}
use Rattle.statement_work.specs.Refusals.{work_refusal}
use Rattle.statement_work.specs.Results.{named_value}
use Rattle.statement_work.specs.Works.{Works}
use Rattle.session.specs.State.{State}
use Rattle.session.specs.Refusals.{field_refusal, name_refusal, refusal_over, value_refusal, refusal}
use Rattle.session.specs.Sound.{IsBaseSet, OverBase}
use Rattle.session.specs.Steps.{IsReducible, StopsAfter, Stops, SetsBase, SetsTop, SetsField, GivesOver, with_name, Does}

-- Where the names meet what a form asks, the values decide.
pub refusal_is : (st : State) (f : Form) → name_refusal st (demands f) ≡ None → refusal st f ≡ value_refusal st.field st.names f
refusal_is st f free = ap (λ n. option_or (option_map (λ k. stop.Meaning k) n) (value_refusal st.field st.names f)) free

-- Want of memory leaves the state, and every other stop has its cause.
pub does_err : (st : State) (f : Form) (c : Stop) (next : State) → next ≡ st → (c ≢ stop.NoMemory → Stops st f c) → Does st f (Err c) next
does_err st f (stop.Meaning k) next same cause = (cause (λ e. absurd (meaning_apart k e)), same)
  where
    is_meaning : Stop → Bool
    is_meaning (stop.Meaning k) = true
    is_meaning c = false

    meaning_apart : (k : _) → stop.Meaning k ≡ stop.NoMemory → ⊥
    meaning_apart k e = false≢true (sym (ap is_meaning e))
does_err st f (stop.Size k) next same cause = (cause (λ e. absurd (size_apart k e)), same)
  where
    is_size : Stop → Bool
    is_size (stop.Size k) = true
    is_size c = false

    size_apart : (k : _) → stop.Size k ≡ stop.NoMemory → ⊥
    size_apart k e = false≢true (sym (ap is_size e))
does_err st f stop.NoMemory next same cause = same

pub stops_by : (st : State) (f : Form) (c : Stop) (rest : Type 0) (o : Option Stop) → refusal st f ≡ o → StopsAfter o c rest → StopsAfter (refusal st f) c rest
stops_by st f c rest o e h = subst (λ x. StopsAfter x c rest) (sym e) h

-- The field that a form asks for.
no_top_need : (k : FieldState) → top_of k ≡ None → field_refusal need.ATop k ≡ None → ⊥
no_top_need field.Nothing low h = none-some _ (sym h)
no_top_need (field.Base k) low h = none-some _ (sym h)
no_top_need (field.Top t) low h = none-some _ (sym low)

-- The forms that set a field.
abbrev pub IsSetting : Form → Type 0
IsSetting (form.Base p s modulus) = Unit {0}
IsSetting (form.Over n modulus) = Unit {0}
IsSetting f = ⊥

pub setting : (k : FieldState) (f : Form) → top_of k ≡ None → field_refusal (demands f).field k ≡ None → IsSetting f
setting k (form.Base p s modulus) low h = tt
setting k (form.Over n modulus) low h = tt
setting k f low h = absurd (no_top_need k low h)

pub at_nothing : (k : FieldState) → field_refusal need.NoBase k ≡ None → k ≡ field.Nothing
at_nothing field.Nothing h = refl
at_nothing (field.Base k) h = absurd (none-some _ (sym h))
at_nothing (field.Top t) h = absurd (none-some _ (sym h))

pub at_base : (k : FieldState) → field_refusal need.NoTop k ≡ None → IsBaseSet k
at_base field.Nothing h = absurd (none-some _ (sym h))
at_base (field.Base k) h = tt
at_base (field.Top t) h = absurd (none-some _ (sym h))

pub needs_top : (n : Need) (t : Top) → field_refusal n (field.Top t) ≡ None → n ≡ need.ATop
needs_top need.NoBase t h = absurd (none-some _ (sym h))
needs_top need.NoTop t h = absurd (none-some _ (sym h))
needs_top need.ATop t h = refl

-- A form over the top field does what its work does.
pub over_does : (st : State) (f : Form) (t : Top) (r : Result Answer Stop) (ns : List (List ℕ × Value)) → st.field ≡ field.Top t → name_refusal st (demands f) ≡ None
    → IfOk r (λ a. (work_refusal t st.names f ≡ None) × Works t st.names f a × (ns ≡ with_name (demands f).gives (named_value a) st.names))
    → IfOk r (λ a. AreOperands t st.names (demands f))
    → OnErr r (ns ≡ st.names)
    → IfErr r (λ c. c ≢ stop.NoMemory → work_refusal t st.names f ≡ Some c)
    → Does st f r (record { field = st.field; names = ns })
over_does st f t (Ok a) ns is free ok operands same stops =
    let top : top_of st.field ≡ Some t = ap top_of is in
    let refuses = refusal_is st f free ∙ ap (λ o. refusal_over o st.field st.names f) top in (
      refuses ∙ ok.0,
      subst (λ o. GivesOver o st f a (record { field = st.field; names = ns })) (sym top) (operands, ok.1, ap (λ x. record { field = st.field; names = x }) ok.2),
    )
over_does st f t (Err c) ns is free ok operands same stops =
    let top : top_of st.field ≡ Some t = ap top_of is in
    let refuses = refusal_is st f free ∙ ap (λ o. refusal_over o st.field st.names f) top in
    does_err st f c _ (ap (λ x. record { field = st.field; names = x }) same)
    (λ other. stops_by st f c (IsReducible st.field f c) (work_refusal t st.names f) refuses
    (subst (λ o. StopsAfter o c (IsReducible st.field f c)) (sym (stops other)) refl))

-- The setting of a base or of a top is that of its form.
pub sets_base : (k : FieldState) (f : Form) (p s : ℕ) (m x : Option Sum) (r : Result Answer Stop) (n : FieldState) → k ≡ field.Nothing → f ≡ form.Base p s m → x ≡ m
    → IfOk r (λ a. SetsBase p s x a n) → IfOk r (λ a. SetsField k f a n)
sets_base k f p s m x r n low is same h =
    subst (λ y. IfOk r (λ a. SetsField y f a n)) (sym low)
    (subst (λ y. IfOk r (λ a. SetsField field.Nothing y a n)) (sym is) (subst (λ y. IfOk r (λ a. SetsBase p s y a n)) same h))

pub sets_top : (k : FieldState) (f : Form) (d : ℕ) (m : Sum) (r : Result Answer Stop) (n : FieldState) → IsBaseSet k → f ≡ form.Over d m
    → IfOk r (λ a. OverBase k (λ b. SetsTop b d m a n)) → IfOk r (λ a. SetsField k f a n)
sets_top field.Nothing f d m r n set is h = absurd set
sets_top (field.Base b) f d m r n set is h = subst (λ y. IfOk r (λ a. SetsField (field.Base b) y a n)) (sym is) h
sets_top (field.Top t) f d m r n set is h = absurd set

pub no_top : (k : FieldState) → ((t : Top) → k ≡ field.Top t → ⊥) → top_of k ≡ None
no_top field.Nothing none = refl
no_top (field.Base b) none = refl
no_top (field.Top t) none = absurd (none t refl)
