-- The forms that have a full list kept, and the pairs that each form leaves.
use Rattle.std.proofs.Common.{◌≡◌, ◌&&◌, ◌||◌, ℕ, not, Bool, true, false, Some, None, Result, Ok, Err, List, refl, sym, ap, ap₂}
use Rattle.std.specs.Prelude.{OnOk, OnErr}
use Rattle.std.proofs.lemmas.Bool.{false≢true, and_parts}
use Rattle.std.proofs.lemmas.Option.{none-some}
use Rattle.residue_field.specs.declared.TopElem.{TopElem}
use Rattle.residue_field.specs.Top.{Top}
use Rattle.script_lang.specs.declared.ModArg.{ModArg}
use Rattle.script_lang.specs.declared.Name.{Name}
use Rattle.script_statement.specs.declared.Form.{Form}
use Rattle.script_statement.specs.declared.Form.TheVariants as form
use Rattle.answer.specs.declared.Value.{Value}
use Rattle.statement_operands.specs.Demands.{demands}
use Rattle.statement_operands.specs.Named.{is_name, has_only_named_modules}
use Rattle.statement_work.specs.Keeps.{pairs_after, is_kept_count}
use Rattle.statement_work.specs.steps.Full.{keeps_list}

pub plain_form : (f : Form) → ((m n : ModArg) → f ≡ form.Isogenous m n → ⊥) → ((m n : ModArg) → f ≡ form.Full m n → ⊥) → ((m n : ModArg) → f ≡ form.Fullsize m n → ⊥) → keeps_list f ≡ false
plain_form (form.Isogenous m n) a b c = absurd (a m n refl)
plain_form (form.Full m n) a b c = absurd (b m n refl)
plain_form (form.Fullsize m n) a b c = absurd (c m n refl)
plain_form f a b c = refl

-- The other forms leave the pairs, and are no counts.
pub plain_pairs : (t : Top) (ns : List (List ℕ × Value)) (f : Form) (pairs : List (List TopElem × List TopElem)) → keeps_list f ≡ false → pairs ≡ pairs_after t ns f pairs
plain_pairs t ns (form.Isogenous m n) pairs h = absurd (false≢true (sym h))
plain_pairs t ns (form.Full m n) pairs h = absurd (false≢true (sym h))
plain_pairs t ns (form.Fullsize m n) pairs h = absurd (false≢true (sym h))
plain_pairs t ns f pairs h = refl

pub plain_keeps : {A X : Type 0} (t : Top) (ns : List (List ℕ × Value)) (f : Form) (pairs : List (List TopElem × List TopElem)) (r : Result A X) → keeps_list f ≡ false → OnOk r (pairs ≡ pairs_after t ns f pairs)
plain_keeps t ns f pairs (Ok a) h = plain_pairs t ns f pairs h
plain_keeps t ns f pairs (Err c) h = tt

pub leaves_same : {A X P : Type 0} (p : P) (r : Result A X) → OnErr r (p ≡ p)
leaves_same p (Ok a) = tt
leaves_same p (Err c) = refl

pub plain_count : (t : Top) (ns : List (List ℕ × Value)) (f : Form) (pairs : List (List TopElem × List TopElem)) → keeps_list f ≡ false → is_kept_count t ns f pairs ≡ true → ⊥
plain_count t ns (form.Fullsize m n) pairs h e = false≢true (sym h)
plain_count t ns f pairs h e = false≢true e

-- A form that gives a name is one of them.
pub naming_is_plain : (f : Form) (name : Name) → (demands f).gives ≡ Some name → keeps_list f ≡ false
naming_is_plain (form.Isogenous m n) name h = absurd (none-some name h)
naming_is_plain (form.Full m n) name h = absurd (none-some name h)
naming_is_plain (form.Fullsize m n) name h = absurd (none-some name h)
naming_is_plain f name h = refl

-- The operands of a count for two names are made of nothing, and it gives no name.
pub count_names : (t : Top) (ns : List (List ℕ × Value)) (f : Form) (pairs : List (List TopElem × List TopElem)) → is_kept_count t ns f pairs ≡ true → has_only_named_modules (demands f) ≡ true
count_names t ns (form.Fullsize m n) pairs h =
    let names : (is_name m && is_name n) ≡ true = (and_parts _ _ h).0 in
    ap₂ (λ a b. not (not a || not b) && true) (and_parts _ _ names).0 (and_parts _ _ names).1
count_names t ns f pairs h = absurd (false≢true h)

pub count_gives_none : (t : Top) (ns : List (List ℕ × Value)) (f : Form) (pairs : List (List TopElem × List TopElem)) → is_kept_count t ns f pairs ≡ true → (demands f).gives ≡ None
count_gives_none t ns (form.Fullsize m n) pairs h = refl
count_gives_none t ns f pairs h = absurd (false≢true h)
