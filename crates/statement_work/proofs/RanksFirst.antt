-- A list in the place of a module that is none refuses a form before its own meaning does, and no form
-- with such an operand has a size that its values show.
use Rattle.std.proofs.Common.{◌≡◌, ◌≢◌, ◌||◌, ℕ, Bool, true, false, Some, None, option_map, List, Result, Ok, Err, refl, sym, ap, ap₂, ◌∙◌}
use Rattle.std.specs.Prelude.{IfOk}
use Rattle.std.specs.Option.{option_or}
use Rattle.std.proofs.lemmas.Bool.{false≢true}
use Rattle.residue_field.specs.Top.{Top}
use Rattle.script_statement.specs.declared.Form.{Form}
use Rattle.script_statement.specs.declared.Form.TheVariants as form
use Rattle.answer.specs.declared.Value.{Value}
use Rattle.statement_operands.specs.declared.MeaningKind.TheVariants as meaning
use Rattle.statement_operands.specs.declared.Stop.{Stop}
use Rattle.statement_operands.specs.declared.Stop.TheVariants as stop
use Rattle.statement_operands.specs.Asked.{if_some}
use Rattle.statement_operands.specs.Demands.{Demands, demands}
use Rattle.statement_operands.specs.Ranks.{unranked_list, unranked_operands}
use Rattle.statement_work.specs.Refusals.{when, size_refusal, own_refusal, work_refusal}

no_size : (t : Top) (ns : List (List ℕ × Value)) (f : Form) → unranked_operands t (demands f) ≡ true → size_refusal t ns f ≡ None
no_size t ns (form.Mul u v name) h = absurd (false≢true h)
no_size t ns f h = refl

or_right : (a b : Bool) → b ≡ true → (a || b) ≡ true
or_right true b h = refl
or_right false b h = h

rank_first : (t : Top) (ns : List (List ℕ × Value)) (f : Form) → unranked_operands t (demands f) ≡ true → work_refusal t ns f ≡ Some (stop.Meaning meaning.NoRank)
unfolding work_refusal
rank_first t ns f h =
    ap₂ (λ a b. option_or a (option_or (when b (stop.Meaning meaning.NoRank)) (option_map (λ k. stop.Meaning k) (own_refusal t ns f))))
    (no_size t ns f h) (or_right (if_some (unranked_list t) (demands f).list) (unranked_operands t (demands f)) h)

-- What an operand is refused for is what refuses the form.
pub stop_first : (t : Top) (ns : List (List ℕ × Value)) (f : Form) (d : Demands) (c : Stop) → d ≡ demands f
    → (c ≢ stop.NoMemory → (c ≡ stop.Meaning meaning.NoRank) × (unranked_operands t d ≡ true)) → c ≢ stop.NoMemory → work_refusal t ns f ≡ Some c
stop_first t ns f d c asked refused other =
    let both = refused other in
    rank_first t ns f (ap (unranked_operands t) (sym asked) ∙ both.1) ∙ ap Some (sym both.0)

pub on_ok : {A X : Type 0} {P : Type 0} (r : Result A X) → P → IfOk r (λ a. P)
on_ok (Ok a) p = p
on_ok (Err e) p = tt
