-- Whether a module has a height is told of the operand that has the module as its value.
use Rattle.std.proofs.Common.{◌≡◌, ℕ, false, Some, None, option_map, List, sym, ap, subst}
use Rattle.std.specs.Option.{option_or}
use Rattle.residue_field.specs.declared.TopElem.{TopElem}
use Rattle.residue_field.specs.Top.{Top}
use Rattle.drinfeld_mod.specs.Module.{rank_of}
use Rattle.script_lang.specs.declared.ModArg.{ModArg}
use Rattle.script_lang.proofs.Equal.{same_some}
use Rattle.script_statement.specs.declared.Form.{Form}
use Rattle.script_statement.specs.declared.Form.TheVariants as form
use Rattle.answer.specs.declared.Answer.{Answer}
use Rattle.answer.specs.declared.Value.{Value}
use Rattle.statement_operands.specs.declared.MeaningKind.TheVariants as meaning
use Rattle.statement_operands.specs.declared.Stop.TheVariants as stop
use Rattle.statement_operands.specs.Demands.{demands}
use Rattle.statement_operands.specs.Ranks.{unranked_operands}
use Rattle.statement_operands.specs.Values.{module_value}
use Rattle.statement_work.specs.Refusals.{when, work_refusal}
use Rattle.statement_work.specs.Works.{IsTruth, IsItsHeight, Works}

module _ (t : Top) (ns : List (List ℕ × Value)) (m : ModArg) (phi : List TopElem) (a : Answer) where
  abbrev Told : Form → Type 0
  Told f = Some phi ≡ option_map (module_value t ns) (demands f).phi → unranked_operands t (demands f) ≡ false → (work_refusal t ns f ≡ None) × Works t ns f a

  pub ordinary_told : (f : Form) → f ≡ form.Ordinary m → IsTruth a (IsItsHeight t phi 1) → Told f
  unfolding work_refusal
  ordinary_told f is truth =
      subst Told (sym is) (λ same ranked.
      (ap (λ b. option_or (when b (stop.Meaning meaning.NoRank)) None) ranked, subst (λ x. IsTruth a (IsItsHeight t x 1)) (same_some same) truth))

  pub supersingular_told : (f : Form) → f ≡ form.Supersingular m → IsTruth a (IsItsHeight t phi (rank_of phi)) → Told f
  unfolding work_refusal
  supersingular_told f is truth =
      subst Told (sym is) (λ same ranked.
      (ap (λ b. option_or (when b (stop.Meaning meaning.NoRank)) None) ranked, subst (λ x. IsTruth a (IsItsHeight t x (rank_of x))) (same_some same) truth))
