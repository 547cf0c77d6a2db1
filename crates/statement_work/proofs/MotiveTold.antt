-- Motive coordinates are told of the operands that have the module and the twisted polynomial as their values.
use Rattle.std.proofs.Common.{◌≡◌, ℕ, false, Some, None, option_map, List, sym, ap, ap₂, subst}
use Rattle.std.specs.Option.{option_or}
use Rattle.residue_field.specs.declared.TopElem.{TopElem}
use Rattle.residue_field.specs.Top.{Top, ops_of_top, frob_of_top}
use Rattle.motive_coords.specs.Motive.{IsMotive}
use Rattle.script_lang.specs.declared.ModArg.{ModArg}
use Rattle.script_lang.specs.declared.OreArg.{OreArg}
use Rattle.script_lang.proofs.Equal.{same_some}
use Rattle.script_statement.specs.declared.Form.{Form}
use Rattle.script_statement.specs.declared.Form.TheVariants as form
use Rattle.answer.specs.declared.Answer.{Answer}
use Rattle.answer.specs.declared.Answer.TheVariants as answer
use Rattle.answer.specs.declared.Value.{Value}
use Rattle.statement_operands.specs.declared.MeaningKind.TheVariants as meaning
use Rattle.statement_operands.specs.declared.Stop.TheVariants as stop
use Rattle.statement_operands.specs.Demands.{demands}
use Rattle.statement_operands.specs.Ranks.{unranked_operands}
use Rattle.statement_operands.specs.Values.{module_value, twisted_value}
use Rattle.statement_work.specs.Refusals.{when, work_refusal}
use Rattle.statement_work.specs.Works.{Works}

module _ (t : Top) (a : Answer) where
  abbrev IsMotiveAnswer : List TopElem × List TopElem → Type 0
  IsMotiveAnswer p = (list : List (List TopElem)) × (a ≡ answer.Motive list) × IsMotive (ops_of_top t) (frob_of_top t).frob p.0 p.1 list

  abbrev Told : List (List ℕ × Value) → List TopElem → List TopElem → Form → Type 0
  Told ns phi u f =
      Some phi ≡ option_map (module_value t ns) (demands f).phi → Some u ≡ option_map (twisted_value t ns) (demands f).u → unranked_operands t (demands f) ≡ false
      → (work_refusal t ns f ≡ None) × Works t ns f a

  pub motive_told : (ns : List (List ℕ × Value)) (m : ModArg) (v : OreArg) (phi u : List TopElem) (f : Form) → f ≡ form.Motive m v → IsMotiveAnswer (phi, u) → Told ns phi u f
  unfolding work_refusal
  motive_told ns m v phi u f is motive =
      subst (Told ns phi u) (sym is) (λ same_module same_twisted ranked. (
        ap (λ b. option_or (when b (stop.Meaning meaning.NoRank)) None) ranked,
        subst IsMotiveAnswer (ap₂ (λ x y. (x, y)) (same_some same_module) (same_some same_twisted)) motive,
      ))
