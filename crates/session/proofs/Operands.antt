-- The operands of a form that passes no limit and isn't refused are of the field.
use Rattle.std.proofs.Common.{◌≡◌, ℕ, ◌≤◌, ◌||◌, not, Bool, true, false, Option, Some, None, option_map, List, refl, sym, subst}
use Rattle.std.specs.Prelude.{IfSome, is_some}
use Rattle.std.proofs.lemmas.Bool.{false≢true, or_parts}
use Rattle.std.proofs.lemmas.Option.{none-some}
use Rattle.ring_core.specs.Coeffs.{is_canonical}
use Rattle.ring_core.proofs.Coefficients.{canonical-trim}
use Rattle.residue_field.specs.Top.{Top, ops_of_top}
use Rattle.drinfeld_mod.specs.Module.{IsModule}
use Rattle.drinfeld_mod.proofs.Modules.{module_is}
use Rattle.script_lang.specs.declared.ModArg.{ModArg}
use Rattle.script_lang.specs.declared.ModArg.TheVariants as module_operand
use Rattle.script_lang.specs.declared.OreArg.{OreArg}
use Rattle.script_lang.specs.declared.OreArg.TheVariants as twisted_operand
use Rattle.script_statement.specs.declared.Form.{Form}
use Rattle.answer.specs.declared.Value.{Value}
use Rattle.answer.specs.declared.Value.TheVariants as value
use Rattle.operand_value.specs.Operands.{list_values}
use Rattle.operand_value.proofs.Closed.{top_list_in, top_sum_in}
use Rattle.statement_operands.specs.declared.MeaningKind.TheVariants as meaning
use Rattle.statement_operands.specs.declared.Stop.TheVariants as stop
use Rattle.statement_operands.specs.Asked.{if_some, unknown_module, unknown_twisted, wrong_module, wrong_twisted, unknown_name, wrong_kind}
use Rattle.statement_operands.specs.Demands.{Demands, demands}
use Rattle.statement_operands.specs.Fits.{OperandFits, DemandsFit}
use Rattle.statement_operands.specs.Names.{value_of, is_module, is_twisted}
use Rattle.statement_operands.specs.Ranks.{unranked_module, unranked_list, unranked_operands, unranked}
use Rattle.statement_operands.specs.Resolved.{AreOperands}
use Rattle.statement_operands.specs.Sound.{AreValues}
use Rattle.statement_operands.specs.Values.{as_module, as_twisted, module_value, twisted_value}
use Rattle.statement_operands.proofs.ListCount.{values_count}
use Rattle.statement_operands.proofs.Modules.{told_module}
use Rattle.statement_operands.proofs.SoundNames.{value_in}
use Rattle.statement_work.specs.Refusals.{size_refusal, own_refusal, work_refusal}
use Rattle.statement_work.proofs.Refused.{none_left, none_right, not_when}

-- Neither the lists that are to be modules nor the meaning of a form refuses it.
pub work_free : (t : Top) (ns : List (List ℕ × Value)) (f : Form) → work_refusal t ns f ≡ None → (unranked_operands t (demands f) ≡ false) × (own_refusal t ns f ≡ None)
unfolding work_refusal
work_free t ns f free =
    let later = none_right (size_refusal t ns f) _ free in
    let ranked = not_when (unranked t (demands f)) (stop.Meaning meaning.NoRank) (none_left _ _ later) in
    ((or_parts (if_some (unranked_list t) (demands f).list) (unranked_operands t (demands f)) ranked).1, unmapped _ (none_right _ _ later))
  where
    unmapped : (o : Option _) → option_map (λ k. stop.Meaning k) o ≡ None → o ≡ None
    unmapped None h = refl
    unmapped (Some x) h = absurd (none-some (stop.Meaning x) (sym h))

module _ (t : Top) (ns : List (List ℕ × Value)) (sound : AreValues t ns) where
  module_named : (name : List ℕ) (o : Option Value) → value_of ns name ≡ o → not (is_some o) ≡ false → is_twisted o ≡ false → IsModule (ops_of_top t) (as_module o)
  module_named name None is known kind = absurd (false≢true (sym known))
  module_named name (Some (value.Module phi)) is known kind = told_module (ops_of_top t) phi (value_in t ns name (value.Module phi) sound is)
  module_named name (Some (value.Ore u)) is known kind = absurd (false≢true (sym kind))

  module_in : (m : ModArg) → unknown_module ns m ≡ false → wrong_module ns m ≡ false → OperandFits m → unranked_module t m ≡ false → IsModule (ops_of_top t) (module_value t ns m)
  module_in (module_operand.Name n) known kind fits ranked = module_named n.bytes (value_of ns n.bytes) refl known kind
  module_in (module_operand.List list) known kind fits ranked =
      module_is (ops_of_top t) (list_values t list) (top_list_in t list) ranked (subst (λ n. n ≤ 9) (sym (values_count t list)) fits)

  twisted_named : (name : List ℕ) (o : Option Value) → value_of ns name ≡ o → not (is_some o) ≡ false → is_module o ≡ false → is_canonical (ops_of_top t) (as_twisted o) ≡ true
  twisted_named name None is known kind = absurd (false≢true (sym known))
  twisted_named name (Some (value.Module phi)) is known kind = absurd (false≢true (sym kind))
  twisted_named name (Some (value.Ore u)) is known kind = value_in t ns name (value.Ore u) sound is

  twisted_in : (u : OreArg) → unknown_twisted ns u ≡ false → wrong_twisted ns u ≡ false → is_canonical (ops_of_top t) (twisted_value t ns u) ≡ true
  twisted_in (twisted_operand.Name n) known kind = twisted_named n.bytes (value_of ns n.bytes) refl known kind
  twisted_in (twisted_operand.List list) known kind = canonical-trim (ops_of_top t) (list_values t list) (top_list_in t list)
  twisted_in (twisted_operand.Terms s) known kind = top_sum_in t s

  some_module : (o : Option ModArg) → if_some (unknown_module ns) o ≡ false → if_some (wrong_module ns) o ≡ false → IfSome o OperandFits → if_some (unranked_module t) o ≡ false
      → IfSome o (λ m. IsModule (ops_of_top t) (module_value t ns m))
  some_module None known kind fits ranked = tt
  some_module (Some m) known kind fits ranked = module_in m known kind fits ranked

  some_twisted : (o : Option OreArg) → if_some (unknown_twisted ns) o ≡ false → if_some (wrong_twisted ns) o ≡ false
      → IfSome o (λ u. is_canonical (ops_of_top t) (twisted_value t ns u) ≡ true)
  some_twisted None known kind = tt
  some_twisted (Some u) known kind = twisted_in u known kind

  pub form_operands : (d : Demands) → unknown_name ns d ≡ false → wrong_kind ns d ≡ false → DemandsFit d → unranked_operands t d ≡ false → AreOperands t ns d
  form_operands d known kind fits ranked =
      let all = or_parts _ (if_some _ d.shown) known in
      let k = four _ _ _ _ all.0 in
      let w = four _ _ _ _ kind in
      let r = or_parts (if_some (unranked_module t) d.phi) (if_some (unranked_module t) d.psi) ranked in
      record {
        phi = some_module d.phi k.0 w.0 fits.phi_fits r.0;
        psi = some_module d.psi k.1 w.1 fits.psi_fits r.1;
        u = some_twisted d.u k.2 w.2;
        v = some_twisted d.v k.3 w.3;
      }
    where
      four : (a b c d : Bool) → (a || b || c || d) ≡ false → (a ≡ false) × (b ≡ false) × (c ≡ false) × (d ≡ false)
      four true b c d h = absurd (false≢true (sym h))
      four false true c d h = absurd (false≢true (sym h))
      four false false true d h = absurd (false≢true (sym h))
      four false false false true h = absurd (false≢true (sym h))
      four false false false false h = (refl, refl, refl, refl)
