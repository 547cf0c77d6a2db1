-- Operands that are resolved are of the field.
use Rattle.std.proofs.Common.{◌≡◌, ℕ, Option, Some, None, option_map, List, true, sym, subst}
use Rattle.std.specs.Prelude.{IfSome}
use Rattle.std.proofs.lemmas.Option.{none-some}
use Rattle.ring_core.specs.Coeffs.{is_canonical}
use Rattle.residue_field.specs.Top.{Top, ops_of_top}
use Rattle.drinfeld_mod.specs.Module.{IsModule}
use Rattle.script_lang.proofs.Equal.{same_some}
use Rattle.answer.specs.declared.Value.{Value}
use Rattle.statement_operands.specs.declared.operands.Operands.{Operands}
use Rattle.statement_operands.specs.Demands.{Demands}
use Rattle.statement_operands.specs.Resolved.{held, AreResolved, AreOperands}

-- what holds of each value holds of the operand that it is the value of
moved : {A B C : Type 0} (g : A → C) (h : B → C) (P : C → Type 0) (x : Option A) (y : Option B) → option_map g x ≡ option_map h y → IfSome x (λ a. P (g a)) → IfSome y (λ b. P (h b))
moved g h P None None e p = tt
moved g h P None (Some b) e p = absurd (none-some (h b) e)
moved g h P (Some a) None e p = absurd (none-some (g a) (sym e))
moved g h P (Some a) (Some b) e p = subst P (same_some e) p

pub operands_in : (t : Top) (ns : List (List ℕ × Value)) (d : Demands) (o : Operands) → AreResolved t ns d o → AreOperands t ns d
operands_in t ns d o a = record {
  phi = moved held _ (IsModule (ops_of_top t)) o.phi d.phi a.phi_is a.phi_in;
  psi = moved held _ (IsModule (ops_of_top t)) o.psi d.psi a.psi_is a.psi_in;
  u = moved held _ (λ u. is_canonical (ops_of_top t) u ≡ true) o.u d.u a.u_is a.u_in;
  v = moved held _ (λ u. is_canonical (ops_of_top t) u ≡ true) o.v d.v a.v_is a.v_in;
}
