-- The values of the operands of a form.
use Rattle.std.specs.Prelude.{◌≡◌, ℕ, option_map, List, true, IfSome}
use Rattle.ring_core.specs.Coeffs.{is_canonical}
use Rattle.residue_field.specs.Top.{Top, ops_of_top}
use Rattle.drinfeld_mod.specs.Module.{IsModule}
use Rattle.answer.specs.declared.Value.{Value}
use Rattle.statement_operands.specs.declared.operands.Held.{Held}
use Rattle.statement_operands.specs.declared.operands.Held.TheVariants.{Kept, Made}
use Rattle.statement_operands.specs.declared.operands.Operands.{Operands}
use Rattle.statement_operands.specs.Demands.{Demands}
use Rattle.statement_operands.specs.Values.{module_value, twisted_value}

abbrev pub held : {T : Type 0} → Held T → T
held (Kept x) = x.now
held (Made x) = x

-- What each operand is, and that it is a module or a twisted polynomial over the field.
pub record AreResolved (t : Top) (ns : List (List ℕ × Value)) (d : Demands) (o : Operands) : Type 0 where
  pub phi_is : option_map held o.phi ≡ option_map (module_value t ns) d.phi
  pub psi_is : option_map held o.psi ≡ option_map (module_value t ns) d.psi
  pub u_is : option_map held o.u ≡ option_map (twisted_value t ns) d.u
  pub v_is : option_map held o.v ≡ option_map (twisted_value t ns) d.v
  pub phi_in : IfSome o.phi (λ h. IsModule (ops_of_top t) (held h))
  pub psi_in : IfSome o.psi (λ h. IsModule (ops_of_top t) (held h))
  pub u_in : IfSome o.u (λ h. is_canonical (ops_of_top t) (held h) ≡ true)
  pub v_in : IfSome o.v (λ h. is_canonical (ops_of_top t) (held h) ≡ true)

-- The operands of a form have values: modules and twisted polynomials over the field.
pub record AreOperands (t : Top) (ns : List (List ℕ × Value)) (d : Demands) : Type 0 where
  pub phi : IfSome d.phi (λ m. IsModule (ops_of_top t) (module_value t ns m))
  pub psi : IfSome d.psi (λ m. IsModule (ops_of_top t) (module_value t ns m))
  pub u : IfSome d.u (λ u. is_canonical (ops_of_top t) (twisted_value t ns u) ≡ true)
  pub v : IfSome d.v (λ u. is_canonical (ops_of_top t) (twisted_value t ns u) ≡ true)
