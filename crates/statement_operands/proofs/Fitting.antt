-- The lists of a form that passes no limit fit.
use Rattle.script_lang.specs.declared.ModArg.{ModArg}
use Rattle.script_lang.specs.declared.ModArg.TheVariants as module_operand
use Rattle.script_parse.specs.Version.{version_1}
use Rattle.script_parse.specs.Within.{IsWithin, ModuleWithin}
use Rattle.script_statement.specs.declared.Form.{Form}
use Rattle.script_statement.specs.declared.Form.TheVariants as form
use Rattle.statement_operands.specs.Demands.{demands}
use Rattle.statement_operands.specs.Fits.{OperandFits, DemandsFit}

operand_fits : (m : ModArg) → ModuleWithin version_1 m → OperandFits m
operand_fits (module_operand.List list) within = within
operand_fits (module_operand.Name n) within = tt

pub demands_fit : (f : Form) → IsWithin version_1 f → DemandsFit (demands f)
demands_fit (form.Base p s modulus) within = record { phi_fits = tt; psi_fits = tt; list_fits = tt }
demands_fit (form.Over n modulus) within = record { phi_fits = tt; psi_fits = tt; list_fits = tt }
demands_fit (form.Module name list) within = record { phi_fits = tt; psi_fits = tt; list_fits = within }
demands_fit (form.Ore name u) within = record { phi_fits = tt; psi_fits = tt; list_fits = tt }
demands_fit (form.Show name) within = record { phi_fits = tt; psi_fits = tt; list_fits = tt }
demands_fit (form.Rank m) within = record { phi_fits = operand_fits m within; psi_fits = tt; list_fits = tt }
demands_fit (form.Char m) within = record { phi_fits = operand_fits m within; psi_fits = tt; list_fits = tt }
demands_fit (form.Height m) within = record { phi_fits = operand_fits m within; psi_fits = tt; list_fits = tt }
demands_fit (form.Ordinary m) within = record { phi_fits = operand_fits m within; psi_fits = tt; list_fits = tt }
demands_fit (form.Supersingular m) within = record { phi_fits = operand_fits m within; psi_fits = tt; list_fits = tt }
demands_fit (form.J m k) within = record { phi_fits = operand_fits m within; psi_fits = tt; list_fits = tt }
demands_fit (form.Image m a name) within = record { phi_fits = operand_fits m within.0; psi_fits = tt; list_fits = tt }
demands_fit (form.Add u v name) within = record { phi_fits = tt; psi_fits = tt; list_fits = tt }
demands_fit (form.Sub u v name) within = record { phi_fits = tt; psi_fits = tt; list_fits = tt }
demands_fit (form.Mul u v name) within = record { phi_fits = tt; psi_fits = tt; list_fits = tt }
demands_fit (form.Rdiv u v) within = record { phi_fits = tt; psi_fits = tt; list_fits = tt }
demands_fit (form.Ldiv u v) within = record { phi_fits = tt; psi_fits = tt; list_fits = tt }
demands_fit (form.Common u v) within = record { phi_fits = tt; psi_fits = tt; list_fits = tt }
demands_fit (form.Multiple u v) within = record { phi_fits = tt; psi_fits = tt; list_fits = tt }
demands_fit (form.Check m n u) within = record { phi_fits = operand_fits m within.0; psi_fits = operand_fits n within.1; list_fits = tt }
demands_fit (form.Quotient m u name) within = record { phi_fits = operand_fits m within.0; psi_fits = tt; list_fits = tt }
demands_fit (form.Iso m n) within = record { phi_fits = operand_fits m within.0; psi_fits = operand_fits n within.1; list_fits = tt }
demands_fit (form.Isogenous m n) within = record { phi_fits = operand_fits m within.0; psi_fits = operand_fits n within.1; list_fits = tt }
demands_fit (form.Bounded m n d) within = record { phi_fits = operand_fits m within.0; psi_fits = operand_fits n within.1; list_fits = tt }
demands_fit (form.Full m n) within = record { phi_fits = operand_fits m within.0; psi_fits = operand_fits n within.1; list_fits = tt }
demands_fit (form.Fullsize m n) within = record { phi_fits = operand_fits m within.0; psi_fits = operand_fits n within.1; list_fits = tt }
demands_fit (form.Motive m u) within = record { phi_fits = operand_fits m within.0; psi_fits = tt; list_fits = tt }
demands_fit (form.Frob m) within = record { phi_fits = operand_fits m within; psi_fits = tt; list_fits = tt }
demands_fit (form.Frobpower m) within = record { phi_fits = operand_fits m within; psi_fits = tt; list_fits = tt }
