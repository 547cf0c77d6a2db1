-- The lists that are to be modules have at most nine items.
use Rattle.std.specs.Prelude.{◌≤◌, IfSome, length, ⊤}
use Rattle.script_lang.specs.declared.ModArg.{ModArg}
use Rattle.script_lang.specs.declared.ModArg.TheVariants as module_operand
use Rattle.statement_operands.specs.Demands.{Demands}

abbrev pub OperandFits : ModArg → Type 0
OperandFits (module_operand.List list) = length list ≤ 9
OperandFits (module_operand.Name n) = ⊤

pub record DemandsFit (d : Demands) : Type 0 where
  pub phi_fits : IfSome d.phi OperandFits
  pub psi_fits : IfSome d.psi OperandFits
  pub list_fits : IfSome d.list (λ list. length list ≤ 9)
