-- Operands that are modules with names, whose values are there already.
use Rattle.std.specs.Prelude.{◌&&◌, ◌||◌, not, Bool, true, false, is_some}
use Rattle.script_lang.specs.declared.ModArg.{ModArg}
use Rattle.script_lang.specs.declared.ModArg.TheVariants as module_operand
use Rattle.statement_operands.specs.Asked.{if_some}
use Rattle.statement_operands.specs.Demands.{Demands}

abbrev pub is_name : ModArg → Bool
is_name (module_operand.Name n) = true
is_name (module_operand.List list) = false

-- No operand has to be made: there are modules alone, and they are named.
abbrev pub has_only_named_modules : Demands → Bool
has_only_named_modules d = not (if_some (λ m. not (is_name m)) d.phi || if_some (λ m. not (is_name m)) d.psi) && not (is_some d.u || is_some d.v)
