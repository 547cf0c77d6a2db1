-- The values of operands.
use Rattle.std.specs.Prelude.{ℕ, Option, Some, List, []}
use Rattle.ring_core.specs.Coeffs.{trim}
use Rattle.residue_field.specs.declared.TopElem.{TopElem}
use Rattle.residue_field.specs.Top.{Top, ops_of_top}
use Rattle.script_lang.specs.declared.ModArg.{ModArg}
use Rattle.script_lang.specs.declared.ModArg.TheVariants as module_operand
use Rattle.script_lang.specs.declared.OreArg.{OreArg}
use Rattle.script_lang.specs.declared.OreArg.TheVariants as twisted_operand
use Rattle.answer.specs.declared.Value.{Value}
use Rattle.answer.specs.declared.Value.TheVariants as value
use Rattle.operand_value.specs.Operands.{list_values, twisted_sum}
use Rattle.statement_operands.specs.Names.{value_of}

-- The coefficients of a value, lowest first; none for a value of the other kind.
abbrev pub as_module : Option Value → List TopElem
as_module (Some (value.Module phi)) = phi
as_module v = []

abbrev pub as_twisted : Option Value → List TopElem
as_twisted (Some (value.Ore u)) = u
as_twisted v = []

-- The coefficients of an operand, lowest first.
abbrev pub module_value : Top → List (List ℕ × Value) → ModArg → List TopElem
module_value t ns (module_operand.Name n) = as_module (value_of ns n.bytes)
module_value t ns (module_operand.List list) = list_values t list

abbrev pub twisted_value : Top → List (List ℕ × Value) → OreArg → List TopElem
twisted_value t ns (twisted_operand.Name n) = as_twisted (value_of ns n.bytes)
twisted_value t ns (twisted_operand.List list) = trim (ops_of_top t) (list_values t list)
twisted_value t ns (twisted_operand.Terms s) = twisted_sum t s
