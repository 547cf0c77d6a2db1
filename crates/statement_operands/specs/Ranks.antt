-- Lists in the place of modules that are none.
use Rattle.std.specs.Prelude.{◌||◌, Bool, false, List}
use Rattle.residue_field.specs.Top.{Top, ops_of_top}
use Rattle.drinfeld_mod.specs.Make.{has_no_rank}
use Rattle.script_lang.specs.declared.ModArg.{ModArg}
use Rattle.script_lang.specs.declared.ModArg.TheVariants as module_operand
use Rattle.script_lang.specs.declared.Sum.{Sum}
use Rattle.statement_operands.specs.Asked.{if_some}
use Rattle.statement_operands.specs.Demands.{Demands}
use Rattle.operand_value.specs.Operands.{list_values}

-- The list has fewer than two items, or the last has the value zero.
abbrev pub unranked_list : Top → List Sum → Bool
unranked_list t list = has_no_rank (ops_of_top t) (list_values t list)

abbrev pub unranked_module : Top → ModArg → Bool
unranked_module t (module_operand.Name n) = false
unranked_module t (module_operand.List list) = unranked_list t list

abbrev pub unranked_operands : Top → Demands → Bool
unranked_operands t d = if_some (unranked_module t) d.phi || if_some (unranked_module t) d.psi

-- One of the lists that are to be modules is none.
abbrev pub unranked : Top → Demands → Bool
unranked t d = if_some (unranked_list t) d.list || unranked_operands t d
