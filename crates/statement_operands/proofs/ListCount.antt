-- A list has as many values as sums.
use Rattle.std.proofs.Common.{◌≡◌, List, length}
use Rattle.std.proofs.lemmas.List.{length-map}
use Rattle.residue_field.specs.Top.{Top}
use Rattle.script_lang.specs.declared.Sum.{Sum}
use Rattle.operand_value.specs.Operands.{list_values}

pub values_count : (t : Top) (list : List Sum) → length (list_values t list) ≡ length list
unfolding list_values
values_count t list = length-map list _
