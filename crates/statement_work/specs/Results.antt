-- What answers have for the name of a result.
use Rattle.std.specs.Prelude.{Bool, true, Option, Some, None}
use Rattle.residue_field.specs.Top.{Top}
use Rattle.answer.specs.declared.Answer.{Answer}
use Rattle.answer.specs.declared.Answer.TheVariants as answer
use Rattle.answer.specs.declared.Value.{Value}
use Rattle.answer.specs.declared.Value.TheVariants as value
use Rattle.statement_operands.specs.Sound.{is_value}

-- The value for a new name, if there is one.
abbrev pub named_value : Answer → Option Value
named_value (answer.Named name v) = Some v
named_value (answer.Twisted u) = Some (value.Ore u)
named_value (answer.Quotient phi) = Some (value.Module phi)
named_value a = None

-- What an answer has for a name is over the field.
abbrev pub gives_value : Top → Answer → Bool
gives_value t (answer.Named name v) = is_value t v
gives_value t (answer.Twisted u) = is_value t (value.Ore u)
gives_value t (answer.Quotient phi) = is_value t (value.Module phi)
gives_value t a = true
