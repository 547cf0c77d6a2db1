-- What a session keeps.
use Rattle.std.specs.Prelude.{ℕ, List, []}
use Rattle.residue_field.specs.declared.TopElem.{TopElem}
use Rattle.answer.specs.declared.FieldState.{FieldState}
use Rattle.answer.specs.declared.FieldState.TheVariants as field
use Rattle.answer.specs.declared.Value.{Value}

-- Its field, and its names with their values in order of definition.
pub record State : Type 0 where
  pub field : FieldState
  pub names : List (List ℕ × Value)

abbrev pub first_state : State
first_state = record { field = field.Nothing; names = [] }

-- Its state, and the pairs of modules whose full lists it keeps, the oldest first.
pub record Seen : Type 0 where
  pub state : State
  pub pairs : List (List TopElem × List TopElem)
