-- The outcomes of a statement in a state.
use Rattle.std.specs.Prelude.{◌≡◌, ◌⊎◌}
use Rattle.script_statement.specs.declared.Form.{Form}
use Rattle.answer.specs.declared.Answer.{Answer}
use Rattle.statement_operands.specs.declared.Stop.{Stop}
use Rattle.session.specs.State.{State}
use Rattle.session.specs.Steps.{Answers, Stops}

-- At most one answer, at most one stop, and never both.
pub record OneOutcome : Type 0 where
  pub one_answer : (st : State) (f : Form) (a b : Answer) (m n : State) → Answers st f a m → Answers st f b n → (a ≡ b) × (m ≡ n)
  pub one_stop : (st : State) (f : Form) (c d : Stop) → Stops st f c → Stops st f d → c ≡ d
  pub apart : (st : State) (f : Form) (a : Answer) (n : State) (c : Stop) → Answers st f a n → Stops st f c → ⊥

-- The statement stops, or is answered.
abbrev pub HasOutcome : State → Form → Type 0
HasOutcome st f = ((c : Stop) × Stops st f c) ⊎ ((a : Answer) × ((next : State) × Answers st f a next))
