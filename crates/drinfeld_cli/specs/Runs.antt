-- What the statements of a script do one after another, and what a status says of that.
use Rattle.std.specs.Prelude.{◌≡◌, ℕ, zero, suc, Bool, true, false, Option, Some, List, [], ◌++◌, length, take, codes, slice_get, slice_range}
use Rattle.text_io.specs.Bytes.{with_back}
use Rattle.script_parse.specs.declared.Statement.{Statement}
use Rattle.answer.specs.declared.Answer.{Answer}
use Rattle.answer.specs.Texts.{text_of}
use Rattle.statement_operands.specs.declared.Stop.{Stop}
use Rattle.statement_operands.specs.declared.Stop.TheVariants as stop
use Rattle.session.specs.State.{State, first_state}
use Rattle.session.specs.Steps.{Answers, Stops}
use Rattle.drinfeld_cli.specs.declared.status.Status.{Status}
use Rattle.drinfeld_cli.specs.declared.status.Status.TheVariants.{Done, Size, Meaning, NoMemory, WriteFault}

-- What is written for a statement, from the state before it, its answer and the state after it.
abbrev pub Piece : Type 0
Piece = State → Statement → Answer → State → List ℕ

-- What stands before the text of an answer: nothing, or, where lines are echoed, the statement's line in the bytes
-- of the script, without what ends it.
abbrev pub echo_text : Bool → List ℕ → Statement → List ℕ
echo_text false bytes s = []
echo_text true bytes s = codes "> " ++ slice_range bytes s.start s.stop ++ codes "\n"

-- The line, where it is echoed, and the text of the answer, its elements read in the field after the statement.
abbrev pub piece_of : Bool → List ℕ → Piece
piece_of echo bytes st s a next = echo_text echo bytes s ++ text_of next.field a

-- A statement is answered with this text, and leaves this state.
pub record IsAnswered (piece : Piece) (st : State) (s : Statement) (text : List ℕ) (next : State) : Type 0 where
  pub answer : Answer
  pub answers : Answers st s.form answer next
  pub text_is : text ≡ piece st s answer next

-- The statement at place `k` goes on from what those before it did.
pub record GoesOn (piece : Piece) (Before : List ℕ → State → Type 0) (list : List Statement) (k : ℕ) (text : List ℕ) (st : State) : Type 0 where
  pub before : List ℕ
  pub middle : State
  pub ran : Before before middle
  pub statement : Statement
  pub at_place : slice_get list k ≡ Some statement
  pub last : List ℕ
  pub answered : IsAnswered piece middle statement last st
  pub joined : text ≡ before ++ last

-- The first `k` statements are answered with this text, and leave this state.
abbrev pub Runs : Piece → List Statement → ℕ → List ℕ → State → Type 0
Runs piece list zero text st = (text ≡ []) × (st ≡ first_state)
Runs piece list (suc k) text st = GoesOn piece (Runs piece list k) list k text st

-- The first `k` statements were answered, and their texts written.
pub record HasRun (piece : Piece) (list : List Statement) (k : ℕ) (st : State) (before after : Option (List ℕ)) : Type 0 where
  pub text : List ℕ
  pub runs : Runs piece list k text st
  pub written : after ≡ with_back before text

-- The statement at place `k`, in this line, stops, once those before it were answered.
pub record IsStopped (piece : Piece) (list : List Statement) (c : Stop) (line : ℕ) (before after : Option (List ℕ)) : Type 0 where
  pub k : ℕ
  pub statement : Statement
  pub at_place : slice_get list k ≡ Some statement
  pub line_is : line ≡ statement.line
  pub state : State
  pub has_run : HasRun piece list k state before after
  pub stops : Stops state statement.form c

-- A front of the text of the statement at place `k` was written, after all texts before it.
pub record IsCut (piece : Piece) (list : List Statement) (before after : Option (List ℕ)) : Type 0 where
  pub k : ℕ
  pub text : List ℕ
  pub state : State
  pub runs : Runs piece list k text state
  pub last : List ℕ
  pub next : State
  pub goes_on : Runs piece list (suc k) (text ++ last) next
  pub count : ℕ
  pub written : after ≡ with_back before (text ++ take count last)

-- The status of a stop at a statement of this line.
abbrev pub status_of : Stop → ℕ → Status
status_of (stop.Meaning kind) line = Meaning kind line
status_of (stop.Size which) line = Size which line
status_of stop.NoMemory line = NoMemory

-- What a status says of the statements and of what was written.
abbrev pub Ended : Piece → List Statement → Option (List ℕ) → Option (List ℕ) → Type 0 → Status → Type 0
Ended piece list before after failed Done = (st : State) × HasRun piece list (length list) st before after
Ended piece list before after failed (Meaning kind line) = IsStopped piece list (stop.Meaning kind) line before after
Ended piece list before after failed (Size which line) = IsStopped piece list (stop.Size which) line before after
Ended piece list before after failed NoMemory = (k : ℕ) × (st : State) × HasRun piece list k st before after
Ended piece list before after failed WriteFault = failed × IsCut piece list before after
Ended piece list before after failed s = ⊥
