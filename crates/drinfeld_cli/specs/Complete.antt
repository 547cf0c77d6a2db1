-- Which statuses are left where nothing failed.
use Rattle.std.specs.Prelude.{◌≡◌, ℕ, ◌≤◌, ◌⊎◌, Option, Some, None, List, length, slice_get, IfSome}
use Rattle.text_io.specs.Bytes.{with_back}
use Rattle.command_words.specs.declared.Options.{Options}
use Rattle.sample_script.specs.Sample.{sample_text}
use Rattle.script_parse.specs.declared.Statement.{Statement}
use Rattle.script_parse.specs.Version.{version_1}
use Rattle.script_parse.specs.Scripts.{IsScriptOf}
use Rattle.statement_operands.specs.declared.Stop.{Stop}
use Rattle.session.specs.State.{State}
use Rattle.session.specs.Steps.{Stops}
use Rattle.drinfeld_cli.specs.declared.status.Status.{Status}
use Rattle.drinfeld_cli.specs.declared.status.Status.TheVariants.{Done, NoMemory}
use Rattle.drinfeld_cli.specs.Runs.{Piece, piece_of, Runs, status_of}
use Rattle.drinfeld_cli.specs.Run.{Traffic}

-- The stop of a script: its statement at place `k` stops, and those before it are answered.
pub record IsStop (piece : Piece) (list : List Statement) (c : Stop) (line : ℕ) : Type 0 where
  pub k : ℕ
  pub statement : Statement
  pub at_place : slice_get list k ≡ Some statement
  pub line_is : line ≡ statement.line
  pub text : List ℕ
  pub state : State
  pub runs : Runs piece list k text state
  pub stops : Stops state statement.form c

-- All statements are answered, and exactly their text is written.
pub record IsDone (piece : Piece) (list : List Statement) (before after : Option (List ℕ)) : Type 0 where
  pub text : List ℕ
  pub state : State
  pub runs : Runs piece list (length list) text state
  pub written : after ≡ with_back before text

-- This holds of the bytes of the script: of the sample, or of what comes, where the source tells it and no read fails.
abbrev pub IfScript : Option ℕ → Option (List ℕ) → Type 0 → (List ℕ → Type 0) → Type 0
IfScript (Some n) coming read_failed P = P (sample_text n)
IfScript None coming read_failed P = (read_failed → ⊥) → IfSome coming P

-- What is left for a script without a stop.
abbrev pub IsComplete : Options → Traffic → Status → Type 0
IsComplete o t s =
    IfScript o.sample t.coming t.read_failed (λ bytes. (list : List Statement) → IsScriptOf bytes list → length bytes ≤ version_1.script
    → ((c : Stop) (line : ℕ) → IsStop (piece_of o.echo bytes) list c line → ⊥) → (t.write_failed → ⊥)
    → ((s ≡ Done) × IsDone (piece_of o.echo bytes) list t.before t.after) ⊎ (s ≡ NoMemory))

-- What is left for a script that stops.
abbrev pub IsCompleteStop : Options → Traffic → Status → Type 0
IsCompleteStop o t s =
    IfScript o.sample t.coming t.read_failed (λ bytes. (list : List Statement) (c : Stop) (line : ℕ) → IsScriptOf bytes list → length bytes ≤ version_1.script
    → IsStop (piece_of o.echo bytes) list c line → (t.write_failed → ⊥) → (s ≡ status_of c line) ⊎ (s ≡ NoMemory))
