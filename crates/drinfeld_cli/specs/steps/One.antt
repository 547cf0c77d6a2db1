-- What answering one statement says.
use Rattle.std.specs.Prelude.{◌≡◌, ℕ, Option, List, take, Result, Ok, Err}
use Rattle.text_io.specs.Bytes.{with_back}
use Rattle.script_parse.specs.declared.Statement.{Statement}
use Rattle.statement_operands.specs.declared.Stop.TheVariants as stop
use Rattle.session.specs.State.{State}
use Rattle.session.specs.Steps.{Stops}
use Rattle.drinfeld_cli.specs.declared.program.Halt.{Halt}
use Rattle.drinfeld_cli.specs.declared.program.Halt.TheVariants as halt
use Rattle.drinfeld_cli.specs.Runs.{Piece, IsAnswered}

abbrev pub OneSays : Piece → State → Statement → State → Option (List ℕ) → Option (List ℕ) → Type 0 → Result (Unit {0}) Halt → Type 0
OneSays piece st s next before after failed (Ok x) = (text : List ℕ) × IsAnswered piece st s text next × (after ≡ with_back before text)
OneSays piece st s next before after failed (Err (halt.Stopped stop.NoMemory)) = after ≡ before
OneSays piece st s next before after failed (Err (halt.Stopped c)) = Stops st s.form c × (after ≡ before)
OneSays piece st s next before after failed (Err halt.WriteFault) =
    failed × ((text : List ℕ) × IsAnswered piece st s text next × ((n : ℕ) × (after ≡ with_back before (take n text))))
