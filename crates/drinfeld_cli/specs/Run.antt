-- What a status of `run` says of what came in and what was written, by cases.
use Rattle.std.specs.Prelude.{◌≡◌, ℕ, ◌<◌, ◌≤◌, ◌⊎◌, Bool, Option, Some, None, List, length, IfSome}
use Rattle.text_io.specs.Bytes.{AtEnd}
use Rattle.command_words.specs.declared.Options.{Options}
use Rattle.script_parse.specs.declared.SizeKind.{SizeKind}
use Rattle.script_parse.specs.declared.SizeKind.TheVariants as size
use Rattle.script_parse.specs.declared.Statement.{Statement}
use Rattle.script_parse.specs.declared.Refused.TheVariants as refused
use Rattle.script_parse.specs.Version.{version_1}
use Rattle.script_parse.specs.Scripts.{IsScriptOf, IsFaultOf}
use Rattle.sample_script.specs.Sample.{sample_text}
use Rattle.drinfeld_cli.specs.declared.status.Status.{Status}
use Rattle.drinfeld_cli.specs.declared.status.Status.TheVariants.{Words, Syntax, Size, NoMemory, ReadFault}
use Rattle.drinfeld_cli.specs.Runs.{piece_of, Ended}

-- The bytes are a script, whose statements ended so.
pub record IsRun (echo : Bool) (bytes : List ℕ) (before after : Option (List ℕ)) (failed : Type 0) (s : Status) : Type 0 where
  pub list : List Statement
  pub script : IsScriptOf bytes list
  pub ended : Ended (piece_of echo bytes) list before after failed s

-- What a status says of the bytes of a script.
abbrev pub OfBytes : Bool → List ℕ → Option (List ℕ) → Option (List ℕ) → Type 0 → Status → Type 0
OfBytes echo bytes before after failed (Syntax line) = IsFaultOf bytes (refused.Syntax line) × (after ≡ before)
OfBytes echo bytes before after failed (Size which line) =
    (IsFaultOf bytes (refused.Size which line) × (after ≡ before)) ⊎ IsRun echo bytes before after failed (Size which line)
OfBytes echo bytes before after failed NoMemory = (after ≡ before) ⊎ IsRun echo bytes before after failed NoMemory
OfBytes echo bytes before after failed s = IsRun echo bytes before after failed s

-- What came in and what was written in one call, where the source and the sink tell it, and whether a
-- read or a write failed.
pub record Traffic : Type 1 where
  pub coming : Option (List ℕ)
  pub left : Option (List ℕ)
  pub before : Option (List ℕ)
  pub after : Option (List ℕ)
  pub read_failed : Type 0
  pub write_failed : Type 0

-- This holds of the bytes of the script: of the sample, where nothing was read, or of what came, where that was read to
-- its end and fits.
abbrev pub OfScript : Option ℕ → Traffic → (List ℕ → Type 0) → Type 0
OfScript (Some n) t P = (t.left ≡ t.coming) × P (sample_text n)
OfScript None t P = AtEnd t.left × IfSome t.coming (λ bytes. (length bytes ≤ version_1.script) × P bytes)

-- More bytes came than a script may have.
abbrev pub IsTooLong : Traffic → SizeKind → ℕ → Type 0
IsTooLong t which line = (which ≡ size.Script) × (line ≡ 0) × IfSome t.coming (λ bytes. version_1.script < length bytes) × (t.after ≡ t.before)

-- What a status says where the command takes the words.
abbrev pub Says : Options → Traffic → Status → Type 0
Says o t Words = ⊥
Says o t ReadFault = (o.sample ≡ None) × t.read_failed × (t.after ≡ t.before)
Says o t NoMemory = (t.after ≡ t.before) ⊎ OfScript o.sample t (λ bytes. IsRun o.echo bytes t.before t.after t.write_failed NoMemory)
Says o t (Size which line) =
    ((o.sample ≡ None) × IsTooLong t which line) ⊎ OfScript o.sample t (λ bytes. OfBytes o.echo bytes t.before t.after t.write_failed (Size which line))
Says o t s = OfScript o.sample t (λ bytes. OfBytes o.echo bytes t.before t.after t.write_failed s)

-- What a status says where the command refuses the words: nothing was read or written.
abbrev pub SaysRefused : Traffic → Status → Type 0
SaysRefused t Words = (t.left ≡ t.coming) × (t.after ≡ t.before)
SaysRefused t NoMemory = (t.left ≡ t.coming) × (t.after ≡ t.before)
SaysRefused t s = ⊥
