-- The script that lines are, and the first line at fault.
use Rattle.std.specs.Prelude.{◌≡◌, ℕ, ◌+◌, ◌-◌, ◌≤◌, Bool, true, false, Some, List, [], ◌∷◌, length, slice_get, slice_range}
use Rattle.std.specs.Str.Lines.{strip_carriage_return}
use Rattle.script_statement.specs.declared.Form.{Form}
use Rattle.script_parse.specs.declared.size.SizeKind.{SizeKind}
use Rattle.script_parse.specs.declared.script.Statement.{Statement}
use Rattle.script_parse.specs.declared.line.Line.TheVariants as line
use Rattle.script_parse.specs.declared.script.Refused.{Refused}
use Rattle.script_parse.specs.declared.script.Refused.TheVariants as refused
use Rattle.script_lang.specs.Lines.{lines}
use Rattle.script_parse.specs.Version.{Limits, version_1}
use Rattle.script_parse.specs.Says.{LineSays}

abbrev pub count : Bool → ℕ
count true = 1
count false = 0

abbrev pub statement_of : ℕ → ℕ → ℕ → Form → Statement
statement_of number start stop f = record { line = number; start = start; stop = stop; form = f }

-- The lines, of which the first has this number and begins at this place, are these statements, after
-- so many statements and names.
pub data IsScript : Limits → ℕ → ℕ → ℕ → ℕ → List (List ℕ) → List Statement → Type 0 where
  no_lines : {limits : Limits} {n at s g : ℕ} → IsScript limits n at s g [] []
  blank_line : {limits : Limits} {n at s g : ℕ} {l : List ℕ} {ls : List (List ℕ)} {list : List Statement} → LineSays limits s g l line.Blank
      → IsScript limits (n + 1) (at + length l + 1) s g ls list → IsScript limits n at s g (l ∷ ls) list
  statement_line : {limits : Limits} {n at s g : ℕ} {l : List ℕ} {ls : List (List ℕ)} {f : Form} {named : Bool} {list : List Statement} → LineSays limits s g l (line.Says f named)
      → IsScript limits (n + 1) (at + length l + 1) (s + 1) (g + count named) ls list
      → IsScript limits n at s g (l ∷ ls) (statement_of n at (at + length (strip_carriage_return l)) f ∷ list)

-- The first line at fault, of lines of which the first has this number.
pub data FirstFault : Limits → ℕ → ℕ → ℕ → List (List ℕ) → Refused → Type 0 where
  syntax_here : {limits : Limits} {n s g : ℕ} {l : List ℕ} {ls : List (List ℕ)} → LineSays limits s g l line.Syntax → FirstFault limits n s g (l ∷ ls) (refused.Syntax n)
  size_here : {limits : Limits} {n s g : ℕ} {l : List ℕ} {ls : List (List ℕ)} {k : SizeKind} → LineSays limits s g l (line.Size k) → FirstFault limits n s g (l ∷ ls) (refused.Size k n)
  after_blank : {limits : Limits} {n s g : ℕ} {l : List ℕ} {ls : List (List ℕ)} {r : Refused} → LineSays limits s g l line.Blank → FirstFault limits (n + 1) s g ls r → FirstFault limits n s g (l ∷ ls) r
  after_statement : {limits : Limits} {n s g : ℕ} {l : List ℕ} {ls : List (List ℕ)} {f : Form} {named : Bool} {r : Refused} → LineSays limits s g l (line.Says f named)
      → FirstFault limits (n + 1) (s + 1) (g + count named) ls r → FirstFault limits n s g (l ∷ ls) r

-- The bytes are a script with these statements.
abbrev pub IsScriptOf : List ℕ → List Statement → Type 0
IsScriptOf bytes list = IsScript version_1 1 0 0 0 (lines bytes) list

-- The bytes are no script, and this is their first fault.
abbrev pub IsFaultOf : List ℕ → Refused → Type 0
IsFaultOf bytes r = FirstFault version_1 1 0 0 (lines bytes) r

-- The statement's places in the bytes are those of the line with its number: what stands from `start` on and
-- before `stop` is that line without its carriage return.
pub record IsPlaceOf (bytes : List ℕ) (s : Statement) : Type 0 where
  pub ordered : s.start ≤ s.stop
  pub inside : s.stop ≤ length bytes
  pub text : List ℕ
  pub is_line : slice_get (lines bytes) (s.line - 1) ≡ Some text
  pub is_text : slice_range bytes s.start s.stop ≡ strip_carriage_return text
