-- The exit status and the line on the sink of errors that each status has.
use Rattle.std.specs.Prelude.{ℕ, zero, suc, Option, Some, None, List, [], ◌++◌, codes, decimal}
use Rattle.script_parse.specs.declared.SizeKind.{SizeKind}
use Rattle.script_parse.specs.declared.SizeKind.TheVariants as size
use Rattle.statement_operands.specs.declared.MeaningKind.{MeaningKind}
use Rattle.statement_operands.specs.declared.MeaningKind.TheVariants as meaning
use Rattle.drinfeld_cli.specs.declared.status.Status.{Status}
use Rattle.drinfeld_cli.specs.declared.status.Status.TheVariants.{Done, Words, Syntax, Size, Meaning, NoMemory, ReadFault, WriteFault}

abbrev pub code_of : Status → ℕ
code_of Done = 0
code_of Words = 2
code_of (Syntax line) = 3
code_of (Size which line) = 4
code_of (Meaning kind line) = 5
code_of NoMemory = 6
code_of ReadFault = 7
code_of WriteFault = 8

abbrev pub size_text : SizeKind → List ℕ
size_text size.Script = codes "too large: script\n"
size_text size.Statements = codes "too large: statements\n"
size_text size.Names = codes "too large: names\n"
size_text size.Name = codes "too large: name\n"
size_text size.Number = codes "too large: number\n"
size_text size.Exponent = codes "too large: exponent\n"
size_text size.Prime = codes "too large: prime\n"
size_text size.Base = codes "too large: base\n"
size_text size.Top = codes "too large: top\n"
size_text size.Rank = codes "too large: rank\n"
size_text size.Degree = codes "too large: degree\n"
size_text size.Image = codes "too large: image\n"
size_text size.Bound = codes "too large: bound\n"

abbrev pub meaning_text : MeaningKind → List ℕ
meaning_text meaning.FieldMissing = codes "no field yet\n"
meaning_text meaning.FieldSet = codes "the field is already set\n"
meaning_text meaning.BadModulus = codes "the modulus is not monic of the stated degree\n"
meaning_text meaning.BaseReducible = codes "the modulus of the base is reducible\n"
meaning_text meaning.TopReducible = codes "the modulus of the top is reducible\n"
meaning_text meaning.UnknownName = codes "unknown name\n"
meaning_text meaning.WrongKind = codes "wrong kind of name\n"
meaning_text meaning.NameTaken = codes "the name is taken\n"
meaning_text meaning.NoRank = codes "not a module\n"
meaning_text meaning.ZeroDivisor = codes "division by zero\n"
meaning_text meaning.OtherConstant = codes "the constants differ\n"
meaning_text meaning.NoInvariant = codes "no such invariant\n"

-- The text of the fault with a line feed; where all was answered there is none.
abbrev pub cause_text : Status → List ℕ
cause_text Done = []
cause_text Words = codes "words refused\n"
cause_text (Syntax line) = codes "not a statement\n"
cause_text (Size which line) = size_text which
cause_text (Meaning kind line) = meaning_text kind
cause_text NoMemory = codes "out of memory\n"
cause_text ReadFault = codes "read failed\n"
cause_text WriteFault = codes "write failed\n"

-- The line that is to blame; no line has the number 0.
abbrev pub line_of : Status → Option ℕ
line_of (Syntax line) = Some line
line_of (Size which zero) = None
line_of (Size which (suc line)) = Some (suc line)
line_of (Meaning kind line) = Some line
line_of s = None

-- A text behind the line that is to blame, where there is one.
abbrev pub at_line : Option ℕ → List ℕ → List ℕ
at_line None text = text
at_line (Some line) text = (codes "line " ++ decimal line) ++ (codes ": " ++ text)

-- What is written to the sink of errors.
abbrev pub fault_text : Status → List ℕ
fault_text s = at_line (line_of s) (cause_text s)
