-- What a line says within these limits, after so many statements and names.
use Rattle.std.specs.Prelude.{◌≡◌, ℕ, true, false, Some, None, List}
use Rattle.script_statement.specs.declared.Form.{Form}
use Rattle.script_parse.specs.declared.size.SizeKind.{SizeKind}
use Rattle.script_lang.specs.declared.Token.{Token}
use Rattle.script_lang.specs.Lines.{is_blank, content}
use Rattle.script_statement.specs.declared.Verb.{Verb}
use Rattle.script_statement.specs.Statements.{IsVerb, IsOperands}
use Rattle.script_parse.specs.declared.line.Line.{Line}
use Rattle.script_parse.specs.declared.line.Line.TheVariants as line
use Rattle.script_parse.specs.Exact.{IsExact, StandsFor}
use Rattle.script_parse.specs.Version.{Limits}
use Rattle.script_parse.specs.Limits.{line_limit, gives_name}

-- A line that is no statement is at fault whatever it passes; else its first limit decides.
pub data LineSays : Limits → ℕ → ℕ → List ℕ → Line → Type 0 where
  blank : {limits : Limits} {s g : ℕ} {l : List ℕ} → is_blank l ≡ true → LineSays limits s g l line.Blank
  no_statement : {limits : Limits} {s g : ℕ} {l : List ℕ} → is_blank l ≡ false → ((f : Form) → StandsFor l f → ⊥) → LineSays limits s g l line.Syntax
  too_large : {limits : Limits} {s g : ℕ} {l : List ℕ} {ts us : List Token} {v : Verb} {f : Form} {k : SizeKind} → is_blank l ≡ false → IsExact (content l) ts → IsVerb ts v us
      → IsOperands v us f → line_limit limits s g v us ≡ Some k → LineSays limits s g l (line.Size k)
  statement : {limits : Limits} {s g : ℕ} {l : List ℕ} {ts us : List Token} {v : Verb} {f : Form} → is_blank l ≡ false → IsExact (content l) ts → IsVerb ts v us
      → IsOperands v us f → line_limit limits s g v us ≡ None → LineSays limits s g l (line.Says f (gives_name v us))
