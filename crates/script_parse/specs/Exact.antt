-- The tokens of a line where numbers are whole numbers of any size, and the statement that a line is.
use Rattle.std.specs.Prelude.{◌≡◌, ℕ, true, Some, List, [], ◌∷◌}
use Rattle.std.specs.List.{take_while}
use Rattle.std.specs.Char.{is_ascii_digit, is_ascii_alphabetic}
use Rattle.std.specs.Str.Parse.{digits_value}
use Rattle.script_statement.specs.declared.Form.{Form}
use Rattle.script_lang.specs.declared.Sign.{Sign}
use Rattle.script_lang.specs.declared.Token.{Token}
use Rattle.script_lang.specs.declared.Token.TheVariants as token
use Rattle.script_lang.specs.Lines.{is_space, content}
use Rattle.script_lang.specs.Tokens.{sign_of, is_word_byte, word_token, past}
use Rattle.script_statement.specs.Statements.{IsStatement}

-- The bytes are these tokens, where each is as long as it can be and a number holds its whole value.
pub data IsExact : List ℕ → List Token → Type 0 where
  no_bytes : IsExact [] []
  blank_byte : {b : ℕ} {bs : List ℕ} {ts : List Token} → is_space b ≡ true → IsExact bs ts → IsExact (b ∷ bs) ts
  exact_sign : {b : ℕ} {bs : List ℕ} {s : Sign} {ts : List Token} → sign_of b ≡ Some s → IsExact bs ts → IsExact (b ∷ bs) (token.Sign s ∷ ts)
  exact_number : {b : ℕ} {bs : List ℕ} {ts : List Token} → is_ascii_digit b ≡ true → IsExact (past is_ascii_digit (b ∷ bs)) ts
      → IsExact (b ∷ bs) (token.Number (digits_value 10 (take_while is_ascii_digit (b ∷ bs))) ∷ ts)
  exact_word : {b : ℕ} {bs : List ℕ} {ts : List Token} → is_ascii_alphabetic b ≡ true → IsExact (past is_word_byte (b ∷ bs)) ts
      → IsExact (b ∷ bs) (word_token (take_while is_word_byte (b ∷ bs)) ∷ ts)

-- A line stands for a form.
abbrev pub StandsFor : List ℕ → Form → Type 0
StandsFor line f = (ts : List Token) × IsExact (content line) ts × IsStatement ts f
