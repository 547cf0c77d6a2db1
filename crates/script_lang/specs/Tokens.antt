-- The tokens of a line's content.
use Rattle.std.specs.Prelude.{◌≡◌, ℕ, ◌||◌, ◌==◌, if◌then◌else◌, Bool, true, Option, Some, None, List, [], ◌∷◌, drop, min, codes}
use Rattle.std.specs.List.{prefix_len, take_while}
use Rattle.std.specs.Char.{is_ascii_digit, is_ascii_alphabetic, is_ascii_alphanumeric}
use Rattle.std.specs.Str.{bytes_eq}
use Rattle.std.specs.Str.Parse.{digits_value}
use Rattle.script_lang.specs.declared.lexer.Letter.TheVariants as letter
use Rattle.script_lang.specs.declared.lexer.Sign.{Sign}
use Rattle.script_lang.specs.declared.lexer.Sign.TheVariants as sign
use Rattle.script_lang.specs.declared.lexer.Token.{Token}
use Rattle.script_lang.specs.declared.lexer.Token.TheVariants as token
use Rattle.script_lang.specs.Lines.{is_space}

-- The signs `+ - * ^ ( ) [ ] , =`.
abbrev pub sign_of : ℕ → Option Sign
sign_of b =
    if b == 43 then Some sign.Plus
    else if b == 45 then Some sign.Minus
    else if b == 42 then Some sign.Star
    else if b == 94 then Some sign.Caret
    else if b == 40 then Some sign.Open
    else if b == 41 then Some sign.Close
    else if b == 91 then Some sign.OpenList
    else if b == 93 then Some sign.CloseList
    else if b == 44 then Some sign.Comma
    else if b == 61 then Some sign.Equals
    else None

-- A byte of a word after its first.
abbrev pub is_word_byte : ℕ → Bool
is_word_byte b = is_ascii_alphanumeric b || (b == 95)

-- The token of a word: five letters and `as` have tokens of their own, since they are no names.
abbrev pub word_token : List ℕ → Token
word_token w =
    if bytes_eq w (codes "a") then token.Letter letter.A
    else if bytes_eq w (codes "z") then token.Letter letter.Z
    else if bytes_eq w (codes "t") then token.Letter letter.SmallT
    else if bytes_eq w (codes "T") then token.Letter letter.CapitalT
    else if bytes_eq w (codes "X") then token.Letter letter.X
    else if bytes_eq w (codes "as") then token.As
    else token.Word w

-- The least of `n` and 1,000,000,000, which is above each limit.
abbrev pub capped : ℕ → ℕ
capped n = min n 1000000000

-- What follows the bytes at the front that pass `p`.
abbrev pub past : (ℕ → Bool) → List ℕ → List ℕ
past p bs = drop (prefix_len p bs) bs

-- The bytes begin with this token, which is as long as it can be, and those are left.
-- A word is a letter and what follows of letters, digits and `_`; a number is digits, whose token
-- holds the least of their value and a cap above each limit.
pub data BeginsWith : List ℕ → Token → List ℕ → Type 0 where
  a_sign : {b : ℕ} {bs : List ℕ} {s : Sign} → sign_of b ≡ Some s → BeginsWith (b ∷ bs) (token.Sign s) bs
  a_number : {b : ℕ} {bs : List ℕ} → is_ascii_digit b ≡ true
      → BeginsWith (b ∷ bs) (token.Number (capped (digits_value 10 (take_while is_ascii_digit (b ∷ bs))))) (past is_ascii_digit (b ∷ bs))
  a_word : {b : ℕ} {bs : List ℕ} → is_ascii_alphabetic b ≡ true
      → BeginsWith (b ∷ bs) (word_token (take_while is_word_byte (b ∷ bs))) (past is_word_byte (b ∷ bs))

-- The bytes are these tokens, one after another. Spaces and tabs may stand between them.
pub data IsTokens : List ℕ → List Token → Type 0 where
  done : IsTokens [] []
  space : {b : ℕ} {bs : List ℕ} {ts : List Token} → is_space b ≡ true → IsTokens bs ts → IsTokens (b ∷ bs) ts
  next : {bs rest : List ℕ} {t : Token} {ts : List Token} → BeginsWith bs t rest → IsTokens rest ts → IsTokens bs (t ∷ ts)
