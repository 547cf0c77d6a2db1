-- The limits in a line: the limit that each token passes, told by the verb and by the tokens before and
-- behind it, and which of them decides. `before` is what stands between the verb and the token, the
-- nearest first.
use Rattle.std.specs.Prelude.{◌^◌, ◌+◌, ℕ, ◌||◌, ◌&&◌, ◌==◌, nat_lt, nat_le, if◌then◌else◌, Bool, true, false, not, Option, Some, None, List, [], ◌∷◌, length, count_by, take_while}
use Rattle.std.specs.List.{list_any}
use Rattle.std.specs.Option.{option_or}
use Rattle.script_lang.specs.declared.Letter.{Letter}
use Rattle.script_lang.specs.declared.Letter.TheVariants as letter
use Rattle.script_lang.specs.declared.Sign.{Sign}
use Rattle.script_lang.specs.declared.Sign.TheVariants as sign
use Rattle.script_parse.specs.declared.size.SizeKind.{SizeKind}
use Rattle.script_parse.specs.declared.size.SizeKind.TheVariants as size
use Rattle.script_lang.specs.declared.Token.{Token}
use Rattle.script_lang.specs.declared.Token.TheVariants as token
use Rattle.script_parse.specs.Version.{Limits}
use Rattle.script_statement.specs.declared.Verb.{Verb}
use Rattle.script_statement.specs.declared.Verb.TheVariants as verb
use Rattle.script_statement.specs.declared.ModuleVerb.TheVariants as module_verb
use Rattle.script_statement.specs.declared.PairVerb.TheVariants as pair_verb

-- A prime that a base may have.
abbrev pub is_listed : Limits → ℕ → Bool
is_listed l p = list_any (λ q. p == q) l.primes

-- The kind where the number is more than the limit.
abbrev pub over_limit : ℕ → ℕ → SizeKind → Option SizeKind
over_limit limit n kind = if nat_lt limit n then Some kind else None

-- The limits of exponents.
abbrev pub exponent_limit : Limits → Letter → ℕ → Option SizeKind
exponent_limit l letter.A n = over_limit l.exponent n size.Exponent
exponent_limit l letter.Z n = over_limit l.exponent n size.Exponent
exponent_limit l letter.SmallT n = over_limit l.degree n size.Degree
exponent_limit l letter.CapitalT n = over_limit l.image n size.Image
exponent_limit l letter.X n = None

-- The limit that a number passes by its place: the exponent of a letter, the prime of a base, the
-- exponent of a base with this prime, the degree of a top.
abbrev pub place_limit : Limits → Verb → List Token → ℕ → Option SizeKind
place_limit l v (token.Sign sign.Caret ∷ token.Letter x ∷ rest) n = exponent_limit l x n
place_limit l verb.Base [] n = if is_listed l n then None else Some size.Prime
place_limit l verb.Base (token.Number p ∷ []) n = over_limit l.base (p ^ n) size.Base
place_limit l verb.Over [] n = over_limit l.top n size.Top
place_limit l v before n = None

abbrev pub is_bounded : Verb → Bool
is_bounded (verb.OfModule (module_verb.Pair pair_verb.Bounded)) = true
is_bounded v = false

abbrev pub is_empty : List Token → Bool
is_empty [] = true
is_empty (t ∷ ts) = false

-- The limits of a number: of each number first, then of the last one of `bounded`, or by its place.
abbrev pub number_limit : Limits → Verb → List Token → ℕ → List Token → Option SizeKind
number_limit l v before n behind =
    if nat_lt l.number n then Some size.Number
    else if is_bounded v && is_empty behind then over_limit l.bound n size.Bound
    else place_limit l v before n

-- How many operands that are Drinfeld modules come first, with the name of a new one.
abbrev pub modules : Verb → ℕ
modules verb.Module = 2
modules (verb.OfModule (module_verb.Pair p)) = 2
modules (verb.OfModule v) = 1
modules v = 0

-- An operand ends with a name or with the closing bracket of a list.
abbrev pub ends_operand : Token → Bool
ends_operand (token.Word w) = true
ends_operand (token.Sign sign.CloseList) = true
ends_operand t = false

-- How many names and lists stand before.
abbrev pub operands : List Token → ℕ
operands before = count_by ends_operand before

abbrev pub is_comma : Token → Bool
is_comma (token.Sign sign.Comma) = true
is_comma t = false

abbrev pub is_opening : Token → Bool
is_opening (token.Sign sign.OpenList) = true
is_opening t = false

-- How many commas stand before, since the last opening bracket.
abbrev pub commas : List Token → ℕ
commas before = count_by is_comma (take_while (λ t. not (is_opening t)) before)

-- The limit of the coefficients in a list, from degree 0 on: one more of them follows each comma, in a
-- module up to the greatest rank, else in a twisted polynomial up to the greatest degree.
abbrev pub comma_limit : Limits → Verb → List Token → Option SizeKind
comma_limit l v before =
    if nat_lt (operands before) (modules v) then over_limit l.rank (commas before + 1) size.Rank
    else over_limit l.degree (commas before + 1) size.Degree

abbrev pub sign_limit : Limits → Verb → List Token → Sign → Option SizeKind
sign_limit l v before sign.Comma = comma_limit l v before
sign_limit l v before s = None

-- The limit that a token passes, after those before it and with those behind it.
abbrev pub passes : Limits → Verb → List Token → Token → List Token → Option SizeKind
passes l v before (token.Number n) behind = number_limit l v before n behind
passes l v before (token.Word w) behind = over_limit l.name (length w) size.Name
passes l v before (token.Sign s) behind = sign_limit l v before s
passes l v before t behind = None

-- The limit that the leftmost token passes of those that pass one.
abbrev pub first_limit : Limits → Verb → List Token → List Token → Option SizeKind
first_limit l v before [] = None
first_limit l v before (t ∷ behind) = option_or (passes l v before t behind) (first_limit l v (t ∷ before) behind)

abbrev pub is_as : Token → Bool
is_as token.As = true
is_as t = false

abbrev pub is_naming : Verb → Bool
is_naming verb.Module = true
is_naming verb.Ore = true
is_naming v = false

-- The statement of this verb and these operands gives a name: `module`, `ore`, or any with `as`.
abbrev pub gives_name : Verb → List Token → Bool
gives_name v ts = is_naming v || list_any is_as ts

-- The limit that decides a line which is a statement, after so many statements and names.
abbrev pub line_limit : Limits → ℕ → ℕ → Verb → List Token → Option SizeKind
line_limit l statements names v ts =
    if nat_le l.statements statements then Some size.Statements
    else if gives_name v ts && nat_le l.names names then Some size.Names
    else first_limit l v [] ts
