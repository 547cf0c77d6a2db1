-- What the scan for limits keeps of the tokens before.
use Rattle.std.specs.Prelude.{◌≡◌, ℕ, ◌-◌, ◌^◌, List, [], ◌∷◌, min}
use Rattle.script_lang.specs.declared.Sign.TheVariants as sign
use Rattle.script_lang.specs.declared.Token.{Token}
use Rattle.script_lang.specs.declared.Token.TheVariants as token
use Rattle.script_statement.specs.declared.Verb.{Verb}
use Rattle.script_parse.specs.Limits.{modules, operands, commas}
use Rattle.script_parse.specs.declared.limit.Spot.{Spot}
use Rattle.script_parse.specs.declared.limit.Spot.TheVariants as spot
use Rattle.script_parse.specs.declared.limit.Seen.{Seen}

-- The greatest number of commas that is kept.
abbrev pub most : ℕ
most = 2 ^ 64 - 1

abbrev pub spot_of : List Token → Spot
spot_of [] = spot.Start
spot_of (token.Number p ∷ []) = spot.First p
spot_of (token.Letter l ∷ rest) = spot.Letter l
spot_of (token.Sign sign.Caret ∷ token.Letter l ∷ rest) = spot.Exponent l
spot_of before = spot.Other

-- What is seen of the tokens before: where they end, how many modules are left to come, and how many
-- commas stand since the last opening bracket, up to the greatest number of the code.
pub record IsSeen (v : Verb) (before : List Token) (seen : Seen) : Type 0 where
  pub spot : seen.spot ≡ spot_of before
  pub left : seen.left ≡ modules v - operands before
  pub commas : seen.commas ≡ min (commas before) most
