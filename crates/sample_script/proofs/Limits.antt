-- The tokens of a module of the sample pass no limit.
use Rattle.std.proofs.Common.{◌≡◌, ℕ, zero, suc, ◌+◌, ◌<◌, Bool, true, false, cond, if◌then◌else◌, None, Some, List, [], ◌∷◌, refl, ap, ◌∙◌, arith}
use Rattle.std.specs.Prelude.{nat_lt}
use Rattle.std.specs.Option.{option_or}
use Rattle.std.proofs.lemmas.Bool.{and_parts, ltb-true}
use Rattle.std.proofs.lemmas.Bool.Decides.{nat_tests}
use Rattle.script_lang.specs.declared.Letter.TheVariants as letter
use Rattle.script_lang.specs.declared.Sign.{Sign}
use Rattle.script_lang.specs.declared.Sign.TheVariants as sign
use Rattle.script_lang.specs.declared.Token.{Token}
use Rattle.script_lang.specs.declared.Token.TheVariants as token
use Rattle.script_statement.specs.declared.Verb.TheVariants as verb
use Rattle.script_parse.specs.declared.SizeKind.TheVariants as size
use Rattle.script_parse.specs.Limits.{over_limit, number_limit, modules, operands, commas, is_comma, is_opening, first_limit}
use Rattle.script_parse.specs.Version.{version_1}
use Rattle.script_parse.proofs.Scan.{commas_next}
use Rattle.sample_script.proofs.Powers.{are_below, power_tokens, behind_tokens, powers_tokens}

-- The tokens of a power, of powers behind a plus each, and of a sum, the last first, with those before them.
abbrev power_seen : ℕ → List Token → List Token
power_seen zero before = token.Number 1 ∷ before
power_seen (suc zero) before = token.Letter letter.Z ∷ before
power_seen (suc (suc k)) before = token.Number (suc (suc k)) ∷ token.Sign sign.Caret ∷ token.Letter letter.Z ∷ before

abbrev behind_seen : List ℕ → List Token → List Token
behind_seen [] before = before
behind_seen (k ∷ ks) before = behind_seen ks (power_seen k (token.Sign sign.Plus ∷ before))

abbrev powers_seen : List ℕ → List Token → List Token
powers_seen [] before = token.Number 0 ∷ before
powers_seen (k ∷ ks) before = behind_seen ks (power_seen k before)

-- They have no comma and open no list.
other_token : (t : Token) → is_opening t ≡ false → is_comma t ≡ false → (before : List Token) → commas (t ∷ before) ≡ commas before
other_token t o c before =
    let none : 0 + commas before ≡ commas before = omega arith in
    commas_next t before ∙ (λ i. cond (o i) 0 (cond (c i) 1 0 + commas before)) ∙ none

power_commas : (k : ℕ) (before : List Token) → commas (power_seen k before) ≡ commas before
power_commas zero before = other_token (token.Number 1) refl refl before
power_commas (suc zero) before = other_token (token.Letter letter.Z) refl refl before
power_commas (suc (suc k)) before =
    let z = token.Letter letter.Z ∷ before in
    other_token (token.Number (suc (suc k))) refl refl (token.Sign sign.Caret ∷ z) ∙ other_token (token.Sign sign.Caret) refl refl z ∙ other_token (token.Letter letter.Z) refl refl before

behind_commas : (ks : List ℕ) (before : List Token) → commas (behind_seen ks before) ≡ commas before
behind_commas [] before = refl
behind_commas (k ∷ ks) before =
    let plus = token.Sign sign.Plus ∷ before in
    behind_commas ks (power_seen k plus) ∙ power_commas k plus ∙ other_token (token.Sign sign.Plus) refl refl before

powers_commas : (ks : List ℕ) (before : List Token) → commas (powers_seen ks before) ≡ commas before
powers_commas [] before = other_token (token.Number 0) refl refl before
powers_commas (k ∷ ks) before = behind_commas ks (power_seen k before) ∙ power_commas k before

-- The exponents are within their limit.
exponent_free : (j : ℕ) → j < 8 → (before behind : List Token) → number_limit version_1 verb.Module (token.Sign sign.Caret ∷ token.Letter letter.Z ∷ before) j behind ≡ None
exponent_free j l before behind =
    let number : nat_lt 999999999 j ≡ false = grind (arith, nat_tests) in
    let exponent : nat_lt 128 j ≡ false = grind (arith, nat_tests) in
    (λ i. if number i then Some size.Number else if exponent i then Some size.Exponent else None)

-- What a sum stands behind: a plus or a comma.
abbrev front_sign : Bool → Sign
front_sign true = sign.Comma
front_sign false = sign.Plus

power_free : (comma : Bool) (k : ℕ) → k < 8 → (before behind : List Token)
    → first_limit version_1 verb.Module (token.Sign (front_sign comma) ∷ before) (power_tokens k behind) ≡ first_limit version_1 verb.Module (power_seen k (token.Sign (front_sign comma) ∷ before)) behind
power_free true zero l before behind = refl
power_free false zero l before behind = refl
power_free comma (suc zero) l before behind = refl
power_free comma (suc (suc k)) l before behind =
    let front = token.Sign (front_sign comma) ∷ before in
    ap (λ o. option_or o (first_limit version_1 verb.Module (power_seen (suc (suc k)) front) behind)) (exponent_free (suc (suc k)) l front behind)

behind_free : (ks : List ℕ) → are_below ks ≡ true → (before behind : List Token)
    → first_limit version_1 verb.Module before (behind_tokens ks behind) ≡ first_limit version_1 verb.Module (behind_seen ks before) behind
behind_free [] below before behind = refl
behind_free (k ∷ ks) below before behind =
    let parts = and_parts (nat_lt k 8) _ below in
    power_free false k (ltb-true k 8 parts.0) before (behind_tokens ks behind) ∙ behind_free ks parts.1 (power_seen k (token.Sign sign.Plus ∷ before)) behind

powers_free : (ks : List ℕ) → are_below ks ≡ true → (before behind : List Token)
    → first_limit version_1 verb.Module (token.Sign sign.Comma ∷ before) (powers_tokens ks behind) ≡ first_limit version_1 verb.Module (powers_seen ks (token.Sign sign.Comma ∷ before)) behind
powers_free [] below before behind = refl
powers_free (k ∷ ks) below before behind =
    let parts = and_parts (nat_lt k 8) _ below in
    power_free true k (ltb-true k 8 parts.0) before (behind_tokens ks behind) ∙ behind_free ks parts.1 (power_seen k (token.Sign sign.Comma ∷ before)) behind

items_free : (b : Bool) (n : ℕ) → n < 8 → (if b then over_limit 8 (n + 1) size.Rank else over_limit 128 (n + 1) size.Degree) ≡ None
items_free true n l = let few : nat_lt 8 (n + 1) ≡ false = grind (arith, nat_tests) in ap (λ v. if v then Some size.Rank else None) few
items_free false n l = let few : nat_lt 128 (n + 1) ≡ false = grind (arith, nat_tests) in ap (λ v. if v then Some size.Degree else None) few

comma_free : (before behind : List Token) → commas before < 8
    → first_limit version_1 verb.Module before (token.Sign sign.Comma ∷ behind) ≡ first_limit version_1 verb.Module (token.Sign sign.Comma ∷ before) behind
comma_free before behind l =
    ap (λ o. option_or o (first_limit version_1 verb.Module (token.Sign sign.Comma ∷ before) behind)) (items_free (nat_lt (operands before) (modules verb.Module)) (commas before) l)

-- Two more items of a list, which end it.
pub two_items_free : (ks js : List ℕ) → are_below ks ≡ true → are_below js ≡ true → (before : List Token) → commas before ≡ 0
    → first_limit version_1 verb.Module before (token.Sign sign.Comma ∷ powers_tokens ks (token.Sign sign.Comma ∷ powers_tokens js (token.Sign sign.CloseList ∷ []))) ≡ None
two_items_free ks js below under before none =
    let last = token.Sign sign.CloseList ∷ [] in
    let more = token.Sign sign.Comma ∷ powers_tokens js last in
    let first_item = token.Sign sign.Comma ∷ before in
    let middle = powers_seen ks first_item in
    let one = powers_commas ks first_item ∙ commas_next (token.Sign sign.Comma) before in
    let a : commas before < 8 = omega (arith, none) in
    let b : commas middle < 8 = omega (arith, none, one) in
    comma_free before (powers_tokens ks more) a ∙ powers_free ks below before more ∙ comma_free middle (powers_tokens js last) b ∙ powers_free js under middle last
