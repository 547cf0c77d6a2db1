-- Sums of powers of `z` below 8: their tokens, and how these are read as items of a list.
use Rattle.std.proofs.Common.{◌≡◌, ℕ, zero, suc, ◌+◌, ◌<◌, ◌==◌, Bool, true, false, if◌then◌else◌, List, [], ◌∷◌, ◌++◌, map, codes, refl, sym, ap, ◌∙◌, subst, append_assoc, arith}
use Rattle.std.specs.Prelude.{nat_lt}
use Rattle.std.specs.Char.{is_ascii_digit}
use Rattle.std.specs.List.{list_all, prefix_len}
use Rattle.std.specs.Str.Parse.{digits_value}
use Rattle.std.proofs.lemmas.Bool.{and_parts, ltb-true}
use Rattle.answer.specs.Sums.{or_zero}
use Rattle.script_lang.specs.declared.Factor.{Factor}
use Rattle.script_lang.specs.declared.Factor.TheVariants as factor
use Rattle.script_lang.specs.declared.Kind.TheVariants as kind
use Rattle.script_lang.specs.declared.Letter.TheVariants as letter
use Rattle.script_lang.specs.declared.Sign.TheVariants as sign
use Rattle.script_lang.specs.declared.Sum.{Sum}
use Rattle.script_lang.specs.declared.Term.{Term}
use Rattle.script_lang.specs.declared.Token.{Token}
use Rattle.script_lang.specs.declared.Token.TheVariants as token
use Rattle.script_lang.specs.Grammar.{deepest, sum_of, term_of, IsExponent, IsLead, IsPlain, IsFactor, IsProduct, IsTerms, IsSum, IsLeadedSum}
use Rattle.script_lang.specs.Tokens.{is_word_byte}
use Rattle.script_parse.specs.Exact.{IsExact}
use Rattle.sample_script.specs.Sample.{element, top_element}
use Rattle.sample_script.proofs.Element.{power, power_bytes, power_is, behind, are_powers, element_is}
use Rattle.sample_script.proofs.Tokens.{word_then, digit_then}

abbrev pub are_below : List ℕ → Bool
are_below ks = list_all (λ k. nat_lt k 8) ks

-- The sum of these powers.
abbrev pub powers_text : List ℕ → List ℕ
powers_text ks = or_zero (codes "+") (map power ks)

-- The text is such a sum.
pub record IsPowerSum (text : List ℕ) : Type 0 where
  pub powers : List ℕ
  pub below : are_below powers ≡ true
  pub is_sum : text ≡ powers_text powers

pub element_sum : (d : ℕ) → IsPowerSum (element d)
element_sum d =
    let p = are_powers d in
    record { powers = p.powers; below = p.below; is_sum = element_is d ∙ ap (or_zero (codes "+")) p.are }

pub top_element_sum : (d : ℕ) → IsPowerSum (top_element d)
top_element_sum d = at (d == 0)
  where
    at : (b : Bool) → IsPowerSum (if b then codes "1" else element d)
    at true = record { powers = 0 ∷ []; below = refl; is_sum = refl }
    at false = element_sum d

-- The tokens of a power, of powers behind a plus each, and of a sum, before others.
abbrev pub power_tokens : ℕ → List Token → List Token
power_tokens zero rest = token.Number 1 ∷ rest
power_tokens (suc zero) rest = token.Letter letter.Z ∷ rest
power_tokens (suc (suc k)) rest = token.Letter letter.Z ∷ token.Sign sign.Caret ∷ token.Number (suc (suc k)) ∷ rest

abbrev pub behind_tokens : List ℕ → List Token → List Token
behind_tokens [] rest = rest
behind_tokens (k ∷ ks) rest = token.Sign sign.Plus ∷ power_tokens k (behind_tokens ks rest)

abbrev pub powers_tokens : List ℕ → List Token → List Token
powers_tokens [] rest = token.Number 0 ∷ rest
powers_tokens (k ∷ ks) rest = power_tokens k (behind_tokens ks rest)

-- The bytes begin with none of a word or of a number.
pub record EndsPower (rest : List ℕ) : Type 0 where
  pub word : prefix_len is_word_byte rest ≡ 0
  pub digit : prefix_len is_ascii_digit rest ≡ 0

-- The byte of a digit.
digit_byte : (j : ℕ) → j < 8 → (is_ascii_digit (48 + j) ≡ true) × (digits_value 10 ((48 + j) ∷ []) ≡ j)
digit_byte zero l = (refl, refl)
digit_byte (suc zero) l = (refl, refl)
digit_byte (suc (suc zero)) l = (refl, refl)
digit_byte (suc (suc (suc zero))) l = (refl, refl)
digit_byte (suc (suc (suc (suc zero)))) l = (refl, refl)
digit_byte (suc (suc (suc (suc (suc zero))))) l = (refl, refl)
digit_byte (suc (suc (suc (suc (suc (suc zero)))))) l = (refl, refl)
digit_byte (suc (suc (suc (suc (suc (suc (suc zero))))))) l = (refl, refl)
digit_byte (suc (suc (suc (suc (suc (suc (suc (suc k)))))))) l = absurd (omega (arith, l))

power_bytes_are : (k : ℕ) → k < 8 → (rest : List ℕ) (ts : List Token) → EndsPower rest → IsExact rest ts → IsExact (power_bytes k ++ rest) (power_tokens k ts)
power_bytes_are zero l rest ts e x = digit_then 49 rest refl e.digit x
power_bytes_are (suc zero) l rest ts e x = word_then 122 [] rest refl refl e.word x
power_bytes_are (suc (suc k)) l rest ts e x =
    let j = suc (suc k) in
    let d = digit_byte j l in
    let number : IsExact ((48 + j) ∷ rest) (token.Number j ∷ ts) = subst (λ n. IsExact ((48 + j) ∷ rest) (token.Number n ∷ ts)) d.1 (digit_then (48 + j) rest d.0 e.digit x) in
    word_then 122 [] (94 ∷ (48 + j) ∷ rest) refl refl refl (IsExact.exact_sign refl number)

power_are : (k : ℕ) → nat_lt k 8 ≡ true → (rest : List ℕ) (ts : List Token) → EndsPower rest → IsExact rest ts → IsExact (power k ++ rest) (power_tokens k ts)
power_are k l rest ts e x =
    let small = ltb-true k 8 l in
    subst (λ q. IsExact (q ++ rest) (power_tokens k ts)) (sym (power_is k small)) (power_bytes_are k small rest ts e x)

behind_ends : (ks rest : List ℕ) → EndsPower rest → EndsPower (behind ks ++ rest)
behind_ends [] rest e = e
behind_ends (k ∷ ks) rest e = record { word = refl; digit = refl }

behind_are : (ks : List ℕ) → are_below ks ≡ true → (rest : List ℕ) (ts : List Token) → EndsPower rest → IsExact rest ts → IsExact (behind ks ++ rest) (behind_tokens ks ts)
behind_are [] below rest ts e x = x
behind_are (k ∷ ks) below rest ts e x =
    let parts = and_parts (nat_lt k 8) _ below in
    let one = power_are k parts.0 (behind ks ++ rest) (behind_tokens ks ts) (behind_ends ks rest e) (behind_are ks parts.1 rest ts e x) in
    IsExact.exact_sign refl (subst (λ q. IsExact q (power_tokens k (behind_tokens ks ts))) (sym (append_assoc (power k) (behind ks) rest)) one)

powers_are : (ks : List ℕ) → are_below ks ≡ true → (rest : List ℕ) (ts : List Token) → EndsPower rest → IsExact rest ts → IsExact (powers_text ks ++ rest) (powers_tokens ks ts)
powers_are [] below rest ts e x = digit_then 48 rest refl e.digit x
powers_are (k ∷ ks) below rest ts e x =
    let parts = and_parts (nat_lt k 8) _ below in
    let one = power_are k parts.0 (behind ks ++ rest) (behind_tokens ks ts) (behind_ends ks rest e) (behind_are ks parts.1 rest ts e x) in
    subst (λ q. IsExact q (power_tokens k (behind_tokens ks ts))) (sym (append_assoc (power k) (behind ks) rest)) one

-- The tokens of a text that is a sum of powers.
pub sum_are : (text : List ℕ) (p : IsPowerSum text) (rest : List ℕ) (ts : List Token) → EndsPower rest → IsExact rest ts → IsExact (text ++ rest) (powers_tokens p.powers ts)
sum_are text p rest ts e x = subst (λ q. IsExact (q ++ rest) (powers_tokens p.powers ts)) (sym p.is_sum) (powers_are p.powers p.below rest ts e x)

-- The factor that a power is.
power_factor : ℕ → Factor
power_factor zero = factor.Number 1
power_factor (suc k) = factor.Z (suc k)

power_read : (k : ℕ) (rest : List Token) → IsProduct kind.TopElement deepest (power_tokens k rest) rest (power_factor k ∷ []) 0
unfolding power_factor
power_read zero rest = IsProduct.last_factor (IsFactor.is_plain IsPlain.is_number)
power_read (suc zero) rest = IsProduct.last_factor (IsFactor.is_plain (IsPlain.is_letter refl IsExponent.absent))
power_read (suc (suc k)) rest = IsProduct.last_factor (IsFactor.is_plain (IsPlain.is_letter refl IsExponent.present))

terms_read : (k : ℕ) (ks : List ℕ) (rest : List Token) → (list : List Term) × IsTerms kind.TopElement deepest false (power_tokens k (behind_tokens ks rest)) rest list
terms_read k [] rest = (term_of false (power_factor k ∷ []) 0 ∷ [], IsTerms.last_term (power_read k rest))
terms_read k (j ∷ js) rest =
    let more = terms_read j js rest in
    (term_of false (power_factor k ∷ []) 0 ∷ more.0, IsTerms.and_term {next = false} (power_read k (token.Sign sign.Plus ∷ power_tokens j (behind_tokens js rest))) more.1)

-- A sum of powers is an item of a list.
pub item_read : (ks : List ℕ) (rest : List Token) → (s : Sum) × IsLeadedSum kind.TopElement (powers_tokens ks rest) rest s
item_read [] rest =
    (sum_of (term_of false (factor.Number 0 ∷ []) 0 ∷ []), IsLeadedSum.has_lead IsLead.plain (IsSum.has_terms (IsTerms.last_term (IsProduct.last_factor (IsFactor.is_plain IsPlain.is_number)))))
item_read (k ∷ ks) rest = let terms = terms_read k ks rest in (sum_of terms.0, IsLeadedSum.has_lead IsLead.plain (IsSum.has_terms terms.1))
