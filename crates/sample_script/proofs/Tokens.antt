-- Bytes that are tokens: a word and a number up to what ends them, and the bytes that are in no token.
use Rattle.std.proofs.Common.{◌≡◌, ℕ, suc, ◌+◌, ◌-◌, ◌<◌, ◌==◌, Bool, true, false, not, cond, if◌then◌else◌, is_some, List, [], ◌∷◌, ◌++◌, length, take, drop, slice_index, refl, sym, ap, ◌∙◌, subst, arith}
use Rattle.std.specs.List.{list_all, prefix_len, position_or_len, take_while}
use Rattle.std.specs.Char.{is_ascii_digit, is_ascii_alphabetic}
use Rattle.std.specs.Str.Lines.{strip_carriage_return}
use Rattle.std.specs.Str.Parse.{digits_value}
use Rattle.std.proofs.Math.Seq.{take-append_seam, drop-append_seam, take-length}
use Rattle.std.proofs.lemmas.Bool.{false≢true, and_from, and_parts, ne_eqb}
use Rattle.std.proofs.lemmas.List.Folds.{list_all_at}
use Rattle.script_lang.specs.declared.Token.{Token}
use Rattle.script_lang.specs.declared.Token.TheVariants as token
use Rattle.script_lang.specs.Lines.{is_space, content}
use Rattle.script_lang.specs.Tokens.{sign_of, is_word_byte, word_token, past}
use Rattle.script_parse.specs.Exact.{IsExact}

front_len : (p : ℕ → Bool) (front rest : List ℕ) → list_all p front ≡ true → prefix_len p rest ≡ 0 → prefix_len p (front ++ rest) ≡ length front
front_len p [] rest all end = end
front_len p (c ∷ cs) rest all end =
    let parts = and_parts (p c) _ all in
    let more = front_len p cs rest parts.1 end in
    let same : 1 + length cs ≡ suc (length cs) = omega arith in
    (λ i. cond (parts.0 i) (1 + more i) 0) ∙ same

front_taken : (p : ℕ → Bool) (front rest : List ℕ) → list_all p front ≡ true → prefix_len p rest ≡ 0 → take_while p (front ++ rest) ≡ front
front_taken p front rest all end = ap (λ k. take k (front ++ rest)) (front_len p front rest all end) ∙ take-append_seam front rest

front_past : (p : ℕ → Bool) (front rest : List ℕ) → list_all p front ≡ true → prefix_len p rest ≡ 0 → past p (front ++ rest) ≡ rest
front_past p front rest all end = ap (λ k. drop k (front ++ rest)) (front_len p front rest all end) ∙ drop-append_seam front rest

-- A word, and what follows it.
pub word_then : (c : ℕ) (cs rest : List ℕ) {ts : List Token} → is_ascii_alphabetic c ≡ true → list_all is_word_byte (c ∷ cs) ≡ true → prefix_len is_word_byte rest ≡ 0
    → IsExact rest ts → IsExact ((c ∷ cs) ++ rest) (word_token (c ∷ cs) ∷ ts)
word_then c cs rest {ts} letter all end x =
    let after : IsExact (past is_word_byte (c ∷ (cs ++ rest))) ts = subst (λ q. IsExact q ts) (sym (front_past is_word_byte (c ∷ cs) rest all end)) x in
    subst (λ w. IsExact ((c ∷ cs) ++ rest) (word_token w ∷ ts)) (front_taken is_word_byte (c ∷ cs) rest all end) (IsExact.exact_word {b = c} {bs = cs ++ rest} letter after)

-- A number of one digit, and what follows it.
pub digit_then : (c : ℕ) (rest : List ℕ) {ts : List Token} → is_ascii_digit c ≡ true → prefix_len is_ascii_digit rest ≡ 0
    → IsExact rest ts → IsExact (c ∷ rest) (token.Number (digits_value 10 (c ∷ [])) ∷ ts)
digit_then c rest {ts} digit end x =
    let all : list_all is_ascii_digit (c ∷ []) ≡ true = and_from _ _ digit refl in
    let after : IsExact (past is_ascii_digit (c ∷ rest)) ts = subst (λ q. IsExact q ts) (sym (front_past is_ascii_digit (c ∷ []) rest all end)) x in
    subst (λ w. IsExact (c ∷ rest) (token.Number (digits_value 10 w) ∷ ts)) (front_taken is_ascii_digit (c ∷ []) rest all end) (IsExact.exact_number {b = c} {bs = rest} digit after)

-- A byte that is in no token, and no blank.
pub record IsOutside (c : ℕ) : Type 0 where
  pub space : is_space c ≡ false
  pub sign : is_some (sign_of c) ≡ false
  pub digit : is_ascii_digit c ≡ false
  pub word : is_word_byte c ≡ false

other_byte : (p : ℕ → Bool) (c b : ℕ) → p c ≡ false → p b ≡ true → not (b == c) ≡ true
other_byte p c b fails passes = ap not (ne_eqb b c (λ e. false≢true (sym fails ∙ ap p (sym e) ∙ passes)))

-- What holds of the bytes that pass, and of all behind those at the front, holds of all.
all_with_front : (p test : ℕ → Bool) → ((b : ℕ) → p b ≡ true → test b ≡ true) → (bs : List ℕ) → list_all test (past p bs) ≡ true → list_all test bs ≡ true
all_with_front p test each [] h = refl
all_with_front p test each (b ∷ bs) h = at (p b) refl (all_with_front p test each bs) h
  where
    at : (v : Bool) → p b ≡ v → (list_all test (past p bs) ≡ true → list_all test bs ≡ true)
        → list_all test (drop (cond v (1 + prefix_len p bs) 0) (b ∷ bs)) ≡ true → list_all test (b ∷ bs) ≡ true
    at false e more g = g
    at true e more g =
        let one : 1 + prefix_len p bs ≡ suc (prefix_len p bs) = omega arith in
        and_from _ _ (each b e) (more (subst (λ k. list_all test (drop k (b ∷ bs)) ≡ true) one g))

-- Bytes that are tokens lack each byte that is in none.
pub lacks : (c : ℕ) → IsOutside c → {bs : List ℕ} {ts : List Token} → IsExact bs ts → list_all (λ b. not (b == c)) bs ≡ true
lacks c o IsExact.no_bytes = refl
lacks c o (IsExact.blank_byte {b = b} h x) = and_from _ _ (other_byte is_space c b o.space h) (lacks c o x)
lacks c o (IsExact.exact_sign {b = b} h x) = and_from _ _ (other_byte (λ d. is_some (sign_of d)) c b o.sign (ap is_some h)) (lacks c o x)
lacks c o (IsExact.exact_number {b = b} {bs = bs} h x) = all_with_front is_ascii_digit (λ d. not (d == c)) (λ d. other_byte is_ascii_digit c d o.digit) (b ∷ bs) (lacks c o x)
lacks c o (IsExact.exact_word {b = b} {bs = bs} h x) = all_with_front is_word_byte (λ d. not (d == c)) (λ d. other_byte is_word_byte c d o.word) (b ∷ bs) (lacks c o x)

pub line_feed : IsOutside 10
line_feed = record { space = refl; sign = refl; digit = refl; word = refl }

carriage_return : IsOutside 13
carriage_return = record { space = refl; sign = refl; digit = refl; word = refl }

number_sign : IsOutside 35
number_sign = record { space = refl; sign = refl; digit = refl; word = refl }

none_before : (c : ℕ) (bs : List ℕ) → list_all (λ b. not (b == c)) bs ≡ true → position_or_len (λ b. b == c) bs ≡ length bs
none_before c [] h = refl
none_before c (b ∷ bs) h =
    let parts = and_parts (not (b == c)) _ h in
    let more = none_before c bs parts.1 in
    let same : 1 + length bs ≡ suc (length bs) = omega arith in
    (λ i. cond (parts.0 i) (1 + more i) 0) ∙ same

not_stripped : (b : ℕ) (bs : List ℕ) → list_all (λ c. not (c == 13)) (b ∷ bs) ≡ true → strip_carriage_return (b ∷ bs) ≡ b ∷ bs
not_stripped b bs h = at (slice_index (b ∷ bs) (length (b ∷ bs) - 1) == 13) refl
  where
    last_in : length (b ∷ bs) - 1 < length (b ∷ bs)
    last_in = omega arith

    at : (v : Bool) → (slice_index (b ∷ bs) (length (b ∷ bs) - 1) == 13) ≡ v → (if v then take (length (b ∷ bs) - 1) (b ∷ bs) else (b ∷ bs)) ≡ b ∷ bs
    at false e = refl
    at true e = absurd (false≢true (sym (list_all_at (λ c. not (c == 13)) (b ∷ bs) (length (b ∷ bs) - 1) 0 last_in (ap not e)) ∙ h))

-- The content of a line of tokens is the line.
pub content_is : (b : ℕ) (bs : List ℕ) {ts : List Token} → IsExact (b ∷ bs) ts → content (b ∷ bs) ≡ b ∷ bs
content_is b bs x =
    let whole = b ∷ bs in
    ap (λ l. take (position_or_len (λ c. c == 35) l) l) (not_stripped b bs (lacks 13 carriage_return x))
    ∙ ap (λ k. take k whole) (none_before 35 whole (lacks 35 number_sign x)) ∙ take-length whole
