-- A line has one list of tokens, and the invariant of the loop that reads them.
use Rattle.std.proofs.Common.{◌≡◌, ℕ, ◌+◌, ◌*◌, ◌-◌, length, take, drop, get_or, ◌<◌, true, false, Some, None, List, [], ◌∷◌, ◌++◌, min, refl, sym, ap, ◌∙◌, subst, append_assoc, append-nil, arith}
use Rattle.std.proofs.lemmas.Bool.Decides.{nat_tests}
use Rattle.std.proofs.lemmas.Grind.{common_steps}
use Rattle.std.proofs.lemmas.Int.Digits.{digits_value_more}
use Rattle.std.proofs.lemmas.List.Sums.{AllPass-from_list_all, list_all-from_AllPass, prefix_len_passes}
use Rattle.std.proofs.lemmas.Str.{digit_value_digit}
use Rattle.std.specs.Char.{digit_value}
use Rattle.std.specs.List.{list_all, prefix_len}
use Rattle.std.specs.Str.Parse.{digits_value}
use Rattle.std.specs.Char.{is_ascii_digit, is_ascii_alphabetic}
use Rattle.script_lang.specs.declared.lexer.Sign.{Sign}
use Rattle.script_lang.specs.declared.lexer.Token.{Token}
use Rattle.script_lang.specs.declared.lexer.Token.TheVariants as token
use Rattle.script_lang.proofs.Equal.{same_some, cons_same, rest_is_drop}
use Rattle.script_lang.specs.Lines.{is_space}
use Rattle.script_lang.specs.Tokens.{sign_of, is_word_byte, word_token, capped, BeginsWith, IsTokens}

pub space_no_sign : (b : ℕ) (t : Sign) → is_space b ≡ true → sign_of b ≡ Some t → ⊥
space_no_sign b t h k = grind (arith, nat_tests)

pub space_no_digit : (b : ℕ) → is_space b ≡ true → is_ascii_digit b ≡ true → ⊥
space_no_digit b h k = grind (arith, nat_tests)

pub space_no_letter : (b : ℕ) → is_space b ≡ true → is_ascii_alphabetic b ≡ true → ⊥
space_no_letter b h k = grind (arith, nat_tests)

pub digit_no_sign : (b : ℕ) (t : Sign) → is_ascii_digit b ≡ true → sign_of b ≡ Some t → ⊥
digit_no_sign b t h k = grind (arith, nat_tests)

pub digit_no_letter : (b : ℕ) → is_ascii_digit b ≡ true → is_ascii_alphabetic b ≡ true → ⊥
digit_no_letter b h k = grind (arith, nat_tests)

pub letter_no_sign : (b : ℕ) (t : Sign) → is_ascii_alphabetic b ≡ true → sign_of b ≡ Some t → ⊥
letter_no_sign b t h k = grind (arith, nat_tests)

space_begins_no_token : {b : ℕ} {bs rest : List ℕ} {t : Token} → is_space b ≡ true → BeginsWith (b ∷ bs) t rest → ⊥
space_begins_no_token {b} {bs} {rest} {t} h (BeginsWith.a_sign {s = s} k) = space_no_sign b s h k
space_begins_no_token {b} h (BeginsWith.a_number k) = space_no_digit b h k
space_begins_no_token {b} h (BeginsWith.a_word k) = space_no_letter b h k

begins_once : {bs r s : List ℕ} {t u : Token} → BeginsWith bs t r → BeginsWith bs u s → (t ≡ u) × (r ≡ s)
begins_once (BeginsWith.a_sign {s = s} h) (BeginsWith.a_sign {s = u} k) = (ap token.Sign (same_some (sym h ∙ k)), refl)
begins_once (BeginsWith.a_sign {b = b} {s = s} h) (BeginsWith.a_number k) = absurd (digit_no_sign b s k h)
begins_once (BeginsWith.a_sign {b = b} {s = s} h) (BeginsWith.a_word k) = absurd (letter_no_sign b s k h)
begins_once (BeginsWith.a_number h) (BeginsWith.a_sign {b = b} {s = s} k) = absurd (digit_no_sign b s h k)
begins_once (BeginsWith.a_number h) (BeginsWith.a_number k) = (refl, refl)
begins_once (BeginsWith.a_number {b} h) (BeginsWith.a_word k) = absurd (digit_no_letter b h k)
begins_once (BeginsWith.a_word h) (BeginsWith.a_sign {b = b} {s = s} k) = absurd (letter_no_sign b s h k)
begins_once (BeginsWith.a_word {b} h) (BeginsWith.a_number k) = absurd (digit_no_letter b k h)
begins_once (BeginsWith.a_word h) (BeginsWith.a_word k) = (refl, refl)

pub tokens_once : (line : List ℕ) (ts us : List Token) → IsTokens line ts → IsTokens line us → ts ≡ us
tokens_once [] [] us IsTokens.done IsTokens.done = refl
tokens_once line ts us IsTokens.done (IsTokens.next h y) = elim h [ ]
tokens_once line ts us (IsTokens.next h x) IsTokens.done = elim h [ ]
tokens_once line ts us (IsTokens.space {b} {bs} h x) (IsTokens.space k y) = tokens_once bs ts us x y
tokens_once line ts us (IsTokens.space h x) (IsTokens.next k y) = absurd (space_begins_no_token h k)
tokens_once line ts us (IsTokens.next h x) (IsTokens.space k y) = absurd (space_begins_no_token k h)
tokens_once line ts us (IsTokens.next {rest = r} {t = t} {ts = vs} h x) (IsTokens.next {rest = s} {t = u} {ts = ws} k y) =
    let e = begins_once h k in
    cons_same e.0 (tokens_once r vs ws x (subst (λ q. IsTokens q ws) (sym e.1) y))

-- `list` are the tokens of `line` before `rest`.
pub record TokensSoFar (line rest : List ℕ) (list : List Token) : Type 0 where
  pub goes_on : (ts : List Token) → IsTokens rest ts → IsTokens line (list ++ ts)
  pub comes_here : (ts : List Token) → IsTokens line ts → (us : List Token) × IsTokens rest us

after_space : (b : ℕ) (bs : List ℕ) (us : List Token) → is_space b ≡ true → IsTokens (b ∷ bs) us → IsTokens bs us
after_space b bs us h (IsTokens.space k x) = x
after_space b bs us h (IsTokens.next k x) = absurd (space_begins_no_token h k)

so_far_space : (line more : List ℕ) (b : ℕ) (list : List Token) → TokensSoFar line (b ∷ more) list → is_space b ≡ true → TokensSoFar line more list
so_far_space line more b list s h = record {
  goes_on = λ ts x. s.goes_on ts (IsTokens.space h x);
  comes_here = λ ts x. let y = s.comes_here ts x in (y.0, after_space b more y.0 h y.1);
}

after_token : (bs rest : List ℕ) (t : Token) (us : List Token) → BeginsWith bs t rest → IsTokens bs us → (vs : List Token) × IsTokens rest vs
after_token bs rest t us h IsTokens.done = elim h [ ]
after_token bs rest t us h (IsTokens.space k x) = absurd (space_begins_no_token k h)
after_token bs rest t us h (IsTokens.next {rest = r} {t = u} {ts = vs} k x) = (vs, subst (λ q. IsTokens q vs) (sym (begins_once h k).1) x)

so_far_token : (line rest after : List ℕ) (t : Token) (list : List Token) → TokensSoFar line rest list → BeginsWith rest t after → TokensSoFar line after (list ++ t ∷ [])
so_far_token line rest after t list s h = record {
  goes_on = λ ts x. subst (IsTokens line) (sym (append_assoc list (t ∷ []) ts)) (s.goes_on (t ∷ ts) (IsTokens.next h x));
  comes_here = λ ts x. let y = s.comes_here ts x in after_token rest after t y.0 h y.1;
}

begins_none : (b : ℕ) (bs : List ℕ) (us : List Token) → is_space b ≡ false → ((t : Token) (r : List ℕ) → BeginsWith (b ∷ bs) t r → ⊥) → IsTokens (b ∷ bs) us → ⊥
begins_none b bs us h n (IsTokens.space k x) = cc
begins_none b bs us h n (IsTokens.next {rest = r} {t = t} k x) = n t r k

so_far_refused : (line more : List ℕ) (b : ℕ) (list : List Token) → TokensSoFar line (b ∷ more) list → is_space b ≡ false → ((t : Token) (r : List ℕ) → BeginsWith (b ∷ more) t r → ⊥) → (ts : List Token) → IsTokens line ts → ⊥
so_far_refused line more b list s h n ts x = let y = s.comes_here ts x in begins_none b more y.0 h n y.1

digit_at : (ds : List ℕ) (i : ℕ) → i < length ds → list_all is_ascii_digit ds ≡ true → digit_value (get_or ds i 0) + 48 ≡ get_or ds i 0
digit_at ds i h k = grind (arith, nat_tests, AllPass-from_list_all, digit_value_digit)

pub value_more : (ds : List ℕ) (i value next : ℕ) → i < length ds → list_all is_ascii_digit ds ≡ true → value ≡ capped (digits_value 10 (take i ds))
    → next ≡ min (value * 10 + (get_or ds i 0 - 48)) 1000000000 → next ≡ capped (digits_value 10 (take (i + 1) ds))
value_more ds i value next h k e f =
    let d = digit_at ds i h k in
    let m = digits_value_more 10 ds i h in
    omega arith

-- The same, for bytes that are known by an equation.
pub space_read : (line rest more : List ℕ) (b : ℕ) (list : List Token) → TokensSoFar line rest list → rest ≡ b ∷ more → is_space b ≡ true → TokensSoFar line more list
space_read line rest more b list s e h = so_far_space line more b list (subst (λ q. TokensSoFar line q list) e s) h

pub token_read : (line rest after : List ℕ) (t : Token) (list more : List Token) → TokensSoFar line rest list → BeginsWith rest t after → more ≡ list ++ t ∷ [] → TokensSoFar line after more
token_read line rest after t list more s h e = subst (TokensSoFar line after) (sym e) (so_far_token line rest after t list s h)

pub token_refused : (line rest more : List ℕ) (b : ℕ) (list : List Token) → TokensSoFar line rest list → rest ≡ b ∷ more → is_space b ≡ false → ((t : Token) (r : List ℕ) → BeginsWith rest t r → ⊥) → (ts : List Token) → IsTokens line ts → ⊥
token_refused line rest more b list s e h n = so_far_refused line more b list (subst (λ q. TokensSoFar line q list) e s) h (λ t r x. n t r (subst (λ q. BeginsWith q t r) (sym e) x))

pub all_read : (line rest : List ℕ) (list : List Token) → TokensSoFar line rest list → rest ≡ [] → IsTokens line list
all_read line rest list s e = rw append-nil at (s.goes_on [] (subst (λ q. IsTokens q []) (sym e) IsTokens.done))

begins_along : (bs cs : List ℕ) (t u : Token) (r s : List ℕ) → BeginsWith cs u s → bs ≡ cs → t ≡ u → r ≡ s → BeginsWith bs t r
begins_along bs cs t u r s x e f g = subst (λ y. BeginsWith y t r) (sym e) (subst (λ y. BeginsWith cs y r) (sym f) (subst (λ y. BeginsWith cs u y) (sym g) x))

pub sign_front : (bytes more : List ℕ) (b : ℕ) (s : Sign) → bytes ≡ b ∷ more → sign_of b ≡ Some s → BeginsWith bytes (token.Sign s) more
sign_front bytes more b s e h = subst (λ q. BeginsWith q (token.Sign s) more) (sym e) (BeginsWith.a_sign h)

pub number_front : (bytes more : List ℕ) (b end value : ℕ) → bytes ≡ b ∷ more → is_ascii_digit b ≡ true → end ≡ prefix_len is_ascii_digit bytes
    → value ≡ capped (digits_value 10 (take end bytes)) → BeginsWith bytes (token.Number value) (take (length bytes - end) (drop end bytes))
number_front bytes more b end value e h f g =
    let f2 : end ≡ prefix_len is_ascii_digit (b ∷ more) = f ∙ ap (prefix_len is_ascii_digit) e in
    begins_along bytes (b ∷ more) (token.Number value) _ (take (length bytes - end) (drop end bytes)) _ (BeginsWith.a_number {b = b} {bs = more} h) e
    (ap token.Number (g ∙ (λ i. capped (digits_value 10 (take (f2 i) (e i))))))
    (rest_is_drop bytes end ∙ (λ i. drop (f2 i) (e i)))

pub word_front : (bytes more : List ℕ) (b end : ℕ) (t : Token) → bytes ≡ b ∷ more → is_ascii_alphabetic b ≡ true → end ≡ prefix_len is_word_byte bytes
    → t ≡ word_token (take end bytes) → BeginsWith bytes t (take (length bytes - end) (drop end bytes))
word_front bytes more b end t e h f g =
    let f2 : end ≡ prefix_len is_word_byte (b ∷ more) = f ∙ ap (prefix_len is_word_byte) e in
    begins_along bytes (b ∷ more) t _ (take (length bytes - end) (drop end bytes)) _ (BeginsWith.a_word {b = b} {bs = more} h) e
    (g ∙ (λ i. word_token (take (f2 i) (e i))))
    (rest_is_drop bytes end ∙ (λ i. drop (f2 i) (e i)))

no_front_cons : (b : ℕ) (bs : List ℕ) → sign_of b ≡ None → is_ascii_digit b ≡ false → is_ascii_alphabetic b ≡ false → (t : Token) (r : List ℕ) → BeginsWith (b ∷ bs) t r → ⊥
no_front_cons b bs h k l t r (BeginsWith.a_sign x) = cc
no_front_cons b bs h k l t r (BeginsWith.a_number x) = cc
no_front_cons b bs h k l t r (BeginsWith.a_word x) = cc

pub no_front : (bytes more : List ℕ) (b : ℕ) → bytes ≡ b ∷ more → sign_of b ≡ None → is_ascii_digit b ≡ false → is_ascii_alphabetic b ≡ false → (t : Token) (r : List ℕ) → BeginsWith bytes t r → ⊥
no_front bytes more b e h k l t r x = no_front_cons b more h k l t r (subst (λ q. BeginsWith q t r) e x)

pub digits_are_digits : (bs : List ℕ) (n : ℕ) → n ≡ prefix_len is_ascii_digit bs → list_all is_ascii_digit (take n bs) ≡ true
digits_are_digits bs n e = rw e (list_all-from_AllPass is_ascii_digit (take (prefix_len is_ascii_digit bs) bs) (λ k d h. grind (arith, common_steps, prefix_len_passes)))
