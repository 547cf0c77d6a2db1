-- A line's tokens with whole numbers, and those with numbers up to a cap: they are statements alike,
-- and pass the same limit; where they pass none, they are the same.
use Rattle.std.proofs.Common.{◌≡◌, ℕ, ◌+◌, Bool, true, false, ◌||◌, ◌&&◌, nat_lt, if◌then◌else◌, Option, Some, None, List, [], ◌∷◌, refl, sym, ap, ◌∙◌, subst, arith}
use Rattle.std.proofs.lemmas.Bool.Decides.{nat_tests}
use Rattle.std.specs.List.{take_while, list_any}
use Rattle.std.specs.Option.{option_or}
use Rattle.std.specs.Char.{is_ascii_digit}
use Rattle.std.specs.Str.Parse.{digits_value}
use Rattle.script_statement.specs.declared.Form.{Form}
use Rattle.script_parse.specs.declared.size.SizeKind.{SizeKind}
use Rattle.script_parse.specs.declared.size.SizeKind.TheVariants as size
use Rattle.script_lang.specs.declared.Token.{Token}
use Rattle.script_lang.specs.declared.Token.TheVariants as token
use Rattle.script_lang.specs.Lines.{content, is_blank}
use Rattle.script_lang.specs.Tokens.{is_word_byte, word_token, capped, BeginsWith, IsTokens}
use Rattle.script_lang.proofs.Equal.{cons_same}
use Rattle.script_lang.proofs.Lexing.{tokens_once}
use Rattle.script_statement.specs.declared.Verb.{Verb}
use Rattle.script_statement.specs.Statements.{IsVerb, IsOperands, IsStatement}
use Rattle.script_statement.proofs.OneForm.{verb_once}
use Rattle.script_parse.specs.declared.line.Line.TheVariants as line
use Rattle.script_parse.specs.Version.{Limits}
use Rattle.script_parse.specs.steps.Fit.{AreFit}
use Rattle.script_parse.specs.Exact.{IsExact, StandsFor}
use Rattle.script_parse.specs.Limits.{over_limit, place_limit, is_bounded, number_limit, is_empty, passes, first_limit, is_as, is_naming, gives_name, line_limit}
use Rattle.script_parse.specs.Says.{LineSays}
use Rattle.script_parse.proofs.Shapes.{SameShape, shape_next, shape_operands, shape_statement}

pub data Caps : List Token → List Token → Type 0 where
  no_caps : Caps [] []
  cap_number : {n : ℕ} {ts us : List Token} → Caps ts us → Caps (token.Number n ∷ ts) (token.Number (capped n) ∷ us)
  cap_same : {t : Token} {ts us : List Token} → Caps ts us → Caps (t ∷ ts) (t ∷ us)

capped_zero : (n : ℕ) → capped n ≡ 0 → n ≡ 0
capped_zero n e = omega arith

zero_capped : (n : ℕ) → n ≡ 0 → capped n ≡ 0
zero_capped n e = omega arith

caps_shape : {ts us : List Token} → Caps ts us → SameShape ts us
caps_shape Caps.no_caps = SameShape.no_tokens
caps_shape (Caps.cap_number {n = n} x) = SameShape.two_numbers (capped_zero n) (caps_shape x)
caps_shape (Caps.cap_same {t = t} x) = shape_next t (caps_shape x)

caps_back : {ts us : List Token} → Caps ts us → SameShape us ts
caps_back Caps.no_caps = SameShape.no_tokens
caps_back (Caps.cap_number {n = n} x) = SameShape.two_numbers (zero_capped n) (caps_back x)
caps_back (Caps.cap_same {t = t} x) = shape_next t (caps_back x)

exact_tokens : {bs : List ℕ} {ts : List Token} → IsExact bs ts → (us : List Token) × IsTokens bs us × Caps ts us
exact_tokens IsExact.no_bytes = ([], IsTokens.done, Caps.no_caps)
exact_tokens (IsExact.blank_byte h x) = let e = exact_tokens x in (e.0, IsTokens.space h e.1, e.2)
exact_tokens (IsExact.exact_sign {s = s} h x) = let e = exact_tokens x in (token.Sign s ∷ e.0, IsTokens.next (BeginsWith.a_sign h) e.1, Caps.cap_same e.2)
exact_tokens (IsExact.exact_number {b = b} {bs = bs} h x) =
    let e = exact_tokens x in
    (token.Number (capped (digits_value 10 (take_while is_ascii_digit (b ∷ bs)))) ∷ e.0, IsTokens.next (BeginsWith.a_number {b = b} {bs = bs} h) e.1, Caps.cap_number e.2)
exact_tokens (IsExact.exact_word {b = b} {bs = bs} h x) =
    let e = exact_tokens x in
    (word_token (take_while is_word_byte (b ∷ bs)) ∷ e.0, IsTokens.next (BeginsWith.a_word {b = b} {bs = bs} h) e.1, Caps.cap_same e.2)

tokens_exact : {bs : List ℕ} {us : List Token} → IsTokens bs us → (ts : List Token) × IsExact bs ts × Caps ts us
tokens_exact IsTokens.done = ([], IsExact.no_bytes, Caps.no_caps)
tokens_exact (IsTokens.space h x) = let e = tokens_exact x in (e.0, IsExact.blank_byte h e.1, e.2)
tokens_exact (IsTokens.next (BeginsWith.a_sign {s = s} h) x) = let e = tokens_exact x in (token.Sign s ∷ e.0, IsExact.exact_sign h e.1, Caps.cap_same e.2)
tokens_exact (IsTokens.next (BeginsWith.a_number {b = b} {bs = bs} h) x) =
    let e = tokens_exact x in
    (token.Number (digits_value 10 (take_while is_ascii_digit (b ∷ bs))) ∷ e.0, IsExact.exact_number {b = b} {bs = bs} h e.1, Caps.cap_number e.2)
tokens_exact (IsTokens.next (BeginsWith.a_word {b = b} {bs = bs} h) x) =
    let e = tokens_exact x in
    (word_token (take_while is_word_byte (b ∷ bs)) ∷ e.0, IsExact.exact_word {b = b} {bs = bs} h e.1, Caps.cap_same e.2)

-- A limit below the cap is passed by a number and by the capped one alike.
capped_within : (most n : ℕ) → capped (most + 1) ≡ most + 1 → nat_lt most n ≡ false → capped n ≡ n
capped_within most n h e = grind (arith, nat_tests)

within_capped : (most n : ℕ) → capped (most + 1) ≡ most + 1 → nat_lt most (capped n) ≡ false → capped n ≡ n
within_capped most n h e = grind (arith, nat_tests)

capped_over : (most n : ℕ) → capped (most + 1) ≡ most + 1 → nat_lt most n ≡ true → nat_lt most (capped n) ≡ true
capped_over most n h e = grind (arith, nat_tests)

number_over : (lim : Limits) → (v : Verb) (before : List Token) (n : ℕ) (behind : List Token) → nat_lt lim.number n ≡ true → number_limit lim v before n behind ≡ Some size.Number
number_over lim v before n behind e = cc

empties : {ts us : List Token} → Caps ts us → is_empty ts ≡ is_empty us
empties Caps.no_caps = refl
empties (Caps.cap_number x) = refl
empties (Caps.cap_same x) = refl

number_behind : (lim : Limits) → (v : Verb) (before : List Token) (n : ℕ) (ts us : List Token) → is_empty ts ≡ is_empty us → number_limit lim v before n ts ≡ number_limit lim v before n us
number_behind lim v before n ts us e =
    ap (λ b. if nat_lt lim.number n then Some size.Number else if is_bounded v && b then over_limit lim.bound n size.Bound else place_limit lim v before n) e

passes_behind : (lim : Limits) → (v : Verb) (before : List Token) (t : Token) (ts us : List Token) → is_empty ts ≡ is_empty us → passes lim v before t ts ≡ passes lim v before t us
passes_behind lim v before (token.Number n) ts us e = number_behind lim v before n ts us e
passes_behind lim v before (token.Word w) ts us e = refl
passes_behind lim v before (token.Letter l) ts us e = refl
passes_behind lim v before token.As ts us e = refl
passes_behind lim v before (token.Sign s) ts us e = refl

number_same : (lim : Limits) → AreFit lim → (v : Verb) (before : List Token) (n : ℕ) (ts us : List Token) → is_empty ts ≡ is_empty us
    → first_limit lim v (token.Number n ∷ before) ts ≡ first_limit lim v (token.Number n ∷ before) us
    → (b : Bool) → nat_lt lim.number n ≡ b → first_limit lim v before (token.Number n ∷ ts) ≡ first_limit lim v before (token.Number (capped n) ∷ us)
number_same lim fit v before n ts us a h true e =
    let f = number_over lim v before n ts e in
    let g = number_over lim v before (capped n) us (capped_over lim.number n fit.number e) in
    ap (λ k. option_or k (first_limit lim v (token.Number n ∷ before) ts)) f ∙ sym (ap (λ k. option_or k (first_limit lim v (token.Number (capped n) ∷ before) us)) g)
number_same lim fit v before n ts us a h false e =
    let f : first_limit lim v before (token.Number n ∷ ts) ≡ first_limit lim v before (token.Number n ∷ us) = (λ i. option_or (number_behind lim v before n ts us a i) (h i)) in
    subst (λ m. first_limit lim v before (token.Number n ∷ ts) ≡ first_limit lim v before (token.Number m ∷ us)) (sym (capped_within lim.number n fit.number e)) f

limits_same : (lim : Limits) → AreFit lim → (v : Verb) (before : List Token) {ts us : List Token} → Caps ts us → first_limit lim v before ts ≡ first_limit lim v before us
limits_same lim fit v before Caps.no_caps = refl
limits_same lim fit v before (Caps.cap_same {t = t} {ts = ts} {us = us} x) = (λ i. option_or (passes_behind lim v before t ts us (empties x) i) (limits_same lim fit v (t ∷ before) x i))
limits_same lim fit v before (Caps.cap_number {n = n} {ts = ts} {us = us} x) = number_same lim fit v before n ts us (empties x) (limits_same lim fit v (token.Number n ∷ before) x) (nat_lt lim.number n) refl

pub first_none : (a b : Option SizeKind) → option_or a b ≡ None → a ≡ None
first_none None b e = refl
first_none (Some k) b e = absurd cc

pub second_none : (a b : Option SizeKind) → option_or a b ≡ None → b ≡ None
second_none None b e = e
second_none (Some k) b e = absurd cc

number_none : (lim : Limits) → (v : Verb) (before : List Token) (n : ℕ) (behind : List Token) (b : Bool) → nat_lt lim.number n ≡ b → number_limit lim v before n behind ≡ None → b ≡ false
number_none lim v before n behind false e f = refl
number_none lim v before n behind true e f = let g = number_over lim v before n behind e in absurd cc

caps_equal : (lim : Limits) → AreFit lim → (v : Verb) (before : List Token) {ts us : List Token} → Caps ts us → first_limit lim v before us ≡ None → ts ≡ us
caps_equal lim fit v before Caps.no_caps e = refl
caps_equal lim fit v before (Caps.cap_same {t = t} {us = us} x) e =
    cons_same refl (caps_equal lim fit v (t ∷ before) x (second_none (passes lim v before t us) (first_limit lim v (t ∷ before) us) e))
caps_equal lim fit v before (Caps.cap_number {n = n} {us = us} x) e =
    let t = token.Number (capped n) in
    let f = first_none (passes lim v before t us) (first_limit lim v (t ∷ before) us) e in
    let g = number_none lim v before (capped n) us (nat_lt lim.number (capped n)) refl f in
    cons_same (ap token.Number (sym (within_capped lim.number n fit.number g))) (caps_equal lim fit v (t ∷ before) x (second_none (passes lim v before t us) (first_limit lim v (t ∷ before) us) e))

as_same : {ts us : List Token} → Caps ts us → list_any is_as ts ≡ list_any is_as us
as_same Caps.no_caps = refl
as_same (Caps.cap_number x) = as_same x
as_same (Caps.cap_same {t = t} x) = ap (λ b. is_as t || b) (as_same x)

line_same : (lim : Limits) → AreFit lim → (s g : ℕ) (v : Verb) {ts us : List Token} → Caps ts us → line_limit lim s g v ts ≡ line_limit lim s g v us
line_same lim fit s g v x =
    let a = ap (λ b. is_naming v || b) (as_same x) in
    let b = limits_same lim fit v [] x in
    cc

pub line_within : (lim : Limits) (s g : ℕ) (v : Verb) (us : List Token) → line_limit lim s g v us ≡ None → first_limit lim v [] us ≡ None
line_within lim s g v us e = grind (arith, nat_tests)

-- The exact tokens of a line begin with the same verb, and the numbers of its operands are capped.
verb_back : {ts us rest : List Token} {v : Verb} → Caps ts us → IsVerb us v rest → (more : List Token) × IsVerb ts v more × Caps more rest
verb_back Caps.no_caps y = elim y [ ]
verb_back (Caps.cap_number x) y = elim y [ ]
verb_back (Caps.cap_same {ts = ts} x) (IsVerb.begins e) = (ts, IsVerb.begins e, x)

-- What the reader of a line finds.
pub no_tokens_no_form : (l : List ℕ) → ((us : List Token) → IsTokens (content l) us → ⊥) → (f : Form) → StandsFor l f → ⊥
no_tokens_no_form l h f x = let e = exact_tokens x.1 in h e.0 e.1

no_statement_no_form : (l : List ℕ) (us : List Token) → IsTokens (content l) us → ((f : Form) → IsStatement us f → ⊥) → (f : Form) → StandsFor l f → ⊥
no_statement_no_form l us y h f x =
    let e = exact_tokens x.1 in
    let g = shape_statement x.2 (caps_shape e.2) in
    h g.0 (subst (λ q. IsStatement q g.0) (tokens_once (content l) e.0 us e.1 y) g.1)

no_verb_no_statement : (us : List Token) → ((v : Verb) (rest : List Token) → IsVerb us v rest → ⊥) → (f : Form) → IsStatement us f → ⊥
no_verb_no_statement us h f (IsStatement.says {v = v} {rest = rest} x y) = h v rest x

pub no_verb_no_form : (l : List ℕ) (us : List Token) → IsTokens (content l) us → ((v : Verb) (rest : List Token) → IsVerb us v rest → ⊥) → (f : Form) → StandsFor l f → ⊥
no_verb_no_form l us y h = no_statement_no_form l us y (no_verb_no_statement us h)

no_operands_no_statement : (us rest : List Token) (v : Verb) → IsVerb us v rest → ((f : Form) → IsOperands v rest f → ⊥) → (f : Form) → IsStatement us f → ⊥
no_operands_no_statement us rest v x h f (IsStatement.says {rest = more} y z) =
    let e = verb_once x y in
    let k : IsOperands v more f = subst (λ q. IsOperands q more f) (sym e.0) z in
    h f (subst (λ q. IsOperands v q f) (sym e.1) k)

pub no_operands_no_form : (l : List ℕ) (us rest : List Token) (v : Verb) → IsTokens (content l) us → IsVerb us v rest → ((f : Form) → IsOperands v rest f → ⊥) → (f : Form) → StandsFor l f → ⊥
no_operands_no_form l us rest v y x h = no_statement_no_form l us y (no_operands_no_statement us rest v x h)

pub size_said : (lim : Limits) → AreFit lim → (s g : ℕ) (l : List ℕ) (us rest : List Token) (v : Verb) (f : Form) (k : SizeKind) → is_blank l ≡ false → IsTokens (content l) us → IsVerb us v rest
    → IsOperands v rest f → line_limit lim s g v rest ≡ Some k → LineSays lim s g l (line.Size k)
size_said lim fit s g l us rest v f k b x w y e =
    let t = tokens_exact x in
    let i = verb_back t.2 w in
    let z = shape_operands y (caps_back i.2) in
    LineSays.too_large b t.1 i.1 z.1 (line_same lim fit s g v i.2 ∙ e)

pub form_said : (lim : Limits) → AreFit lim → (s g : ℕ) (l : List ℕ) (us rest : List Token) (v : Verb) (f : Form) (named : Bool) → is_blank l ≡ false → IsTokens (content l) us → IsVerb us v rest
    → IsOperands v rest f → line_limit lim s g v rest ≡ None → named ≡ gives_name v rest → LineSays lim s g l (line.Says f named)
form_said lim fit s g l us rest v f named b x w y e k =
    let t = tokens_exact x in
    let i = verb_back t.2 w in
    let q = caps_equal lim fit v [] i.2 (line_within lim s g v rest e) in
    subst (λ a. LineSays lim s g l (line.Says f a)) (sym k) (LineSays.statement b t.1 (subst (λ r. IsVerb t.0 v r) q i.1) y e)
