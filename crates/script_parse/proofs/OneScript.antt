-- A line says one thing, so lines are one script or have one first fault, and not both.
use Rattle.std.proofs.Common.{◌≡◌, ℕ, ◌+◌, Bool, List, length, refl, sym, ap, ◌∙◌, subst}
use Rattle.std.specs.Str.Lines.{strip_carriage_return}
use Rattle.script_statement.specs.declared.Form.{Form}
use Rattle.script_parse.specs.declared.size.SizeKind.{SizeKind}
use Rattle.script_parse.specs.declared.script.Statement.{Statement}
use Rattle.script_lang.specs.declared.Token.{Token}
use Rattle.script_lang.specs.declared.Token.TheVariants as token
use Rattle.script_lang.proofs.Equal.{same_some, cons_same}
use Rattle.script_lang.proofs.Lexing.{space_no_sign, space_no_digit, space_no_letter, digit_no_sign, digit_no_letter, letter_no_sign}
use Rattle.script_statement.specs.declared.Verb.{Verb}
use Rattle.script_statement.specs.Statements.{IsVerb, IsStatement}
use Rattle.script_statement.proofs.OneForm.{verb_once, statement_once}
use Rattle.script_parse.specs.declared.line.Line.{Line}
use Rattle.script_parse.specs.declared.line.Line.TheVariants as line
use Rattle.script_parse.specs.declared.script.Refused.{Refused}
use Rattle.script_parse.specs.declared.script.Refused.TheVariants as refused
use Rattle.script_parse.specs.Version.{Limits}
use Rattle.script_parse.specs.Exact.{IsExact, StandsFor}
use Rattle.script_parse.specs.Limits.{line_limit, gives_name}
use Rattle.script_parse.specs.Says.{LineSays}
use Rattle.script_parse.specs.Scripts.{IsScript, FirstFault, statement_of, count}

exact_once : {bs : List ℕ} {ts us : List Token} → IsExact bs ts → IsExact bs us → ts ≡ us
exact_once IsExact.no_bytes IsExact.no_bytes = refl
exact_once (IsExact.blank_byte h x) (IsExact.blank_byte k y) = exact_once x y
exact_once (IsExact.blank_byte {b = b} h x) (IsExact.exact_sign {s = s} k y) = absurd (space_no_sign b s h k)
exact_once (IsExact.blank_byte {b = b} h x) (IsExact.exact_number k y) = absurd (space_no_digit b h k)
exact_once (IsExact.blank_byte {b = b} h x) (IsExact.exact_word k y) = absurd (space_no_letter b h k)
exact_once (IsExact.exact_sign {b = b} {s = s} h x) (IsExact.blank_byte k y) = absurd (space_no_sign b s k h)
exact_once (IsExact.exact_sign h x) (IsExact.exact_sign k y) = cons_same (ap token.Sign (same_some (sym h ∙ k))) (exact_once x y)
exact_once (IsExact.exact_sign {b = b} {s = s} h x) (IsExact.exact_number k y) = absurd (digit_no_sign b s k h)
exact_once (IsExact.exact_sign {b = b} {s = s} h x) (IsExact.exact_word k y) = absurd (letter_no_sign b s k h)
exact_once (IsExact.exact_number {b = b} h x) (IsExact.blank_byte k y) = absurd (space_no_digit b k h)
exact_once (IsExact.exact_number h x) (IsExact.exact_sign {b = b} {s = s} k y) = absurd (digit_no_sign b s h k)
exact_once (IsExact.exact_number h x) (IsExact.exact_number k y) = cons_same refl (exact_once x y)
exact_once (IsExact.exact_number {b = b} h x) (IsExact.exact_word k y) = absurd (digit_no_letter b h k)
exact_once (IsExact.exact_word {b = b} h x) (IsExact.blank_byte k y) = absurd (space_no_letter b k h)
exact_once (IsExact.exact_word h x) (IsExact.exact_sign {b = b} {s = s} k y) = absurd (letter_no_sign b s h k)
exact_once (IsExact.exact_word {b = b} h x) (IsExact.exact_number k y) = absurd (digit_no_letter b k h)
exact_once (IsExact.exact_word h x) (IsExact.exact_word k y) = cons_same refl (exact_once x y)

pub stands_once : (l : List ℕ) (f g : Form) → StandsFor l f → StandsFor l g → f ≡ g
stands_once l f g x y = statement_once x.2 (subst (λ q. IsStatement q g) (sym (exact_once x.1 y.1)) y.2)

-- A line has one list of tokens, one verb, and one list of operands.
one_limit : (lim : Limits) (s g : ℕ) {bs : List ℕ} {ts us xs ys : List Token} {v w : Verb} → IsExact bs ts → IsVerb ts v us → IsExact bs xs → IsVerb xs w ys → line_limit lim s g v us ≡ line_limit lim s g w ys
one_limit lim s g {ys = ys} {w = w} a b c d =
    let e = verb_once b (subst (λ q. IsVerb q w ys) (sym (exact_once a c)) d) in
    (λ i. line_limit lim s g (e.0 i) (e.1 i))

one_naming : {bs : List ℕ} {ts us xs ys : List Token} {v w : Verb} → IsExact bs ts → IsVerb ts v us → IsExact bs xs → IsVerb xs w ys → gives_name v us ≡ gives_name w ys
one_naming {ys = ys} {w = w} a b c d =
    let e = verb_once b (subst (λ q. IsVerb q w ys) (sym (exact_once a c)) d) in
    (λ i. gives_name (e.0 i) (e.1 i))

says_once : {lim : Limits} {s g : ℕ} {l : List ℕ} {p q : Line} → LineSays lim s g l p → LineSays lim s g l q → p ≡ q
says_once (LineSays.blank h) (LineSays.blank k) = refl
says_once (LineSays.blank h) (LineSays.no_statement k x) = absurd cc
says_once (LineSays.blank h) (LineSays.too_large k x y z e) = absurd cc
says_once (LineSays.blank h) (LineSays.statement k x y z e) = absurd cc
says_once (LineSays.no_statement h n) (LineSays.blank k) = absurd cc
says_once (LineSays.no_statement h n) (LineSays.no_statement k m) = refl
says_once (LineSays.no_statement h n) (LineSays.too_large {ts = ts} {f = f} k x y z e) = absurd (n f (ts, x, IsStatement.says y z))
says_once (LineSays.no_statement h n) (LineSays.statement {ts = ts} {f = f} k x y z e) = absurd (n f (ts, x, IsStatement.says y z))
says_once (LineSays.too_large h a b c d) (LineSays.blank k) = absurd cc
says_once (LineSays.too_large {ts = ts} {f = f} h a b c d) (LineSays.no_statement k n) = absurd (n f (ts, a, IsStatement.says b c))
says_once {lim} {s} {g} (LineSays.too_large h a b c d) (LineSays.too_large k x y z e) = ap line.Size (same_some (sym d ∙ one_limit lim s g a b x y ∙ e))
says_once {lim} {s} {g} (LineSays.too_large h a b c d) (LineSays.statement k x y z e) = let f = sym d ∙ one_limit lim s g a b x y ∙ e in absurd cc
says_once (LineSays.statement h a b c d) (LineSays.blank k) = absurd cc
says_once (LineSays.statement {ts = ts} {f = f} h a b c d) (LineSays.no_statement k n) = absurd (n f (ts, a, IsStatement.says b c))
says_once {lim} {s} {g} (LineSays.statement h a b c d) (LineSays.too_large k x y z e) = let f = sym d ∙ one_limit lim s g a b x y ∙ e in absurd cc
says_once {l = l} (LineSays.statement {ts = ts} {f = f} h a b c d) (LineSays.statement {ts = us} {f = g} k x y z e) =
    let r : f ≡ g = stands_once l f g (ts, a, IsStatement.says b c) (us, x, IsStatement.says y z) in
    let o = one_naming a b x y in
    (λ i. line.Says (r i) (o i))

same_form : {f g : Form} {a b : Bool} → line.Says f a ≡ line.Says g b → f ≡ g
same_form e = cc

same_naming : {f g : Form} {a b : Bool} → line.Says f a ≡ line.Says g b → a ≡ b
same_naming e = cc

same_kind : {k j : SizeKind} → line.Size k ≡ line.Size j → k ≡ j
same_kind e = cc

pub script_once : {lim : Limits} {n at s g : ℕ} {ls : List (List ℕ)} {xs ys : List Statement} → IsScript lim n at s g ls xs → IsScript lim n at s g ls ys → xs ≡ ys
script_once IsScript.no_lines IsScript.no_lines = refl
script_once (IsScript.blank_line x a) (IsScript.blank_line y b) = script_once a b
script_once (IsScript.blank_line x a) (IsScript.statement_line y b) = let e = says_once x y in absurd cc
script_once (IsScript.statement_line x a) (IsScript.blank_line y b) = let e = says_once x y in absurd cc
script_once {lim} {n} {at} {s} {g} (IsScript.statement_line {l = l} {ls = ls} {named = c} x a) (IsScript.statement_line {named = d} {list = ys} y b) =
    let e = says_once x y in
    let b1 = subst (λ q. IsScript lim (n + 1) (at + length l + 1) (s + 1) (g + count q) ls ys) (sym (same_naming e)) b in
    cons_same (ap (statement_of n at (at + length (strip_carriage_return l))) (same_form e)) (script_once a b1)

pub fault_once : {lim : Limits} {n s g : ℕ} {ls : List (List ℕ)} {p q : Refused} → FirstFault lim n s g ls p → FirstFault lim n s g ls q → p ≡ q
fault_once (FirstFault.syntax_here x) (FirstFault.syntax_here y) = refl
fault_once (FirstFault.syntax_here x) (FirstFault.size_here y) = let e = says_once x y in absurd cc
fault_once (FirstFault.syntax_here x) (FirstFault.after_blank y b) = let e = says_once x y in absurd cc
fault_once (FirstFault.syntax_here x) (FirstFault.after_statement y b) = let e = says_once x y in absurd cc
fault_once (FirstFault.size_here x) (FirstFault.syntax_here y) = let e = says_once x y in absurd cc
fault_once {n = n} (FirstFault.size_here x) (FirstFault.size_here y) = ap (λ k. refused.Size k n) (same_kind (says_once x y))
fault_once (FirstFault.size_here x) (FirstFault.after_blank y b) = let e = says_once x y in absurd cc
fault_once (FirstFault.size_here x) (FirstFault.after_statement y b) = let e = says_once x y in absurd cc
fault_once (FirstFault.after_blank x a) (FirstFault.syntax_here y) = let e = says_once x y in absurd cc
fault_once (FirstFault.after_blank x a) (FirstFault.size_here y) = let e = says_once x y in absurd cc
fault_once (FirstFault.after_blank x a) (FirstFault.after_blank y b) = fault_once a b
fault_once (FirstFault.after_blank x a) (FirstFault.after_statement y b) = let e = says_once x y in absurd cc
fault_once (FirstFault.after_statement x a) (FirstFault.syntax_here y) = let e = says_once x y in absurd cc
fault_once (FirstFault.after_statement x a) (FirstFault.size_here y) = let e = says_once x y in absurd cc
fault_once (FirstFault.after_statement x a) (FirstFault.after_blank y b) = let e = says_once x y in absurd cc
fault_once {lim} {n} {s} {g} {q = q} (FirstFault.after_statement {ls = ls} x a) (FirstFault.after_statement y b) =
    let e = says_once x y in
    fault_once a (subst (λ v. FirstFault lim (n + 1) (s + 1) (g + count v) ls q) (sym (same_naming e)) b)

pub no_fault : {lim : Limits} {n at s g : ℕ} {ls : List (List ℕ)} {xs : List Statement} {r : Refused} → IsScript lim n at s g ls xs → FirstFault lim n s g ls r → ⊥
no_fault IsScript.no_lines y = elim y [ ]
no_fault (IsScript.blank_line x a) (FirstFault.syntax_here y) = let e = says_once x y in cc
no_fault (IsScript.blank_line x a) (FirstFault.size_here y) = let e = says_once x y in cc
no_fault (IsScript.blank_line x a) (FirstFault.after_blank y b) = no_fault a b
no_fault (IsScript.blank_line x a) (FirstFault.after_statement y b) = let e = says_once x y in cc
no_fault (IsScript.statement_line x a) (FirstFault.syntax_here y) = let e = says_once x y in cc
no_fault (IsScript.statement_line x a) (FirstFault.size_here y) = let e = says_once x y in cc
no_fault (IsScript.statement_line x a) (FirstFault.after_blank y b) = let e = says_once x y in cc
no_fault {lim} {n} {at} {s} {g} {r = r} (IsScript.statement_line {ls = ls} x a) (FirstFault.after_statement y b) =
    let e = says_once x y in
    no_fault a (subst (λ v. FirstFault lim (n + 1) (s + 1) (g + count v) ls r) (sym (same_naming e)) b)
