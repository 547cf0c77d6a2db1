-- Lines that are statements within the limits, one after another, are a script.
use Rattle.std.proofs.Common.{◌≡◌, ℕ, suc, ◌+◌, ◌<◌, ◌≤◌, ◌==◌, ◌&&◌, Bool, true, false, not, None, List, [], ◌∷◌, ◌++◌, length, refl, sym, ap, ◌∙◌, subst, append_assoc, arith}
use Rattle.std.specs.Prelude.{nat_lt}
use Rattle.std.specs.List.{flat_map, list_all}
use Rattle.std.specs.Str.Lines.{strip_carriage_return}
use Rattle.std.proofs.lemmas.Bool.{and_parts, ltb-true}
use Rattle.script_lang.specs.declared.Token.{Token}
use Rattle.script_lang.specs.Lines.{is_space, lines}
use Rattle.script_lang.proofs.Splitting.{lines_of_line}
use Rattle.script_statement.specs.declared.Form.{Form}
use Rattle.script_statement.specs.declared.Verb.{Verb}
use Rattle.script_statement.specs.Statements.{IsVerb, IsOperands}
use Rattle.script_parse.specs.declared.Statement.{Statement}
use Rattle.script_parse.specs.declared.Line.TheVariants as says
use Rattle.script_parse.specs.Exact.{IsExact}
use Rattle.script_parse.specs.Limits.{line_limit, gives_name}
use Rattle.script_parse.specs.Says.{LineSays}
use Rattle.script_parse.specs.Scripts.{IsScript, statement_of, count}
use Rattle.script_parse.specs.Version.{version_1}
use Rattle.sample_script.proofs.Tokens.{lacks, line_feed, content_is}

-- The text is a line with its line feed, which is a statement within the limits where few statements and names stand
-- before.
pub record IsLine (text : List ℕ) : Type 0 where
  pub line : List ℕ
  pub ends : text ≡ line ++ 10 ∷ []
  pub no_feed : list_all (λ b. not (b == 10)) line ≡ true
  pub said : (s g : ℕ) → s < 1000 → g < 256 → (f : Form) × (named : Bool) × LineSays version_1 s g line (says.Says f named)

-- A line of tokens says the form that they are.
pub is_line : (b : ℕ) (bs : List ℕ) {ts us : List Token} {v : Verb} (f : Form) → is_space b ≡ false → IsExact (b ∷ bs) ts → IsVerb ts v us → IsOperands v us f
    → ((s g : ℕ) → s < 1000 → g < 256 → line_limit version_1 s g v us ≡ None) → IsLine ((b ∷ bs) ++ 10 ∷ [])
is_line b bs {ts} {us} {v} f begins x verb operands limit =
    let same = content_is b bs x in
    let not_blank : list_all is_space (b ∷ bs) ≡ false = ap (λ c. c && list_all is_space bs) begins in
    record {
      line = b ∷ bs;
      ends = refl;
      no_feed = lacks 10 line_feed x;
      said = λ s g few free. (f, gives_name v us, LineSays.statement (ap (list_all is_space) same ∙ not_blank) (subst (λ q. IsExact q ts) (sym same) x) verb operands (limit s g few free));
    }

-- The bytes go on as a script of so many statements, where those before it leave room for them.
abbrev pub Continues : List ℕ → ℕ → Type 0
Continues bytes c = (n at s g : ℕ) → s + c ≤ 1000 → g + c ≤ 256 → (list : List Statement) × IsScript version_1 n at s g (lines bytes) list × (length list ≡ c)

pub no_more : Continues [] 0
no_more n at s g few free = ([], IsScript.no_lines, refl)

count_small : (b : Bool) → count b ≤ 1
count_small true = omega arith
count_small false = omega arith

pub line_before : (text rest : List ℕ) (c : ℕ) → IsLine text → Continues rest c → Continues (text ++ rest) (suc c)
line_before text rest c l more n at s g few free =
    let one = l.said s g (omega (arith, few)) (omega (arith, free)) in
    let named = count_small one.1 in
    let after = more (n + 1) (at + length l.line + 1) (s + 1) (g + count one.1) (omega (arith, few)) (omega (arith, free, named)) in
    let here = statement_of n (at) (at + length (strip_carriage_return l.line)) one.0 in
    let split : lines (text ++ rest) ≡ l.line ∷ lines rest = ap (λ q. lines (q ++ rest)) l.ends ∙ ap lines (append_assoc l.line (10 ∷ []) rest) ∙ lines_of_line l.line rest l.no_feed in
    (here ∷ after.0, subst (λ q. IsScript version_1 n at s g q (here ∷ after.0)) (sym split) (IsScript.statement_line one.2 after.1), ap suc after.2)

-- Texts of numbers below 13 that are lines, before a script.
pub lines_before : (f : ℕ → List ℕ) → ((k : ℕ) → k < 13 → IsLine (f k)) → (ks : List ℕ) → list_all (λ k. nat_lt k 13) ks ≡ true
    → (rest : List ℕ) (c : ℕ) → Continues rest c → Continues (flat_map f ks ++ rest) (length ks + c)
lines_before f each [] below rest c more = let same : c ≡ 0 + c = omega arith in subst (Continues rest) same more
lines_before f each (k ∷ ks) below rest c more =
    let parts = and_parts (nat_lt k 13) _ below in
    let after = lines_before f each ks parts.1 rest c more in
    let all = line_before (f k) (flat_map f ks ++ rest) (length ks + c) (each k (ltb-true k 13 parts.0)) after in
    let same : suc (length ks + c) ≡ suc (length ks) + c = omega arith in
    subst (Continues (flat_map f (k ∷ ks) ++ rest)) same (subst (λ q. Continues q (suc (length ks + c))) (sym (append_assoc (f k) (flat_map f ks) rest)) all)
