-- The loop over the lines of a script.
use Rattle.std.proofs.Common.{◌≡◌, ℕ, ◌+◌, ◌*◌, ◌<◌, ◌≤◌, ◌==◌, if◌then◌else◌, Bool, true, false, List, [], ◌∷◌, ◌++◌, length, refl, sym, ap, ◌∙◌, subst, append_assoc, append-nil, arith}
use Rattle.std.specs.Str.Lines.{strip_carriage_return}
use Rattle.script_statement.specs.declared.Form.{Form}
use Rattle.script_parse.specs.declared.size.SizeKind.{SizeKind}
use Rattle.script_parse.specs.declared.script.Statement.{Statement}
use Rattle.script_lang.specs.Lines.{lines, with_first}
use Rattle.script_lang.proofs.Equal.{same_head}
use Rattle.script_parse.specs.declared.line.Line.TheVariants as line
use Rattle.script_parse.specs.declared.script.Refused.{Refused}
use Rattle.script_parse.specs.declared.script.Refused.TheVariants as refused
use Rattle.script_parse.specs.Says.{LineSays}
use Rattle.script_parse.specs.Version.{version_1}
use Rattle.script_parse.specs.Scripts.{IsScript, FirstFault, statement_of, count}

line_in_at : (b : ℕ) (bs l : List ℕ) (ls : List (List ℕ)) (c : Bool) (q : List (List ℕ)) → ((m : List ℕ) (ms : List (List ℕ)) → q ≡ m ∷ ms → length m ≤ length bs)
    → (if c then [] ∷ q else with_first b q) ≡ l ∷ ls → length l ≤ length (b ∷ bs)
line_in_at b bs l ls true q h e = let f : [] ≡ l = same_head e in omega (arith, ap length f)
line_in_at b bs l ls false [] h e = let f : b ∷ [] ≡ l = same_head e in omega (arith, ap length f)
line_in_at b bs l ls false (m ∷ ms) h e = let f : b ∷ m ≡ l = same_head e in let g = h m ms refl in omega (arith, ap length f)

pub line_in : (bs l : List ℕ) (ls : List (List ℕ)) → lines bs ≡ l ∷ ls → length l ≤ length bs
line_in [] l ls e = absurd cc
line_in (b ∷ bs) l ls e = line_in_at b bs l ls (b == 10) (lines bs) (λ m ms f. line_in bs m ms f) e

-- `list` are the statements of the lines before `rest`, and no line of those is at fault.
pub record ScriptSoFar (bytes rest : List ℕ) (n at s g : ℕ) (list : List Statement) : Type 0 where
  pub goes_on : (more : List Statement) → IsScript version_1 n at s g (lines rest) more → IsScript version_1 1 0 0 0 (lines bytes) (list ++ more)
  pub faults : (r : Refused) → FirstFault version_1 n s g (lines rest) r → FirstFault version_1 1 0 0 (lines bytes) r
  pub short : n + length rest ≤ length bytes + 1
  pub placed : at + (version_1.script + 1) ≤ n * (version_1.script + 1)
  pub counted : s + 1 ≤ n
  pub named : g + 1 ≤ n

pub so_far_start : (bytes : List ℕ) → ScriptSoFar bytes bytes 1 0 0 0 []
so_far_start bytes = record {
  goes_on = λ more h. h;
  faults = λ r h. h;
  short = omega arith;
  placed = omega arith;
  counted = omega arith;
  named = omega arith;
}

pub so_far_blank : (bytes rest l more : List ℕ) (n at s g : ℕ) (list : List Statement) → length bytes ≤ version_1.script → ScriptSoFar bytes rest n at s g list
    → lines rest ≡ l ∷ lines more → length more < length rest → LineSays version_1 s g l line.Blank → ScriptSoFar bytes more (n + 1) (at + length l + 1) s g list
so_far_blank bytes rest l more n at s g list z f e k x =
    let i = line_in rest l (lines more) e in
    let a = f.short in
    let b = f.placed in
    let c = f.counted in
    let d = f.named in
    record {
      goes_on = λ q h. f.goes_on q (subst (λ v. IsScript version_1 n at s g v q) (sym e) (IsScript.blank_line x h));
      faults = λ r h. f.faults r (subst (λ v. FirstFault version_1 n s g v r) (sym e) (FirstFault.after_blank x h));
      short = omega arith;
      placed = omega arith;
      counted = omega arith;
      named = omega arith;
    }

count_in : (b : Bool) → count b ≤ 1
count_in true = omega arith
count_in false = omega arith

pub so_far_statement : (bytes rest l more : List ℕ) (n at s g : ℕ) (list : List Statement) (f : Form) (named : Bool) → length bytes ≤ version_1.script → ScriptSoFar bytes rest n at s g list
    → lines rest ≡ l ∷ lines more → length more < length rest → LineSays version_1 s g l (line.Says f named)
    → ScriptSoFar bytes more (n + 1) (at + length l + 1) (s + 1) (g + count named) (list ++ statement_of n at (at + length (strip_carriage_return l)) f ∷ [])
so_far_statement bytes rest l more n at s g list form named z f e k x =
    let i = line_in rest l (lines more) e in
    let a = f.short in
    let b = f.placed in
    let c = f.counted in
    let d = f.named in
    let o = count_in named in
    let st = statement_of n at (at + length (strip_carriage_return l)) form in
    record {
      goes_on = λ q h. subst (IsScript version_1 1 0 0 0 (lines bytes)) (sym (append_assoc list (st ∷ []) q)) (f.goes_on (st ∷ q) (subst (λ v. IsScript version_1 n at s g v (st ∷ q)) (sym e) (IsScript.statement_line x h)));
      faults = λ r h. f.faults r (subst (λ v. FirstFault version_1 n s g v r) (sym e) (FirstFault.after_statement x h));
      short = omega arith;
      placed = omega arith;
      counted = omega arith;
      named = omega arith;
    }

pub script_read : (bytes rest : List ℕ) (n at s g : ℕ) (list : List Statement) → ScriptSoFar bytes rest n at s g list → rest ≡ [] → IsScript version_1 1 0 0 0 (lines bytes) list
script_read bytes rest n at s g list f e =
    rw append-nil at (f.goes_on [] (subst (λ v. IsScript version_1 n at s g (lines v) []) (sym e) IsScript.no_lines))

pub syntax_found : (bytes rest l more : List ℕ) (n at s g : ℕ) (list : List Statement) → ScriptSoFar bytes rest n at s g list → lines rest ≡ l ∷ lines more → LineSays version_1 s g l line.Syntax
    → FirstFault version_1 1 0 0 (lines bytes) (refused.Syntax n)
syntax_found bytes rest l more n at s g list f e x = f.faults (refused.Syntax n) (subst (λ v. FirstFault version_1 n s g v (refused.Syntax n)) (sym e) (FirstFault.syntax_here x))

pub size_found : (bytes rest l more : List ℕ) (n at s g : ℕ) (list : List Statement) (k : SizeKind) → ScriptSoFar bytes rest n at s g list → lines rest ≡ l ∷ lines more → LineSays version_1 s g l (line.Size k)
    → FirstFault version_1 1 0 0 (lines bytes) (refused.Size k n)
size_found bytes rest l more n at s g list k f e x = f.faults (refused.Size k n) (subst (λ v. FirstFault version_1 n s g v (refused.Size k n)) (sym e) (FirstFault.size_here x))

pub so_far_blank_on : (bytes rest l more : List ℕ) (n at s g : ℕ) (list : List Statement) {m to : ℕ} → length bytes ≤ version_1.script → ScriptSoFar bytes rest n at s g list
    → lines rest ≡ l ∷ lines more → length more < length rest → LineSays version_1 s g l line.Blank → m ≡ n + 1 → to ≡ at + length l + 1 → ScriptSoFar bytes more m to s g list
so_far_blank_on bytes rest l more n at s g list {m} {to} z f e k x a b =
    subst (λ q. ScriptSoFar bytes more q to s g list) (sym a) (subst (λ q. ScriptSoFar bytes more (n + 1) q s g list) (sym b) (so_far_blank bytes rest l more n at s g list z f e k x))

pub so_far_statement_on : (bytes rest l more : List ℕ) (n at s g : ℕ) (list : List Statement) (stop : ℕ) (f : Form) (named : Bool) {m to t h : ℕ} {all : List Statement} → length bytes ≤ version_1.script
    → ScriptSoFar bytes rest n at s g list → lines rest ≡ l ∷ lines more → length more < length rest → LineSays version_1 s g l (line.Says f named)
    → m ≡ n + 1 → to ≡ at + length l + 1 → t ≡ s + 1 → h ≡ g + count named → stop ≡ at + length (strip_carriage_return l) → all ≡ list ++ statement_of n at stop f ∷ []
    → ScriptSoFar bytes more m to t h all
so_far_statement_on bytes rest l more n at s g list stop f named {m} {to} {t} {h} {all} z i e k x a b c d o p =
    let st = statement_of n at (at + length (strip_carriage_return l)) f in
    let q0 : ScriptSoFar bytes more (n + 1) (at + length l + 1) (s + 1) (g + count named) (list ++ st ∷ []) = so_far_statement bytes rest l more n at s g list f named z i e k x in
    let q1 : ScriptSoFar bytes more m (at + length l + 1) (s + 1) (g + count named) (list ++ st ∷ []) = subst (λ q. ScriptSoFar bytes more q (at + length l + 1) (s + 1) (g + count named) (list ++ st ∷ [])) (sym a) q0 in
    let q2 : ScriptSoFar bytes more m to (s + 1) (g + count named) (list ++ st ∷ []) = subst (λ q. ScriptSoFar bytes more m q (s + 1) (g + count named) (list ++ st ∷ [])) (sym b) q1 in
    let q3 : ScriptSoFar bytes more m to t (g + count named) (list ++ st ∷ []) = subst (λ q. ScriptSoFar bytes more m to q (g + count named) (list ++ st ∷ [])) (sym c) q2 in
    let q4 : ScriptSoFar bytes more m to t h (list ++ st ∷ []) = subst (λ q. ScriptSoFar bytes more m to t q (list ++ st ∷ [])) (sym d) q3 in
    subst (ScriptSoFar bytes more m to t h) (sym (p ∙ ap (λ q. list ++ statement_of n at q f ∷ []) o)) q4
