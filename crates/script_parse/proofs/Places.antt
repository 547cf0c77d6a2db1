-- Where the lines of a script stand in its bytes.
use Rattle.std.proofs.Common.{◌≡◌, ℕ, zero, suc, ◌+◌, ◌-◌, ◌<◌, ◌≤◌, ◌==◌, if◌then◌else◌, Bool, true, false, Some, List, [], ◌∷◌, length, take, drop, slice_get, slice_index, refl, sym, ap, ◌∙◌, subst, arith}
use Rattle.std.proofs.lemmas.List.{length-take, length-take-le, length-drop, drop-drop}
use Rattle.std.proofs.lemmas.List.Elements.{All-nil, All-cons}
use Rattle.std.specs.List.{All}
use Rattle.std.specs.Str.Lines.{strip_carriage_return}
use Rattle.script_lang.specs.Lines.{lines, with_first}
use Rattle.script_lang.proofs.Equal.{same_head, same_tail}
use Rattle.script_parse.specs.declared.script.Statement.{Statement}
use Rattle.script_parse.specs.Version.{Limits}
use Rattle.script_parse.specs.Scripts.{IsScript, IsPlaceOf, statement_of}

-- The bytes begin with this line, and those are the lines after it.
record Front (bs l : List ℕ) (ls : List (List ℕ)) : Type 0 where
  begins : take (length l) bs ≡ l
  goes_on : lines (drop (suc (length l)) bs) ≡ ls

at_feed : (b : ℕ) (bs l : List ℕ) (ls : List (List ℕ)) → [] ≡ l → lines bs ≡ ls → Front (b ∷ bs) l ls
at_feed b bs [] ls e g = record { begins = refl; goes_on = g }
at_feed b bs (x ∷ xs) ls e g = absurd cc

longer : (b : ℕ) (bs m l : List ℕ) (ls : List (List ℕ)) → Front bs m ls → b ∷ m ≡ l → Front (b ∷ bs) l ls
longer b bs m l ls f e =
    let P : List ℕ → Type 0 = λ q. Front (b ∷ bs) q ls in
    subst P e (record { begins = ap (λ q. b ∷ q) f.begins; goes_on = f.goes_on })

no_line : (bs : List ℕ) → lines bs ≡ [] → bs ≡ []
no_line [] e = refl
no_line (b ∷ bs) e = absurd (some_line (b == 10) (lines bs) e)
  where
    some_line : (c : Bool) (q : List (List ℕ)) → (if c then [] ∷ q else with_first b q) ≡ [] → ⊥
    some_line true q h = cc
    some_line false [] h = cc
    some_line false (m ∷ ms) h = cc

last_byte : (b : ℕ) (bs l : List ℕ) (ls : List (List ℕ)) → bs ≡ [] → b ∷ [] ≡ l → [] ≡ ls → Front (b ∷ bs) l ls
last_byte b [] (x ∷ []) [] e f g = record { begins = f; goes_on = refl }
last_byte b [] (x ∷ []) (y ∷ ys) e f g = absurd cc
last_byte b [] (x ∷ y ∷ ys) ls e f g = absurd cc
last_byte b [] [] ls e f g = absurd cc
last_byte b (c ∷ cs) l ls e f g = absurd cc

front_at : (b : ℕ) (bs l : List ℕ) (ls : List (List ℕ)) (c : Bool) (q : List (List ℕ)) → lines bs ≡ q → ((m : List ℕ) (ms : List (List ℕ)) → q ≡ m ∷ ms → Front bs m ms)
    → (if c then [] ∷ q else with_first b q) ≡ l ∷ ls → Front (b ∷ bs) l ls
front_at b bs l ls true q s h e = at_feed b bs l ls (same_head e) (s ∙ same_tail e)
front_at b bs l ls false [] s h e = last_byte b bs l ls (no_line bs s) (same_head e) (same_tail e)
front_at b bs l ls false (m ∷ ms) s h e =
    let P : List (List ℕ) → Type 0 = λ q. Front (b ∷ bs) l q in
    subst P (same_tail e) (longer b bs m l ms (h m ms refl) (same_head e))

front : (bs l : List ℕ) (ls : List (List ℕ)) → lines bs ≡ l ∷ ls → Front bs l ls
front [] l ls e = absurd cc
front (b ∷ bs) l ls e = front_at b bs l ls (b == 10) (lines bs) refl (λ m ms f. front bs m ms f) e

-- Fewer bytes of what begins with a line.
fewer : (k : ℕ) (bs l : List ℕ) → take (length l) bs ≡ l → k ≤ length l → take k bs ≡ take k l
fewer zero bs l e h = refl
fewer (suc k) bs [] e h = absurd (omega arith)
fewer (suc k) [] (x ∷ xs) e h = absurd cc
fewer (suc k) (b ∷ bs) (x ∷ xs) e h =
    let f : k ≤ length xs = omega arith in
    (λ i. same_head e i ∷ fewer k bs xs (same_tail e) f i)

stripped_at : (c : Bool) (bs l : List ℕ) → take (length l) bs ≡ l → take (length (if c then take (length l - 1) l else l)) bs ≡ (if c then take (length l - 1) l else l)
stripped_at false bs l e = e
stripped_at true bs l e =
    let h : length l - 1 ≤ length l = omega arith in
    ap (λ k. take k bs) (length-take-le (length l - 1) l h) ∙ fewer (length l - 1) bs l e h

stripped : (bs l : List ℕ) → take (length l) bs ≡ l → take (length (strip_carriage_return l)) bs ≡ strip_carriage_return l
stripped bs l e = stripped_at (slice_index l (length l - 1) == 13) bs l e

place_there : {X : Type 0} (xs ys : List X) (y : X) (m : ℕ) → drop m xs ≡ y ∷ ys → slice_get xs m ≡ Some y
place_there [] ys y zero e = absurd cc
place_there [] ys y (suc m) e = absurd cc
place_there (x ∷ xs) ys y zero e = ap Some (same_head e)
place_there (x ∷ xs) ys y (suc m) e = place_there xs ys y m e

one_more : {X : Type 0} (xs ys : List X) (y : X) (m : ℕ) → drop m xs ≡ y ∷ ys → drop (suc m) xs ≡ ys
one_more [] ys y zero e = absurd cc
one_more [] ys y (suc m) e = absurd cc
one_more (x ∷ xs) ys y zero e = same_tail e
one_more (x ∷ xs) ys y (suc m) e = one_more xs ys y m e

next_lines : (bytes l : List ℕ) (ls : List (List ℕ)) (at : ℕ) → Front (drop at bytes) l ls → lines (drop (at + length l + 1) bytes) ≡ ls
next_lines bytes l ls at f =
    let e : at + length l + 1 ≡ at + suc (length l) = omega arith in
    ap (λ k. lines (drop k bytes)) e ∙ ap lines (sym (drop-drop (suc (length l)) at bytes)) ∙ f.goes_on

strip_short : (b : Bool) (l : List ℕ) → length (if b then take (length l - 1) l else l) ≤ length l
strip_short false l = omega arith
strip_short true l =
    let h : length l - 1 ≤ length l = omega arith in
    let e = length-take-le (length l - 1) l h in
    omega (arith, e)

some_bytes : (bs l : List ℕ) (ls : List (List ℕ)) → lines bs ≡ l ∷ ls → 0 < length bs
some_bytes [] l ls e = absurd cc
some_bytes (b ∷ bs) l ls e = omega arith

-- The places of a line are in order, and within the bytes.
within_bytes : (bytes l : List ℕ) (at : ℕ) → 0 < length (drop at bytes) → take (length l) (drop at bytes) ≡ l → at + length (strip_carriage_return l) ≤ length bytes
within_bytes bytes l at some begins =
    let short = strip_short (slice_index l (length l - 1) == 13) l in
    let front = length-take (length l) (drop at bytes) in
    let same : length (take (length l) (drop at bytes)) ≡ length l = ap length begins in
    let back = length-drop at bytes in
    omega (arith, some, short, front, same, back)

statement_place : (bytes l : List ℕ) (ls : List (List ℕ)) (at m n : ℕ) (s : Statement) → 0 < length (drop at bytes) → Front (drop at bytes) l ls → drop m (lines bytes) ≡ l ∷ ls → n ≡ suc m
    → s.line ≡ n → s.start ≡ at → s.stop ≡ at + length (strip_carriage_return l) → IsPlaceOf bytes s
statement_place bytes l ls at m n s some f e h a b c =
    let p : s.line - 1 ≡ m = omega (arith, h, a) in
    let q : s.stop - s.start ≡ length (strip_carriage_return l) = omega (arith, b, c) in
    let w = within_bytes bytes l at some f.begins in
    record {
      ordered = omega (arith, b, c);
      inside = omega (arith, w, c);
      text = l;
      is_line = ap (slice_get (lines bytes)) p ∙ place_there (lines bytes) ls l m e;
      is_text = (λ i. take (q i) (drop (b i) bytes)) ∙ stripped (drop at bytes) l f.begins;
    }

pub places : (lim : Limits) {n at s g : ℕ} {ls : List (List ℕ)} {list : List Statement} → IsScript lim n at s g ls list → (bytes : List ℕ) (m : ℕ) → n ≡ suc m → lines (drop at bytes) ≡ ls
    → drop m (lines bytes) ≡ ls → All (IsPlaceOf bytes) list
places lim IsScript.no_lines bytes m h e k = All-nil (IsPlaceOf bytes)
places lim {n} {at} (IsScript.blank_line {l = l} {ls = ls} x y) bytes m h e k =
    let f = front (drop at bytes) l ls e in
    let i : n + 1 ≡ suc (suc m) = omega (arith, h) in
    places lim y bytes (suc m) i (next_lines bytes l ls at f) (one_more (lines bytes) ls l m k)
places lim {n} {at} (IsScript.statement_line {l = l} {ls = ls} {f = form} {list = list} x y) bytes m h e k =
    let f = front (drop at bytes) l ls e in
    let i : n + 1 ≡ suc (suc m) = omega (arith, h) in
    let s = statement_of n at (at + length (strip_carriage_return l)) form in
    All-cons (IsPlaceOf bytes) s list (statement_place bytes l ls at m n s (some_bytes (drop at bytes) l ls e) f k h refl refl refl)
    (places lim y bytes (suc m) i (next_lines bytes l ls at f) (one_more (lines bytes) ls l m k))
