-- A statement that passes no limit has fields within them.
use Rattle.std.proofs.Common.{◌≡◌, ◌≢◌, ℕ, zero, suc, ◌+◌, ◌*◌, ◌<◌, ◌≤◌, ◌^◌, ◌==◌, ◌&&◌, ◌||◌, nat_lt, cond, subst, Bool, true, false, if◌then◌else◌, Option, Some, None, List, [], ◌∷◌, length, refl, sym, ap, ◌∙◌, arith, lit<}
use Rattle.std.proofs.lemmas.Bool.Decides.{nat_tests}
use Rattle.std.proofs.lemmas.Bool.{eqb-true}
use Rattle.std.proofs.lemmas.List.Elements.{All-nil, All-cons, All-head, All-tail}
use Rattle.std.proofs.Math.Nat.{pow-suc, pow-zero}
use Rattle.std.specs.List.{All, list_any}
use Rattle.std.specs.Str.Lines.{strip_carriage_return}
use Rattle.script_lang.specs.declared.Factor.{Factor}
use Rattle.script_lang.specs.declared.Kind.{Kind}
use Rattle.script_lang.specs.declared.Letter.{Letter}
use Rattle.script_lang.specs.declared.Letter.TheVariants as letter
use Rattle.script_lang.specs.declared.ModArg.{ModArg}
use Rattle.script_lang.specs.declared.Name.{Name}
use Rattle.script_lang.specs.declared.OreArg.{OreArg}
use Rattle.script_lang.specs.declared.Sign.TheVariants.{Plus, Minus, Star, Caret, Open, Close, OpenList, CloseList, Comma, Equals}
use Rattle.script_lang.specs.declared.Sum.{Sum}
use Rattle.script_lang.specs.declared.Term.{Term}
use Rattle.script_lang.specs.declared.Token.{Token}
use Rattle.script_lang.specs.declared.Token.TheVariants as token
use Rattle.script_lang.specs.Kinds.{ending}
use Rattle.script_lang.specs.Grammar.{term_of, term_sign, IsExponent, IsLead, IsPlain, IsEnding, IsFactor, IsProduct, IsTerms, IsSum, IsLeadedSum, IsItems, IsList, IsName, IsModOperand, IsOreOperand}
use Rattle.script_lang.proofs.Equal.{same_some}
use Rattle.script_statement.specs.declared.Form.{Form}
use Rattle.script_statement.specs.declared.Verb.{Verb}
use Rattle.script_statement.specs.declared.Verb.TheVariants as verb
use Rattle.script_statement.specs.declared.ModuleVerb.{ModuleVerb}
use Rattle.script_statement.specs.declared.ModuleVerb.TheVariants as module_verb
use Rattle.script_statement.specs.declared.PairVerb.{PairVerb}
use Rattle.script_statement.specs.declared.PairVerb.TheVariants as pair_verb
use Rattle.script_statement.specs.declared.TwistedVerb.{TwistedVerb}
use Rattle.script_statement.specs.declared.Question.{Question}
use Rattle.script_statement.specs.declared.Question.TheVariants as question
use Rattle.script_statement.specs.declared.Relation.{Relation}
use Rattle.script_statement.specs.declared.Relation.TheVariants as relation
use Rattle.script_statement.specs.declared.Operation.{Operation}
use Rattle.script_statement.specs.declared.Operation.TheVariants as operation
use Rattle.script_statement.specs.declared.Division.{Division}
use Rattle.script_statement.specs.declared.Division.TheVariants as division
use Rattle.script_statement.specs.Verbs.{asked, related, computed, divided}
use Rattle.script_statement.specs.Statements.{AfterPair, AfterModule, AfterTwisted, IsOperands}
use Rattle.script_parse.specs.declared.script.Statement.{Statement}
use Rattle.script_parse.specs.declared.size.SizeKind.{SizeKind}
use Rattle.script_parse.specs.declared.size.SizeKind.TheVariants as size
use Rattle.script_parse.specs.Version.{Limits}
use Rattle.script_parse.specs.Limits.{is_listed, over_limit, is_bounded, is_empty, modules, ends_operand, operands, is_comma, is_opening, commas, passes, first_limit}
use Rattle.script_parse.specs.Says.{LineSays}
use Rattle.script_parse.specs.Scripts.{IsScript, statement_of}
use Rattle.script_parse.specs.Within.{IsWithin, ModuleWithin, TwistedWithin, SumWithin}
use Rattle.script_parse.specs.steps.Fit.{AreFit}
use Rattle.script_parse.proofs.Caps.{first_none, second_none, line_within}
use Rattle.script_parse.proofs.Scan.{commas_next, counted_next}

either : (a b : Bool) {X : Type 0} → (a || b) ≡ true → (a ≡ true → X) → (b ≡ true → X) → X
either true b e f g = f refl
either false b e f g = g e

listed_at : (c b : Bool) → (if c then Some size.Number else if b then None else Some size.Prime) ≡ None → b ≡ true
listed_at false true e = refl
listed_at false false e = absurd cc
listed_at true b e = absurd cc

number_at : (c : Bool) (x : Option SizeKind) → (if c then Some size.Number else x) ≡ None → x ≡ None
number_at false x e = e
number_at true x e = absurd cc

over_none_at : (b : Bool) (k : SizeKind) → (if b then Some k else None) ≡ None → b ≡ false
over_none_at false k e = refl
over_none_at true k e = absurd cc

over_none : (limit n : ℕ) (k : SizeKind) → over_limit limit n k ≡ None → n ≤ limit
over_none limit n k e = let f = over_none_at (nat_lt limit n) k e in grind (arith, nat_tests)

listed_of : (lim : Limits) (p : ℕ) (ts : List Token) → passes lim verb.Base [] (token.Number p) ts ≡ None → is_listed lim p ≡ true
listed_of lim p ts e = listed_at (nat_lt lim.number p) (is_listed lim p) e

size_of_base : (lim : Limits) (p s : ℕ) (ts : List Token) → passes lim verb.Base (token.Number p ∷ []) (token.Number s) ts ≡ None → p ^ s ≤ lim.base
size_of_base lim p s ts e = over_none lim.base (p ^ s) size.Base (number_at (nat_lt lim.number s) (over_limit lim.base (p ^ s) size.Base) e)

degree_of_top : (lim : Limits) (n : ℕ) (ts : List Token) → passes lim verb.Over [] (token.Number n) ts ≡ None → n ≤ lim.top
degree_of_top lim n ts e = over_none lim.top n size.Top (number_at (nat_lt lim.number n) (over_limit lim.top n size.Top) e)

-- A listed prime is the size of its prime field.
listed_within : (most p : ℕ) (ps : List ℕ) → All (λ q. q ≤ most) ps → list_any (λ q. p == q) ps ≡ true → p ≤ most
listed_within most p [] h e = absurd cc
listed_within most p (q ∷ qs) h e =
    either (p == q) (list_any (λ r. p == r) qs) e
    (λ f. let same = eqb-true p q f in let le = All-head (λ r. r ≤ most) q qs h in omega arith)
    (listed_within most p qs (All-tail (λ r. r ≤ most) q qs h))

-- After tokens that pass no limit: what stands before, where as many operands and commas were seen.
abbrev Quiet : Limits → Verb → List Token → List Token → Type 0
Quiet lim v before rest = (after : List Token) × (first_limit lim v after rest ≡ None) × (operands after ≡ operands before) × (commas after ≡ commas before)

step : (lim : Limits) (v : Verb) (before : List Token) (t : Token) (ts : List Token) → first_limit lim v before (t ∷ ts) ≡ None → first_limit lim v (t ∷ before) ts ≡ None
step lim v before t ts e = second_none (passes lim v before t ts) (first_limit lim v (t ∷ before) ts) e

here : (lim : Limits) (v : Verb) (before : List Token) (t : Token) (ts : List Token) → first_limit lim v before (t ∷ ts) ≡ None → passes lim v before t ts ≡ None
here lim v before t ts e = first_none (passes lim v before t ts) (first_limit lim v (t ∷ before) ts) e

same_operands : (t : Token) (before : List Token) → ends_operand t ≡ false → operands (t ∷ before) ≡ operands before
same_operands t before e =
    let f : operands (t ∷ before) ≡ 0 + operands before = counted_next ends_operand t before ∙ ap (λ b. cond b 1 0 + operands before) e in
    omega (arith, f)

one_operand : (t : Token) (before : List Token) → ends_operand t ≡ true → operands (t ∷ before) ≡ suc (operands before)
one_operand t before e =
    let f : operands (t ∷ before) ≡ 1 + operands before = counted_next ends_operand t before ∙ ap (λ b. cond b 1 0 + operands before) e in
    omega (arith, f)

same_commas : (t : Token) (before : List Token) → is_opening t ≡ false → is_comma t ≡ false → commas (t ∷ before) ≡ commas before
same_commas t before e f =
    let g : commas (t ∷ before) ≡ 0 + commas before = commas_next t before ∙ (λ i. cond (e i) 0 (cond (f i) 1 0 + commas before)) in
    omega (arith, g)

-- One more token that neither ends an operand nor counts as a comma.
quiet_step : (lim : Limits) (v : Verb) (before : List Token) (t : Token) (ts : List Token) → ends_operand t ≡ false → is_opening t ≡ false → is_comma t ≡ false
    → first_limit lim v before (t ∷ ts) ≡ None → Quiet lim v before ts
quiet_step lim v before t ts a b c e = (t ∷ before, step lim v before t ts e, same_operands t before a, same_commas t before b c)

join : (lim : Limits) (v : Verb) (before mid rest : List Token) → operands mid ≡ operands before → commas mid ≡ commas before → Quiet lim v mid rest → Quiet lim v before rest
join lim v before mid rest a b q = (q.0, q.1, q.2 ∙ a, q.3 ∙ b)

exponent_quiet : (lim : Limits) (v : Verb) (before : List Token) {ts rest : List Token} {n : ℕ} → IsExponent ts rest n → first_limit lim v before ts ≡ None → Quiet lim v before rest
exponent_quiet lim v before IsExponent.absent e = (before, e, refl, refl)
exponent_quiet lim v before (IsExponent.present {n = n} {rest = rest}) e =
    let q = quiet_step lim v before (token.Sign Caret) (token.Number n ∷ rest) refl refl refl e in
    join lim v before q.0 rest q.2 q.3 (quiet_step lim v q.0 (token.Number n) rest refl refl refl q.1)

lead_quiet : (lim : Limits) (v : Verb) (before : List Token) {ts rest : List Token} {b : Bool} → IsLead ts rest b → first_limit lim v before ts ≡ None → Quiet lim v before rest
lead_quiet lim v before IsLead.plain e = (before, e, refl, refl)
lead_quiet lim v before (IsLead.negated {rest = rest}) e = quiet_step lim v before (token.Sign Minus) rest refl refl refl e

letter_quiet : (lim : Limits) (v : Verb) (before : List Token) (l : Letter) {ts rest : List Token} {n : ℕ} → IsExponent ts rest n → first_limit lim v before (token.Letter l ∷ ts) ≡ None → Quiet lim v before rest
letter_quiet lim v before l {ts} {rest} x e =
    let q = quiet_step lim v before (token.Letter l) ts refl refl refl e in
    join lim v before q.0 rest q.2 q.3 (exponent_quiet lim v q.0 x q.1)

plain_quiet : (lim : Limits) (v : Verb) (before : List Token) {k : Kind} {ts rest : List Token} {f : Factor} → IsPlain k ts rest f → first_limit lim v before ts ≡ None → Quiet lim v before rest
plain_quiet lim v before (IsPlain.is_number {n = n} {rest = rest}) e = quiet_step lim v before (token.Number n) rest refl refl refl e
plain_quiet lim v before (IsPlain.is_letter {l = l} h x) e = letter_quiet lim v before l x e

ending_quiet : (lim : Limits) (v : Verb) (before : List Token) {k : Kind} {ts rest : List Token} {n : ℕ} → IsEnding k ts rest n → first_limit lim v before ts ≡ None → Quiet lim v before rest
ending_quiet lim v before (IsEnding.is_ending {l = l} h x) e = letter_quiet lim v before l x e

sign_quiet : (lim : Limits) (v : Verb) (before : List Token) (b : Bool) (ts : List Token) → first_limit lim v before (token.Sign (term_sign b) ∷ ts) ≡ None → Quiet lim v before ts
sign_quiet lim v before true ts e = quiet_step lim v before (token.Sign Minus) ts refl refl refl e
sign_quiet lim v before false ts e = quiet_step lim v before (token.Sign Plus) ts refl refl refl e

mutual
  factor_quiet : (lim : Limits) (v : Verb) (before : List Token) {k : Kind} {d : ℕ} {ts rest : List Token} {f : Factor} → IsFactor k d ts rest f → first_limit lim v before ts ≡ None → Quiet lim v before rest
  factor_quiet lim v before (IsFactor.is_plain x) e = plain_quiet lim v before x e
  factor_quiet lim v before (IsFactor.is_group {ts = ts} {us = us} {rest = rest} h a x) e =
      let q = quiet_step lim v before (token.Sign Open) ts refl refl refl e in
      let r = lead_quiet lim v q.0 a q.1 in
      let s = sum_quiet lim v r.0 x r.1 in
      let t = quiet_step lim v s.0 (token.Sign Close) rest refl refl refl s.1 in
      (t.0, t.1, t.2 ∙ s.2 ∙ r.2 ∙ q.2, t.3 ∙ s.3 ∙ r.3 ∙ q.3)

  product_quiet : (lim : Limits) (v : Verb) (before : List Token) {k : Kind} {d n : ℕ} {ts rest : List Token} {fs : List Factor} → IsProduct k d ts rest fs n → first_limit lim v before ts ≡ None → Quiet lim v before rest
  product_quiet lim v before (IsProduct.ended x) e = ending_quiet lim v before x e
  product_quiet lim v before (IsProduct.last_factor x) e = factor_quiet lim v before x e
  product_quiet lim v before (IsProduct.times {us = us} x y) e =
      let q = factor_quiet lim v before x e in
      let r = quiet_step lim v q.0 (token.Sign Star) us refl refl refl q.1 in
      let s = product_quiet lim v r.0 y r.1 in
      (s.0, s.1, s.2 ∙ r.2 ∙ q.2, s.3 ∙ r.3 ∙ q.3)

  terms_quiet : (lim : Limits) (v : Verb) (before : List Token) {k : Kind} {d : ℕ} {b : Bool} {ts rest : List Token} {list : List Term} → IsTerms k d b ts rest list → first_limit lim v before ts ≡ None → Quiet lim v before rest
  terms_quiet lim v before (IsTerms.last_term x) e = product_quiet lim v before x e
  terms_quiet lim v before (IsTerms.and_term {next = next} {us = us} x y) e =
      let q = product_quiet lim v before x e in
      let r = sign_quiet lim v q.0 next us q.1 in
      let s = terms_quiet lim v r.0 y r.1 in
      (s.0, s.1, s.2 ∙ r.2 ∙ q.2, s.3 ∙ r.3 ∙ q.3)

  sum_quiet : (lim : Limits) (v : Verb) (before : List Token) {k : Kind} {d : ℕ} {b : Bool} {ts rest : List Token} {s : Sum} → IsSum k d b ts rest s → first_limit lim v before ts ≡ None → Quiet lim v before rest
  sum_quiet lim v before (IsSum.has_terms x) e = terms_quiet lim v before x e

leaded_quiet : (lim : Limits) (v : Verb) (before : List Token) {k : Kind} {ts rest : List Token} {s : Sum} → IsLeadedSum k ts rest s → first_limit lim v before ts ≡ None → Quiet lim v before rest
leaded_quiet lim v before (IsLeadedSum.has_lead a x) e =
    let q = lead_quiet lim v before a e in
    let r = sum_quiet lim v q.0 x q.1 in
    (r.0, r.1, r.2 ∙ q.2, r.3 ∙ q.3)

-- After a list: one operand more.
abbrev Listed : Limits → Verb → List Token → List Token → Type 0
Listed lim v before rest = (after : List Token) × (first_limit lim v after rest ≡ None) × (operands after ≡ suc (operands before))

rank_comma_at : (b : Bool) (x y : Option SizeKind) → b ≡ true → (if b then x else y) ≡ None → x ≡ None
rank_comma_at true x y e f = f
rank_comma_at false x y e f = absurd cc

-- A comma in a module's list.
rank_comma : (lim : Limits) (v : Verb) (before ts : List Token) → operands before < modules v → passes lim v before (token.Sign Comma) ts ≡ None → commas before + 1 ≤ lim.rank
rank_comma lim v before ts h e =
    let t : nat_lt (operands before) (modules v) ≡ true = grind (arith, nat_tests) in
    let f = rank_comma_at (nat_lt (operands before) (modules v)) (over_limit lim.rank (commas before + 1) size.Rank) (over_limit lim.degree (commas before + 1) size.Degree) t e in
    over_none lim.rank (commas before + 1) size.Rank f

close_list : (lim : Limits) (v : Verb) (before rest : List Token) → first_limit lim v before (token.Sign CloseList ∷ rest) ≡ None → Listed lim v before rest
close_list lim v before rest e = (token.Sign CloseList ∷ before, step lim v before (token.Sign CloseList) rest e, one_operand (token.Sign CloseList) before refl)

-- What a comma that passes no limit says of the commas before it, where so many operands were seen.
abbrev Caps : Limits → Verb → ℕ → ℕ → Type 0
Caps lim v o cap = (before ts : List Token) → operands before ≡ o → passes lim v before (token.Sign Comma) ts ≡ None → commas before + 1 ≤ cap

items_fit : (lim : Limits) (v : Verb) (o cap : ℕ) (before : List Token) {ts rest : List Token} {list : List Sum} → IsItems ts rest list → Caps lim v o cap → operands before ≡ o
    → first_limit lim v before ts ≡ None → commas before ≤ cap → Listed lim v before rest × (commas before + length list ≤ cap + 1)
items_fit lim v o cap before (IsItems.last_item {rest = rest} x) h i e k =
    let q = leaded_quiet lim v before x e in
    let c = close_list lim v q.0 rest q.1 in
    ((c.0, c.1, c.2 ∙ ap suc q.2), omega arith)
items_fit lim v o cap before (IsItems.and_item {us = us} {rest = rest} {more = more} x y) h i e k =
    let q = leaded_quiet lim v before x e in
    let j : operands q.0 ≡ o = q.2 ∙ i in
    let c0 : commas q.0 ≡ commas before = q.3 in
    let c = h q.0 us j (here lim v q.0 (token.Sign Comma) us q.1) in
    let b1 = token.Sign Comma ∷ q.0 in
    let o1 : operands b1 ≡ operands q.0 = same_operands (token.Sign Comma) q.0 refl in
    let c1 : commas b1 ≡ 1 + commas q.0 = commas_next (token.Sign Comma) q.0 in
    let k2 : commas b1 ≤ cap = omega arith in
    let r = items_fit lim v o cap b1 y h (o1 ∙ j) (step lim v q.0 (token.Sign Comma) us q.1) k2 in
    let z : commas b1 + length more ≤ cap + 1 = r.1 in
    ((r.0.0, r.0.1, r.0.2 ∙ ap suc (o1 ∙ q.2)), omega arith)

list_fit : (lim : Limits) (v : Verb) (cap : ℕ) (before : List Token) {ts rest : List Token} {list : List Sum} → IsList ts rest list → Caps lim v (operands before) cap
    → first_limit lim v before ts ≡ None → Listed lim v before rest × (length list ≤ cap + 1)
list_fit lim v cap before (IsList.no_items {rest = rest}) h e =
    let b1 = token.Sign OpenList ∷ before in
    let c = close_list lim v b1 rest (step lim v before (token.Sign OpenList) (token.Sign CloseList ∷ rest) e) in
    ((c.0, c.1, c.2 ∙ ap suc (same_operands (token.Sign OpenList) before refl)), omega arith)
list_fit lim v cap before (IsList.has_items {ts = ts} {rest = rest} {list = list} x) h e =
    let b1 = token.Sign OpenList ∷ before in
    let o : operands b1 ≡ operands before = same_operands (token.Sign OpenList) before refl in
    let c : commas b1 ≡ 0 = commas_next (token.Sign OpenList) before in
    let k : commas b1 ≤ cap = omega arith in
    let r = items_fit lim v (operands before) cap b1 x h o (step lim v before (token.Sign OpenList) ts e) k in
    let z : commas b1 + length list ≤ cap + 1 = r.1 in
    ((r.0.0, r.0.1, r.0.2 ∙ ap suc o), omega arith)

rank_caps : (lim : Limits) (v : Verb) (o : ℕ) → o < modules v → Caps lim v o lim.rank
rank_caps lim v o h before ts e f = let i : operands before < modules v = omega arith in rank_comma lim v before ts i f

degree_comma_at : (b : Bool) (x y : Option SizeKind) → b ≡ false → (if b then x else y) ≡ None → y ≡ None
degree_comma_at true x y e f = absurd cc
degree_comma_at false x y e f = f

degree_caps : (lim : Limits) (v : Verb) (o : ℕ) → modules v ≤ o → Caps lim v o lim.degree
degree_caps lim v o h before ts e f =
    let i : modules v ≤ operands before = omega arith in
    let t : nat_lt (operands before) (modules v) ≡ false = grind (arith, nat_tests) in
    let g = degree_comma_at (nat_lt (operands before) (modules v)) (over_limit lim.rank (commas before + 1) size.Rank) (over_limit lim.degree (commas before + 1) size.Degree) t f in
    over_none lim.degree (commas before + 1) size.Degree g

rank_list : (lim : Limits) (v : Verb) (before : List Token) {ts rest : List Token} {list : List Sum} → IsList ts rest list → operands before < modules v → first_limit lim v before ts ≡ None
    → Listed lim v before rest × (length list ≤ lim.rank + 1)
rank_list lim v before x h e = let r = list_fit lim v lim.rank before x (rank_caps lim v (operands before) h) e in (r.0, r.1)

-- The powers of the letter that ends terms.
power_at : (a b : Bool) (n bound cap : ℕ) (k : SizeKind) → bound ≤ cap → (if a then Some size.Number else if b then over_limit bound n size.Bound else over_limit cap n k) ≡ None → n ≤ cap
power_at true b n bound cap k h e = absurd cc
power_at false true n bound cap k h e = let f = over_none bound n size.Bound e in omega arith
power_at false false n bound cap k h e = over_none cap n k e

module_fits : (lim : Limits) (v : Verb) (before : List Token) {ts rest : List Token} {m : ModArg} → IsModOperand ts rest m → operands before < modules v → first_limit lim v before ts ≡ None
    → Listed lim v before rest × ModuleWithin lim m
module_fits lim v before (IsModOperand.named_module {rest = rest} (IsName.is_word {w = w})) h e =
    ((token.Word w ∷ before, step lim v before (token.Word w) rest e, one_operand (token.Word w) before refl), tt)
module_fits lim v before (IsModOperand.listed_module x) h e = rank_list lim v before x h e

bound_fits : (lim : Limits) (before : List Token) (d : ℕ) → passes lim (verb.OfModule (module_verb.Pair pair_verb.Bounded)) before (token.Number d) [] ≡ None → d ≤ lim.bound
bound_fits lim before d e = over_none lim.bound d size.Bound (number_at (nat_lt lim.number d) (over_limit lim.bound d size.Bound) e)

-- What an exponent of the letter that passes no limit says.
abbrev PowerCaps : Limits → Verb → Letter → ℕ → Type 0
PowerCaps lim v l cap = (before behind : List Token) (n : ℕ) → passes lim v (token.Sign Caret ∷ token.Letter l ∷ before) (token.Number n) behind ≡ None → n ≤ cap

twisted_caps : (lim : Limits) → AreFit lim → (v : Verb) → PowerCaps lim v letter.SmallT lim.degree
twisted_caps lim fit v before behind n e = power_at (nat_lt lim.number n) (is_bounded v && is_empty behind) n lim.bound lim.degree size.Degree fit.bound e

image_caps : (lim : Limits) → PowerCaps lim (verb.OfModule module_verb.Image) letter.CapitalT lim.image
image_caps lim before behind n e = over_none lim.image n size.Image (number_at (nat_lt lim.number n) (over_limit lim.image n size.Image) e)

exponent_power : (lim : Limits) (v : Verb) (l : Letter) (cap : ℕ) → PowerCaps lim v l cap → 1 ≤ cap → (before : List Token) {ts rest : List Token} {n : ℕ} → IsExponent ts rest n
    → first_limit lim v before (token.Letter l ∷ ts) ≡ None → n ≤ cap
exponent_power lim v l cap h o before IsExponent.absent e = o
exponent_power lim v l cap h o before (IsExponent.present {n = n} {rest = rest}) e =
    let b1 = token.Letter l ∷ before in
    let e1 = step lim v before (token.Letter l) (token.Sign Caret ∷ token.Number n ∷ rest) e in
    let e2 = step lim v b1 (token.Sign Caret) (token.Number n ∷ rest) e1 in
    h before rest n (here lim v (token.Sign Caret ∷ b1) (token.Number n) rest e2)

ending_power : (lim : Limits) (v : Verb) (l : Letter) (cap : ℕ) → PowerCaps lim v l cap → 1 ≤ cap → (before : List Token) {k : Kind} {ts rest : List Token} {n : ℕ} → ending k ≡ Some l
    → IsEnding k ts rest n → first_limit lim v before ts ≡ None → n ≤ cap
ending_power lim v l cap h o before i (IsEnding.is_ending {l = m} {n = n} {ts = ts} {rest = rest} j x) e =
    let same : m ≡ l = same_some (sym j ∙ i) in
    exponent_power lim v l cap h o before x (subst (λ q. first_limit lim v before (token.Letter q ∷ ts) ≡ None) same e)

product_power : (lim : Limits) (v : Verb) (l : Letter) (cap : ℕ) → PowerCaps lim v l cap → 1 ≤ cap → (before : List Token) {k : Kind} {d n : ℕ} {ts rest : List Token} {fs : List Factor} → ending k ≡ Some l
    → IsProduct k d ts rest fs n → first_limit lim v before ts ≡ None → n ≤ cap
product_power lim v l cap h o before i (IsProduct.ended x) e = ending_power lim v l cap h o before i x e
product_power lim v l cap h o before i (IsProduct.last_factor x) e = omega arith
product_power lim v l cap h o before i (IsProduct.times {us = us} x y) e =
    let q = factor_quiet lim v before x e in
    let r = quiet_step lim v q.0 (token.Sign Star) us refl refl refl q.1 in
    product_power lim v l cap h o r.0 i y r.1

terms_power : (lim : Limits) (v : Verb) (l : Letter) (cap : ℕ) → PowerCaps lim v l cap → 1 ≤ cap → (before : List Token) {k : Kind} {d : ℕ} {b : Bool} {ts rest : List Token} {list : List Term} → ending k ≡ Some l
    → IsTerms k d b ts rest list → first_limit lim v before ts ≡ None → All (λ t. t.power ≤ cap) list
terms_power lim v l cap h o before i (IsTerms.last_term {n = n} {lead = lead} {fs = fs} x) e =
    All-cons (λ t. t.power ≤ cap) (term_of lead fs n) [] (product_power lim v l cap h o before i x e) (All-nil (λ t. t.power ≤ cap))
terms_power lim v l cap h o before i (IsTerms.and_term {n = n} {lead = lead} {next = next} {us = us} {fs = fs} {more = more} x y) e =
    let q = product_quiet lim v before x e in
    let r = sign_quiet lim v q.0 next us q.1 in
    All-cons (λ t. t.power ≤ cap) (term_of lead fs n) more (product_power lim v l cap h o before i x e) (terms_power lim v l cap h o r.0 i y r.1)

sum_power : (lim : Limits) (v : Verb) (l : Letter) (cap : ℕ) → PowerCaps lim v l cap → 1 ≤ cap → (before : List Token) {k : Kind} {d : ℕ} {b : Bool} {ts rest : List Token} {s : Sum} → ending k ≡ Some l
    → IsSum k d b ts rest s → first_limit lim v before ts ≡ None → SumWithin cap s
sum_power lim v l cap h o before i (IsSum.has_terms {terms = terms} x) e = SumWithin.has_powers terms (terms_power lim v l cap h o before i x e)

-- After a twisted polynomial: no fewer operands.
abbrev Twisted : Limits → Verb → List Token → List Token → Type 0
Twisted lim v before rest = (after : List Token) × (first_limit lim v after rest ≡ None) × (operands before ≤ operands after)

twisted_fits : (lim : Limits) → AreFit lim → (v : Verb) (before : List Token) {ts rest : List Token} {u : OreArg} → IsOreOperand ts rest u → modules v ≤ operands before → first_limit lim v before ts ≡ None
    → Twisted lim v before rest × TwistedWithin lim u
twisted_fits lim fit v before (IsOreOperand.named {rest = rest} (IsName.is_word {w = w})) h e =
    let o : operands (token.Word w ∷ before) ≡ suc (operands before) = one_operand (token.Word w) before refl in
    let k : operands before ≤ operands (token.Word w ∷ before) = omega arith in
    ((token.Word w ∷ before, step lim v before (token.Word w) rest e, k), tt)
twisted_fits lim fit v before (IsOreOperand.listed x) h e =
    let r = list_fit lim v lim.degree before x (degree_caps lim v (operands before) h) e in
    let o : operands r.0.0 ≡ suc (operands before) = r.0.2 in
    let k : operands before ≤ operands r.0.0 = omega arith in
    ((r.0.0, r.0.1, k), r.1)
twisted_fits lim fit v before (IsOreOperand.summed x) h e =
    let q = sum_quiet lim v before x e in
    let o : operands q.0 ≡ operands before = q.2 in
    let k : operands before ≤ operands q.0 = omega arith in
    ((q.0, q.1, k), sum_power lim v letter.SmallT lim.degree (twisted_caps lim fit v) fit.degree before refl x e)

asked_fits : (lim : Limits) → (q : Question) (m : ModArg) → ModuleWithin lim m → IsWithin lim (asked q m)
asked_fits lim question.Rank m x = x
asked_fits lim question.Char m x = x
asked_fits lim question.Height m x = x
asked_fits lim question.Ordinary m x = x
asked_fits lim question.Supersingular m x = x
asked_fits lim question.Frob m x = x
asked_fits lim question.Frobpower m x = x

related_fits : (lim : Limits) → (r : Relation) (m n : ModArg) → ModuleWithin lim m → ModuleWithin lim n → IsWithin lim (related r m n)
related_fits lim relation.Iso m n x y = (x, y)
related_fits lim relation.Isogenous m n x y = (x, y)
related_fits lim relation.Full m n x y = (x, y)
related_fits lim relation.Fullsize m n x y = (x, y)

computed_fits : (lim : Limits) → (o : Operation) (u v : OreArg) (name : Option Name) → TwistedWithin lim u → TwistedWithin lim v → IsWithin lim (computed o u v name)
computed_fits lim operation.Add u v name x y = (x, y)
computed_fits lim operation.Sub u v name x y = (x, y)
computed_fits lim operation.Mul u v name x y = (x, y)

divided_fits : (lim : Limits) → (d : Division) (u v : OreArg) → TwistedWithin lim u → TwistedWithin lim v → IsWithin lim (divided d u v)
divided_fits lim division.Rdiv u v x y = (x, y)
divided_fits lim division.Ldiv u v x y = (x, y)
divided_fits lim division.Common u v x y = (x, y)
divided_fits lim division.Multiple u v x y = (x, y)

after_pair_fits : (lim : Limits) → AreFit lim → (before : List Token) {p : PairVerb} {m n : ModArg} {ts : List Token} {f : Form} → AfterPair p m n ts f → ModuleWithin lim m → ModuleWithin lim n → operands before ≡ 2
    → first_limit lim (verb.OfModule (module_verb.Pair p)) before ts ≡ None → IsWithin lim f
after_pair_fits lim fit before (AfterPair.relate {r = r} {m = m} {n = n}) x y o e = related_fits lim r m n x y
after_pair_fits lim fit before (AfterPair.bounded {d = d}) x y o e =
    (x, y, bound_fits lim before d (here lim (verb.OfModule (module_verb.Pair pair_verb.Bounded)) before (token.Number d) [] e))
after_pair_fits lim fit before (AfterPair.check a) x y o e =
    let v = verb.OfModule (module_verb.Pair pair_verb.Check) in
    let h : modules v ≤ operands before = omega arith in
    (x, y, (twisted_fits lim fit v before a h e).1)

after_module_fits : (lim : Limits) → AreFit lim → (before : List Token) {v : ModuleVerb} {m : ModArg} {ts : List Token} {f : Form} → AfterModule v m ts f → ModuleWithin lim m → operands before ≡ 1
    → first_limit lim (verb.OfModule v) before ts ≡ None → IsWithin lim f
after_module_fits lim fit before (AfterModule.ask {q = q} {m = m}) x o e = asked_fits lim q m x
after_module_fits lim fit before AfterModule.invariant_number x o e = x
after_module_fits lim fit before (AfterModule.image y a) x o e =
    (x, sum_power lim (verb.OfModule module_verb.Image) letter.CapitalT lim.image (image_caps lim) fit.image before refl y e)
after_module_fits lim fit before (AfterModule.quotient y a) x o e =
    let v = verb.OfModule module_verb.Quotient in
    let h : modules v ≤ operands before = omega arith in
    (x, (twisted_fits lim fit v before y h e).1)
after_module_fits lim fit before (AfterModule.motive y) x o e =
    let v = verb.OfModule module_verb.Motive in
    let h : modules v ≤ operands before = omega arith in
    (x, (twisted_fits lim fit v before y h e).1)
after_module_fits lim fit before (AfterModule.pair {p = p} y a) x o e =
    let h : operands before < 2 = omega arith in
    let r = module_fits lim (verb.OfModule (module_verb.Pair p)) before y h e in
    let k : operands r.0.0 ≡ 2 = r.0.2 ∙ ap suc o in
    after_pair_fits lim fit r.0.0 a x r.1 k r.0.1

some_module : (v : ModuleVerb) → 0 < modules (verb.OfModule v)
some_module (module_verb.Ask q) = omega arith
some_module module_verb.J = omega arith
some_module module_verb.Image = omega arith
some_module module_verb.Quotient = omega arith
some_module module_verb.Motive = omega arith
some_module (module_verb.Pair p) = omega arith

after_twisted_fits : (lim : Limits) → {w : TwistedVerb} {u v : OreArg} {ts : List Token} {f : Form} → AfterTwisted w u v ts f → TwistedWithin lim u → TwistedWithin lim v → IsWithin lim f
after_twisted_fits lim (AfterTwisted.compute {o = o} {u = u} {v = v} {name = name} a) x y = computed_fits lim o u v name x y
after_twisted_fits lim (AfterTwisted.divide {d = d} {u = u} {v = v}) x y = divided_fits lim d u v x y

positive : (n : ℕ) → n ≢ 0 → 0 < n
positive zero h = absurd (h refl)
positive (suc n) h = omega arith

operands_fit : (lim : Limits) → AreFit lim → {v : Verb} {ts : List Token} {f : Form} → IsOperands v ts f → first_limit lim v [] ts ≡ None → IsWithin lim f
operands_fit lim fit (IsOperands.prime_base {p = p}) e =
    let h = listed_of lim p [] (here lim verb.Base [] (token.Number p) [] e) in
    let le = listed_within lim.base p lim.primes fit.primes h in
    let one : 1 * p ≡ p = omega arith in
    let same : p ^ 1 ≡ p = pow-suc p 0 ∙ ap (λ k. k * p) (pow-zero p) ∙ one in
    (h, lit< tt, subst (λ q. q ≤ lim.base) (sym same) le)
operands_fit lim fit (IsOperands.power_base {p = p} {s = s} {ts = ts} k x) e =
    let t = token.Number p in
    let u = token.Number s in
    let h = listed_of lim p (u ∷ ts) (here lim verb.Base [] t (u ∷ ts) e) in
    let i = size_of_base lim p s ts (here lim verb.Base (t ∷ []) u ts (step lim verb.Base [] t (u ∷ ts) e)) in
    (h, positive s k, i)
operands_fit lim fit (IsOperands.top {n = n} {ts = ts} k x) e =
    (positive n k, degree_of_top lim n ts (here lim verb.Over [] (token.Number n) ts e))
operands_fit lim fit (IsOperands.new_module {us = us} (IsName.is_word {w = w}) a) e =
    let b1 = token.Word w ∷ [] in
    let e1 = step lim verb.Module [] (token.Word w) (token.Sign Equals ∷ us) e in
    let e2 = step lim verb.Module b1 (token.Sign Equals) us e1 in
    (rank_list lim verb.Module (token.Sign Equals ∷ b1) a (lit< tt) e2).1
operands_fit lim fit (IsOperands.new_ore {us = us} (IsName.is_word {w = w}) a) e =
    let b1 = token.Word w ∷ [] in
    let e1 = step lim verb.Ore [] (token.Word w) (token.Sign Equals ∷ us) e in
    let e2 = step lim verb.Ore b1 (token.Sign Equals) us e1 in
    (twisted_fits lim fit verb.Ore (token.Sign Equals ∷ b1) a (omega arith) e2).1
operands_fit lim fit (IsOperands.new_negative {us = us} (IsName.is_word {w = w}) a) e =
    let b1 = token.Word w ∷ [] in
    let b2 = token.Sign Equals ∷ b1 in
    let e1 = step lim verb.Ore [] (token.Word w) (token.Sign Equals ∷ token.Sign Minus ∷ us) e in
    let e2 = step lim verb.Ore b1 (token.Sign Equals) (token.Sign Minus ∷ us) e1 in
    let e3 = step lim verb.Ore b2 (token.Sign Minus) us e2 in
    sum_power lim verb.Ore letter.SmallT lim.degree (twisted_caps lim fit verb.Ore) fit.degree (token.Sign Minus ∷ b2) refl a e3
operands_fit lim fit (IsOperands.show x) e = tt
operands_fit lim fit (IsOperands.of_module {v = v} x a) e =
    let r = module_fits lim (verb.OfModule v) [] x (some_module v) e in
    after_module_fits lim fit r.0.0 a r.1 r.0.2 r.0.1
operands_fit lim fit (IsOperands.of_twisted {w = w} x y a) e =
    let t = verb.OfTwisted w in
    let q = twisted_fits lim fit t [] x (omega arith) e in
    let r = twisted_fits lim fit t q.0.0 y (omega arith) q.0.1 in
    after_twisted_fits lim a q.1 r.1

pub script_within : (lim : Limits) → AreFit lim → {n at s g : ℕ} {ls : List (List ℕ)} {list : List Statement} → IsScript lim n at s g ls list → All (λ x. IsWithin lim x.form) list
script_within lim fit IsScript.no_lines = All-nil (λ x. IsWithin lim x.form)
script_within lim fit (IsScript.blank_line x y) = script_within lim fit y
script_within lim fit {n} {at} {s} {g} (IsScript.statement_line {l = l} {f = f} {list = list} (LineSays.statement {us = us} {v = v} h a b c e) y) =
    All-cons (λ q. IsWithin lim q.form) (statement_of n at (at + length (strip_carriage_return l)) f) list
    (operands_fit lim fit c (line_within lim s g v us e)) (script_within lim fit y)
