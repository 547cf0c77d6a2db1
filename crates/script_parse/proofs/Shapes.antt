-- Tokens that differ in their numbers alone, 0 and not 0, are statements alike.
use Rattle.std.proofs.Common.{◌≡◌, ℕ, Bool, true, false, if◌then◌else◌, List, [], ◌∷◌, Option, Some, None, refl, ap, ◌∙◌, subst}
use Rattle.script_lang.specs.declared.Letter.{Letter}
use Rattle.script_lang.specs.declared.Letter.TheVariants as letter
use Rattle.script_lang.specs.declared.Sign.{Sign}
use Rattle.script_lang.specs.declared.Sign.TheVariants.{Star, Close, CloseList, Comma, Equals}
use Rattle.script_lang.specs.declared.Token.{Token}
use Rattle.script_lang.specs.declared.Token.TheVariants as token
use Rattle.script_statement.specs.declared.Form.{Form}
use Rattle.script_statement.specs.declared.Form.TheVariants as form
use Rattle.script_lang.specs.declared.Factor.{Factor}
use Rattle.script_lang.specs.declared.Factor.TheVariants as factor
use Rattle.script_lang.specs.declared.Kind.{Kind}
use Rattle.script_lang.specs.declared.Kind.TheVariants as kind
use Rattle.script_lang.specs.declared.ModArg.{ModArg}
use Rattle.script_lang.specs.declared.ModArg.TheVariants as module_operand
use Rattle.script_lang.specs.declared.Name.{Name}
use Rattle.script_lang.specs.declared.OreArg.{OreArg}
use Rattle.script_lang.specs.declared.OreArg.TheVariants as twisted_operand
use Rattle.script_lang.specs.declared.Sum.{Sum}
use Rattle.script_lang.specs.declared.Term.{Term}
use Rattle.script_lang.specs.Kinds.{letter_factor, takes_a, takes_z}
use Rattle.script_lang.specs.Grammar.{sum_of, term_of, IsExponent, IsLead, IsPlain, IsEnding, IsFactor, IsProduct, IsTerms, IsSum, IsLeadedSum, IsItems, IsList, IsName, IsModOperand, IsOreOperand}
use Rattle.script_statement.specs.declared.Verb.{Verb}
use Rattle.script_statement.specs.declared.ModuleVerb.{ModuleVerb}
use Rattle.script_statement.specs.declared.PairVerb.{PairVerb}
use Rattle.script_statement.specs.declared.TwistedVerb.{TwistedVerb}
use Rattle.script_statement.specs.Verbs.{asked, related, computed, divided}
use Rattle.script_statement.specs.Statements.{IsResult, AfterPair, AfterModule, AfterTwisted, IsOperands, IsVerb, IsStatement}

pub data SameShape : List Token → List Token → Type 0 where
  no_tokens : SameShape [] []
  same_sign : {s : Sign} {ts us : List Token} → SameShape ts us → SameShape (token.Sign s ∷ ts) (token.Sign s ∷ us)
  same_letter : {l : Letter} {ts us : List Token} → SameShape ts us → SameShape (token.Letter l ∷ ts) (token.Letter l ∷ us)
  same_word : {w : List ℕ} {ts us : List Token} → SameShape ts us → SameShape (token.Word w ∷ ts) (token.Word w ∷ us)
  same_as : {ts us : List Token} → SameShape ts us → SameShape (token.As ∷ ts) (token.As ∷ us)
  two_numbers : {m n : ℕ} {ts us : List Token} → (n ≡ 0 → m ≡ 0) → SameShape ts us → SameShape (token.Number m ∷ ts) (token.Number n ∷ us)

pub shape_next : (t : Token) {ts us : List Token} → SameShape ts us → SameShape (t ∷ ts) (t ∷ us)
shape_next (token.Sign s) x = SameShape.same_sign x
shape_next (token.Letter l) x = SameShape.same_letter x
shape_next (token.Word w) x = SameShape.same_word x
shape_next token.As x = SameShape.same_as x
shape_next (token.Number n) x = SameShape.two_numbers (λ e. e) x

-- A reading of the other tokens.
abbrev Moved : {X : Type 0} → (List Token → X → Type 0) → List Token → Type 0
Moved {X} Is rest = (qs : List Token) × (x : X) × Is qs x × SameShape rest qs

sign_front : {s : Sign} {ts qs : List Token} → SameShape (token.Sign s ∷ ts) qs → (vs : List Token) × (qs ≡ token.Sign s ∷ vs) × SameShape ts vs
sign_front (SameShape.same_sign {us = us} x) = (us, refl, x)

no_front : {qs : List Token} → SameShape [] qs → qs ≡ []
no_front SameShape.no_tokens = refl

-- A reading before a sign, and one of all the tokens.
at_sign : {X : Type 0} (Is : List Token → X → Type 0) (s : Sign) (ts : List Token) → Moved Is (token.Sign s ∷ ts) → (vs : List Token) × (x : X) × Is (token.Sign s ∷ vs) x × SameShape ts vs
at_sign Is s ts m = let f = sign_front m.3 in (f.0, m.1, subst (λ q. Is q m.1) f.1 m.2, f.2)

at_end : {X : Type 0} (Is : List Token → X → Type 0) → Moved Is [] → (x : X) × Is [] x
at_end Is m = (m.1, subst (λ q. Is q m.1) (no_front m.3) m.2)

shape_exponent : {ts us rest : List Token} {n : ℕ} → IsExponent ts rest n → SameShape ts us → Moved (IsExponent us) rest
shape_exponent {us = us} IsExponent.absent s = (us, 1, IsExponent.absent, s)
shape_exponent IsExponent.present (SameShape.same_sign (SameShape.two_numbers {n = n} {us = us} e s)) = (us, n, IsExponent.present, s)

taken : (b : Bool) (g h f : Factor) → (if b then Some g else None) ≡ Some f → (if b then Some h else None) ≡ Some h
taken true g h f e = refl
taken false g h f e = absurd cc

letter_moves : (k : Kind) (l : Letter) (m n : ℕ) (f : Factor) → letter_factor k l m ≡ Some f → (g : Factor) × (letter_factor k l n ≡ Some g)
letter_moves k letter.A m n f e = (factor.A n, taken (takes_a k) (factor.A m) (factor.A n) f e)
letter_moves k letter.Z m n f e = (factor.Z n, taken (takes_z k) (factor.Z m) (factor.Z n) f e)
letter_moves k letter.SmallT m n f e = absurd cc
letter_moves k letter.CapitalT m n f e = absurd cc
letter_moves k letter.X m n f e = absurd cc

shape_plain : {k : Kind} {ts us rest : List Token} {f : Factor} → IsPlain k ts rest f → SameShape ts us → Moved (IsPlain k us) rest
shape_plain IsPlain.is_number (SameShape.two_numbers {n = n} {us = us} e s) = (us, factor.Number n, IsPlain.is_number, s)
shape_plain (IsPlain.is_letter {k = k} {l = l} {n = m} {f = f} p x) (SameShape.same_letter s) =
    let e = shape_exponent x s in
    let g = letter_moves k l m e.1 f p in
    (e.0, g.0, IsPlain.is_letter g.1 e.2, e.3)

shape_ending : {k : Kind} {ts us rest : List Token} {n : ℕ} → IsEnding k ts rest n → SameShape ts us → Moved (IsEnding k us) rest
shape_ending (IsEnding.is_ending p x) (SameShape.same_letter s) = let e = shape_exponent x s in (e.0, e.1, IsEnding.is_ending p e.2, e.3)

shape_lead : {ts us rest : List Token} {b : Bool} → IsLead ts rest b → SameShape ts us → (qs : List Token) × IsLead us qs b × SameShape rest qs
shape_lead {us = us} IsLead.plain s = (us, IsLead.plain, s)
shape_lead IsLead.negated (SameShape.same_sign {us = us} s) = (us, IsLead.negated, s)

mutual
  shape_factor : {k : Kind} {d : ℕ} {ts us rest : List Token} {f : Factor} → IsFactor k d ts rest f → SameShape ts us → Moved (IsFactor k d us) rest
  shape_factor (IsFactor.is_plain x) s = let e = shape_plain x s in (e.0, e.1, IsFactor.is_plain e.2, e.3)
  shape_factor (IsFactor.is_group {j = j} {d = d} {rest = rest} {lead = lead} p l x) (SameShape.same_sign s) =
      let a = shape_lead l s in
      let e = at_sign (IsSum j d lead a.0) Close rest (shape_sum x a.2) in
      (e.0, factor.Group e.1, IsFactor.is_group p a.1 e.2, e.3)

  shape_product : {k : Kind} {d n : ℕ} {ts us rest : List Token} {fs : List Factor} → IsProduct k d ts rest fs n → SameShape ts us
      → (qs : List Token) × (gs : List Factor) × (m : ℕ) × IsProduct k d us qs gs m × SameShape rest qs
  shape_product (IsProduct.ended x) s = let e = shape_ending x s in (e.0, [], e.1, IsProduct.ended e.2, e.3)
  shape_product (IsProduct.last_factor x) s = let e = shape_factor x s in (e.0, e.1 ∷ [], 0, IsProduct.last_factor e.2, e.3)
  shape_product {us = us} (IsProduct.times {k = k} {d = d} {us = vs} x y) s =
      let e = at_sign (IsFactor k d us) Star vs (shape_factor x s) in
      let p = shape_product y e.3 in
      (p.0, e.1 ∷ p.1, p.2, IsProduct.times e.2 p.3, p.4)

  shape_terms : {k : Kind} {d : ℕ} {lead : Bool} {ts us rest : List Token} {list : List Term} → IsTerms k d lead ts rest list → SameShape ts us → Moved (IsTerms k d lead us) rest
  shape_terms (IsTerms.last_term {lead = lead} x) s = let p = shape_product x s in (p.0, term_of lead p.1 p.2 ∷ [], IsTerms.last_term p.3, p.4)
  shape_terms {us = us} (IsTerms.and_term {k = k} {d = d} {lead = lead} x y) s =
      let p = shape_product x s in
      let f = sign_front p.4 in
      let t = shape_terms y f.2 in
      (t.0, term_of lead p.1 p.2 ∷ t.1, IsTerms.and_term (subst (λ q. IsProduct k d us q p.1 p.2) f.1 p.3) t.2, t.3)

  shape_sum : {k : Kind} {d : ℕ} {lead : Bool} {ts us rest : List Token} {u : Sum} → IsSum k d lead ts rest u → SameShape ts us → Moved (IsSum k d lead us) rest
  shape_sum (IsSum.has_terms x) s = let t = shape_terms x s in (t.0, sum_of t.1, IsSum.has_terms t.2, t.3)

shape_leaded : {k : Kind} {ts us rest : List Token} {u : Sum} → IsLeadedSum k ts rest u → SameShape ts us → Moved (IsLeadedSum k us) rest
shape_leaded (IsLeadedSum.has_lead l x) s =
    let a = shape_lead l s in
    let e = shape_sum x a.2 in
    (e.0, e.1, IsLeadedSum.has_lead a.1 e.2, e.3)

shape_items : {ts us rest : List Token} {list : List Sum} → IsItems ts rest list → SameShape ts us → Moved (IsItems us) rest
shape_items {us = us} (IsItems.last_item {rest = rest} x) s =
    let e = at_sign (IsLeadedSum kind.TopElement us) CloseList rest (shape_leaded x s) in
    (e.0, e.1 ∷ [], IsItems.last_item e.2, e.3)
shape_items {us = us} (IsItems.and_item {us = vs} x y) s =
    let e = at_sign (IsLeadedSum kind.TopElement us) Comma vs (shape_leaded x s) in
    let t = shape_items y e.3 in
    (t.0, e.1 ∷ t.1, IsItems.and_item e.2 t.2, t.3)

shape_list : {ts us rest : List Token} {list : List Sum} → IsList ts rest list → SameShape ts us → Moved (IsList us) rest
shape_list IsList.no_items (SameShape.same_sign (SameShape.same_sign {us = us} s)) = (us, [], IsList.no_items, s)
shape_list (IsList.has_items x) (SameShape.same_sign s) = let e = shape_items x s in (e.0, e.1, IsList.has_items e.2, e.3)

shape_name : {ts us rest : List Token} {n : Name} → IsName ts rest n → SameShape ts us → (qs : List Token) × IsName us qs n × SameShape rest qs
shape_name IsName.is_word (SameShape.same_word {us = us} s) = (us, IsName.is_word, s)

shape_module : {ts us rest : List Token} {m : ModArg} → IsModOperand ts rest m → SameShape ts us → Moved (IsModOperand us) rest
shape_module (IsModOperand.named_module {n = n} x) s = let e = shape_name x s in (e.0, module_operand.Name n, IsModOperand.named_module e.1, e.2)
shape_module (IsModOperand.listed_module x) s = let e = shape_list x s in (e.0, module_operand.List e.1, IsModOperand.listed_module e.2, e.3)

shape_twisted : {ts us rest : List Token} {u : OreArg} → IsOreOperand ts rest u → SameShape ts us → Moved (IsOreOperand us) rest
shape_twisted (IsOreOperand.named {n = n} x) s = let e = shape_name x s in (e.0, twisted_operand.Name n, IsOreOperand.named e.1, e.2)
shape_twisted (IsOreOperand.listed x) s = let e = shape_list x s in (e.0, twisted_operand.List e.1, IsOreOperand.listed e.2, e.3)
shape_twisted (IsOreOperand.summed x) s = let e = shape_sum x s in (e.0, twisted_operand.Terms e.1, IsOreOperand.summed e.2, e.3)

name_to_end : {ts us : List Token} {n : Name} → IsName ts [] n → SameShape ts us → IsName us [] n
name_to_end {us = us} {n = n} x s = let e = shape_name x s in subst (λ q. IsName us q n) (no_front e.2) e.1

shape_result : {ts us : List Token} {n : Option Name} → IsResult ts n → SameShape ts us → IsResult us n
shape_result IsResult.unnamed SameShape.no_tokens = IsResult.unnamed
shape_result (IsResult.named_result x) (SameShape.same_as s) = IsResult.named_result (name_to_end x s)

twisted_to_end : {ts us : List Token} {u : OreArg} → IsOreOperand ts [] u → SameShape ts us → (v : OreArg) × IsOreOperand us [] v
twisted_to_end {us = us} x s = at_end (IsOreOperand us) (shape_twisted x s)

sum_to_end : {k : Kind} {d : ℕ} {lead : Bool} {ts us : List Token} {u : Sum} → IsSum k d lead ts [] u → SameShape ts us → (v : Sum) × IsSum k d lead us [] v
sum_to_end {k} {d} {lead} {us = us} x s = at_end (IsSum k d lead us) (shape_sum x s)

shape_after_pair : {p : PairVerb} {m n : ModArg} {ts us : List Token} {f : Form} (k l : ModArg) → AfterPair p m n ts f → SameShape ts us → (g : Form) × AfterPair p k l us g
shape_after_pair k l (AfterPair.relate {r = r}) SameShape.no_tokens = (related r k l, AfterPair.relate)
shape_after_pair k l AfterPair.bounded (SameShape.two_numbers {n = d} e SameShape.no_tokens) = (form.Bounded k l d, AfterPair.bounded)
shape_after_pair k l (AfterPair.check x) s = let e = twisted_to_end x s in (form.Check k l e.0, AfterPair.check e.1)

shape_after_module : {v : ModuleVerb} {m : ModArg} {ts us : List Token} {f : Form} (k : ModArg) → AfterModule v m ts f → SameShape ts us → (g : Form) × AfterModule v k us g
shape_after_module k (AfterModule.ask {q = q}) SameShape.no_tokens = (asked q k, AfterModule.ask)
shape_after_module k AfterModule.invariant_number (SameShape.two_numbers {n = n} e SameShape.no_tokens) = (form.J k n, AfterModule.invariant_number)
shape_after_module k (AfterModule.image {name = name} x a) s = let e = shape_sum x s in (form.Image k e.1 name, AfterModule.image e.2 (shape_result a e.3))
shape_after_module k (AfterModule.quotient {name = name} x a) s = let e = shape_twisted x s in (form.Quotient k e.1 name, AfterModule.quotient e.2 (shape_result a e.3))
shape_after_module k (AfterModule.motive x) s = let e = twisted_to_end x s in (form.Motive k e.0, AfterModule.motive e.1)
shape_after_module k (AfterModule.pair x a) s =
    let e = shape_module x s in
    let t = shape_after_pair k e.1 a e.3 in
    (t.0, AfterModule.pair e.2 t.1)

shape_after_twisted : {w : TwistedVerb} {u v : OreArg} {ts us : List Token} {f : Form} (x y : OreArg) → AfterTwisted w u v ts f → SameShape ts us → (g : Form) × AfterTwisted w x y us g
shape_after_twisted x y (AfterTwisted.compute {o = o} {name = name} a) s = (computed o x y name, AfterTwisted.compute (shape_result a s))
shape_after_twisted x y (AfterTwisted.divide {d = d}) SameShape.no_tokens = (divided d x y, AfterTwisted.divide)

pub shape_operands : {v : Verb} {ts us : List Token} {f : Form} → IsOperands v ts f → SameShape ts us → (g : Form) × IsOperands v us g
shape_operands IsOperands.prime_base (SameShape.two_numbers {n = p} e SameShape.no_tokens) = (form.Base p 1 None, IsOperands.prime_base)
shape_operands (IsOperands.power_base h x) (SameShape.two_numbers {n = p} e (SameShape.two_numbers {n = q} z s)) =
    let m = sum_to_end x s in
    (form.Base p q (Some m.0), IsOperands.power_base (λ k. h (z k)) m.1)
shape_operands (IsOperands.top h x) (SameShape.two_numbers {n = n} z s) = let m = sum_to_end x s in (form.Over n m.0, IsOperands.top (λ k. h (z k)) m.1)
shape_operands {us = us} (IsOperands.new_module {name = name} x a) s =
    let e = shape_name x s in
    let f = sign_front e.2 in
    let l = at_end (IsList f.0) (shape_list a f.2) in
    (form.Module name l.0, IsOperands.new_module (subst (λ q. IsName us q name) f.1 e.1) l.1)
shape_operands {us = us} (IsOperands.new_ore {name = name} x a) s =
    let e = shape_name x s in
    let f = sign_front e.2 in
    let l = twisted_to_end a f.2 in
    (form.Ore name l.0, IsOperands.new_ore (subst (λ q. IsName us q name) f.1 e.1) l.1)
shape_operands {us = us} (IsOperands.new_negative {name = name} x a) s =
    let e = shape_name x s in
    let f = sign_front e.2 in
    let g = sign_front f.2 in
    let l = sum_to_end a g.2 in
    (form.Ore name (twisted_operand.Terms l.0), IsOperands.new_negative (subst (λ q. IsName us q name) (f.1 ∙ ap (λ q. token.Sign Equals ∷ q) g.1) e.1) l.1)
shape_operands (IsOperands.show {name = name} x) s = (form.Show name, IsOperands.show (name_to_end x s))
shape_operands (IsOperands.of_module x a) s =
    let e = shape_module x s in
    let t = shape_after_module e.1 a e.3 in
    (t.0, IsOperands.of_module e.2 t.1)
shape_operands (IsOperands.of_twisted x y a) s =
    let e = shape_twisted x s in
    let d = shape_twisted y e.3 in
    let t = shape_after_twisted e.1 d.1 a d.3 in
    (t.0, IsOperands.of_twisted e.2 d.2 t.1)

pub shape_statement : {ts us : List Token} {f : Form} → IsStatement ts f → SameShape ts us → (g : Form) × IsStatement us g
shape_statement (IsStatement.says (IsVerb.begins p) x) (SameShape.same_word s) = let e = shape_operands x s in (e.0, IsStatement.says (IsVerb.begins p) e.1)
