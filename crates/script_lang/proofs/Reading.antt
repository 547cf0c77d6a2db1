-- The loops that read terms and factors, and the sums in parentheses.
use Rattle.std.proofs.Common.{◌≡◌, ◌≢◌, ℕ, zero, suc, ◌-◌, ◌<◌, ◌≤◌, Bool, Some, List, [], ◌∷◌, ◌++◌, length, sym, ap, ◌∙◌, lit<, append_assoc, append-nil, arith}
use Rattle.script_lang.specs.declared.lexer.Sign.TheVariants.{Star, Open, Close}
use Rattle.script_lang.specs.declared.lexer.Token.{Token}
use Rattle.script_lang.specs.declared.lexer.Token.TheVariants as token
use Rattle.script_lang.specs.declared.sum.Factor.{Factor}
use Rattle.script_lang.specs.declared.sum.Factor.TheVariants as factor
use Rattle.script_lang.specs.declared.sum.Kind.{Kind}
use Rattle.script_lang.specs.declared.sum.Sum.{Sum}
use Rattle.script_lang.specs.declared.sum.Term.{Term}
use Rattle.script_lang.specs.Kinds.{inner}
use Rattle.script_lang.specs.Grammar.{sum_of, term_of, term_sign, IsLead, IsPlain, IsEnding, IsFactor, IsProduct, IsTerms, IsSum, binds, Refuses, lead_of, after_lead}
use Rattle.script_lang.proofs.Equal.{same_some, same_tail}
use Rattle.script_lang.proofs.OneReading.{sign_binds_one, sum_once, lead_read, factor_then, product_then}

-- `list` are the factors of `tokens` before `rest`.
pub record FactorsSoFar (k : Kind) (d : ℕ) (tokens rest : List Token) (list : List Factor) : Type 0 where
  pub within : length rest ≤ length tokens
  pub goes_on : (r : List Token) (fs : List Factor) (n : ℕ) → IsProduct k d rest r fs n → IsProduct k d tokens r (list ++ fs) n
  pub comes_here : (r : List Token) (fs : List Factor) (n : ℕ) → IsProduct k d tokens r fs n → binds r < 2 → (gs : List Factor) × IsProduct k d rest r gs n

pub factors_more : (k : Kind) (d : ℕ) (tokens rest more : List Token) (f : Factor) (list : List Factor) → FactorsSoFar k d tokens rest list
    → IsFactor k d rest (token.Sign Star ∷ more) f → length more < length rest → FactorsSoFar k d tokens more (list ++ f ∷ [])
factors_more k d tokens rest more f list s x h = let w = s.within in record {
  within = omega arith;
  goes_on = λ r fs n z. rw append_assoc (s.goes_on r (f ∷ fs) n (IsProduct.times x z));
  comes_here = λ r fs n z b. factor_then x (s.comes_here r fs n z b).1 b;
}

pub factors_ended : (k : Kind) (d : ℕ) (tokens rest after : List Token) (n : ℕ) (list : List Factor) → FactorsSoFar k d tokens rest list → IsEnding k rest after n
    → IsProduct k d tokens after list n
factors_ended k d tokens rest after n list s x = rw append-nil at (s.goes_on after [] n (IsProduct.ended x))

pub factors_end : (k : Kind) (d : ℕ) (tokens rest after : List Token) (f : Factor) (list : List Factor) → FactorsSoFar k d tokens rest list → IsFactor k d rest after f
    → IsProduct k d tokens after (list ++ f ∷ []) 0
factors_end k d tokens rest after f list s x = s.goes_on after (f ∷ []) 0 (IsProduct.last_factor x)

pub no_star : (ts : List Token) → ((r : List Token) → ts ≢ token.Sign Star ∷ r) → binds ts < 3 → binds ts < 2
no_star ts h g = grind arith

product_refused : (k : Kind) (d : ℕ) (rest : List Token) → Refuses (IsEnding k rest) 2 → Refuses (IsFactor k d rest) 3
    → (r : List Token) (fs : List Factor) (n : ℕ) → IsProduct k d rest r fs n → binds r < 2 → ⊥
product_refused k d rest h g r fs n (IsProduct.ended x) b = h r n x b
product_refused k d rest h g r fs n (IsProduct.last_factor {f = f} x) b = g r f x (omega arith)
product_refused k d rest h g r fs n (IsProduct.times {us = us} {f = f} x y) b = g (token.Sign Star ∷ us) f x (lit< tt)

pub factors_refused : (k : Kind) (d : ℕ) (tokens rest r : List Token) (list fs : List Factor) (n : ℕ) → FactorsSoFar k d tokens rest list → Refuses (IsEnding k rest) 2
    → Refuses (IsFactor k d rest) 3 → IsProduct k d tokens r fs n → binds r < 2 → ⊥
factors_refused k d tokens rest r list fs n s h g x b = let u = s.comes_here r fs n x b in product_refused k d rest h g r u.0 n u.1 b

-- `list` are the terms of `tokens` before `rest`, and `minus` says which sign stands before it.
pub record TermsSoFar (k : Kind) (d : ℕ) (lead : Bool) (tokens : List Token) (minus : Bool) (rest : List Token) (list : List Term) : Type 0 where
  pub within : length rest ≤ length tokens
  pub goes_on : (r : List Token) (ts : List Term) → IsTerms k d minus rest r ts → IsTerms k d lead tokens r (list ++ ts)
  pub comes_here : (r : List Token) (ts : List Term) → IsTerms k d lead tokens r ts → binds r < 1 → (us : List Term) × IsTerms k d minus rest r us

pub terms_more : (k : Kind) (d : ℕ) (lead : Bool) (tokens : List Token) (minus next : Bool) (rest more : List Token) (fs : List Factor) (n : ℕ) (list : List Term)
    → TermsSoFar k d lead tokens minus rest list → IsProduct k d rest (token.Sign (term_sign next) ∷ more) fs n → length more < length rest
    → TermsSoFar k d lead tokens next more (list ++ term_of minus fs n ∷ [])
terms_more k d lead tokens minus next rest more fs n list s x h = let w = s.within in record {
  within = omega arith;
  goes_on = λ r ts z. rw append_assoc (s.goes_on r (term_of minus fs n ∷ ts) (IsTerms.and_term x z));
  comes_here = λ r ts z b. product_then x (s.comes_here r ts z b).1 b;
}

pub terms_end : (k : Kind) (d : ℕ) (lead : Bool) (tokens : List Token) (minus : Bool) (rest after : List Token) (fs : List Factor) (n : ℕ) (list : List Term)
    → TermsSoFar k d lead tokens minus rest list → IsProduct k d rest after fs n → IsSum k d lead tokens after (sum_of (list ++ term_of minus fs n ∷ []))
terms_end k d lead tokens minus rest after fs n list s x = IsSum.has_terms (s.goes_on after (term_of minus fs n ∷ []) (IsTerms.last_term x))

terms_refused_here : (k : Kind) (d : ℕ) (minus : Bool) (rest : List Token) → ((r : List Token) (fs : List Factor) (n : ℕ) → IsProduct k d rest r fs n → binds r < 2 → ⊥)
    → (r : List Token) (ts : List Term) → IsTerms k d minus rest r ts → binds r < 1 → ⊥
terms_refused_here k d minus rest h r ts (IsTerms.last_term {n = n} {fs = fs} x) b = h r fs n x (omega arith)
terms_refused_here k d minus rest h r ts (IsTerms.and_term {n = n} {next = next} {us = us} {fs = fs} x y) b =
    let o = sign_binds_one next in h (token.Sign (term_sign next) ∷ us) fs n x (omega arith)

pub terms_refused : (k : Kind) (d : ℕ) (lead : Bool) (tokens : List Token) (minus : Bool) (rest r : List Token) (list : List Term) (v : Sum)
    → TermsSoFar k d lead tokens minus rest list → ((q : List Token) (fs : List Factor) (n : ℕ) → IsProduct k d rest q fs n → binds q < 2 → ⊥)
    → IsSum k d lead tokens r v → binds r < 1 → ⊥
terms_refused k d lead tokens minus rest r list v s h (IsSum.has_terms {terms = ts} x) b =
    let u = s.comes_here r ts x b in terms_refused_here k d minus rest h r u.0 u.1 b

pub no_term_sign : (ts : List Token) → binds ts ≢ 1 → binds ts < 2 → binds ts < 1
no_term_sign ts h g = omega arith

pub lead_there : (ts : List Token) → IsLead ts (after_lead ts) (lead_of ts)
lead_there ts = grind (arith, IsLead.plain, IsLead.negated)

pub group_there : (k j : Kind) (d : ℕ) (more rest : List Token) (s : Sum) → inner k ≡ Some j → 0 < d
    → IsSum j (d - 1) (lead_of more) (after_lead more) (token.Sign Close ∷ rest) s → IsFactor k d (token.Sign Open ∷ more) rest (factor.Group s)
group_there k j zero more rest s p h x = absurd (omega arith)
group_there k j (suc d) more rest s p h x =
    let e : suc d - 1 ≡ d = omega arith in IsFactor.is_group p (lead_there more) (rw e at x)

-- A factor that begins with `(` has a sum of the inner kind in it.
inside : (k j : Kind) (d : ℕ) (more r : List Token) (f : Factor) → inner k ≡ Some j → Refuses (IsPlain k (token.Sign Open ∷ more)) 3
    → IsFactor k d (token.Sign Open ∷ more) r f → binds r < 3 → (s : Sum) × IsSum j (d - 1) (lead_of more) (after_lead more) (token.Sign Close ∷ r) s
inside k j d more r f p h (IsFactor.is_plain x) b = absurd (h r f x b)
inside k j d more r f p h (IsFactor.is_group {d = c} {s = s} q l x) b =
    let e : suc c - 1 ≡ c = omega arith in (s, rw (e, same_some (sym p ∙ q)) (lead_read l x))

pub no_inside : (k j : Kind) (d : ℕ) (more r : List Token) (f : Factor) → inner k ≡ Some j → Refuses (IsPlain k (token.Sign Open ∷ more)) 3
    → Refuses (IsSum j (d - 1) (lead_of more) (after_lead more)) 1 → IsFactor k d (token.Sign Open ∷ more) r f → binds r < 3 → ⊥
no_inside k j d more r f p h g x b = let u = inside k j d more r f p h x b in g (token.Sign Close ∷ r) u.0 u.1 (lit< tt)

pub no_close : (k j : Kind) (d : ℕ) (more after r : List Token) (s : Sum) (f : Factor) → inner k ≡ Some j → Refuses (IsPlain k (token.Sign Open ∷ more)) 3
    → IsSum j (d - 1) (lead_of more) (after_lead more) after s → binds after < 1 → ((q : List Token) → after ≢ token.Sign Close ∷ q)
    → IsFactor k d (token.Sign Open ∷ more) r f → binds r < 3 → ⊥
no_close k j d more after r s f p h y a g x b = let u = inside k j d more r f p h x b in g r (sum_once y a u.1 (lit< tt)).0

pub no_power : (k j : Kind) (d : ℕ) (more rest r : List Token) (s : Sum) (f : Factor) → inner k ≡ Some j → Refuses (IsPlain k (token.Sign Open ∷ more)) 3
    → IsSum j (d - 1) (lead_of more) (after_lead more) (token.Sign Close ∷ rest) s → 3 ≤ binds rest → IsFactor k d (token.Sign Open ∷ more) r f → binds r < 3 → ⊥
no_power k j d more rest r s f p h y c x b =
    let u = inside k j d more r f p h x b in omega (arith, ap binds (same_tail (sum_once y (lit< tt) u.1 (lit< tt)).0))

pub ruleset readings = (IsFactor.is_plain, factors_more, factors_ended, factors_end, factors_refused, terms_more, terms_end, terms_refused)

pub ruleset reading_ends = (no_star, no_term_sign, group_there, no_inside, no_close, no_power)
