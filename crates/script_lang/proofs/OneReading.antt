-- Tokens have one reading as a sum of a kind, where what is left doesn't bind on.
use Rattle.std.proofs.Common.{◌≡◌, ℕ, ◌<◌, Bool, Some, List, ◌∷◌, refl, sym, ap, ◌∙◌, lit<, arith, rules}
use Rattle.std.proofs.lemmas.Grind.{common_steps}
use Rattle.script_lang.specs.declared.lexer.Letter.{Letter}
use Rattle.script_lang.specs.declared.lexer.Sign.TheVariants.{Star, Open, Close}
use Rattle.script_lang.specs.declared.lexer.Token.{Token}
use Rattle.script_lang.specs.declared.lexer.Token.TheVariants as token
use Rattle.script_lang.specs.declared.sum.Factor.{Factor}
use Rattle.script_lang.specs.declared.sum.Factor.TheVariants as factor
use Rattle.script_lang.specs.declared.sum.Kind.{Kind}
use Rattle.script_lang.specs.declared.sum.Sum.{Sum}
use Rattle.script_lang.specs.declared.sum.Term.{Term}
use Rattle.script_lang.proofs.Equal.{same_some, same_head, same_tail}
use Rattle.script_lang.specs.Kinds.{ending, letter_factor}
use Rattle.script_lang.specs.Grammar.{sum_of, term_of, term_sign, IsExponent, IsLead, IsPlain, IsEnding, IsFactor, IsProduct, IsTerms, IsSum, sign_binds, binds, lead_of, after_lead}

pub ending_no_factor : (k : Kind) (l : Letter) (n : ℕ) (f : Factor) → ending k ≡ Some l → letter_factor k l n ≡ Some f → ⊥
ending_no_factor k l n f h g = first_of (search rules, grind (arith, common_steps))

pub exponent_once : {ts r s : List Token} {m n : ℕ} → IsExponent ts r m → binds r < 3 → IsExponent ts s n → binds s < 3 → (r ≡ s) × (m ≡ n)
exponent_once IsExponent.absent h IsExponent.absent g = (refl, refl)
exponent_once IsExponent.absent h IsExponent.present g = absurd (omega arith)
exponent_once IsExponent.present h IsExponent.absent g = absurd (omega arith)
exponent_once IsExponent.present h IsExponent.present g = (refl, refl)

plain_once : {k : Kind} {ts r s : List Token} {f g : Factor} → IsPlain k ts r f → binds r < 3 → IsPlain k ts s g → binds s < 3 → (r ≡ s) × (f ≡ g)
plain_once IsPlain.is_number a IsPlain.is_number b = (refl, refl)
plain_once (IsPlain.is_letter p x) a (IsPlain.is_letter q y) b = let e = exponent_once x a y b in (e.0, cc)

ending_once : {k : Kind} {ts r s : List Token} {m n : ℕ} → IsEnding k ts r m → binds r < 2 → IsEnding k ts s n → binds s < 2 → (r ≡ s) × (m ≡ n)
ending_once (IsEnding.is_ending p x) a (IsEnding.is_ending q y) b = exponent_once x (omega arith) y (omega arith)

pub ending_no_front : {k : Kind} {d : ℕ} {ts r s : List Token} {m : ℕ} {f : Factor} → IsEnding k ts r m → IsFactor k d ts s f → ⊥
ending_no_front (IsEnding.is_ending {k = k} {l = l} p x) (IsFactor.is_plain (IsPlain.is_letter {n = n} {f = f} q y)) = ending_no_factor k l n f p q

-- What a sum may begin with.
abbrev pub Fronts : List Token → Type 0
Fronts (token.Number n ∷ ts) = Unit {0}
Fronts (token.Letter l ∷ ts) = Unit {0}
Fronts (token.Sign Open ∷ ts) = Unit {0}
Fronts _ = ⊥

factor_fronts : {k : Kind} {d : ℕ} {ts r : List Token} {f : Factor} → IsFactor k d ts r f → Fronts ts
factor_fronts (IsFactor.is_plain IsPlain.is_number) = tt
factor_fronts (IsFactor.is_plain (IsPlain.is_letter p x)) = tt
factor_fronts (IsFactor.is_group p l x) = tt

product_fronts : {k : Kind} {d n : ℕ} {ts r : List Token} {fs : List Factor} → IsProduct k d ts r fs n → Fronts ts
product_fronts (IsProduct.ended (IsEnding.is_ending p x)) = tt
product_fronts (IsProduct.last_factor x) = factor_fronts x
product_fronts (IsProduct.times x y) = factor_fronts x

pub sum_fronts : {k : Kind} {d : ℕ} {lead : Bool} {ts r : List Token} {s : Sum} → IsSum k d lead ts r s → Fronts ts
sum_fronts (IsSum.has_terms (IsTerms.last_term x)) = product_fronts x
sum_fronts (IsSum.has_terms (IsTerms.and_term x y)) = product_fronts x

fronts_bind : (ts : List Token) → Fronts ts → binds ts ≡ 0
fronts_bind ts h = grind arith

-- What a sum begins with doesn't bind on what stands before it.
pub sum_begins : {k : Kind} {d : ℕ} {lead : Bool} {ts r : List Token} {s : Sum} → IsSum k d lead ts r s → binds ts ≡ 0
sum_begins {ts = ts} x = fronts_bind ts (sum_fronts x)

lead_found : (ts us : List Token) (lead : Bool) → IsLead ts us lead → binds us ≡ 0 → (us ≡ after_lead ts) × (lead ≡ lead_of ts)
lead_found ts us lead x h = grind arith

-- A sum after an optional minus is read after the minus that stands there.
pub lead_read : {k : Kind} {d : ℕ} {ts us r : List Token} {lead : Bool} {s : Sum} → IsLead ts us lead → IsSum k d lead us r s → IsSum k d (lead_of ts) (after_lead ts) r s
lead_read {ts = ts} {us = us} {lead = lead} l x = let e = lead_found ts us lead l (sum_begins x) in rw (← e.0, ← e.1) x

sign_same : (a b : Bool) → token.Sign (term_sign a) ≡ token.Sign (term_sign b) → a ≡ b
sign_same a b e = grind arith

pub sign_binds_one : (b : Bool) → sign_binds (term_sign b) ≡ 1
sign_binds_one b = grind arith

-- A product that begins with a factor and `*` goes on after it, where that factor is the one that the tokens begin with.
after_factor : {k : Kind} {d n : ℕ} {ts us r : List Token} {f : Factor} {fs : List Factor} → IsFactor k d ts (token.Sign Star ∷ us) f
    → ((s : List Token) (g : Factor) → IsFactor k d ts s g → binds s < 3 → (token.Sign Star ∷ us ≡ s) × (f ≡ g)) → IsProduct k d ts r fs n → binds r < 2
    → (gs : List Factor) × IsProduct k d us r gs n × (fs ≡ f ∷ gs)
after_factor x o (IsProduct.ended y) h = absurd (ending_no_front y x)
after_factor {r = r} x o (IsProduct.last_factor {f = g} y) h = let e = o r g y (omega arith) in absurd (omega (arith, ap binds e.0))
after_factor x o (IsProduct.times {us = us} {f = g} {fs = gs} y z) h = let e = o (token.Sign Star ∷ us) g y (lit< tt) in (gs, rw (same_tail e.0) z, cc)

-- Terms that begin with a product and a sign go on after it, where that product is the one that the tokens begin with.
after_product : {k : Kind} {d n : ℕ} {lead next : Bool} {ts us r : List Token} {fs : List Factor} {list : List Term}
    → ((s : List Token) (gs : List Factor) (m : ℕ) → IsProduct k d ts s gs m → binds s < 2 → (token.Sign (term_sign next) ∷ us ≡ s) × (fs ≡ gs) × (n ≡ m))
    → IsTerms k d lead ts r list → binds r < 1 → (more : List Term) × IsTerms k d next us r more × (list ≡ term_of lead fs n ∷ more)
after_product {next = next} {r = r} o (IsTerms.last_term {n = n} {fs = fs} y) h =
    let c = sign_binds_one next in
    let e = o r fs n y (omega arith) in absurd (omega (arith, ap binds e.0))
after_product {next = next} o (IsTerms.and_term {n = n} {next = other} {us = us} {fs = fs} {more = more} y z) h =
    let c = sign_binds_one other in
    let e = o (token.Sign (term_sign other) ∷ us) fs n y (omega arith) in
    (more, rw (sign_same next other (same_head e.0), same_tail e.0) z, cc)

mutual
  pub factor_once : {k : Kind} {d : ℕ} {ts r s : List Token} {f g : Factor} → IsFactor k d ts r f → binds r < 3 → IsFactor k d ts s g → binds s < 3 → (r ≡ s) × (f ≡ g)
  factor_once (IsFactor.is_plain x) a (IsFactor.is_plain y) b = plain_once x a y b
  factor_once (IsFactor.is_plain x) a (IsFactor.is_group q m y) b = elim x [ ]
  factor_once (IsFactor.is_group p l x) a (IsFactor.is_plain y) b = elim y [ ]
  factor_once (IsFactor.is_group {j = j} {d = d} {ts = ts} {us = us} {lead = lead} p l x) a (IsFactor.is_group {j = i} {us = vs} {rest = s} {lead = other} {s = v} q m y) b =
      let g = lead_found ts us lead l (sum_begins x) in
      let h = lead_found ts vs other m (sum_begins y) in
      let c : (us ≡ vs) × (lead ≡ other) = (cc, cc) in
      let e = sum_once {s = token.Sign Close ∷ s} {v = v} x (lit< tt) (rw (same_some (sym p ∙ q), c.0, c.1) y) (lit< tt) in
      (same_tail e.0, ap factor.Group e.1)

  pub product_once : {k : Kind} {d m n : ℕ} {ts r s : List Token} {fs gs : List Factor} → IsProduct k d ts r fs m → binds r < 2 → IsProduct k d ts s gs n → binds s < 2 → (r ≡ s) × (fs ≡ gs) × (m ≡ n)
  product_once (IsProduct.ended x) a (IsProduct.ended y) b = let e = ending_once x a y b in (e.0, refl, e.1)
  product_once (IsProduct.ended x) a (IsProduct.last_factor y) b = absurd (ending_no_front x y)
  product_once (IsProduct.ended x) a (IsProduct.times y z) b = absurd (ending_no_front x y)
  product_once (IsProduct.last_factor x) a (IsProduct.ended y) b = absurd (ending_no_front y x)
  product_once (IsProduct.last_factor x) a (IsProduct.last_factor y) b = let e = factor_once x (omega arith) y (omega arith) in (e.0, cc, refl)
  product_once (IsProduct.last_factor x) a (IsProduct.times y z) b = let e = factor_once x (omega arith) y (lit< tt) in absurd (omega (arith, ap binds e.0))
  product_once (IsProduct.times x z) a y b =
      let t = after_factor x (λ q g. factor_once {s = q} {g = g} x (lit< tt)) y b in
      let e = product_once z a t.1 b in (e.0, cc, e.2)

  pub terms_once : {k : Kind} {d : ℕ} {lead : Bool} {ts r s : List Token} {us vs : List Term} → IsTerms k d lead ts r us → binds r < 1 → IsTerms k d lead ts s vs → binds s < 1 → (r ≡ s) × (us ≡ vs)
  terms_once (IsTerms.last_term x) a (IsTerms.last_term y) b = let e = product_once x (omega arith) y (omega arith) in (e.0, cc)
  terms_once (IsTerms.last_term x) a (IsTerms.and_term {next = next} y z) b =
      let o = sign_binds_one next in
      let e = product_once x (omega arith) y (omega arith) in absurd (omega (arith, ap binds e.0))
  terms_once (IsTerms.and_term {next = next} x z) a y b =
      let o = sign_binds_one next in
      let t = after_product {next = next} (λ q gs m. product_once {n = m} {s = q} {gs = gs} x (omega arith)) y b in
      let e = terms_once z a t.1 b in (e.0, cc)

  pub sum_once : {k : Kind} {d : ℕ} {lead : Bool} {ts r s : List Token} {u v : Sum} → IsSum k d lead ts r u → binds r < 1 → IsSum k d lead ts s v → binds s < 1 → (r ≡ s) × (u ≡ v)
  sum_once (IsSum.has_terms x) a (IsSum.has_terms y) b = let e = terms_once x a y b in (e.0, ap sum_of e.1)

-- The same, of readings that are as long as they can be.
pub factor_then : {k : Kind} {d n : ℕ} {ts us r : List Token} {f : Factor} {fs : List Factor} → IsFactor k d ts (token.Sign Star ∷ us) f → IsProduct k d ts r fs n
    → binds r < 2 → (gs : List Factor) × IsProduct k d us r gs n
factor_then x y b = let t = after_factor x (λ q g. factor_once {s = q} {g = g} x (lit< tt)) y b in (t.0, t.1)

pub product_then : {k : Kind} {d n : ℕ} {lead next : Bool} {ts us r : List Token} {fs : List Factor} {list : List Term} → IsProduct k d ts (token.Sign (term_sign next) ∷ us) fs n
    → IsTerms k d lead ts r list → binds r < 1 → (more : List Term) × IsTerms k d next us r more
product_then {next = next} x y b =
    let o = sign_binds_one next in
    let t = after_product {next = next} (λ q gs m. product_once {n = m} {s = q} {gs = gs} x (omega arith)) y b in (t.0, t.1)
