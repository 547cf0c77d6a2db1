-- The grammar of sums and operands, as relations between the tokens of a line, what they begin with,
-- and the tokens that are left.
use Rattle.std.specs.Prelude.{◌≡◌, ℕ, suc, ◌<◌, Bool, true, false, Some, List, [], ◌∷◌}
use Rattle.script_lang.specs.declared.lexer.Letter.{Letter}
use Rattle.script_lang.specs.declared.lexer.Sign.{Sign}
use Rattle.script_lang.specs.declared.lexer.Sign.TheVariants.{Plus, Minus, Star, Caret, Open, Close, OpenList, CloseList, Comma, Equals}
use Rattle.script_lang.specs.declared.lexer.Token.{Token}
use Rattle.script_lang.specs.declared.lexer.Token.TheVariants as token
use Rattle.script_lang.specs.declared.sum.Factor.{Factor}
use Rattle.script_lang.specs.declared.sum.Factor.TheVariants as factor
use Rattle.script_lang.specs.declared.sum.Kind.{Kind}
use Rattle.script_lang.specs.declared.sum.Kind.TheVariants as kind
use Rattle.script_lang.specs.declared.sum.ModArg.{ModArg}
use Rattle.script_lang.specs.declared.sum.ModArg.TheVariants as module_operand
use Rattle.script_lang.specs.declared.sum.Name.{Name}
use Rattle.script_lang.specs.declared.sum.OreArg.{OreArg}
use Rattle.script_lang.specs.declared.sum.OreArg.TheVariants as twisted_operand
use Rattle.script_lang.specs.declared.sum.Sum.{Sum, roll-Sum}
use Rattle.script_lang.specs.declared.sum.Term.{Term}
use Rattle.script_lang.specs.Kinds.{ending, letter_factor, inner}

abbrev pub sum_of : List Term → Sum
sum_of terms = roll-Sum (record { terms = terms })

abbrev pub term_of : Bool → List Factor → ℕ → Term
term_of minus factors power = record { minus = minus; factors = factors; power = power }

abbrev pub name_of : List ℕ → Name
name_of bytes = record { bytes = bytes }

-- The sign before a term that is subtracted, or added.
abbrev pub term_sign : Bool → Sign
term_sign true = Minus
term_sign false = Plus

-- [ "^" number ], where 1 stands for none.
pub data IsExponent : List Token → List Token → ℕ → Type 0 where
  absent : {rest : List Token} → IsExponent rest rest 1
  present : {n : ℕ} {rest : List Token} → IsExponent (token.Sign Caret ∷ token.Number n ∷ rest) rest n

-- [ "-" ]
pub data IsLead : List Token → List Token → Bool → Type 0 where
  plain : {rest : List Token} → IsLead rest rest false
  negated : {rest : List Token} → IsLead (token.Sign Minus ∷ rest) rest true

-- number | letter [ exp ], for the letters that the kind takes.
pub data IsPlain : Kind → List Token → List Token → Factor → Type 0 where
  is_number : {k : Kind} {n : ℕ} {rest : List Token} → IsPlain k (token.Number n ∷ rest) rest (factor.Number n)
  is_letter : {k : Kind} {l : Letter} {n : ℕ} {f : Factor} {ts rest : List Token}
      → letter_factor k l n ≡ Some f → IsExponent ts rest n → IsPlain k (token.Letter l ∷ ts) rest f

-- letter [ exp ], for the letter that ends a term.
pub data IsEnding : Kind → List Token → List Token → ℕ → Type 0 where
  is_ending : {k : Kind} {l : Letter} {n : ℕ} {ts rest : List Token} → ending k ≡ Some l → IsExponent ts rest n → IsEnding k (token.Letter l ∷ ts) rest n

mutual
  -- number | letter [ exp ] | "(" [ "-" ] sum ")", where parentheses nest so deep at most.
  pub data IsFactor : Kind → ℕ → List Token → List Token → Factor → Type 0 where
    is_plain : {k : Kind} {d : ℕ} {ts rest : List Token} {f : Factor} → IsPlain k ts rest f → IsFactor k d ts rest f
    is_group : {k j : Kind} {d : ℕ} {ts us rest : List Token} {lead : Bool} {s : Sum} → inner k ≡ Some j → IsLead ts us lead
        → IsSum j d lead us (token.Sign Close ∷ rest) s → IsFactor k (suc d) (token.Sign Open ∷ ts) rest (factor.Group s)

  -- { factor "*" } letter [ exp ] | factor { "*" factor }
  pub data IsProduct : Kind → ℕ → List Token → List Token → List Factor → ℕ → Type 0 where
    ended : {k : Kind} {d n : ℕ} {ts rest : List Token} → IsEnding k ts rest n → IsProduct k d ts rest [] n
    last_factor : {k : Kind} {d : ℕ} {ts rest : List Token} {f : Factor} → IsFactor k d ts rest f → IsProduct k d ts rest (f ∷ []) 0
    times : {k : Kind} {d n : ℕ} {ts us rest : List Token} {f : Factor} {fs : List Factor}
        → IsFactor k d ts (token.Sign Star ∷ us) f → IsProduct k d us rest fs n → IsProduct k d ts rest (f ∷ fs) n

  -- term { sign term }, where the first term is subtracted or added by what stands before it.
  pub data IsTerms : Kind → ℕ → Bool → List Token → List Token → List Term → Type 0 where
    last_term : {k : Kind} {d n : ℕ} {lead : Bool} {ts rest : List Token} {fs : List Factor}
        → IsProduct k d ts rest fs n → IsTerms k d lead ts rest (term_of lead fs n ∷ [])
    and_term : {k : Kind} {d n : ℕ} {lead next : Bool} {ts us rest : List Token} {fs : List Factor} {more : List Term}
        → IsProduct k d ts (token.Sign (term_sign next) ∷ us) fs n → IsTerms k d next us rest more → IsTerms k d lead ts rest (term_of lead fs n ∷ more)

  pub data IsSum : Kind → ℕ → Bool → List Token → List Token → Sum → Type 0 where
    has_terms : {k : Kind} {d : ℕ} {lead : Bool} {ts rest : List Token} {terms : List Term}
        → IsTerms k d lead ts rest terms → IsSum k d lead ts rest (sum_of terms)

-- Parentheses nest at most this deep.
abbrev pub deepest : ℕ
deepest = 16

-- [ "-" ] sum
pub data IsLeadedSum : Kind → List Token → List Token → Sum → Type 0 where
  has_lead : {k : Kind} {lead : Bool} {ts us rest : List Token} {s : Sum} → IsLead ts us lead → IsSum k deepest lead us rest s → IsLeadedSum k ts rest s

-- [ "-" ] sum { "," [ "-" ] sum } "]"
pub data IsItems : List Token → List Token → List Sum → Type 0 where
  last_item : {ts rest : List Token} {s : Sum} → IsLeadedSum kind.TopElement ts (token.Sign CloseList ∷ rest) s → IsItems ts rest (s ∷ [])
  and_item : {ts us rest : List Token} {s : Sum} {more : List Sum}
      → IsLeadedSum kind.TopElement ts (token.Sign Comma ∷ us) s → IsItems us rest more → IsItems ts rest (s ∷ more)

-- "[" "]" | "[" [ "-" ] sum { "," [ "-" ] sum } "]"
pub data IsList : List Token → List Token → List Sum → Type 0 where
  no_items : {rest : List Token} → IsList (token.Sign OpenList ∷ token.Sign CloseList ∷ rest) rest []
  has_items : {ts rest : List Token} {list : List Sum} → IsItems ts rest list → IsList (token.Sign OpenList ∷ ts) rest list

-- A word that is no letter of sums and isn't `as`.
pub data IsName : List Token → List Token → Name → Type 0 where
  is_word : {w : List ℕ} {rest : List Token} → IsName (token.Word w ∷ rest) rest (name_of w)

-- name | list
pub data IsModOperand : List Token → List Token → ModArg → Type 0 where
  named_module : {ts rest : List Token} {n : Name} → IsName ts rest n → IsModOperand ts rest (module_operand.Name n)
  listed_module : {ts rest : List Token} {list : List Sum} → IsList ts rest list → IsModOperand ts rest (module_operand.List list)

-- name | list | sum
pub data IsOreOperand : List Token → List Token → OreArg → Type 0 where
  named : {ts rest : List Token} {n : Name} → IsName ts rest n → IsOreOperand ts rest (twisted_operand.Name n)
  listed : {ts rest : List Token} {list : List Sum} → IsList ts rest list → IsOreOperand ts rest (twisted_operand.List list)
  summed : {ts rest : List Token} {s : Sum} → IsSum kind.Twisted deepest false ts rest s → IsOreOperand ts rest (twisted_operand.Terms s)

-- A name or a list, as a twisted polynomial.
abbrev pub twisted_of : ModArg → OreArg
twisted_of (module_operand.Name n) = twisted_operand.Name n
twisted_of (module_operand.List list) = twisted_operand.List list

-- How tightly a sign binds on what stands before it: 3 for an exponent, 2 for a product, 1 for a sum.
abbrev pub sign_binds : Sign → ℕ
sign_binds Caret = 3
sign_binds Star = 2
sign_binds Plus = 1
sign_binds Minus = 1
sign_binds Open = 0
sign_binds Close = 0
sign_binds OpenList = 0
sign_binds CloseList = 0
sign_binds Comma = 0
sign_binds Equals = 0

-- How tightly the first of the tokens binds on what stands before it.
abbrev pub binds : List Token → ℕ
binds [] = 0
binds (token.Sign s ∷ ts) = sign_binds s
binds (token.Number n ∷ ts) = 0
binds (token.Word w ∷ ts) = 0
binds (token.Letter l ∷ ts) = 0
binds (token.As ∷ ts) = 0

-- A reading that is as long as it can be: what is left doesn't bind so tightly.
abbrev pub Reads : {X : Type 0} → (List Token → X → Type 0) → ℕ → List Token → X → Type 0
Reads Is level rest x = Is rest x × (binds rest < level)

-- There is no such reading.
abbrev pub Refuses : {X : Type 0} → (List Token → X → Type 0) → ℕ → Type 0
Refuses {X} Is level = (rest : List Token) (x : X) → Is rest x → binds rest < level → ⊥

-- Whether the tokens begin with a minus.
abbrev pub lead_of : List Token → Bool
lead_of (token.Sign Minus ∷ ts) = true
lead_of _ = false

-- What follows a minus, or all where there is none.
abbrev pub after_lead : List Token → List Token
after_lead (token.Sign Minus ∷ ts) = ts
after_lead ts = ts
