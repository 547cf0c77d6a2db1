-- The statements, as relations between the tokens of a whole line and the form that they stand for.
use Rattle.std.specs.Prelude.{◌≡◌, ◌≢◌, ℕ, true, false, Option, Some, None, List, [], ◌∷◌}
use Rattle.script_lang.specs.declared.Sign.TheVariants.{Minus, Equals}
use Rattle.script_lang.specs.declared.Token.{Token}
use Rattle.script_lang.specs.declared.Token.TheVariants as token
use Rattle.script_statement.specs.declared.form.Form.{Form}
use Rattle.script_statement.specs.declared.form.Form.TheVariants as form
use Rattle.script_lang.specs.declared.Kind.TheVariants as kind
use Rattle.script_lang.specs.declared.ModArg.{ModArg}
use Rattle.script_lang.specs.declared.Name.{Name}
use Rattle.script_lang.specs.declared.OreArg.{OreArg}
use Rattle.script_lang.specs.declared.OreArg.TheVariants as twisted_operand
use Rattle.script_lang.specs.declared.Sum.{Sum}
use Rattle.script_lang.specs.Grammar.{deepest, IsSum, IsList, IsName, IsModOperand, IsOreOperand}
use Rattle.script_statement.specs.declared.verb.Verb.{Verb}
use Rattle.script_statement.specs.declared.verb.Verb.TheVariants as verb
use Rattle.script_statement.specs.declared.verb.ModuleVerb.{ModuleVerb}
use Rattle.script_statement.specs.declared.verb.ModuleVerb.TheVariants as module_verb
use Rattle.script_statement.specs.declared.verb.PairVerb.{PairVerb}
use Rattle.script_statement.specs.declared.verb.PairVerb.TheVariants as pair_verb
use Rattle.script_statement.specs.declared.verb.TwistedVerb.{TwistedVerb}
use Rattle.script_statement.specs.declared.verb.TwistedVerb.TheVariants as twisted_verb
use Rattle.script_statement.specs.declared.verb.Question.{Question}
use Rattle.script_statement.specs.declared.verb.Relation.{Relation}
use Rattle.script_statement.specs.declared.verb.Operation.{Operation}
use Rattle.script_statement.specs.declared.verb.Division.{Division}
use Rattle.script_statement.specs.Verbs.{verb_of, asked, related, computed, divided}

-- [ "as" name ], and no more
pub data IsResult : List Token → Option Name → Type 0 where
  unnamed : IsResult [] None
  named_result : {ts : List Token} {name : Name} → IsName ts [] name → IsResult (token.As ∷ ts) (Some name)

-- What follows two Drinfeld modules: nothing, a number, or a twisted polynomial.
pub data AfterPair : PairVerb → ModArg → ModArg → List Token → Form → Type 0 where
  relate : {r : Relation} {m n : ModArg} → AfterPair (pair_verb.Relate r) m n [] (related r m n)
  bounded : {m n : ModArg} {d : ℕ} → AfterPair pair_verb.Bounded m n (token.Number d ∷ []) (form.Bounded m n d)
  check : {m n : ModArg} {ts : List Token} {u : OreArg} → IsOreOperand ts [] u → AfterPair pair_verb.Check m n ts (form.Check m n u)

-- What follows one Drinfeld module.
pub data AfterModule : ModuleVerb → ModArg → List Token → Form → Type 0 where
  ask : {q : Question} {m : ModArg} → AfterModule (module_verb.Ask q) m [] (asked q m)
  invariant_number : {m : ModArg} {n : ℕ} → AfterModule module_verb.J m (token.Number n ∷ []) (form.J m n)
  image : {m : ModArg} {ts us : List Token} {s : Sum} {name : Option Name} → IsSum kind.Polynomial deepest false ts us s → IsResult us name
      → AfterModule module_verb.Image m ts (form.Image m s name)
  quotient : {m : ModArg} {ts us : List Token} {u : OreArg} {name : Option Name} → IsOreOperand ts us u → IsResult us name
      → AfterModule module_verb.Quotient m ts (form.Quotient m u name)
  motive : {m : ModArg} {ts : List Token} {u : OreArg} → IsOreOperand ts [] u → AfterModule module_verb.Motive m ts (form.Motive m u)
  pair : {p : PairVerb} {m n : ModArg} {ts us : List Token} {f : Form} → IsModOperand ts us n → AfterPair p m n us f → AfterModule (module_verb.Pair p) m ts f

-- What follows two twisted polynomials.
pub data AfterTwisted : TwistedVerb → OreArg → OreArg → List Token → Form → Type 0 where
  compute : {o : Operation} {u v : OreArg} {ts : List Token} {name : Option Name} → IsResult ts name
      → AfterTwisted (twisted_verb.Compute o) u v ts (computed o u v name)
  divide : {d : Division} {u v : OreArg} → AfterTwisted (twisted_verb.Divide d) u v [] (divided d u v)

-- What follows the first word.
pub data IsOperands : Verb → List Token → Form → Type 0 where
  prime_base : {p : ℕ} → IsOperands verb.Base (token.Number p ∷ []) (form.Base p 1 None)
  power_base : {p s : ℕ} {ts : List Token} {m : Sum} → s ≢ 0 → IsSum kind.BaseModulus deepest false ts [] m
      → IsOperands verb.Base (token.Number p ∷ token.Number s ∷ ts) (form.Base p s (Some m))
  top : {n : ℕ} {ts : List Token} {m : Sum} → n ≢ 0 → IsSum kind.TopModulus deepest false ts [] m
      → IsOperands verb.Over (token.Number n ∷ ts) (form.Over n m)
  new_module : {ts us : List Token} {name : Name} {list : List Sum} → IsName ts (token.Sign Equals ∷ us) name → IsList us [] list
      → IsOperands verb.Module ts (form.Module name list)
  new_ore : {ts us : List Token} {name : Name} {u : OreArg} → IsName ts (token.Sign Equals ∷ us) name → IsOreOperand us [] u
      → IsOperands verb.Ore ts (form.Ore name u)
  new_negative : {ts us : List Token} {name : Name} {s : Sum} → IsName ts (token.Sign Equals ∷ token.Sign Minus ∷ us) name
      → IsSum kind.Twisted deepest true us [] s → IsOperands verb.Ore ts (form.Ore name (twisted_operand.Terms s))
  show : {ts : List Token} {name : Name} → IsName ts [] name → IsOperands verb.Show ts (form.Show name)
  of_module : {v : ModuleVerb} {ts us : List Token} {m : ModArg} {f : Form} → IsModOperand ts us m → AfterModule v m us f → IsOperands (verb.OfModule v) ts f
  of_twisted : {w : TwistedVerb} {ts us vs : List Token} {u v : OreArg} {f : Form} → IsOreOperand ts us u → IsOreOperand us vs v → AfterTwisted w u v vs f
      → IsOperands (verb.OfTwisted w) ts f

-- The tokens of a line begin with the word of a verb, and those are left.
pub data IsVerb : List Token → Verb → List Token → Type 0 where
  begins : {w : List ℕ} {v : Verb} {rest : List Token} → verb_of w ≡ Some v → IsVerb (token.Word w ∷ rest) v rest

-- The tokens of a line stand for a form.
pub data IsStatement : List Token → Form → Type 0 where
  says : {v : Verb} {ts rest : List Token} {f : Form} → IsVerb ts v rest → IsOperands v rest f → IsStatement ts f
