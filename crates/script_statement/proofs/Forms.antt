-- The rules by which tactics find what a reader says of a statement.
use Rattle.std.proofs.Common.{◌≢◌, ℕ, ◌<◌, Bool, true, false, List, [], ◌∷◌, Option, ap, lit<, arith}
use Rattle.script_lang.specs.declared.Sign.TheVariants.{Minus, Equals}
use Rattle.script_lang.specs.declared.Token.{Token}
use Rattle.script_lang.specs.declared.Token.TheVariants as token
use Rattle.script_statement.specs.declared.form.Form.{Form}
use Rattle.script_lang.specs.declared.Kind.{Kind}
use Rattle.script_lang.specs.declared.Kind.TheVariants as kind
use Rattle.script_lang.specs.declared.ModArg.{ModArg}
use Rattle.script_lang.specs.declared.Name.{Name}
use Rattle.script_lang.specs.declared.OreArg.{OreArg}
use Rattle.script_lang.specs.declared.Sum.{Sum}
use Rattle.script_lang.specs.Grammar.{IsSum, IsList, IsName, IsModOperand, IsOreOperand, binds, Refuses}
use Rattle.script_lang.proofs.Equal.{same_tail}
use Rattle.script_lang.proofs.Operands.{list_once, twisted_once}
use Rattle.script_lang.proofs.OneReading.{sum_once}
use Rattle.script_statement.specs.declared.verb.Verb.TheVariants as verb
use Rattle.script_statement.specs.declared.verb.ModuleVerb.{ModuleVerb}
use Rattle.script_statement.specs.declared.verb.ModuleVerb.TheVariants as module_verb
use Rattle.script_statement.specs.declared.verb.PairVerb.{PairVerb}
use Rattle.script_statement.specs.declared.verb.TwistedVerb.{TwistedVerb}
use Rattle.script_statement.specs.Statements.{IsResult, AfterPair, AfterModule, AfterTwisted, IsOperands, IsVerb}
use Rattle.script_statement.proofs.OneForm.{name_once, result_ends, operand_ends, twisted_ends, after_second, after_first, after_both}

-- Tokens that begin with an operand and go on are no such operand as a whole.
pub list_longer : (ts rest : List Token) (n m : List Sum) → IsList ts rest n → rest ≢ [] → IsList ts [] m → ⊥
list_longer ts rest n m x h y = h (list_once x y).0

pub sum_longer : (k : Kind) (d : ℕ) (lead : Bool) (ts rest : List Token) (n m : Sum) → IsSum k d lead ts rest n → binds rest < 1 → rest ≢ [] → IsSum k d lead ts [] m → ⊥
sum_longer k d lead ts rest n m x b h y = h (sum_once x b y (lit< tt)).0

pub twisted_longer : (ts rest : List Token) (n m : OreArg) → IsOreOperand ts rest n → binds rest < 1 → rest ≢ [] → IsOreOperand ts [] m → ⊥
twisted_longer ts rest n m x b h y = h (twisted_once x b y (lit< tt)).0

-- Where a reader finds no part of a statement, the tokens are no such statement.
pub image_without_sum : (m : ModArg) (ts : List Token) (f : Form) → Refuses (IsSum kind.Polynomial 16 false ts) 1 → AfterModule module_verb.Image m ts f → ⊥
image_without_sum m ts f h (AfterModule.image {us = us} {s = s} x a) = h us s x (result_ends a)

pub image_without_result : (m : ModArg) (ts us : List Token) (s : Sum) (f : Form) → IsSum kind.Polynomial 16 false ts us s → binds us < 1
    → ((n : Option Name) → IsResult us n → ⊥) → AfterModule module_verb.Image m ts f → ⊥
image_without_result m ts us s f x b h (AfterModule.image {name = n} y a) = h n (rw (sum_once x b y (result_ends a)).0 a)

pub quotient_without_operand : (m : ModArg) (ts : List Token) (f : Form) → Refuses (IsOreOperand ts) 1 → AfterModule module_verb.Quotient m ts f → ⊥
quotient_without_operand m ts f h (AfterModule.quotient {us = us} {u = u} x a) = h us u x (result_ends a)

pub quotient_without_result : (m : ModArg) (ts us : List Token) (u : OreArg) (f : Form) → IsOreOperand ts us u → binds us < 1
    → ((n : Option Name) → IsResult us n → ⊥) → AfterModule module_verb.Quotient m ts f → ⊥
quotient_without_result m ts us u f x b h (AfterModule.quotient {name = n} y a) = h n (rw (twisted_once x b y (result_ends a)).0 a)

pub pair_refused : (p : PairVerb) (m n : ModArg) (ts us : List Token) (f : Form) → IsModOperand ts us n → ((g : Form) → AfterPair p m n us g → ⊥)
    → AfterModule (module_verb.Pair p) m ts f → ⊥
pair_refused p m n ts us f x h y = h f (after_second x y)

pub module_refused : (v : ModuleVerb) (m : ModArg) (ts us : List Token) (f : Form) → IsModOperand ts us m → ((g : Form) → AfterModule v m us g → ⊥)
    → IsOperands (verb.OfModule v) ts f → ⊥
module_refused v m ts us f x h y = h f (after_first x y)

pub twisted_missing : (w : TwistedVerb) (ts : List Token) (f : Form) → Refuses (IsOreOperand ts) 1 → IsOperands (verb.OfTwisted w) ts f → ⊥
twisted_missing w ts f h (IsOperands.of_twisted {us = us} {u = u} x y a) = h us u x (operand_ends y)

pub second_missing : (w : TwistedVerb) (ts us : List Token) (u : OreArg) (f : Form) → IsOreOperand ts us u → binds us < 1 → Refuses (IsOreOperand us) 1
    → IsOperands (verb.OfTwisted w) ts f → ⊥
second_missing w ts us u f x b h (IsOperands.of_twisted {vs = vs} {v = v} y z a) =
    h vs v (rw (twisted_once x b y (operand_ends z)).0 z) (twisted_ends a)

pub twisted_refused : (w : TwistedVerb) (ts us vs : List Token) (u v : OreArg) (f : Form) → IsOreOperand ts us u → binds us < 1 → IsOreOperand us vs v → binds vs < 1
    → ((g : Form) → AfterTwisted w u v vs g → ⊥) → IsOperands (verb.OfTwisted w) ts f → ⊥
twisted_refused w ts us vs u v f x b y d h z = h f (after_both x b y d z)

pub module_without_equals : (ts us : List Token) (n : Name) (f : Form) → IsName ts us n → ((vs : List Token) → us ≢ token.Sign Equals ∷ vs) → IsOperands verb.Module ts f → ⊥
module_without_equals ts us n f x h (IsOperands.new_module {us = vs} y a) = h vs (name_once x y).0

pub module_without_list : (ts us : List Token) (n : Name) (f : Form) → IsName ts (token.Sign Equals ∷ us) n → ((list : List Sum) → IsList us [] list → ⊥)
    → IsOperands verb.Module ts f → ⊥
module_without_list ts us n f x h (IsOperands.new_module {list = list} y a) = h list (rw (same_tail (name_once x y).0) a)

pub ore_without_equals : (ts us : List Token) (n : Name) (f : Form) → IsName ts us n → ((vs : List Token) → us ≢ token.Sign Equals ∷ vs) → IsOperands verb.Ore ts f → ⊥
ore_without_equals ts us n f x h (IsOperands.new_ore {us = vs} y a) = h vs (name_once x y).0
ore_without_equals ts us n f x h (IsOperands.new_negative {us = vs} y a) = h (token.Sign Minus ∷ vs) (name_once x y).0

pub negative_refused : (ts us : List Token) (n : Name) (f : Form) → IsName ts (token.Sign Equals ∷ token.Sign Minus ∷ us) n
    → ((s : Sum) → IsSum kind.Twisted 16 true us [] s → ⊥) → IsOperands verb.Ore ts f → ⊥
negative_refused ts us n f x h (IsOperands.new_ore y a) = omega (arith, operand_ends a, ap binds (same_tail (name_once x y).0))
negative_refused ts us n f x h (IsOperands.new_negative {s = s} y a) = h s (rw (same_tail (same_tail (name_once x y).0)) a)

pub operand_refused : (ts us : List Token) (n : Name) (f : Form) → IsName ts (token.Sign Equals ∷ us) n → ((vs : List Token) → us ≢ token.Sign Minus ∷ vs)
    → ((u : OreArg) → IsOreOperand us [] u → ⊥) → IsOperands verb.Ore ts f → ⊥
operand_refused ts us n f x g h (IsOperands.new_ore {u = u} y a) = h u (rw (same_tail (name_once x y).0) a)
operand_refused ts us n f x g h (IsOperands.new_negative {us = vs} y a) = g vs (same_tail (name_once x y).0)

-- Each way to be a part of a statement, and to be none.
pub ruleset forms = (
  IsResult.unnamed,
  IsResult.named_result,
  AfterPair.relate,
  AfterPair.bounded,
  AfterPair.check,
  AfterModule.ask,
  AfterModule.invariant_number,
  AfterModule.image,
  AfterModule.quotient,
  AfterModule.motive,
  AfterModule.pair,
  AfterTwisted.compute,
  AfterTwisted.divide,
  IsOperands.prime_base,
  IsOperands.power_base,
  IsOperands.top,
  IsOperands.new_module,
  IsOperands.new_ore,
  IsOperands.new_negative,
  IsOperands.show,
  IsOperands.of_module,
  IsOperands.of_twisted,
  IsVerb.begins,
  list_longer,
  sum_longer,
  twisted_longer,
  image_without_sum,
  image_without_result,
  quotient_without_operand,
  quotient_without_result,
  pair_refused,
  module_refused,
  twisted_missing,
  second_missing,
  twisted_refused,
  module_without_equals,
  module_without_list,
  ore_without_equals,
  negative_refused,
  operand_refused,
)
