-- Tokens stand for at most one form.
use Rattle.std.proofs.Common.{◌≡◌, ◌<◌, List, Option, refl, sym, ap, ◌∙◌, [], lit<, arith}
use Rattle.script_lang.specs.declared.Token.{Token}
use Rattle.script_statement.specs.declared.form.Form.{Form}
use Rattle.script_lang.specs.declared.ModArg.{ModArg}
use Rattle.script_lang.specs.declared.Name.{Name}
use Rattle.script_lang.specs.declared.OreArg.{OreArg}
use Rattle.script_lang.specs.Grammar.{IsName, IsModOperand, IsOreOperand, binds}
use Rattle.script_lang.proofs.Equal.{same_some, same_tail}
use Rattle.script_lang.proofs.Operands.{list_once, module_once, twisted_once, twisted_begins}
use Rattle.script_lang.proofs.OneReading.{sum_once}
use Rattle.script_statement.specs.declared.verb.Verb.{Verb}
use Rattle.script_statement.specs.declared.verb.Verb.TheVariants as verb
use Rattle.script_statement.specs.declared.verb.ModuleVerb.{ModuleVerb}
use Rattle.script_statement.specs.declared.verb.ModuleVerb.TheVariants as module_verb
use Rattle.script_statement.specs.declared.verb.PairVerb.{PairVerb}
use Rattle.script_statement.specs.declared.verb.TwistedVerb.{TwistedVerb}
use Rattle.script_statement.specs.Statements.{IsResult, AfterPair, AfterModule, AfterTwisted, IsOperands, IsVerb, IsStatement}

pub name_once : {ts r s : List Token} {m n : Name} → IsName ts r m → IsName ts s n → (r ≡ s) × (m ≡ n)
name_once IsName.is_word IsName.is_word = (refl, refl)

-- What may follow an operand doesn't bind on it.
pub result_ends : {ts : List Token} {n : Option Name} → IsResult ts n → binds ts < 1
result_ends IsResult.unnamed = lit< tt
result_ends (IsResult.named_result x) = lit< tt

pub operand_ends : {ts r : List Token} {u : OreArg} → IsOreOperand ts r u → binds ts < 1
operand_ends x = let o = twisted_begins x in omega arith

pub twisted_ends : {w : TwistedVerb} {u v : OreArg} {ts : List Token} {f : Form} → AfterTwisted w u v ts f → binds ts < 1
twisted_ends (AfterTwisted.compute x) = result_ends x
twisted_ends AfterTwisted.divide = lit< tt

-- Where the operands at the front are known, the rest of a statement is about them.
pub after_second : {p : PairVerb} {m n : ModArg} {ts us : List Token} {f : Form} → IsModOperand ts us n → AfterModule (module_verb.Pair p) m ts f
    → AfterPair p m n us f
after_second x (AfterModule.pair y a) = let e = module_once x y in rw (e.0, e.1) a

pub after_first : {v : ModuleVerb} {m : ModArg} {ts us : List Token} {f : Form} → IsModOperand ts us m → IsOperands (verb.OfModule v) ts f
    → AfterModule v m us f
after_first x (IsOperands.of_module y a) = let e = module_once x y in rw (e.0, e.1) a

pub after_both : {w : TwistedVerb} {u v : OreArg} {ts us vs : List Token} {f : Form} → IsOreOperand ts us u → binds us < 1 → IsOreOperand us vs v
    → binds vs < 1 → IsOperands (verb.OfTwisted w) ts f → AfterTwisted w u v vs f
after_both x b y d (IsOperands.of_twisted {vs = more} {v = q} z t a) =
    let e = twisted_once x b z (operand_ends t) in
    let k = twisted_once {s = more} {v = q} y d (rw e.0 t) (twisted_ends a) in
    rw (e.1, k.0, k.1) a

result_once : {ts : List Token} {m n : Option Name} → IsResult ts m → IsResult ts n → m ≡ n
result_once IsResult.unnamed IsResult.unnamed = refl
result_once (IsResult.named_result x) (IsResult.named_result y) = let e = name_once x y in cc

after_pair_once : {p : PairVerb} {m n : ModArg} {ts : List Token} {f g : Form} → AfterPair p m n ts f → AfterPair p m n ts g → f ≡ g
after_pair_once AfterPair.relate AfterPair.relate = refl
after_pair_once AfterPair.bounded AfterPair.bounded = refl
after_pair_once (AfterPair.check x) (AfterPair.check y) = let e = twisted_once x (lit< tt) y (lit< tt) in cc

after_module_once : {v : ModuleVerb} {m : ModArg} {ts : List Token} {f g : Form} → AfterModule v m ts f → AfterModule v m ts g → f ≡ g
after_module_once AfterModule.ask AfterModule.ask = refl
after_module_once AfterModule.invariant_number AfterModule.invariant_number = refl
after_module_once (AfterModule.image x a) (AfterModule.image {name = name} y b) =
    let e = sum_once x (result_ends a) y (result_ends b) in
    let k = result_once {n = name} a (rw e.0 b) in cc
after_module_once (AfterModule.quotient x a) (AfterModule.quotient {name = name} y b) =
    let e = twisted_once x (result_ends a) y (result_ends b) in
    let k = result_once {n = name} a (rw e.0 b) in cc
after_module_once (AfterModule.motive x) (AfterModule.motive y) = let e = twisted_once x (lit< tt) y (lit< tt) in cc
after_module_once (AfterModule.pair x a) y = after_pair_once a (after_second x y)

after_twisted_once : {w : TwistedVerb} {u v : OreArg} {ts : List Token} {f g : Form} → AfterTwisted w u v ts f → AfterTwisted w u v ts g → f ≡ g
after_twisted_once (AfterTwisted.compute x) (AfterTwisted.compute y) = let e = result_once x y in cc
after_twisted_once AfterTwisted.divide AfterTwisted.divide = refl

pub operands_once : {v : Verb} {ts : List Token} {f g : Form} → IsOperands v ts f → IsOperands v ts g → f ≡ g
operands_once IsOperands.prime_base IsOperands.prime_base = refl
operands_once (IsOperands.power_base h x) (IsOperands.power_base k y) = let e = sum_once x (lit< tt) y (lit< tt) in cc
operands_once (IsOperands.top h x) (IsOperands.top k y) = let e = sum_once x (lit< tt) y (lit< tt) in cc
operands_once (IsOperands.new_module x a) (IsOperands.new_module {list = list} y b) =
    let e = name_once x y in
    let k = list_once {s = []} {ys = list} a (rw (same_tail e.0) b) in cc
operands_once (IsOperands.new_ore x a) (IsOperands.new_ore {u = u} y b) =
    let e = name_once x y in
    let k = twisted_once {s = []} {v = u} a (lit< tt) (rw (same_tail e.0) b) (lit< tt) in cc
operands_once (IsOperands.new_ore x a) (IsOperands.new_negative y b) = let e = name_once x y in absurd (omega (arith, operand_ends a, ap binds (same_tail e.0)))
operands_once (IsOperands.new_negative x a) (IsOperands.new_ore y b) = let e = name_once x y in absurd (omega (arith, operand_ends b, ap binds (same_tail e.0)))
operands_once (IsOperands.new_negative x a) (IsOperands.new_negative {s = s} y b) =
    let e = name_once x y in
    let k = sum_once {s = []} {v = s} a (lit< tt) (rw (same_tail (same_tail e.0)) b) (lit< tt) in cc
operands_once (IsOperands.show x) (IsOperands.show y) = let e = name_once x y in cc
operands_once (IsOperands.of_module x a) y = after_module_once a (after_first x y)
operands_once (IsOperands.of_twisted x y a) z = after_twisted_once a (after_both x (operand_ends y) y (twisted_ends a) z)

pub verb_once : {ts rest more : List Token} {v w : Verb} → IsVerb ts v rest → IsVerb ts w more → (v ≡ w) × (rest ≡ more)
verb_once (IsVerb.begins e) (IsVerb.begins h) = (same_some (sym e ∙ h), refl)

pub statement_once : {ts : List Token} {f g : Form} → IsStatement ts f → IsStatement ts g → f ≡ g
statement_once (IsStatement.says x y) (IsStatement.says z t) = let e = verb_once x z in operands_once y (rw (e.0, e.1) t)
