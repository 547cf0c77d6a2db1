-- What a form keeps that passes no limit: the prime and the number of elements of a base, the degree of a top,
-- how many items lists have, the powers of `t` and `T`, and the bound of a list of homomorphisms.
use Rattle.std.specs.Prelude.{◌≡◌, ℕ, ◌+◌, ◌<◌, ◌≤◌, ◌^◌, true, List, length, ⊤}
use Rattle.std.specs.List.{All}
use Rattle.script_lang.specs.declared.ModArg.{ModArg}
use Rattle.script_lang.specs.declared.ModArg.TheVariants as module_operand
use Rattle.script_lang.specs.declared.OreArg.{OreArg}
use Rattle.script_lang.specs.declared.OreArg.TheVariants as twisted_operand
use Rattle.script_lang.specs.declared.Sum.{Sum}
use Rattle.script_lang.specs.declared.Term.{Term}
use Rattle.script_lang.specs.Grammar.{sum_of}
use Rattle.script_statement.specs.declared.Form.{Form}
use Rattle.script_statement.specs.declared.Form.TheVariants as form
use Rattle.script_parse.specs.Version.{Limits}
use Rattle.script_parse.specs.Limits.{is_listed}

-- Each term has at most this power of the letter that ends terms.
pub data SumWithin : ℕ → Sum → Type 0 where
  has_powers : {power : ℕ} (terms : List Term) → All (λ t. t.power ≤ power) terms → SumWithin power (sum_of terms)

abbrev pub ModuleWithin : Limits → ModArg → Type 0
ModuleWithin l (module_operand.List list) = length list ≤ l.rank + 1
ModuleWithin l (module_operand.Name n) = ⊤

abbrev pub TwistedWithin : Limits → OreArg → Type 0
TwistedWithin l (twisted_operand.List list) = length list ≤ l.degree + 1
TwistedWithin l (twisted_operand.Terms s) = SumWithin l.degree s
TwistedWithin l (twisted_operand.Name n) = ⊤

abbrev pub IsWithin : Limits → Form → Type 0
IsWithin l (form.Base p s m) = (is_listed l p ≡ true) × (0 < s) × (p ^ s ≤ l.base)
IsWithin l (form.Over n m) = (0 < n) × (n ≤ l.top)
IsWithin l (form.Module name list) = length list ≤ l.rank + 1
IsWithin l (form.Ore name u) = TwistedWithin l u
IsWithin l (form.Show name) = ⊤
IsWithin l (form.Rank m) = ModuleWithin l m
IsWithin l (form.Char m) = ModuleWithin l m
IsWithin l (form.Height m) = ModuleWithin l m
IsWithin l (form.Ordinary m) = ModuleWithin l m
IsWithin l (form.Supersingular m) = ModuleWithin l m
IsWithin l (form.J m k) = ModuleWithin l m
IsWithin l (form.Image m a name) = ModuleWithin l m × SumWithin l.image a
IsWithin l (form.Add u v name) = TwistedWithin l u × TwistedWithin l v
IsWithin l (form.Sub u v name) = TwistedWithin l u × TwistedWithin l v
IsWithin l (form.Mul u v name) = TwistedWithin l u × TwistedWithin l v
IsWithin l (form.Rdiv u v) = TwistedWithin l u × TwistedWithin l v
IsWithin l (form.Ldiv u v) = TwistedWithin l u × TwistedWithin l v
IsWithin l (form.Common u v) = TwistedWithin l u × TwistedWithin l v
IsWithin l (form.Multiple u v) = TwistedWithin l u × TwistedWithin l v
IsWithin l (form.Check m n u) = ModuleWithin l m × ModuleWithin l n × TwistedWithin l u
IsWithin l (form.Quotient m u name) = ModuleWithin l m × TwistedWithin l u
IsWithin l (form.Iso m n) = ModuleWithin l m × ModuleWithin l n
IsWithin l (form.Isogenous m n) = ModuleWithin l m × ModuleWithin l n
IsWithin l (form.Bounded m n d) = ModuleWithin l m × ModuleWithin l n × (d ≤ l.bound)
IsWithin l (form.Full m n) = ModuleWithin l m × ModuleWithin l n
IsWithin l (form.Fullsize m n) = ModuleWithin l m × ModuleWithin l n
IsWithin l (form.Motive m u) = ModuleWithin l m × TwistedWithin l u
IsWithin l (form.Frob m) = ModuleWithin l m
IsWithin l (form.Frobpower m) = ModuleWithin l m
