-- Which demands of a statement the names don't meet.
use Rattle.std.specs.Prelude.{ℕ, ◌||◌, not, Bool, false, Option, Some, None, is_some, List}
use Rattle.script_lang.specs.declared.ModArg.{ModArg}
use Rattle.script_lang.specs.declared.ModArg.TheVariants as module_operand
use Rattle.script_lang.specs.declared.Name.{Name}
use Rattle.script_lang.specs.declared.OreArg.{OreArg}
use Rattle.script_lang.specs.declared.OreArg.TheVariants as twisted_operand
use Rattle.answer.specs.declared.Value.{Value}
use Rattle.statement_operands.specs.Demands.{Demands}
use Rattle.statement_operands.specs.Names.{value_of, is_module, is_twisted}

abbrev pub if_some : {A : Type 0} → (A → Bool) → Option A → Bool
if_some p None = false
if_some p (Some x) = p x

-- One of the operands is such.
abbrev pub any_operand : (ModArg → Bool) → (OreArg → Bool) → Demands → Bool
any_operand m u d = if_some m d.phi || if_some m d.psi || if_some u d.u || if_some u d.v

abbrev pub is_unknown : List (List ℕ × Value) → Name → Bool
is_unknown ns n = not (is_some (value_of ns n.bytes))

abbrev pub unknown_module : List (List ℕ × Value) → ModArg → Bool
unknown_module ns (module_operand.Name n) = is_unknown ns n
unknown_module ns (module_operand.List list) = false

abbrev pub unknown_twisted : List (List ℕ × Value) → OreArg → Bool
unknown_twisted ns (twisted_operand.Name n) = is_unknown ns n
unknown_twisted ns (twisted_operand.List list) = false
unknown_twisted ns (twisted_operand.Terms s) = false

-- In the place of a module stands the name of a twisted polynomial.
abbrev pub wrong_module : List (List ℕ × Value) → ModArg → Bool
wrong_module ns (module_operand.Name n) = is_twisted (value_of ns n.bytes)
wrong_module ns (module_operand.List list) = false

-- In the place of a twisted polynomial stands the name of a module.
abbrev pub wrong_twisted : List (List ℕ × Value) → OreArg → Bool
wrong_twisted ns (twisted_operand.Name n) = is_module (value_of ns n.bytes)
wrong_twisted ns (twisted_operand.List list) = false
wrong_twisted ns (twisted_operand.Terms s) = false

-- An operand is a name that isn't defined.
abbrev pub unknown_name : List (List ℕ × Value) → Demands → Bool
unknown_name ns d = any_operand (unknown_module ns) (unknown_twisted ns) d || if_some (is_unknown ns) d.shown

-- An operand is the name of a value of the other kind.
abbrev pub wrong_kind : List (List ℕ × Value) → Demands → Bool
wrong_kind ns d = any_operand (wrong_module ns) (wrong_twisted ns) d

-- The new name is defined already.
abbrev pub name_taken : List (List ℕ × Value) → Demands → Bool
name_taken ns d = if_some (λ n. is_some (value_of ns n.bytes)) d.gives
