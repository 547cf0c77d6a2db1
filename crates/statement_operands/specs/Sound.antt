-- The values of names are those of the field.
use Rattle.std.specs.Prelude.{◌≡◌, ℕ, ◌&&◌, nat_le, Bool, List, true, length}
use Rattle.std.specs.List.{list_all}
use Rattle.ring_core.specs.Ring.{RingOps}
use Rattle.ring_core.specs.Coeffs.{is_canonical}
use Rattle.residue_field.specs.Top.{Top, ops_of_top}
use Rattle.answer.specs.declared.Value.{Value}
use Rattle.answer.specs.declared.Value.TheVariants as value

-- The list is a module: from 2 to 9 elements, of which the last isn't zero.
abbrev pub is_module_list : {E : Type 0} → RingOps E → List E → Bool
is_module_list r phi = is_canonical r phi && (nat_le 2 (length phi) && nat_le (length phi) 9)

-- A value over the field: a module, or a twisted polynomial.
abbrev pub is_value : Top → Value → Bool
is_value t (value.Module phi) = is_module_list (ops_of_top t) phi
is_value t (value.Ore u) = is_canonical (ops_of_top t) u

abbrev pub are_values : Top → List (List ℕ × Value) → Bool
are_values t ns = list_all (λ e. is_value t e.1) ns

abbrev pub AreValues : Top → List (List ℕ × Value) → Type 0
AreValues t ns = are_values t ns ≡ true
