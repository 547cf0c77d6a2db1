-- Which lists are Drinfeld modules, and why another is none.
use Rattle.std.specs.Prelude.{◌≡◌, ◌-◌, ◌<◌, ◌≤◌, ◌||◌, Bool, true, false, nat_lt, List, length, Result, Ok, Err}
use Rattle.ring_core.specs.Ring.{RingOps}
use Rattle.ring_core.specs.Coeffs.{coeff}
use Rattle.drinfeld_mod.specs.Module.{IsModule}
use Rattle.drinfeld_mod.specs.declared.fault.ModuleFault.{ModuleFault}
use Rattle.drinfeld_mod.specs.declared.fault.ModuleFault.TheVariants.{NoRank, TooLarge, NoMemory}

-- The list has fewer than two members, or its last is zero.
abbrev pub has_no_rank : {E : Type 0} → RingOps E → List E → Bool
has_no_rank r list = nat_lt (length list) 2 || r.same (coeff r list (length list - 1)) r.zero

-- What is answered for a list of elements: the module with these coefficients, or why there is none. A
-- list without a rank is refused before one of too many members.
abbrev pub IsMakeAnswer : {E : Type 0} → RingOps E → List E → Result (List E) ModuleFault → Type 0
IsMakeAnswer r list (Ok m) = (m ≡ list) × (has_no_rank r list ≡ false) × IsModule r m
IsMakeAnswer r list (Err NoRank) = has_no_rank r list ≡ true
IsMakeAnswer r list (Err TooLarge) = (has_no_rank r list ≡ false) × (9 < length list)
IsMakeAnswer r list (Err NoMemory) = (has_no_rank r list ≡ false) × (length list ≤ 9)
