-- The pairs of modules whose full lists are kept, in the order in which they were made.
use Rattle.std.specs.Prelude.{ℕ, ◌-◌, ◌&&◌, Bool, List, [], ◌∷◌, ◌++◌, length, map, drop, if◌then◌else◌}
use Rattle.std.specs.List.{list_any}
use Rattle.ring_core.specs.Ring.{RingOps}
use Rattle.ring_core.specs.Coeffs.{same_lists}
use Rattle.kept_lists.specs.declared.kept.KeptList.{KeptList}

abbrev pub pairs_of : {E : Type 0} → List (KeptList E) → List (List E × List E)
pairs_of kept = map (λ k. (k.source, k.target)) kept

-- Two pairs are the same where the coefficients of both modules are equal.
abbrev pub is_pair : {E : Type 0} → RingOps E → List E → List E → List E × List E → Bool
is_pair r phi psi p = same_lists r p.0 phi && same_lists r p.1 psi

abbrev pub has_pair : {E : Type 0} → RingOps E → List E → List E → List (List E × List E) → Bool
has_pair r phi psi pairs = list_any (is_pair r phi psi) pairs

-- The last 8 of them.
abbrev pub newest : {A : Type 0} → List A → List A
newest xs = drop (length xs - 8) xs

-- The pairs once the full list of this one is kept: a pair that is kept keeps its place, another comes last, and the
-- oldest goes for a ninth.
abbrev pub with_pair : {E : Type 0} → RingOps E → List E → List E → List (List E × List E) → List (List E × List E)
with_pair r phi psi pairs = if has_pair r phi psi pairs then pairs else newest (pairs ++ (phi, psi) ∷ [])
