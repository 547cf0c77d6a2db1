-- The storage of the elements of a top field.
use Rattle.std.specs.Prelude.{ℕ, suc, Bool, ◌&&◌, cond, nat_eq, nat_lt, List, length, drop, true, [], ◌∷◌}
use Rattle.ring_core.specs.Ring.{RingOps}
use Rattle.ring_core.specs.Coeffs.{coeff, are_elems, same_lists, first_values}
use Rattle.residue_field.specs.declared.TopElem.{TopElem}
use Rattle.residue_field.specs.Sizes.{most_places}
use Rattle.residue_field.specs.Residue.{Places}

-- Each member is zero.
abbrev pub are_zeros : {E : Type 0} → RingOps E → List E → Bool
are_zeros r [] = true
are_zeros r (x ∷ xs) = r.same x r.zero && are_zeros r xs

-- The storage of `n + 1` coefficients in as many places as the greatest degree, with zero past them.
abbrev pub top_places : RingOps ℕ → ℕ → Places ℕ TopElem
top_places r n = record {
  is_elem = λ t. nat_eq (length t.0) most_places && (are_elems r t.0 && are_zeros r (drop (suc n) t.0));
  place = λ t. coeff r t.0;
  pack = λ g. record { 0 = first_values most_places (λ i. cond (nat_lt i (suc n)) (g i) r.zero) };
  same = λ t u. same_lists r t.0 u.0;
}
