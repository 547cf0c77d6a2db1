-- Which lists of elements are modules, told by a test.
use Rattle.std.proofs.Common.{◌≡◌, ◌≢◌, ◌+◌, ◌-◌, ◌<◌, ◌≤◌, ◌⊎◌, inl, inr, true, false, nat_lt, List, length, sym, ap, ◌∙◌, arith, take_all}
use Rattle.std.proofs.lemmas.Bool.{and_parts, and_from, or_parts, or_from, both_ways, cases_Bool, ltb-false, le-ltb, false_from_ne_true}
use Rattle.ring_core.specs.Ring.{RingOps, IsElem, SameDecides}
use Rattle.ring_core.specs.Coeffs.{coeff, trim, are_elems, is_trimmed}
use Rattle.ring_core.proofs.Coefficients.{elem_read, trim_found, trimmed-trim}
use Rattle.ring_core.proofs.Degrees.{not_empty, top_nonzero}
use Rattle.drinfeld_mod.specs.Module.{IsModule, rank_of}
use Rattle.drinfeld_mod.specs.Make.{has_no_rank}

-- Whether two elements are equal can be told.
pub equal_or_not : {E : Type 0} (r : RingOps E) → SameDecides r → (x y : E) → IsElem r x → IsElem r y → (x ≡ y) ⊎ (x ≢ y)
equal_or_not r d x y p q = elim (cases_Bool (r.same x y)) [
  | inl s ↦ inl (d.same_eq x y p q s)
  | inr s ↦ inr (λ e. both_ways (r.same x y) s (ap (λ u. r.same u y) e ∙ d.same_refl y q))
]

module _ {E : Type 0} (r : RingOps E) where
  -- no zero stands at the top of a list whose last member isn't zero
  pub trimmed_by_top : (u : List E) → 0 < length u → r.same (coeff r u (length u - 1)) r.zero ≡ false → is_trimmed r u ≡ true
  trimmed_by_top u pos e =
      let trimmed = trim_found r u (length u) pos (omega arith) e (ap (trim r) (take_all (length u) u (omega arith))) in
      ap (is_trimmed r) (sym (take_all (length u - 1 + 1) u (omega arith)) ∙ trimmed) ∙ trimmed-trim r u

  -- at most nine elements that have a rank are a module
  pub module_is : (u : List E) → are_elems r u ≡ true → has_no_rank r u ≡ false → length u ≤ 9 → IsModule r u
  module_is u e ranked short =
      let parts = or_parts (nat_lt (length u) 2) _ ranked in
      let long : 2 ≤ length u = ltb-false (length u) 2 parts.0 in
      record {
        canonical = and_from _ _ e (trimmed_by_top u (omega (arith, long)) parts.1);
        rank_pos = omega (arith, long);
        rank_small = omega arith;
      }

  -- the top coefficient of a module is an element that isn't zero
  pub top_of_module : IsElem r r.zero → SameDecides r → (u : List E) → IsModule r u → IsElem r (coeff r u (rank_of u)) × (coeff r u (rank_of u) ≢ r.zero)
  top_of_module z d u m =
      let parts = and_parts (are_elems r u) _ m.canonical in
      (elem_read r u z parts.0 (rank_of u), top_nonzero r z d u parts.1 (not_empty u (omega (arith, m.rank_pos))))

  -- so a module has a rank
  pub module_ranked : IsElem r r.zero → SameDecides r → (u : List E) → IsModule r u → has_no_rank r u ≡ false
  module_ranked z d u m =
      let top = top_of_module z d u m in
      or_from _ _ (le-ltb (length u) 2 (omega (arith, m.rank_pos))) (false_from_ne_true _ (λ s. top.1 (d.same_eq _ r.zero top.0 z s)))
