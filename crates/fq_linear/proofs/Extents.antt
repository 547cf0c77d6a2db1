-- Rows that are zero outside some places, and operations that touch only those.
use Rattle.std.proofs.Common.{◌≡◌, ◌≢◌, ℕ, ◌+◌, ◌<◌, ◌≤◌, ◌⊎◌, inl, inr, Option, List, length, set, get_or, sym, ◌∙◌, ap, subst, arith, length-set, get_or-set_same, get_or-set_other}
use Rattle.std.proofs.lemmas.Bool.{cases_lt}
use Rattle.ring_core.specs.Ring.{RingOps, IsElem, IsRing}
use Rattle.ring_core.proofs.Carrier.{add_times_zero}
use Rattle.ring_core.proofs.Terms.{times_zero}
use Rattle.linear_algebra.proofs.Sums.{same_or_other}
use Rattle.linear_algebra.proofs.Lift.{AreIn}
use Rattle.fq_linear.specs.declared.extent.Extent.{Extent}
use Rattle.fq_linear.specs.steps.Places.{cleared}
use Rattle.fq_linear.specs.steps.Elimination.{slot}
use Rattle.fq_linear.specs.steps.Extents.{HasExtent, HaveExtents}

module _ {E : Type 0} (r : RingOps E) where
  pub extent_as : (e : Extent) (x y : ℕ → E) → ((k : ℕ) → y k ≡ x k) → HasExtent r e x → HasExtent r e y
  extent_as e x y is h = record { below = λ k b. is k ∙ h.below k b; between = λ k a b. is k ∙ h.between k a b }

  -- the extents once the row `y` with lead `l` has joined
  pub extents_joined : (w l : ℕ) (index mark : List (Option ℕ)) (cells after : List E) (extents : List Extent) (e : Extent) (y : ℕ → E) → l < length extents
      → HaveExtents r w index cells extents → HasExtent r e y → ((k : ℕ) → slot r w mark after l k ≡ y k)
      → ((j k : ℕ) → j ≢ l → slot r w mark after j k ≡ slot r w index cells j k) → HaveExtents r w mark after (set extents l e)
  extents_joined w l index mark cells after extents e y inside h g new kept = record {
    len = length-set _ _ _ ∙ h.len;
    is = λ j past b. elim (same_or_other j l) [
      | inl q ↦
          subst (λ (i : ℕ). HasExtent r (get_or (set extents l e) i past) (slot r w mark after i)) (sym q)
          (subst (λ d. HasExtent r d (slot r w mark after l)) (sym (get_or-set_same extents l e past inside)) (extent_as e y (slot r w mark after l) new g))
      | inr d ↦
          subst (λ x. HasExtent r x (slot r w mark after j)) (sym (get_or-set_other extents l j e past d))
          (extent_as (get_or extents j past) (slot r w index cells j) (slot r w mark after j) (λ k. kept j k d) (h.is j past b))
    ];
  }

module _ {E : Type 0} (r : RingOps E) (h : IsRing r) where
  pub extent_scaled : (e : Extent) (c : E) (x y : ℕ → E) → IsElem r c → ((k : ℕ) → y k ≡ r.mul c (x k)) → HasExtent r e x → HasExtent r e y
  extent_scaled e c x y ci is g = record {
    below = λ k b. is k ∙ times_zero r h c (x k) ci (g.below k b);
    between = λ k a b. is k ∙ times_zero r h c (x k) ci (g.between k a b);
  }

  -- a row cleared by another is zero where both are
  pub extent_cleared : (d e g : Extent) (l : ℕ) (x y z : ℕ → E) → AreIn r x → ((k : ℕ) → z k ≡ cleared r l y x k) → HasExtent r d x → HasExtent r e y
      → g.low ≤ d.low → g.low ≤ e.low → d.end ≤ g.end → e.end ≤ g.end → g.high ≤ d.high → g.high ≤ e.high → HasExtent r g z
  extent_cleared d e g l x y z xi is dx ey low_d low_e end_d end_e high_d high_e = record {
    below = λ k b. both k (dx.below k (omega (arith, b, low_d))) (ey.below k (omega (arith, b, low_e)));
    between = λ k a b. both k (dx.between k (omega (arith, a, end_d)) (omega (arith, b, high_d))) (ey.between k (omega (arith, a, end_e)) (omega (arith, b, high_e)));
  }
    where
      both : (k : ℕ) → x k ≡ r.zero → y k ≡ r.zero → z k ≡ r.zero
      both k zx zy = is k ∙ add_times_zero r h (x k) _ (y k) (xi k) (h.closed.neg_in _ (xi l)) zy ∙ zx

  -- clearing by two ranges outside which the row is zero, told at every place
  module _ (l low end high : ℕ) (e : Extent) (c : E) (y before between after : ℕ → E) (bi : AreIn r before) (ci : IsElem r c) (is : c ≡ r.neg (before l))
      (g : HasExtent r e y) (above : (k : ℕ) → l < k → y k ≡ r.zero)
      (same_low : low ≡ e.low) (end_is : (end ≡ e.end) ⊎ (end ≡ l + 1)) (end_high : end ≤ high) (high_is : (high ≡ e.high) ⊎ (high ≡ end))
      (first_in : (k : ℕ) → low ≤ k → k < end → between k ≡ r.add (before k) (r.mul c (y k)))
      (first_out : (k : ℕ) → (k < low) ⊎ (end ≤ k) → between k ≡ before k)
      (next_in : (k : ℕ) → high ≤ k → k < l + 1 → after k ≡ r.add (between k) (r.mul c (y k)))
      (next_out : (k : ℕ) → (k < high) ⊎ (l + 1 ≤ k) → after k ≡ between k) where
    untouched : (k : ℕ) → y k ≡ r.zero → before k ≡ r.add (before k) (r.mul c (y k))
    untouched k z = sym (add_times_zero r h (before k) c (y k) (bi k) ci z)

    zero_past : (k : ℕ) → end ≤ k → (k < high) ⊎ (l + 1 ≤ k) → y k ≡ r.zero
    zero_past k a (inr far) = above k (omega (arith, far))
    zero_past k a (inl b) = elim (cases_lt l k) [
      | inl far ↦ above k far
      | inr near ↦ elim end_is [
        | inl p ↦ elim high_is [
          | inl q ↦ g.between k (omega (arith, a, p)) (omega (arith, b, q))
          | inr q ↦ absurd (omega (arith, a, b, q))
        ]
        | inr p ↦ absurd (omega (arith, a, near, p))
      ]
    ]

    first : (k : ℕ) → (k < high) ⊎ (l + 1 ≤ k) → between k ≡ r.add (before k) (r.mul c (y k))
    first k o = elim (cases_lt k low) [
      | inl b ↦ first_out k (inl b) ∙ untouched k (g.below k (omega (arith, b, same_low)))
      | inr a ↦ elim (cases_lt k end) [
        | inl t ↦ first_in k a t
        | inr far ↦ first_out k (inr far) ∙ untouched k (zero_past k far o)
      ]
    ]

    added : (k : ℕ) → after k ≡ r.add (before k) (r.mul c (y k))
    added k = elim (cases_lt k high) [
      | inl b ↦ next_out k (inl b) ∙ first k (inl b)
      | inr a ↦ elim (cases_lt k (l + 1)) [
        | inl t ↦ next_in k a t ∙ ap (λ u. r.add u (r.mul c (y k))) (first_out k (inr (omega (arith, a, end_high))))
        | inr far ↦ next_out k (inr far) ∙ first k (inr far)
      ]
    ]

    pub cleared_by_ranges : (k : ℕ) → after k ≡ cleared r l y before k
    cleared_by_ranges k = added k ∙ ap (λ a. r.add (before k) (r.mul a (y k))) is
