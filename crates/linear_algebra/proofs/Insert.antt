-- A row joins reduced rows: the rows are cleared at its lead, and it is kept there.
use Rattle.std.proofs.Common.{◌≡◌, ℕ, ◌<◌, ◌≤◌, inl, inr, Bool, true, false, nat_lt, sym, ◌∙◌, ap, subst, arith, ltb-true, ltb-false}
use Rattle.ring_core.proofs.Carrier.{RingOn, add_zero, zero_mul, mul_zero, neg_zero}
use Rattle.linear_algebra.proofs.Sums.{by_bool, same_or_other}
use Rattle.linear_algebra.proofs.Spans.{Spans, minus_self, minus_plus, span_zero, span_add, span_minus, span_scale, span_row, span_as}
use Rattle.linear_algebra.proofs.Slots.{Reduced}

-- What joins reduced rows: a row with one at its lead `l` and zero at the other leads and above.
pub record Joins {M : Type 0} (R : RingOn M) (w : ℕ) (lead : ℕ → Bool) (l : ℕ) (y : ℕ → M) : Type 0 where
  pub within : l < w
  pub one : y l ≡ R.one
  pub above : (k : ℕ) → l < k → y k ≡ R.zero
  pub clear : (k : ℕ) → lead k ≡ true → y k ≡ R.zero

-- The rows after `y` with lead `l` has joined.
pub record IsJoined {M : Type 0} (R : RingOn M) (lead : ℕ → Bool) (l : ℕ) (y : ℕ → M) (before : ℕ → ℕ → M) (mark : ℕ → Bool) (after : ℕ → ℕ → M) : Type 0 where
  pub marked : mark l ≡ true
  pub kept : (j : ℕ) → (j ≡ l → ⊥) → mark j ≡ lead j
  pub new : (k : ℕ) → after l k ≡ y k
  pub old : (j k : ℕ) → (j ≡ l → ⊥) → after j k ≡ R.add (before j k) (R.neg (R.mul (before j l) (y k)))

module _ {M : Type 0} (R : RingOn M) (w : ℕ) (lead : ℕ → Bool) (l : ℕ) (y : ℕ → M) (before : ℕ → ℕ → M) (mark : ℕ → Bool) (after : ℕ → ℕ → M)
    (h : Reduced R w lead before) (g : Joins R w lead l y) (n : IsJoined R lead l y before mark after) where
  -- where the new row has zero, or the old row has zero at `l`, nothing changes
  unchanged : (j k : ℕ) → (j ≡ l → ⊥) → R.mul (before j l) (y k) ≡ R.zero → after j k ≡ before j k
  unchanged j k d z =
      n.old j k d ∙ ap (λ x. R.add (before j k) (R.neg x)) z ∙ ap (R.add (before j k)) (neg_zero R)
      ∙ add_zero R (before j k)

  no_new : (j k : ℕ) → (j ≡ l → ⊥) → y k ≡ R.zero → after j k ≡ before j k
  no_new j k d z = unchanged j k d (ap (R.mul (before j l)) z ∙ mul_zero R (before j l))

  no_old : (j k : ℕ) → (j ≡ l → ⊥) → before j l ≡ R.zero → after j k ≡ before j k
  no_old j k d z = unchanged j k d (ap (λ x. R.mul x (y k)) z ∙ zero_mul R (y k))

  -- `l` was no lead, where one is not zero: the new row has one there
  pub inserted_reduced : Reduced R w mark after
  inserted_reduced = record {
    within = λ j m. elim (same_or_other j l) [
      | inl e ↦ subst (λ (i : ℕ). i < w) (sym e) g.within
      | inr d ↦ h.within j (sym (n.kept j d) ∙ m)
    ];
    absent = λ j k m. elim (same_or_other j l) [
      | inl e ↦ absurd (contra (sym n.marked ∙ ap mark (sym e) ∙ m))
      | inr d ↦ let old = sym (n.kept j d) ∙ m in no_old j k d (h.absent j l old) ∙ h.absent j k old
    ];
    one = λ j m. elim (same_or_other j l) [
      | inl e ↦ ap (λ i. after i i) e ∙ n.new l ∙ g.one
      | inr d ↦ let old = sym (n.kept j d) ∙ m in no_new j j d (g.clear j old) ∙ h.one j old
    ];
    above = λ j k b. elim (same_or_other j l) [
      | inl e ↦ ap (λ i. after i k) e ∙ n.new k ∙ g.above k (subst (λ (i : ℕ). i < k) e b)
      | inr d ↦ by_bool (nat_lt l k)
          (λ t. no_new j k d (g.above k (ltb-true l k t)) ∙ h.above j k b)
          (λ t. let far : k ≤ l = ltb-false l k t in no_old j k d (h.above j l (omega arith)) ∙ h.above j k b)
    ];
    apart = λ j k m d. elim (same_or_other k l) [
      | inl e ↦
          let other : (j ≡ l → ⊥) = λ q. d (q ∙ sym e) in
          ap (after j) e ∙ n.old j l other ∙ minus_self R (before j l) _ (sym (ap (R.mul (before j l)) g.one ∙ R.mul_one (before j l)))
      | inr f ↦
          let old = sym (n.kept k f) ∙ m in
          elim (same_or_other j l) [
            | inl e ↦ ap (λ i. after i k) e ∙ n.new k ∙ g.clear k old
            | inr q ↦ no_new j k q (g.clear k old) ∙ h.apart j k old d
          ]
    ];
  }
    where
      contra : true ≡ false → ⊥
      contra e = cc

  -- the new rows are combinations of whatever spans the old ones and the new one
  pub inserted_within : (m : ℕ) (rows : ℕ → ℕ → M) → ((j : ℕ) → j < w → Spans R m rows (before j)) → Spans R m rows y
      → (j : ℕ) → j < w → Spans R m rows (after j)
  inserted_within m rows s t j b = elim (same_or_other j l) [
    | inl e ↦ span_as R m rows y (after j) (λ k. ap (λ i. after i k) e ∙ n.new k) t
    | inr d ↦ span_as R m rows _ (after j) (λ k. n.old j k d)
        (span_minus R m rows (before j) _ (s j b) (span_scale R m rows (before j l) y t))
  ]

  pub new_spanned : Spans R w after y
  new_spanned = span_as R w after (after l) y (λ k. sym (n.new k)) (span_row R w after l g.within)

  -- the old rows are combinations of the new ones
  pub old_spanned : lead l ≡ false → (j : ℕ) → j < w → Spans R w after (before j)
  old_spanned free j b = elim (same_or_other j l) [
    | inl e ↦ span_zero R w after (before j) (λ k. ap (λ i. before i k) e ∙ h.absent l k free)
    | inr d ↦ span_as R w after _ (before j)
        (λ k. sym (ap (λ x. R.add x (R.mul (before j l) (y k))) (n.old j k d) ∙ minus_plus R (before j k) (R.mul (before j l) (y k))))
        (span_add R w after (after j) _ (span_row R w after j b) (span_scale R w after (before j l) y new_spanned))
  ]
