-- Elimination of rows with the unit matrix beside them: the reduced rows with a lead below the unit's width
-- are the relations of the rows, in echelon form; a target reduced by the others leaves its coefficients.
use Rattle.std.proofs.Common.{◌≡◌, ℕ, zero, suc, ◌+◌, ◌-◌, ◌<◌, ◌≤◌, ◌≢◌, ◌⊎◌, inl, inr, Bool, true, cond, nat_lt, refl, sym, ◌∙◌, ap, ap₂, subst, arith, ltb-true, ltb-false, lt-ltb, le-ltb}
use Rattle.ring_core.proofs.Carrier.{RingOn, add_zero, zero_mul, mul_zero, neg_add, neg_only, neg_zero}
use Rattle.linear_algebra.specs.steps.Slots.{beside}
use Rattle.linear_algebra.proofs.Sums.{combine, unit, total_same, total_zero, total_rest, combine_same, combine_neg, combine_scale, product_assoc, combine_unit, unit_same, unit_other, by_bool, same_or_other}
use Rattle.linear_algebra.proofs.Spans.{Spans, minus_minus, span_into, span_minus}
use Rattle.linear_algebra.proofs.Slots.{Reduced, expand, zero_at_leads, top_is_lead, low_part}

-- The rows with the unit matrix of width `n` before them.
abbrev pub augmented : {M : Type 0} → RingOn M → ℕ → (ℕ → ℕ → M) → ℕ → ℕ → M
augmented R n v i = beside n (unit R i) (v i)

pub beside_low : {M : Type 0} (n : ℕ) (x y : ℕ → M) (k : ℕ) → k < n → beside n x y k ≡ x k
beside_low n x y k l = ap (λ b. cond b (x k) (y (k - n))) (lt-ltb k n l)

pub beside_past : {M : Type 0} (n : ℕ) (x y : ℕ → M) (k : ℕ) → n ≤ k → beside n x y k ≡ y (k - n)
beside_past n x y k l = ap (λ b. cond b (x k) (y (k - n))) (le-ltb k n l)

pub beside_after : {M : Type 0} (n : ℕ) (x y : ℕ → M) (j : ℕ) → beside n x y (n + j) ≡ y j
beside_after n x y j = let e : n + j - n ≡ j = omega arith in beside_past n x y (n + j) (omega arith) ∙ ap y e

-- Row `k` is a combination of the rows before it.
abbrev pub Depends : {M : Type 0} → RingOn M → (ℕ → ℕ → M) → ℕ → Type 0
Depends R v k = Spans R k v (v k)

module _ {M : Type 0} (R : RingOn M) (n : ℕ) (v : ℕ → ℕ → M) where
  -- the members of a combination of augmented rows
  pub combine_low : (c : ℕ → M) (k : ℕ) → k < n → combine R n c (augmented R n v) k ≡ c k
  combine_low c k l =
      total_same R n _ _ (λ i _. ap (R.mul (c i)) (beside_low n (unit R i) (v i) k l)) ∙ combine_unit R n c k l

  pub combine_high : (c : ℕ → M) (j : ℕ) → combine R n c (augmented R n v) (n + j) ≡ combine R n c v j
  combine_high c j = total_same R n _ _ (λ i _. ap (R.mul (c i)) (beside_after n (unit R i) (v i) j))

  -- the combinations of augmented rows are the coefficients beside what they give
  pub augmented_to : (x : ℕ → M) → ((j : ℕ) → x (n + j) ≡ combine R n x v j) → Spans R n (augmented R n v) x
  augmented_to x h = record {
    by = x;
    is = λ k. by_bool (nat_lt k n)
        (λ b. sym (combine_low x k (ltb-true k n b)))
        (λ b.
        let l : n ≤ k = ltb-false k n b in
        let e : n + (k - n) ≡ k = omega arith in
        subst (λ (i : ℕ). x i ≡ combine R n x (augmented R n v) i) e (h (k - n) ∙ sym (combine_high x (k - n))));
  }

  pub augmented_from : (x : ℕ → M) → Spans R n (augmented R n v) x → (j : ℕ) → x (n + j) ≡ combine R n x v j
  augmented_from x s j =
      s.is (n + j) ∙ combine_high s.by j
      ∙ combine_same R n s.by x v j (λ i l. sym (s.is i ∙ combine_low s.by i l))

-- Reduced rows with the span of the augmented rows.
pub record Eliminates {M : Type 0} (R : RingOn M) (n w : ℕ) (v : ℕ → ℕ → M) (lead : ℕ → Bool) (slots : ℕ → ℕ → M) : Type 0 where
  pub reduced : Reduced R (n + w) lead slots
  pub within : (j : ℕ) → j < n + w → Spans R n (augmented R n v) (slots j)
  pub spans : (x : ℕ → M) → Spans R n (augmented R n v) x → Spans R (n + w) slots x

module _ {M : Type 0} (R : RingOn M) (n w : ℕ) (v : ℕ → ℕ → M) (lead : ℕ → Bool) (slots : ℕ → ℕ → M) (e : Eliminates R n w v lead slots) where
  pub are_relations : (k : ℕ) → k < n → (j : ℕ) → combine R n (slots k) v j ≡ R.zero
  are_relations k l j =
      sym (augmented_from R n v (slots k) (e.within k (omega arith)) j) ∙ e.reduced.above k (n + j) (omega arith)

  -- a relation, with zeros past it, is a combination of the low rows
  pub all_relations : (c : ℕ → M) → ((j : ℕ) → combine R n c v j ≡ R.zero) → ((k : ℕ) → n ≤ k → c k ≡ R.zero) → Spans R n slots c
  all_relations c z past =
      low_part R (n + w) lead slots e.reduced n (omega arith) c
      (e.spans c (augmented_to R n v c (λ j. past (n + j) (omega arith) ∙ sym (z j)))) past

  -- a relation with zero at each lead below `n` is zero
  pub no_relation : (c : ℕ → M) → ((j : ℕ) → combine R n c v j ≡ R.zero) → ((k : ℕ) → n ≤ k → c k ≡ R.zero)
      → ((k : ℕ) → k < n → lead k ≡ true → c k ≡ R.zero) → (k : ℕ) → c k ≡ R.zero
  no_relation c z past off =
      zero_at_leads R (n + w) lead slots e.reduced c
      (e.spans c (augmented_to R n v c (λ j. past (n + j) (omega arith) ∙ sym (z j))))
      (λ k l. by_bool (nat_lt k n) (λ b. off k (ltb-true k n b) l) (λ b. past k (ltb-false k n b)))

  -- the lead of a relation is a lead below `n`
  pub relation_lead : (c : ℕ → M) → ((j : ℕ) → combine R n c v j ≡ R.zero) → ((k : ℕ) → n ≤ k → c k ≡ R.zero)
      → (k : ℕ) → (c k ≡ R.zero → ⊥) → ((j : ℕ) → k < j → c j ≡ R.zero) → lead k ≡ true
  relation_lead c z past =
      top_is_lead R (n + w) lead slots e.reduced c
      (e.spans c (augmented_to R n v c (λ j. past (n + j) (omega arith) ∙ sym (z j))))

  -- a combination of relations is one
  pub relations_span : (c : ℕ → M) → Spans R n slots c → (j : ℕ) → combine R n c v j ≡ R.zero
  relations_span c s j =
      combine_same R n c _ v j (λ i l. s.is i)
      ∙ product_assoc R n n s.by slots v j
      ∙ total_zero R n _ (λ i l. ap (R.mul (s.by i)) (are_relations i l j) ∙ mul_zero R (s.by i))

-- Rows told by the rows before them, and relations with zeros above a place.
module _ {M : Type 0} (R : RingOn M) (n : ℕ) (v : ℕ → ℕ → M) where
  -- a combination with zeros above `k`
  pub combine_to : (k : ℕ) → k < n → (x : ℕ → M) → ((i : ℕ) → k < i → x i ≡ R.zero) → (j : ℕ)
      → combine R n x v j ≡ R.add (combine R k x v j) (R.mul (x k) (v k j))
  combine_to k l x z j = total_rest R (suc k) n _ (omega arith) (λ i b _. ap (λ a. R.mul a (v i j)) (z i (omega arith)) ∙ zero_mul R (v i j))

  pub row_by_relation : (k : ℕ) → k < n → (x : ℕ → M) → x k ≡ R.one → ((i : ℕ) → k < i → x i ≡ R.zero)
      → ((j : ℕ) → combine R n x v j ≡ R.zero) → (j : ℕ) → v k j ≡ combine R k (λ i. R.neg (x i)) v j
  row_by_relation k l x one z rel j =
      neg_only R (combine R k x v j) (v k j)
      (ap (R.add (combine R k x v j)) (sym (ap (λ a. R.mul a (v k j)) one ∙ R.one_mul (v k j))) ∙ sym (combine_to k l x z j) ∙ rel j)
      ∙ sym (combine_neg R k x v j)

  -- the coefficients of a row by those before it, as a relation
  abbrev pub relation_of : ℕ → (ℕ → M) → ℕ → M
  relation_of k c i = cond (nat_lt i k) (R.neg (c i)) (unit R k i)

  relation_low : (k : ℕ) (c : ℕ → M) (i : ℕ) → i < k → relation_of k c i ≡ R.neg (c i)
  relation_low k c i l = ap (λ b. cond b (R.neg (c i)) (unit R k i)) (lt-ltb i k l)

  relation_rest : (k : ℕ) (c : ℕ → M) (i : ℕ) → k ≤ i → relation_of k c i ≡ unit R k i
  relation_rest k c i l = ap (λ b. cond b (R.neg (c i)) (unit R k i)) (le-ltb i k l)

  pub relation_at : (k : ℕ) (c : ℕ → M) → relation_of k c k ≡ R.one
  relation_at k c = relation_rest k c k (omega arith) ∙ unit_same R k k refl

  pub relation_above : (k : ℕ) (c : ℕ → M) (i : ℕ) → k < i → relation_of k c i ≡ R.zero
  relation_above k c i l = let d : k ≢ i = omega arith in relation_rest k c i (omega arith) ∙ unit_other R k i d

  pub relation_is : (k : ℕ) → k < n → (c : ℕ → M) → ((j : ℕ) → v k j ≡ combine R k c v j) → (j : ℕ) → combine R n (relation_of k c) v j ≡ R.zero
  relation_is k l c e j =
      combine_to k l (relation_of k c) (relation_above k c) j
      ∙ ap₂ R.add (combine_same R k (relation_of k c) (λ i. R.neg (c i)) v j (λ i b. relation_low k c i b) ∙ combine_neg R k c v j)
      (ap (λ a. R.mul a (v k j)) (relation_at k c) ∙ R.one_mul (v k j) ∙ e j)
      ∙ neg_add R (combine R k c v j)

module _ {M : Type 0} (R : RingOn M) (distinct : R.one ≢ R.zero) (n w : ℕ) (v : ℕ → ℕ → M) (lead : ℕ → Bool) (slots : ℕ → ℕ → M) (e : Eliminates R n w v lead slots) where
  -- the leads below `n` are the rows that are combinations of those before them
  pub dependent_is_lead : (k : ℕ) → k < n → Depends R v k → lead k ≡ true
  dependent_is_lead k l s =
      relation_lead R n w v lead slots e (relation_of R n v k s.by) (relation_is R n v k l s.by s.is)
      (λ i b. relation_above R n v k s.by i (omega arith)) k (λ q. distinct (sym (relation_at R n v k s.by) ∙ q)) (relation_above R n v k s.by)

  pub lead_depends : (k : ℕ) → k < n → lead k ≡ true → (j : ℕ) → v k j ≡ combine R k (λ i. R.neg (slots k i)) v j
  lead_depends k l m =
      row_by_relation R n v k l (slots k) (e.reduced.one k m) (λ i b. e.reduced.above k i b) (are_relations R n w v lead slots e k l)

-- The target `t` with zeros before it, reduced to `y`.
module _ {M : Type 0} (R : RingOn M) (n w : ℕ) (v : ℕ → ℕ → M) (lead : ℕ → Bool) (slots : ℕ → ℕ → M) (e : Eliminates R n w v lead slots)
    (t y : ℕ → M) (taken : Spans R (n + w) slots (λ k. R.add (beside n (λ _. R.zero) t k) (R.neg (y k)))) (clear : (k : ℕ) → lead k ≡ true → y k ≡ R.zero) where
  -- where nothing is left, the low places are the coefficients
  pub solution : ((k : ℕ) → n ≤ k → y k ≡ R.zero) → (j : ℕ) → t j ≡ combine R n (λ i. R.neg (y i)) v j
  solution none j =
      sym (ap₂ (λ a b. R.add a (R.neg b)) (beside_after n (λ _. R.zero) t j) (none (n + j) (omega arith)) ∙ ap (R.add (t j)) (neg_zero R) ∙ add_zero R (t j))
      ∙ augmented_from R n v _ (span_into R (n + w) n slots (augmented R n v) _ e.within taken) j
      ∙ combine_same R n _ _ v j (λ i l. ap (λ a. R.add a (R.neg (y i))) (beside_low n (λ _. R.zero) t i l) ∙ R.zero_add (R.neg (y i)))

  -- where the target is a combination, nothing is left
  pub nothing_left : (c : ℕ → M) → ((j : ℕ) → t j ≡ combine R n c v j) → (k : ℕ) → n ≤ k → y k ≡ R.zero
  nothing_left c h k l = sym (high k l) ∙ expand R (n + w) lead slots e.reduced both spanned k
      ∙ total_zero R (n + w) _ (λ i b. by_bool (nat_lt i n)
      (λ s. let low : i < n = ltb-true i n s in ap (R.mul (both i)) (e.reduced.above i k (omega arith)) ∙ mul_zero R (both i))
      (λ s.
      let far : n ≤ i = ltb-false i n s in
      by_bool (lead i)
      (λ m. ap (λ a. R.mul a (slots i k)) (high i far ∙ clear i m) ∙ zero_mul R (slots i k))
      (λ m. ap (R.mul (both i)) (e.reduced.absent i k m) ∙ mul_zero R (both i))))
    where
      whole : ℕ → M
      whole = beside n c t

      both : ℕ → M
      both k = R.add (whole k) (R.neg (R.add (beside n (λ _. R.zero) t k) (R.neg (y k))))

      member : Spans R n (augmented R n v) whole
      member = augmented_to R n v whole (λ j. beside_after n c t j ∙ h j ∙ combine_same R n c whole v j (λ i l. sym (beside_low n c t i l)))

      spanned : Spans R (n + w) slots both
      spanned = span_minus R (n + w) slots whole _ (e.spans whole member) taken

      high : (k : ℕ) → n ≤ k → both k ≡ y k
      high k l =
          ap₂ (λ a b. R.add a (R.neg (R.add b (R.neg (y k))))) (beside_past n c t k l) (beside_past n (λ _. R.zero) t k l)
          ∙ minus_minus R (t (k - n)) (y k)

-- Two solutions with zeros at the dependent rows are the same, told by their difference.
module _ {M : Type 0} (R : RingOn M) (inverse : (a : M) → (a ≡ R.zero) ⊎ ((b : M) × (R.mul b a ≡ R.one))) (n : ℕ) (v : ℕ → ℕ → M) (x : ℕ → M)
    (relation : (j : ℕ) → combine R n x v j ≡ R.zero) (zero_at : (k : ℕ) → k < n → Depends R v k → x k ≡ R.zero) where
  -- a member that is not zero, with zeros above it, stands at a dependent row
  top_depends : (k : ℕ) → k < n → ((i : ℕ) → k < i → x i ≡ R.zero) → (b : M) → R.mul b (x k) ≡ R.one → Depends R v k
  top_depends k l above b e =
      let scaled = λ (i : ℕ). R.mul b (x i) in
      record {
        by = λ i. R.neg (R.mul b (x i));
        is = row_by_relation R n v k l scaled e (λ i c. ap (R.mul b) (above i c) ∙ mul_zero R b)
            (λ j. combine_scale R n b x v j ∙ ap (R.mul b) (relation j) ∙ mul_zero R b);
      }

  pub zero_from : (m : ℕ) → m ≤ n → ((i : ℕ) → m ≤ i → x i ≡ R.zero) → (i : ℕ) → x i ≡ R.zero
  zero_from zero l z i = z i (omega arith)
  zero_from (suc m) l z k = zero_from m (omega arith) (λ i b. elim (same_or_other i m) [
    | inl q ↦ ap x q ∙ here
    | inr d ↦ z i (omega arith)
  ]) k
    where
      here : x m ≡ R.zero
      here = elim (inverse (x m)) [
        | inl e ↦ e
        | inr s ↦ zero_at m (omega arith) (top_depends m (omega arith) (λ i c. z i (omega arith)) s.0 s.1)
      ]
