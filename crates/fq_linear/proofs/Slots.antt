-- The rows of a table by their leads, and writes to a table.
use Rattle.linear_algebra.specs.steps.Slots.{beside}
use Rattle.std.proofs.Common.{◌≡◌, ℕ, ◌+◌, ◌-◌, ◌*◌, ◌<◌, ◌≤◌, inl, inr, true, cond, Option, Some, None, nat_eq, List, length, set, refl, sym, ◌∙◌, ap, subst, arith, MatchOption, nat_lt, ltb-true, ltb-false, zero-add, get_or-set_same, get_or-set_other}
use Rattle.std.proofs.lemmas.Bool.{cond_both}
use Rattle.ring_core.proofs.Carrier.{elements, add_times_zero, neg_zero, zero_mul, add_zero}
use Rattle.ring_core.specs.Ring.{RingOps, IsElem, IsRing}
use Rattle.ring_core.specs.Coeffs.{coeff, are_elems}
use Rattle.ring_core.proofs.Coefficients.{elem_read, coeff_past}
use Rattle.linear_algebra.proofs.Sums.{by_bool, same_or_other}
use Rattle.linear_algebra.proofs.Lift.{AllIn}
use Rattle.ring_core.specs.Written.{IsWritten}
use Rattle.fq_linear.specs.steps.Places.{cleared, unit_row}
use Rattle.fq_linear.specs.Table.{row_cells}
use Rattle.fq_linear.specs.steps.Elimination.{row_number, numbered_cells, slot, IsBelow, HasRowsWithin, augmented}
use Rattle.fq_linear.proofs.Places.{elems_range, range_past}

module _ {E : Type 0} (r : RingOps E) where
  pub numbered_past : (w : ℕ) (cells : List E) (o : Option ℕ) (k : ℕ) → w ≤ k → coeff r (numbered_cells w w cells o) k ≡ r.zero
  numbered_past w cells None k l = refl
  numbered_past w cells (Some i) k l = range_past cells (i * w) (i * w + w) k r.zero (omega arith)

module _ {E : Type 0} (r : RingOps E) (h : IsRing r) where
  numbered_in : (w : ℕ) (cells : List E) → are_elems r cells ≡ true → (o : Option ℕ) (k : ℕ) → IsElem r (coeff r (numbered_cells w w cells o) k)
  numbered_in w cells e None k = h.closed.zero_in
  numbered_in w cells e (Some i) k = elem_read r (row_cells w cells i) h.closed.zero_in (elems_range r h cells (i * w) (i * w + w) e) k

  pub slot_in : (w : ℕ) (index : List (Option ℕ)) (cells : List E) → are_elems r cells ≡ true → AllIn r (slot r w index cells)
  slot_in w index cells e j k = numbered_in w cells e (row_number index j) k

  -- a row that no row of the table clears, told like one that is cleared
  pub cleared_none : (w j : ℕ) (o : Option ℕ) (cells row : List E) → o ≡ None → are_elems r row ≡ true
      → (k : ℕ) → coeff r row k ≡ cleared r j (coeff r (numbered_cells w w cells o)) (coeff r row) k
  cleared_none w j o cells row eo re k =
      subst (λ o. coeff r row k ≡ cleared r j (coeff r (numbered_cells w w cells o)) (coeff r row) k) (sym eo)
      (sym (add_times_zero r h (coeff r row k) _ r.zero (elem_read r row h.closed.zero_in re k)
      (h.closed.neg_in _ (elem_read r row h.closed.zero_in re j)) refl))

  pub cleared_nothing : (j : ℕ) (y : ℕ → E) (row : List E) → are_elems r row ≡ true → ((k : ℕ) → IsElem r (y k)) → coeff r row j ≡ r.zero
      → (k : ℕ) → coeff r row k ≡ cleared r j y (coeff r row) k
  cleared_nothing j y row re yi e k =
      sym (ap (λ a. r.add (coeff r row k) (r.mul (r.neg a) (y k))) e
      ∙ ap (r.add (coeff r row k)) (ap (λ a. r.mul a (y k)) (ap (λ a. a.0) (neg_zero (elements h))) ∙ ap (λ a. a.0) (zero_mul (elements h) (y k, yi k)))
      ∙ ap (λ a. a.0) (add_zero (elements h) (coeff r row k, elem_read r row h.closed.zero_in re k)))

  -- the row with the unit matrix before it
  pub loaded : (n w i : ℕ) (part before middle after : List E) → length part ≡ w → length after ≡ n + w
      → IsWritten r.zero 0 n (unit_row r i) before middle → IsWritten r.zero n (length part) (coeff r part) middle after
      → (k : ℕ) → coeff r after k ≡ beside n (unit_row r i) (coeff r part) k
  loaded n w i part before middle after ep ea u s k = by_bool (nat_lt k n)
      (λ t.
      let l : k < n = ltb-true k n t in
      s.outside k (inl l) ∙ ap (coeff r middle) (sym (zero-add k)) ∙ u.inside k l
      ∙ sym (ap (λ b. cond b (unit_row r i k) (coeff r part (k - n))) t))
      (λ t.
      let l : n ≤ k = ltb-false k n t in
      high k l ∙ sym (ap (λ b. cond b (unit_row r i k) (coeff r part (k - n))) t))
    where
      high : (k : ℕ) → n ≤ k → coeff r after k ≡ coeff r part (k - n)
      high k l = by_bool (nat_lt (k - n) w)
          (λ t.
          let b : k - n < length part = omega (arith, ep, ltb-true (k - n) w t) in
          let same : n + (k - n) ≡ k = omega arith in
          ap (coeff r after) (sym same) ∙ s.inside (k - n) b)
          (λ t.
          let far : w ≤ k - n = ltb-false (k - n) w t in
          coeff_past r after k (omega (arith, ea, far)) ∙ sym (coeff_past r part (k - n) (omega (arith, ep, far))))

-- a target with zeros before it
pub target_loaded : {E : Type 0} (r : RingOps E) (n : ℕ) (target before after : List E) → length after ≡ n + length target → ((k : ℕ) → coeff r before k ≡ r.zero)
    → IsWritten r.zero n (length target) (coeff r target) before after → (k : ℕ) → coeff r after k ≡ beside n (λ _. r.zero) (coeff r target) k
target_loaded r n target before after len none s k = by_bool (nat_lt k n)
    (λ t. s.outside k (inl (ltb-true k n t)) ∙ none k ∙ sym (ap (λ b. cond b r.zero (coeff r target (k - n))) t))
    (λ t.
    let l : n ≤ k = ltb-false k n t in
    by_bool (nat_lt (k - n) (length target))
    (λ b.
    let c : k - n < length target = ltb-true (k - n) (length target) b in
    let same : n + (k - n) ≡ k = omega arith in
    ap (coeff r after) (sym same) ∙ s.inside (k - n) c)
    (λ b.
    let far : length target ≤ k - n = ltb-false (k - n) (length target) b in
    coeff_past r after k (omega (arith, len, far)) ∙ sym (coeff_past r target (k - n) far))
    ∙ sym (ap (λ b. cond b r.zero (coeff r target (k - n))) t))

-- The index after a row has joined.
pub number_new : (index : List (Option ℕ)) (l count : ℕ) → l < length index → row_number (set index l (Some count)) l ≡ Some count
number_new index l count b = get_or-set_same index l (Some count) None b

pub number_old : (index : List (Option ℕ)) (l count j : ℕ) → (j ≡ l → ⊥) → row_number (set index l (Some count)) j ≡ row_number index j
number_old index l count j d = get_or-set_other index l j (Some count) None d

same_number : (a b : ℕ) → Some a ≡ Some b → a ≡ b
same_number a b e = cc

pub below_joined : (index : List (Option ℕ)) (l count : ℕ) → l < length index → IsBelow count index → IsBelow (count + 1) (set index l (Some count))
below_joined index l count b h = record {
  is = λ j i e. elim (same_or_other j l) [
    | inl q ↦
        let v = same_number count i (sym (number_new index l count b) ∙ ap (row_number (set index l (Some count))) (sym q) ∙ e) in omega (arith, v)
    | inr d ↦ let v = h.is j i (sym (number_old index l count j d) ∙ e) in omega (arith, v)
  ];
}

pub stored_joined : (index : List (Option ℕ)) (l count w m : ℕ) → l < length index → count * w + w ≤ m → HasRowsWithin w index m → HasRowsWithin w (set index l (Some count)) m
stored_joined index l count w m b room h = record {
  is = λ j i e. elim (same_or_other j l) [
    | inl q ↦
        let v = same_number count i (sym (number_new index l count b) ∙ ap (row_number (set index l (Some count))) (sym q) ∙ e) in subst (λ (c : ℕ). c * w + w ≤ m) v room
    | inr d ↦ h.is j i (sym (number_old index l count j d) ∙ e)
  ];
}

-- augmented rows of elements have elements
pub augmented_in : {E : Type 0} (r : RingOps E) → IsElem r r.zero → IsElem r r.one → (n : ℕ) (rows : ℕ → ℕ → E) → AllIn r rows → AllIn r (augmented r n rows)
augmented_in r z o n rows ri i k =
    cond_both (nat_lt k n) (unit_row r i k) (rows i (k - n)) (λ a. IsElem r a)
    (λ _. cond_both (nat_eq i k) r.one r.zero (λ a. IsElem r a) (λ _. o) (λ _. z)) (λ _. ri i (k - n))

pub none_is_not : (i : ℕ) → None ≡ Some i → ⊥
none_is_not i q = cc

-- no number is left
pub none_left : (o : Option ℕ) → ((i : ℕ) → o ≡ Some i → ⊥) → o ≡ None
none_left None h = refl
none_left (Some i) h = absurd (h i refl)

pub when_none : {A : Type 0} (P : Type 0) (Q : A → Type 0) (o : Option A) → ((i : A) → o ≡ Some i → ⊥) → MatchOption o P Q → P
when_none P Q None h m = m
when_none P Q (Some i) h m = absurd (h i refl)
