-- A product made row by row: each coefficient of the left factor, times the right factor as the twist
-- has raised it so far, is added from its place on.
use Rattle.std.proofs.Common.{◌≡◌, ℕ, zero, suc, ◌+◌, ◌-◌, ◌<◌, ◌≤◌, inl, inr, min, true, List, ◌++◌, length, take, drop, sym, ◌∙◌, ap, ap₂, ⊎_elim, arith, append-nil, take_all}
use Rattle.std.proofs.lemmas.Bool.{cases_lt}
use Rattle.std.proofs.lemmas.List.{drop_all}
use Rattle.ring_core.specs.Ring.{RingOps, IsElem, IsRing}
use Rattle.ring_core.specs.Coeffs.{coeff, sum_below, are_elems}
use Rattle.ring_core.specs.Twisted.{product_at}
use Rattle.ring_core.specs.Written.{IsWritten}
use Rattle.ring_core.proofs.Carrier.{elements, add_zero, zero_mul, add_times_zero}
use Rattle.ring_core.proofs.Coefficients.{coeff_past, elem_read}
use Rattle.ring_core.proofs.Terms.{terms_added, no_terms, zero_times, times_zero}
use Rattle.ring_core.proofs.Twist.{IsTwist, sum_in}

module _ {E : Type 0} (r : RingOps E) (h : IsRing r) where
  -- what a row adds, past its end too
  pub row_added : (i : ℕ) (c : E) (row before out : List E) → IsElem r c → are_elems r before ≡ true → IsWritten r.zero i (length row) (λ k. r.add (coeff r before (i + k)) (r.mul c (coeff r row k))) before out → (k : ℕ) → coeff r out (i + k) ≡ r.add (coeff r before (i + k)) (r.mul c (coeff r row k))
  row_added i c row before out p e w =
      terms_added r h i (length row) (λ k. r.mul c (coeff r row k)) before out e w (λ k past. times_zero r h c (coeff r row k) p (coeff_past r row k past))

  -- what a row adds, place by place
  pub row_written : (i : ℕ) (c : E) (row before out : List E) → IsElem r c → are_elems r before ≡ true → ((k : ℕ) → k < i → coeff r out k ≡ coeff r before k)
      → ((k : ℕ) → coeff r out (i + k) ≡ r.add (coeff r before (i + k)) (r.mul c (coeff r row k)))
      → IsWritten r.zero i (length row) (λ k. r.add (coeff r before (i + k)) (r.mul c (coeff r row k))) before out
  row_written i c row before out p e below added = record {
    inside = λ k l. added k;
    outside = λ k o.
        elim o [
          | inl low ↦ below k low
          | inr high ↦
              let place : k ≡ i + (k - i) = omega arith in
              let past : length row ≤ k - i = omega arith in
              ap (coeff r out) place ∙ added (k - i)
              ∙ add_times_zero r h (coeff r before (i + (k - i))) c (coeff r row (k - i)) (elem_read r before h.closed.zero_in e (i + (k - i))) p (coeff_past r row (k - i) past)
              ∙ ap (coeff r before) (sym place)
        ];
  }

  -- what a row adds where the factor is zero
  pub nothing_added : (i : ℕ) (c : E) (row before : List E) → c ≡ r.zero → are_elems r row ≡ true → are_elems r before ≡ true → (k : ℕ) → coeff r before (i + k) ≡ r.add (coeff r before (i + k)) (r.mul c (coeff r row k))
  nothing_added i c row before none p e =
      no_terms r h i (λ k. r.mul c (coeff r row k)) before e (λ k. zero_times r h c (coeff r row k) none (elem_read r row h.closed.zero_in p k))

  sum_rest : (n m : ℕ) (g : ℕ → E) → ((i : ℕ) → IsElem r (g i)) → ((i : ℕ) → m ≤ i → g i ≡ r.zero) → sum_below r (min m n) g ≡ sum_below r n g
  sum_rest zero m g p e = let none : min m 0 ≡ 0 = omega arith in ap (λ k. sum_below r k g) none
  sum_rest (suc n) m g p e =
      ⊎_elim
      (λ (past : m < suc n).
      let same : min m (suc n) ≡ min m n = omega arith in
      ap (λ k. sum_below r k g) same ∙ sum_rest n m g p e
      ∙ sym (ap (r.add (sum_below r n g)) (e n (omega arith))
      ∙ ap (λ x. x.0) (add_zero (elements h) (sum_below r n g, sum_in r h n g (λ i l. p i)))))
      (λ (all : suc n ≤ m).
      let same : min m (suc n) ≡ suc n = omega arith in
      ap (λ k. sum_below r k g) same)
      (cases_lt m (suc n))

-- After `i` rows of the product of `a` and `b`.
pub record HasRows {E : Type 0} (r : RingOps E) (frob : E → ℕ → E) (a b out row : List E) (i : ℕ) : Type 0 where
  pub raised : (k : ℕ) → coeff r row k ≡ frob (coeff r b k) i
  pub sums : (k : ℕ) → k < length out → coeff r out k ≡ sum_below r (min i (k + 1)) (λ j. r.mul (coeff r a j) (frob (coeff r b (k - j)) j))

module _ {E : Type 0} (r : RingOps E) (h : IsRing r) (frob : E → ℕ → E) (t : IsTwist r frob) (a b : List E) where
  pub rows_none : (out : List E) → are_elems r b ≡ true → ((k : ℕ) → coeff r out k ≡ r.zero) → HasRows r frob a b out b 0
  rows_none out e zeros = record {
    raised = λ k. sym (t.twist_zero _ (elem_read r b h.closed.zero_in e k));
    sums = λ k l.
        let none : 0 ≡ min 0 (k + 1) = omega arith in
        zeros k ∙ ap (λ n. sum_below r n (λ j. r.mul (coeff r a j) (frob (coeff r b (k - j)) j))) none;
  }

  pub rows_more : (out row out2 row2 : List E) (i : ℕ) (c : E) → are_elems r b ≡ true → HasRows r frob a b out row i → c ≡ coeff r a i → length out2 ≡ length out → ((k : ℕ) → k < i → coeff r out2 k ≡ coeff r out k) → ((k : ℕ) → coeff r out2 (i + k) ≡ r.add (coeff r out (i + k)) (r.mul c (coeff r row k))) → ((k : ℕ) → coeff r row2 k ≡ frob (coeff r row k) 1) → HasRows r frob a b out2 row2 (i + 1)
  rows_more out row out2 row2 i c e rows is len below added raised = record {
    raised = λ k.
        raised k ∙ ap (λ x. frob x 1) (rows.raised k)
        ∙ sym (t.twist_plus (coeff r b k) i 1 (elem_read r b h.closed.zero_in e k));
    sums = λ k (l : k < length out2).
        let term : ℕ → E = λ j. r.mul (coeff r a j) (frob (coeff r b (k - j)) j) in
        ⊎_elim
        (λ (low : k < i).
        let same : min i (k + 1) ≡ min (i + 1) (k + 1) = omega arith in
        below k low ∙ rows.sums k (omega arith) ∙ ap (λ n. sum_below r n term) same)
        (λ (high : i ≤ k).
        let place : k ≡ i + (k - i) = omega arith in
        let first : min i (k + 1) ≡ i = omega arith in
        let next : suc i ≡ min (i + 1) (k + 1) = omega arith in
        ap (coeff r out2) place ∙ added (k - i)
        ∙ ap₂ r.add
        (ap (coeff r out) (sym place) ∙ rows.sums k (omega arith) ∙ ap (λ n. sum_below r n term) first)
        (ap₂ r.mul is (rows.raised (k - i)))
        ∙ ap (λ n. sum_below r n term) next)
        (cases_lt k i);
  }

  pub rows_all : (out row : List E) → are_elems r a ≡ true → are_elems r b ≡ true → HasRows r frob a b out row (length a) → (k : ℕ) → k < length out → coeff r out k ≡ product_at r frob a b k
  rows_all out row p q rows k l =
      let z = h.closed.zero_in in
      rows.sums k l
      ∙ sum_rest r h (k + 1) (length a) (λ j. r.mul (coeff r a j) (frob (coeff r b (k - j)) j))
      (λ j. h.closed.mul_in _ _ (elem_read r a z p j) (t.twist_in _ j (elem_read r b z q (k - j))))
      (λ j past.
      ap (λ c. r.mul c (frob (coeff r b (k - j)) j)) (coeff_past r a j past)
      ∙ ap (λ x. x.0) (zero_mul (elements h) (frob (coeff r b (k - j)) j, t.twist_in _ j (elem_read r b z q (k - j)))))

-- a list that was wholly written through a slice of it
pub whole_written : {E : Type 0} (n : ℕ) (w items : List E) → length w ≡ n → length items ≡ n → take n (w ++ drop (length w) items) ≡ w
whole_written n w items lw li =
    ap (λ t. take n (w ++ t)) (drop_all (length w) items (omega arith)) ∙ ap (take n) (append-nil w) ∙ take_all n w (omega arith)
