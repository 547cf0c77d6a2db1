-- A place of a quotient that was written, and a place of a dividend that was cleared.
use Rattle.std.proofs.Common.{◌≡◌, ◌≢◌, ℕ, ◌+◌, ◌-◌, ◌<◌, ◌≤◌, true, List, length, take, set, sym, ◌∙◌, ap, ap₂, ⊎_elim, arith, get_or-take, get_or-set_same, get_or-set_other}
use Rattle.std.proofs.lemmas.Bool.{and_parts, cases_lt, cases_eq}
use Rattle.std.proofs.lemmas.List.{length-take-le}
use Rattle.ring_core.specs.Ring.{RingOps, IsElem, IsRing}
use Rattle.ring_core.specs.Coeffs.{coeff, are_elems, trim}
use Rattle.ring_core.specs.Twisted.{list_add, list_neg}
use Rattle.ring_core.specs.Monomial.{monomial}
use Rattle.ring_core.proofs.Carrier.{elements, neg_zero}
use Rattle.ring_core.proofs.Coefficients.{coeff_past, elem_read}
use Rattle.ring_core.proofs.ListRing.{coeff-neg, neg_in}
use Rattle.ring_core.proofs.Monomial.{monomial_in, coeff-monomial_same, coeff-monomial_other}
use Rattle.ring_core.proofs.Terms.{add_nothing, trim_sum}

module _ {E : Type 0} (r : RingOps E) (h : IsRing r) where
  -- a place of a quotient, zero before, was written
  pub term_written : (out before : List E) (c x : E) (k : ℕ) → are_elems r out ≡ true → are_elems r before ≡ true → IsElem r c → x ≡ r.neg c → coeff r before k ≡ r.zero → coeff r out k ≡ x
      → ((n : ℕ) → n ≢ k → coeff r out n ≡ coeff r before n) → trim r out ≡ list_add r (trim r before) (list_neg r (monomial r c k))
  term_written out before c x k eo eb p is old new others =
      let term = (and_parts _ _ (monomial_in r h c k p)).0 in
      trim_sum r h out before (list_neg r (monomial r c k)) eo eb (and_parts _ _ (neg_in r h (monomial r c k) term)).0
      (λ n.
      ⊎_elim
      (λ (here : n ≡ k).
      ap (coeff r out) here ∙ new ∙ is ∙ sym (h.zero_add (r.neg c) (h.closed.neg_in c p))
      ∙ sym (ap₂ (λ i y. r.add (coeff r before i) (r.neg y)) here (ap (coeff r (monomial r c k)) here ∙ coeff-monomial_same r h c k p) ∙ ap (λ y. r.add y (r.neg c)) old))
      (λ (other : n ≡ k → ⊥).
      others n other
      ∙ sym (add_nothing r h (coeff r before n) (r.neg (coeff r (monomial r c k) n)) (elem_read r before h.closed.zero_in eb n)
      (ap r.neg (coeff-monomial_other r h c k n p other) ∙ ap (λ y. y.0) (neg_zero (elements h)))))
      (cases_eq n k)
      ∙ ap (r.add (coeff r before n)) (sym (coeff-neg r h (monomial r c k) term n)))

-- all coefficients but the last
pub without_top : {E : Type 0} (r : RingOps E) (b : List E) (n j : ℕ) → length b ≡ n + 1 → j ≢ n → coeff r (take n b) j ≡ coeff r b j
without_top r b n j long other =
    ⊎_elim
    (λ (low : j < n). get_or-take n b j r.zero low)
    (λ (high : n ≤ j).
    let short : length (take n b) ≡ n = length-take-le n b (omega arith) in
    coeff_past r (take n b) j (omega arith) ∙ sym (coeff_past r b j (omega arith)))
    (cases_lt j n)

-- The terms without the last were added, and the place of the last was cleared: as if all had been added, where
-- the last term clears its place.
module _ {E : Type 0} (r : RingOps E) (before out : List E) (i top : ℕ) (short term : ℕ → E) (x : E)
    (room : i + top < length out) (is : x ≡ r.zero)
    (added : (j : ℕ) → coeff r out (i + j) ≡ r.add (coeff r before (i + j)) (short j))
    (same : (j : ℕ) → j ≢ top → short j ≡ term j)
    (clears : r.add (coeff r before (i + top)) (term top) ≡ r.zero) where
  pub top_cleared : coeff r (set out (i + top) x) (i + top) ≡ r.zero
  top_cleared = get_or-set_same out (i + top) x r.zero room ∙ is

  pub all_added : (j : ℕ) → coeff r (set out (i + top) x) (i + j) ≡ r.add (coeff r before (i + j)) (term j)
  all_added j =
      ⊎_elim
      (λ (here : j ≡ top).
      ap (λ n. coeff r (set out (i + top) x) (i + n)) here ∙ top_cleared ∙ sym clears
      ∙ ap (λ n. r.add (coeff r before (i + n)) (term n)) (sym here))
      (λ (other : j ≡ top → ⊥).
      get_or-set_other out (i + top) (i + j) x r.zero (λ e. other (omega arith)) ∙ added j ∙ ap (r.add (coeff r before (i + j))) (same j other))
      (cases_eq j top)

  pub kept_below : ((n : ℕ) → n < i → coeff r out n ≡ coeff r before n) → (n : ℕ) → n < i → coeff r (set out (i + top) x) n ≡ coeff r before n
  kept_below below n l =
      get_or-set_other out (i + top) n x r.zero (omega arith) ∙ below n l

-- one more place of the rest is zero
pub place_cleared : {E : Type 0} (r : RingOps E) (h : IsRing r) (rest left : List E) (i count : ℕ) (term : ℕ → E) → are_elems r rest ≡ true → 0 < count
    → coeff r left (i + (count - 1)) ≡ r.zero
    → ((j : ℕ) → coeff r left (i + j) ≡ r.add (coeff r rest (i + j)) (term j))
    → ((j : ℕ) → count ≤ j → term j ≡ r.zero)
    → ((n : ℕ) → i + 1 + count ≤ n + 1 → coeff r rest n ≡ r.zero)
    → (n : ℕ) → i + count ≤ n + 1 → coeff r left n ≡ r.zero
place_cleared r h rest left i count term er pos top added past cleared n high =
    ⊎_elim
    (λ (here : n ≡ i + (count - 1)). ap (coeff r left) here ∙ top)
    (λ (other : n ≡ i + (count - 1) → ⊥).
    let j = n - i in
    ap (coeff r left) (omega arith) ∙ added j
    ∙ add_nothing r h (coeff r rest (i + j)) (term j) (elem_read r rest h.closed.zero_in er (i + j)) (past j (omega arith))
    ∙ cleared (i + j) (omega arith))
    (cases_eq n (i + (count - 1)))
