-- Rows added to the first places of a list, one after the other.
use Rattle.std.proofs.Common.{◌≡◌, ℕ, zero, suc, ◌+◌, ◌<◌, ◌≤◌, true, List, length, replicate, refl, sym, ap, ap₂, ◌∙◌, arith}
use Rattle.ring_core.specs.Ring.{RingOps, IsElem, IsRing}
use Rattle.ring_core.specs.Coeffs.{coeff, are_elems}
use Rattle.ring_core.proofs.Coefficients.{elem_read, coeff_past}
use Rattle.ring_core.proofs.Terms.{add_nothing, times_zero}
use Rattle.ring_core.proofs.Twist.{sum_in, sum_same}
use Rattle.linear_algebra.specs.Combines.{combined}

-- `out` is `before` with the first `i` rows, each times its factor, added to the places below `n`.
pub record AreAdded {E : Type 0} (r : RingOps E) (n i : ℕ) (c : ℕ → E) (rows : ℕ → ℕ → E) (before out : List E) : Type 0 where
  pub elems : are_elems r out ≡ true
  pub added : (k : ℕ) → k < n → coeff r out k ≡ r.add (coeff r before k) (combined r i c rows k)
  pub past : (k : ℕ) → n ≤ k → coeff r out k ≡ coeff r before k

module _ {E : Type 0} (r : RingOps E) (h : IsRing r) (n : ℕ) (c : ℕ → E) (rows : ℕ → ℕ → E) (before : List E) (before_in : are_elems r before ≡ true) where
  pub added_none : AreAdded r n 0 c rows before before
  added_none = record {
    elems = before_in;
    added = λ k l. sym (add_nothing r h (coeff r before k) r.zero (elem_read r before h.closed.zero_in before_in k) refl);
    past = λ k l. refl;
  }

  pub added_more : (i : ℕ) (x : E) (row out after : List E) → AreAdded r n i c rows before out
      → ((j : ℕ) → IsElem r (c j)) → ((j k : ℕ) → j < suc i → IsElem r (rows j k))
      → x ≡ c i → length row ≤ n → ((k : ℕ) → k < n → coeff r row k ≡ rows i k) → are_elems r after ≡ true
      → ((k : ℕ) → coeff r after (0 + k) ≡ r.add (coeff r out (0 + k)) (r.mul x (coeff r row k)))
      → AreAdded r n (i + 1) c rows before after
  added_more i x row out after held c_in rows_in is short reads after_in step =
      let next : suc i ≡ i + 1 = omega arith in
      let s = λ (k : ℕ). combined r i c rows k in
      let at : (k : ℕ) → coeff r after k ≡ r.add (coeff r out k) (r.mul x (coeff r row k)) = λ k. let here : k ≡ 0 + k = omega arith in ap (coeff r after) here ∙ step k ∙ ap (λ m. r.add (coeff r out m) (r.mul x (coeff r row k))) (sym here) in
      record {
        elems = after_in;
        added = λ k l.
            at k ∙ ap₂ r.add (held.added k l) (ap₂ r.mul is (reads k l))
            ∙ h.add_assoc (coeff r before k) (s k) (r.mul (c i) (rows i k)) (elem_read r before h.closed.zero_in before_in k)
            (sum_in r h i (λ j. r.mul (c j) (rows j k)) (λ j m. h.closed.mul_in _ _ (c_in j) (rows_in j k (omega arith))))
            (h.closed.mul_in _ _ (c_in i) (rows_in i k (omega arith)))
            ∙ ap (λ m. r.add (coeff r before k) (combined r m c rows k)) next;
        past = λ k l.
            at k
            ∙ add_nothing r h (coeff r out k) (r.mul x (coeff r row k)) (elem_read r out h.closed.zero_in held.elems k)
            (times_zero r h x (coeff r row k) (ap r.is_elem is ∙ c_in i) (coeff_past r row k (omega arith)))
            ∙ held.past k l;
      }

pub all_zero : {E : Type 0} (r : RingOps E) (n : ℕ) (z : E) → z ≡ r.zero → (i : ℕ) → coeff r (replicate n z) i ≡ r.zero
all_zero r zero z e i = refl
all_zero r (suc n) z e zero = e
all_zero r (suc n) z e (suc i) = all_zero r n z e i

module _ {E : Type 0} (r : RingOps E) (h : IsRing r) where
  pub nothing_before : (x y : E) → x ≡ r.zero → IsElem r y → r.add x y ≡ y
  nothing_before x y e y_in = ap (λ z. r.add z y) e ∙ h.zero_add y y_in

  pub combined_in : (n : ℕ) (c : ℕ → E) (rows : ℕ → ℕ → E) (k : ℕ) → ((j : ℕ) → IsElem r (c j)) → ((j : ℕ) → j < n → IsElem r (rows j k))
      → IsElem r (combined r n c rows k)
  combined_in n c rows k c_in rows_in = sum_in r h n (λ j. r.mul (c j) (rows j k)) (λ j l. h.closed.mul_in _ _ (c_in j) (rows_in j l))

  -- as many of the same factors and rows
  pub combined_same : (n m : ℕ) (c d : ℕ → E) (rows others : ℕ → ℕ → E) (k : ℕ) → m ≡ n → ((j : ℕ) → j < n → c j ≡ d j)
      → ((j : ℕ) → j < n → rows j k ≡ others j k) → combined r m c rows k ≡ combined r n d others k
  combined_same n m c d rows others k count e same =
      ap (λ i. combined r i c rows k) count
      ∙ sum_same r h n (λ j. r.mul (c j) (rows j k)) (λ j. r.mul (d j) (others j k)) (λ j l. ap₂ r.mul (e j l) (same j l))
