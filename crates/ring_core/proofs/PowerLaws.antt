-- Powers in a ring, and Horner's rule for the values of polynomials, whose coefficients need not
-- commute with the point.
use Rattle.std.proofs.Common.{◌≡◌, ℕ, zero, suc, ◌+◌, ◌/◌, ◌%◌, ◌<◌, true, List, [], ◌∷◌, length, drop, get_or, refl, sym, ◌∙◌, ap, ap₂, arith}
use mathlib.Core.Path.{fun_ext}
use Rattle.std.proofs.lemmas.Bool.{and_parts}
use Rattle.std.proofs.lemmas.List.{drop_more}
use Rattle.ring_core.specs.Ring.{RingOps, IsElem, IsRing}
use Rattle.ring_core.specs.Coeffs.{coeff, sum_below, are_elems}
use Rattle.ring_core.specs.Powers.{power_of, value_at}
use Rattle.ring_core.proofs.Carrier.{elements, zero_mul}
use Rattle.ring_core.proofs.Coefficients.{elem_read}
use Rattle.ring_core.proofs.Twist.{sum_in, sum_first}

module _ {E : Type 0} (r : RingOps E) (h : IsRing r) where
  pub power_in : (a : E) (k : ℕ) → IsElem r a → IsElem r (power_of r a k)
  power_in a zero p = h.closed.one_in
  power_in a (suc k) p = h.closed.mul_in _ _ (power_in a k p) p

  pub power-add : (a : E) (m n : ℕ) → IsElem r a → power_of r a (m + n) ≡ r.mul (power_of r a m) (power_of r a n)
  power-add a m zero p =
      let same : m + 0 ≡ m = omega arith in
      ap (power_of r a) same ∙ sym (h.mul_one _ (power_in a m p))
  power-add a m (suc n) p =
      let next : m + suc n ≡ suc (m + n) = omega arith in
      ap (power_of r a) next ∙ ap (λ x. r.mul x a) (power-add a m n p)
      ∙ h.mul_assoc _ _ _ (power_in a m p) (power_in a n p) p

  pub power-even : (a : E) (k : ℕ) → IsElem r a → k % 2 ≡ 0 → power_of r a k ≡ r.mul (power_of r a (k / 2)) (power_of r a (k / 2))
  power-even a k p e =
      let halves : k ≡ k / 2 + k / 2 = omega arith in
      ap (power_of r a) halves ∙ power-add a (k / 2) (k / 2) p

  pub power-odd : (a : E) (k : ℕ) → IsElem r a → k % 2 ≡ 1 → power_of r a k ≡ r.mul (r.mul (power_of r a (k / 2)) (power_of r a (k / 2))) a
  power-odd a k p e =
      let halves : k ≡ suc (k / 2 + k / 2) = omega arith in
      ap (power_of r a) halves ∙ ap (λ x. r.mul x a) (power-add a (k / 2) (k / 2) p)

  -- a sum times one element
  pub sum_mul : (n : ℕ) (g : ℕ → E) (a : E) → ((i : ℕ) → IsElem r (g i)) → IsElem r a → r.mul (sum_below r n g) a ≡ sum_below r n (λ i. r.mul (g i) a)
  sum_mul zero g a p q = ap (λ x. x.0) (zero_mul (elements h) (a, q))
  sum_mul (suc n) g a p q =
      h.add_mul _ _ a (sum_in r h n g (λ i l. p i)) (p n) q
      ∙ ap (λ x. r.add x (r.mul (g n) a)) (sum_mul n g a p q)

  term_in : (u : List E) (a : E) → are_elems r u ≡ true → IsElem r a → (i : ℕ) → IsElem r (r.mul (coeff r u i) (power_of r a i))
  term_in u a e p i = h.closed.mul_in _ _ (elem_read r u h.closed.zero_in e i) (power_in a i p)

  horner_term : (u : List E) (a : E) → are_elems r u ≡ true → IsElem r a → (i : ℕ) → r.mul (coeff r u i) (power_of r a (suc i)) ≡ r.mul (r.mul (coeff r u i) (power_of r a i)) a
  horner_term u a e p i =
      sym (h.mul_assoc _ _ a (elem_read r u h.closed.zero_in e i) (power_in a i p) p)

  pub horner : (x : E) (u : List E) (a : E) → are_elems r (x ∷ u) ≡ true → IsElem r a → value_at r (x ∷ u) a ≡ r.add x (r.mul (value_at r u a) a)
  horner x u a e p =
      let elems = (and_parts _ _ e).1 in
      sum_first r h (length u) (λ i. r.mul (coeff r (x ∷ u) i) (power_of r a i)) (term_in (x ∷ u) a e p)
      ∙ ap₂ r.add (h.mul_one x (and_parts _ _ e).0)
      (ap (sum_below r (length u)) (fun_ext (horner_term u a elems p))
      ∙ sym (sum_mul (length u) (λ i. r.mul (coeff r u i) (power_of r a i)) a (term_in u a elems p) p))

  -- one step of the rule, from the top down: `x` was read at `i - 1`
  pub elems_drop : (n : ℕ) (u : List E) → are_elems r u ≡ true → are_elems r (drop n u) ≡ true
  elems_drop zero u e = e
  elems_drop (suc n) [] e = refl
  elems_drop (suc n) (x ∷ xs) e = elems_drop n xs (and_parts _ _ e).1

  pub horner_at : (u : List E) (a : E) (i : ℕ) (x : E) → are_elems r u ≡ true → IsElem r a → i < length u → x ≡ get_or u i x → value_at r (drop i u) a ≡ r.add x (r.mul (value_at r (drop (i + 1) u) a) a)
  horner_at u a i x e p l read =
      let split : drop i u ≡ x ∷ drop (i + 1) u = drop_more u i x l ∙ ap (λ y. y ∷ drop (i + 1) u) (sym read) in
      ap (λ v. value_at r v a) split
      ∙ horner x (drop (i + 1) u) a (ap (are_elems r) (sym split) ∙ elems_drop i u e) p
