-- Powers of the letter, and lists behind zeros.
use Rattle.std.proofs.Common.{◌≡◌, ◌≢◌, ℕ, zero, suc, ◌-◌, ◌<◌, ◌≤◌, true, List, [], ◌∷◌, ◌++◌, length, refl, sym, ◌∙◌, ap, ap₂, ⊎_elim, arith}
use Rattle.std.proofs.lemmas.Bool.{and_parts, and_from, cases_eq, cases_lt}
use Rattle.std.proofs.lemmas.List.{get_or-append_right}
use Rattle.ring_core.specs.Ring.{RingOps, IsElem, IsRing}
use Rattle.ring_core.specs.Coeffs.{coeff, are_elems, is_trimmed, is_canonical, first_values}
use Rattle.ring_core.specs.Powers.{power_of}
use Rattle.ring_core.specs.Monomial.{monomial}
use Rattle.ring_core.specs.Twisted.{product_at}
use Rattle.ring_core.proofs.Carrier.{elements, zero_mul}
use Rattle.ring_core.proofs.Coefficients.{elem_read, trim-trimmed, same_coeffs}
use Rattle.ring_core.proofs.PowerLaws.{power_in}
use Rattle.ring_core.proofs.Twist.{no_twist}
use Rattle.ring_core.proofs.ListRing.{poly_ring, mul_in, coeff-mul}
use Rattle.ring_core.proofs.Monomial.{monomial_in, coeff-monomial_same, coeff-monomial_other, product_monomial, product_monomial_below}
use Rattle.ring_core.proofs.FirstValues.{length-first_values}
use Rattle.fq_poly.specs.Poly.{poly_mul, poly_ops, letter}

module _ {E : Type 0} (r : RingOps E) where
  coeff-low : (k : ℕ) (u : List E) (j : ℕ) → j < k → coeff r (first_values k (λ i. r.zero) ++ u) j ≡ r.zero
  coeff-low zero u j l = absurd (omega arith)
  coeff-low (suc k) u zero l = refl
  coeff-low (suc k) u (suc j) l = coeff-low k u j (omega arith)

  coeff-high : (k : ℕ) (u : List E) (j : ℕ) → k ≤ j → coeff r (first_values k (λ i. r.zero) ++ u) j ≡ coeff r u (j - k)
  coeff-high k u j l = get_or-append_right (first_values k (λ i. r.zero)) u k j r.zero (length-first_values k (λ i. r.zero)) l

  elems_behind : (k : ℕ) (u : List E) → IsElem r r.zero → are_elems r u ≡ true → are_elems r (first_values k (λ i. r.zero) ++ u) ≡ true
  elems_behind zero u z e = e
  elems_behind (suc k) u z e = and_from _ _ z (elems_behind k u z e)

  trimmed_behind : (k : ℕ) (x : E) (u : List E) → is_trimmed r (x ∷ u) ≡ true → is_trimmed r (first_values k (λ i. r.zero) ++ x ∷ u) ≡ true
  trimmed_behind zero x u t = t
  trimmed_behind (suc zero) x u t = t
  trimmed_behind (suc (suc k)) x u t = trimmed_behind (suc k) x u t

  -- zeros below a polynomial that isn't zero
  pub canonical_behind : (k : ℕ) (u : List E) → IsElem r r.zero → 0 < length u → is_canonical r u ≡ true → is_canonical r (first_values k (λ i. r.zero) ++ u) ≡ true
  canonical_behind k [] z pos c = absurd (omega arith)
  canonical_behind k (x ∷ u) z pos c =
      and_from _ _ (elems_behind k (x ∷ u) z (and_parts _ _ c).0) (trimmed_behind k x u (and_parts _ _ c).1)

module _ {E : Type 0} (r : RingOps E) (h : IsRing r) (ne : r.one ≢ r.zero) where
  letter_is : letter r ≡ monomial r r.one 1
  letter_is = sym (trim-trimmed r (letter r) (and_parts _ _ (poly_ring r h ne).closed.one_in).1)

  one_is : r.one ∷ [] ≡ monomial r r.one 0
  one_is = sym (trim-trimmed r (r.one ∷ []) (and_parts _ _ (poly_ring r h ne).closed.one_in).1)

  -- the coefficients of a product with a power of the letter
  times_power : (u : List E) (k : ℕ) → are_elems r u ≡ true → (j : ℕ) → k ≤ j → product_at r (λ c i. c) u (monomial r r.one k) j ≡ coeff r u (j - k)
  times_power u k e j l =
      product_monomial r h (λ c i. c) (no_twist r) u r.one k h.closed.one_in e j l
      ∙ h.mul_one (coeff r u (j - k)) (elem_read r u h.closed.zero_in e (j - k))

  times_power_below : (u : List E) (k : ℕ) → are_elems r u ≡ true → (j : ℕ) → j < k → product_at r (λ c i. c) u (monomial r r.one k) j ≡ r.zero
  times_power_below u k e j l = product_monomial_below r h (λ c i. c) (no_twist r) u r.one k h.closed.one_in e j l

  power_elems : (k : ℕ) → are_elems r (monomial r r.one k) ≡ true
  power_elems k = (and_parts _ _ (monomial_in r h r.one k h.closed.one_in)).0

  next_coeff : (k j : ℕ) → product_at r (λ c i. c) (monomial r r.one k) (monomial r r.one 1) j ≡ coeff r (monomial r r.one (suc k)) j
  next_coeff k zero =
      times_power_below (monomial r r.one k) 1 (power_elems k) 0 (omega arith) ∙ sym (coeff-monomial_other r h r.one (suc k) 0 h.closed.one_in (λ e. cc))
  next_coeff k (suc j) =
      let one = h.closed.one_in in
      let before : suc j - 1 ≡ j = omega arith in
      times_power (monomial r r.one k) 1 (power_elems k) (suc j) (omega arith) ∙ ap (coeff r (monomial r r.one k)) before
      ∙ ⊎_elim
      (λ (same : j ≡ k).
      ap (coeff r (monomial r r.one k)) same ∙ coeff-monomial_same r h r.one k one
      ∙ sym (ap (λ i. coeff r (monomial r r.one (suc k)) (suc i)) same ∙ coeff-monomial_same r h r.one (suc k) one))
      (λ (other : j ≢ k). coeff-monomial_other r h r.one k j one other ∙ sym (coeff-monomial_other r h r.one (suc k) (suc j) one (λ e. other (omega arith))))
      (cases_eq j k)

  -- a polynomial by the coefficients of a product
  by_product : (u a b : List E) → is_canonical r u ≡ true → are_elems r a ≡ true → are_elems r b ≡ true → ((j : ℕ) → coeff r u j ≡ product_at r (λ c i. c) a b j) → u ≡ poly_mul r a b
  by_product u a b c p q e =
      same_coeffs r h.closed.zero_in h.equal u (poly_mul r a b) (and_parts _ _ c).1 (and_parts _ _ (mul_in r h (λ c i. c) (no_twist r) a b p q)).1
      (λ j. e j ∙ sym (coeff-mul r h (λ c i. c) (no_twist r) a b p q j))

  power_is : (k : ℕ) → power_of (poly_ops r) (letter r) k ≡ monomial r r.one k
  power_is zero = one_is
  power_is (suc k) =
      ap₂ (poly_mul r) (power_is k) letter_is
      ∙ sym (by_product (monomial r r.one (suc k)) _ _ (monomial_in r h r.one (suc k) h.closed.one_in) (power_elems k) (power_elems 1) (λ j. sym (next_coeff k j)))

  shift_coeff : (u : List E) (k : ℕ) → are_elems r u ≡ true → (j : ℕ) → coeff r (first_values k (λ i. r.zero) ++ u) j ≡ product_at r (λ c i. c) u (monomial r r.one k) j
  shift_coeff u k e j =
      ⊎_elim
      (λ (low : j < k). coeff-low r k u j low ∙ sym (times_power_below u k e j low))
      (λ (high : k ≤ j). coeff-high r k u j high ∙ sym (times_power u k e j high))
      (cases_lt j k)

  -- `u` behind `k` zeros is `u` times the `k`-th power of the letter
  pub shift_is : (u : List E) (k : ℕ) → is_canonical r u ≡ true → 0 < length u → first_values k (λ i. r.zero) ++ u ≡ poly_mul r u (power_of (poly_ops r) (letter r) k)
  shift_is u k c pos =
      let e = (and_parts _ _ c).0 in
      by_product (first_values k (λ i. r.zero) ++ u) u (monomial r r.one k) (canonical_behind r k u h.closed.zero_in pos c) e (power_elems k) (shift_coeff u k e)
      ∙ ap (poly_mul r u) (sym (power_is k))

  -- zero times a power of the letter
  pub shift_of_zero : (k : ℕ) → [] ≡ poly_mul r [] (power_of (poly_ops r) (letter r) k)
  shift_of_zero k =
      let ring = poly_ring r h ne in
      let letter_in : is_canonical r (letter r) ≡ true = ap (is_canonical r) letter_is ∙ monomial_in r h r.one 1 h.closed.one_in in
      sym (ap (λ x. x.0) (zero_mul (elements ring) (power_of (poly_ops r) (letter r) k, power_in (poly_ops r) ring (letter r) k letter_in)))
