-- The products of a polynomial with one term, on either side: tau^k raises each coefficient, and moves
-- it up by k places.
use Rattle.std.proofs.Common.{◌≡◌, ◌≢◌, ℕ, ◌+◌, ◌-◌, ◌<◌, ◌≤◌, inl, inr, true, false, List, [], length, nat_eq, nat_lt, if◌then◌else◌, eq-eqb, ne_eqb, refl, sym, ◌∙◌, ap, ⊎_elim, arith}
use Rattle.std.proofs.lemmas.Bool.{and_parts, lt-ltb, le-ltb, cases_lt, cond-true, cond-false, cond_both}
use Rattle.ring_core.specs.Ring.{RingOps, IsElem, IsRing}
use Rattle.ring_core.specs.Coeffs.{coeff, are_elems, is_canonical, first_values, list_of}
use Rattle.ring_core.specs.Twisted.{product_at, list_mul}
use Rattle.ring_core.specs.Monomial.{monomial, constant, tau_power}
use Rattle.ring_core.proofs.Carrier.{elements, mul_zero}
use Rattle.ring_core.proofs.Coefficients.{coeff_past, elem_read, canonical-list_of, coeff-list_of, same_coeffs, trimmed-trim}
use Rattle.ring_core.proofs.Twist.{IsTwist, twist_of_zero}
use Rattle.ring_core.proofs.ListRing.{product_in, product_zero, product_single, coeff-mul, mul_in}

module _ {E : Type 0} (r : RingOps E) (h : IsRing r) where
  pub monomial_in : (c : E) (k : ℕ) → IsElem r c → is_canonical r (monomial r c k) ≡ true
  monomial_in c k p =
      canonical-list_of r (k + 1) _ (λ i l. cond_both (nat_eq i k) c r.zero (IsElem r) (λ s. p) (λ s. h.closed.zero_in))

  coeff-monomial : (c : E) (k : ℕ) → IsElem r c → (i : ℕ) → coeff r (monomial r c k) i ≡ (if nat_eq i k then c else r.zero)
  coeff-monomial c k p i =
      coeff-list_of r h.closed.zero_in h.equal (k + 1) _
      (λ j. cond_both (nat_eq j k) c r.zero (IsElem r) (λ s. p) (λ s. h.closed.zero_in))
      (λ j (l : k + 1 ≤ j). let apart : j ≢ k = omega arith in cond-false _ c r.zero (ne_eqb j k apart))
      i

  pub coeff-monomial_same : (c : E) (k : ℕ) → IsElem r c → coeff r (monomial r c k) k ≡ c
  coeff-monomial_same c k p = coeff-monomial c k p k ∙ cond-true _ c r.zero (eq-eqb k k refl)

  pub coeff-monomial_other : (c : E) (k i : ℕ) → IsElem r c → i ≢ k → coeff r (monomial r c k) i ≡ r.zero
  coeff-monomial_other c k i p apart = coeff-monomial c k p i ∙ cond-false _ c r.zero (ne_eqb i k apart)

module _ {E : Type 0} (r : RingOps E) (h : IsRing r) (frob : E → ℕ → E) (t : IsTwist r frob) where
  monomial_elems : (c : E) (k : ℕ) → IsElem r c → are_elems r (monomial r c k) ≡ true
  monomial_elems c k p = (and_parts _ _ (monomial_in r h c k p)).0

  -- the coefficient at j of c tau^k u
  pub monomial_product : (c : E) (k : ℕ) (u : List E) → IsElem r c → are_elems r u ≡ true → (j : ℕ) → k ≤ j → product_at r frob (monomial r c k) u j ≡ r.mul c (frob (coeff r u (j - k)) k)
  monomial_product c k u p e j l =
      product_single r h frob t (monomial r c k) u (monomial_elems c k p) e j k l (λ i m apart. inl (coeff-monomial_other r h c k i p apart))
      ∙ ap (λ x. r.mul x (frob (coeff r u (j - k)) k)) (coeff-monomial_same r h c k p)

  pub monomial_product_below : (c : E) (k : ℕ) (u : List E) → IsElem r c → are_elems r u ≡ true → (j : ℕ) → j < k → product_at r frob (monomial r c k) u j ≡ r.zero
  monomial_product_below c k u p e j l =
      product_zero r h frob t (monomial r c k) u (monomial_elems c k p) e j
      (λ i (m : i ≤ j). let apart : i ≢ k = omega arith in inl (coeff-monomial_other r h c k i p apart))

  -- the coefficient at j of u c tau^k
  pub product_monomial : (u : List E) (c : E) (k : ℕ) → IsElem r c → are_elems r u ≡ true → (j : ℕ) → k ≤ j → product_at r frob u (monomial r c k) j ≡ r.mul (coeff r u (j - k)) (frob c (j - k))
  product_monomial u c k p e j l =
      let place : j - (j - k) ≡ k = omega arith in
      product_single r h frob t u (monomial r c k) e (monomial_elems c k p) j (j - k) (omega arith)
      (λ i (m : i ≤ j) (other : i ≢ j - k). let apart : j - i ≢ k = omega arith in inr (coeff-monomial_other r h c k (j - i) p apart))
      ∙ ap (λ x. r.mul (coeff r u (j - k)) (frob x (j - k))) (ap (coeff r (monomial r c k)) place ∙ coeff-monomial_same r h c k p)

  pub product_monomial_below : (u : List E) (c : E) (k : ℕ) → IsElem r c → are_elems r u ≡ true → (j : ℕ) → j < k → product_at r frob u (monomial r c k) j ≡ r.zero
  product_monomial_below u c k p e j l =
      product_zero r h frob t u (monomial r c k) e (monomial_elems c k p) j
      (λ i (m : i ≤ j). let apart : j - i ≢ k = omega arith in inr (coeff-monomial_other r h c k (j - i) p apart))

  -- a product, told by its coefficients
  pub product_by_coeffs : (a b : List E) → are_elems r a ≡ true → are_elems r b ≡ true → (n : ℕ) (f : ℕ → E) → ((j : ℕ) → n ≤ j → f j ≡ r.zero) → ((j : ℕ) → f j ≡ product_at r frob a b j) → list_of r n f ≡ list_mul r frob a b
  product_by_coeffs a b p q n f past e =
      let z = h.closed.zero_in in
      let inside : (j : ℕ) → IsElem r (f j) = λ j. ap r.is_elem (e j) ∙ product_in r h frob t a b p q j in
      same_coeffs r z h.equal (list_of r n f) (list_mul r frob a b) (trimmed-trim r (first_values n f)) (and_parts _ _ (mul_in r h frob t a b p q)).1
      (λ j. coeff-list_of r z h.equal n f inside past j ∙ e j ∙ sym (coeff-mul r h frob t a b p q j))

  -- two products with equal coefficients
  pub same_products : (a b c d : List E) → are_elems r a ≡ true → are_elems r b ≡ true → are_elems r c ≡ true → are_elems r d ≡ true → ((j : ℕ) → product_at r frob a b j ≡ product_at r frob c d j) → list_mul r frob a b ≡ list_mul r frob c d
  same_products a b c d pa pb pc pd e =
      same_coeffs r h.closed.zero_in h.equal (list_mul r frob a b) (list_mul r frob c d) (and_parts _ _ (mul_in r h frob t a b pa pb)).1 (and_parts _ _ (mul_in r h frob t c d pc pd)).1
      (λ j. coeff-mul r h frob t a b pa pb j ∙ e j ∙ sym (coeff-mul r h frob t c d pc pd j))

  -- a product with the zero polynomial
  pub mul_empty : (a : List E) → are_elems r a ≡ true → list_mul r frob a [] ≡ []
  mul_empty a p =
      sym (product_by_coeffs a [] p refl 0 (λ j. r.zero) (λ j l. refl)
      (λ j. sym (product_zero r h frob t a [] p refl j (λ i l. inr refl))))

  -- c u goes by places
  pub constant_mul : (c : E) (u : List E) → IsElem r c → are_elems r u ≡ true → list_of r (length u) (λ i. r.mul c (coeff r u i)) ≡ list_mul r frob (constant r c) u
  constant_mul c u p e =
      let read = elem_read r u h.closed.zero_in e in
      product_by_coeffs (constant r c) u (monomial_elems c 0 p) e (length u) _
      (λ j l. ap (r.mul c) (coeff_past r u j l) ∙ ap (λ y. y.0) (mul_zero (elements h) (c, p)))
      (λ j.
      let place : j - 0 ≡ j = omega arith in
      sym (monomial_product c 0 u p e j (omega arith) ∙ ap (r.mul c) (t.twist_zero _ (read (j - 0)) ∙ ap (coeff r u) place)))

  -- tau^k u raises each coefficient, and moves it up by k places
  pub tau_mul : (k : ℕ) (u : List E) → are_elems r u ≡ true → list_of r (k + length u) (λ j. if nat_lt j k then r.zero else frob (coeff r u (j - k)) k) ≡ list_mul r frob (tau_power r k) u
  tau_mul k u e =
      let one = h.closed.one_in in
      let read = elem_read r u h.closed.zero_in e in
      product_by_coeffs (tau_power r k) u (monomial_elems r.one k one) e (k + length u) _
      (λ j (l : k + length u ≤ j).
      let high : nat_lt j k ≡ false = le-ltb j k (omega arith) in
      cond-false _ _ _ high ∙ ap (λ c. frob c k) (coeff_past r u (j - k) (omega arith)) ∙ twist_of_zero r h frob t k)
      (λ j.
      ⊎_elim
      (λ (low : j < k). cond-true _ _ _ (lt-ltb j k low) ∙ sym (monomial_product_below r.one k u one e j low))
      (λ (high : k ≤ j).
      cond-false _ _ _ (le-ltb j k high)
      ∙ sym (monomial_product r.one k u one e j high ∙ h.one_mul _ (t.twist_in _ k (read (j - k)))))
      (cases_lt j k))
