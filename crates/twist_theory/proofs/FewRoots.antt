-- A polynomial of degree n has at most n roots in a commutative ring in which no two nonzero elements multiply to zero.
use Rattle.std.proofs.Common.{◌≡◌, ◌≢◌, ℕ, zero, suc, ◌-◌, ◌<◌, ◌⊎◌, inl, inr, true, Option, List, [], ◌∷◌, length, refl, sym, ◌∙◌, ap, arith}
use Rattle.std.proofs.lemmas.Bool.{and_parts, cases_Bool, both_ways}
use Rattle.ring_core.specs.Ring.{RingOps, IsElem, IsRing}
use Rattle.ring_core.specs.Field.{IsField}
use Rattle.ring_core.specs.Coeffs.{coeff, is_canonical}
use Rattle.ring_core.specs.Powers.{value_at}
use Rattle.ring_core.proofs.Carrier.{RingOn, Element, same_element, elements, minus_same}
use Rattle.ring_core.proofs.Coefficients.{elem_read}
use Rattle.ring_core.proofs.Degrees.{top_nonzero, no_zero_divisors}
use Rattle.ring_core.proofs.Series.{total}
use Rattle.ring_core.proofs.Twist.{total_is, sum_same}
use Rattle.finite_ring.proofs.Powers.{power, power_value}
use Rattle.finite_ring.proofs.Counted.{NoPair}
use Rattle.finite_ring.proofs.Roots.{minus, falling, AreApart, IsPolynomial, roots_product, root_among}
use Rattle.twist_theory.proofs.Points.{IsPoint, point_first}

module _ {M : Type 0} (R : RingOn M) (comm : (a b : M) → R.mul a b ≡ R.mul b a) where
  own_point : (x : M) → IsPoint R R (λ a. a) x
  own_point x = record { add = λ a b. ap (R.add a) (ap (λ y. y) (own b)); mul = λ a b. ap (R.mul a) (own b); commutes = λ a. comm x a }
    where
      own : (b : M) → b ≡ b
      own b = sym (R.zero_add b) ∙ R.zero_add b

  -- The values of a polynomial, as a polynomial function.
  pub is_polynomial : (n : ℕ) (a : ℕ → M) → IsPolynomial R n (a n) (λ x. total R (suc n) (λ i. R.mul (a i) (power R x i)))
  is_polynomial zero a = λ x. R.zero_add (R.mul (a 0) R.one) ∙ R.mul_one (a 0)
  is_polynomial (suc n) a = (
    a 0,
    (λ x. total R (suc n) (λ i. R.mul (a (suc i)) (power R x i))),
    is_polynomial n (λ i. a (suc i)),
    λ x. point_first R R (λ y. y) x (own_point x) (suc n) a ∙ ap (R.add (a 0)) (comm _ x),
  )

  module _ (dec : (x : M) → (x ≡ R.zero) ⊎ (x ≢ R.zero)) (ne : R.one ≢ R.zero) (no_pair : NoPair R) where
    pub few_roots : (n : ℕ) (top : M) (h : M → M) → IsPolynomial R n top h → top ≢ R.zero → (c : ℕ → M)
        → ((i j : ℕ) → i < j → j < suc n → c i ≢ c j) → ((j : ℕ) → j < suc n → h (c j) ≡ R.zero) → ⊥
    few_roots n top h p nt c distinct roots =
        let is_zero = sym (roots_product R comm n top h p c apart (λ j l. roots j (omega arith)) (c n)) ∙ roots n (omega arith) in
        elim (dec (falling R c n (c n))) [
          | inl z ↦
              let found = root_among R dec ne no_pair c n (c n) z in
              let low : found.0 < n = found.1 in
              distinct found.0 n low (omega arith) (sym found.2)
          | inr nz ↦ no_pair top (falling R c n (c n)) nt nz is_zero
        ]
      where
        apart : AreApart R c n
        apart i j l m u e = elim (dec u) [
          | inl z ↦ z
          | inr nu ↦ absurd (no_pair (minus R (c j) (c i)) u (λ z. distinct i j l (omega arith) (sym (minus_same R (c j) (c i) z))) nu e)
        ]

module _ {E : Type 0} (r : RingOps E) (h : IsRing r) where
  zero_or_not : (x : Element r) → (x ≡ (elements h).zero) ⊎ (x ≢ (elements h).zero)
  zero_or_not x = elim (cases_Bool (r.same x.0 r.zero)) [
    | inl same ↦ inl (same_element r _ _ (h.equal.same_eq x.0 r.zero x.1 h.closed.zero_in same))
    | inr other ↦
        inr (λ e. both_ways (r.same x.0 r.zero) other
        (ap (λ y. r.same y r.zero) (ap (λ y. y.0) e) ∙ h.equal.same_refl r.zero h.closed.zero_in))
  ]

-- A polynomial that isn't zero has fewer roots than coefficients.
module _ {E : Type 0} (r : RingOps E) (inv : E → Option E) (k : IsField r inv) where
  pub few_values : (u : List E) → is_canonical r u ≡ true → u ≢ [] → (c : ℕ → E) → ((j : ℕ) → IsElem r (c j))
      → ((i j : ℕ) → i < j → j < length u → c i ≢ c j) → ((j : ℕ) → j < length u → value_at r u (c j) ≡ r.zero) → ⊥
  few_values [] cu some c inside distinct roots = some refl
  few_values (x ∷ xs) cu some c inside distinct roots =
      let h = k.ring in
      let R : RingOn (Element r) = elements h in
      let u = x ∷ xs in
      let read : (i : ℕ) → IsElem r (coeff r u i) = elem_read r u h.closed.zero_in (and_parts _ _ cu).0 in
      let a : ℕ → Element r = λ i. (coeff r u i, read i) in
      let value : Element r → Element r = λ y. total R (suc (length xs)) (λ i. R.mul (a i) (power R y i)) in
      let point : ℕ → Element r = λ j. (c j, inside j) in
      let place : length u - 1 ≡ length xs = omega arith in
      few_roots R (λ y z. same_element r _ _ (k.mul_comm y.0 z.0 y.1 z.1)) (zero_or_not r h) (λ e. k.one_ne_zero (ap (λ y. y.0) e))
      (λ y z ny nz e.
      no_zero_divisors r inv k y.0 z.0 y.1 z.1 (λ d. ny (same_element r _ _ d)) (λ d. nz (same_element r _ _ d)) (ap (λ t. t.0) e))
      (length xs) (a (length xs)) value
      (is_polynomial R (λ y z. same_element r _ _ (k.mul_comm y.0 z.0 y.1 z.1)) (length xs) a)
      (λ e. top_nonzero r h.closed.zero_in h.equal u (and_parts _ _ cu).1 some (ap (coeff r u) place ∙ ap (λ y. y.0) e))
      point (λ i j l b e. distinct i j l b (ap (λ y. y.0) e))
      (λ j l.
      same_element r _ _
      (total_is r h (suc (length xs)) (λ i. R.mul (a i) (power R (point j) i))
      ∙ sum_same r h (suc (length xs)) _ _ (λ i b. ap (r.mul (coeff r u i)) (power_value r h (point j) i))
      ∙ roots j l))
