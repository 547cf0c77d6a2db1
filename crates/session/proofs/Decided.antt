-- Whether a finite ring has two nonzero elements whose product is zero is decided.
use Rattle.std.proofs.Common.{◌≡◌, ◌≢◌, ◌⊎◌, inl, inr, ℕ, zero, suc, ◌<◌, ◌&&◌, not, Bool, true, false, refl, sym, ap, ap₂, subst, ◌∙◌, arith}
use Rattle.std.proofs.lemmas.Bool.{and_parts, and_from, false_from_ne_true, false≢true, cases_eq}
use Rattle.ring_core.specs.Ring.{RingOps, IsElem, IsRing, IsNumbered}
use Rattle.finite_ring.specs.Finite.{HasNoPair}
use Rattle.field_tower.specs.Pairs.{IsPair}

-- Some number below `n` is such, or none is.
below_or_at : (k n : ℕ) → k < suc n → (k < n) ⊎ (k ≡ n)
below_or_at k n h = elim (cases_eq k n) [ inl e ↦ inr e | inr d ↦ inl (omega (arith, h, d)) ]

found : (P : ℕ → Type 0) → ((i : ℕ) → P i ⊎ (P i → ⊥)) → (n : ℕ) → ((i : ℕ) × (i < n) × P i) ⊎ ((i : ℕ) → i < n → P i → ⊥)
found P dec zero = inr (λ i l p. absurd (omega (arith, l)))
found P dec (suc n) = elim (dec n) [
  | inl p ↦ inl (n, omega arith, p)
  | inr none ↦ elim (found P dec n) [
    | inl some ↦ inl (some.0, (let l = some.1 in omega (arith, l)), some.2)
    | inr others ↦ inr (λ i l p. elim (below_or_at i n l) [ inl below ↦ others i below p | inr at ↦ none (subst P at p) ])
  ]
]

decided : (b : Bool) → (b ≡ true) ⊎ (b ≡ true → ⊥)
decided true = inl refl
decided false = inr false≢true

module _ {E : Type 0} (r : RingOps E) (ring : IsRing r) (count : ℕ) (by : IsNumbered r count) where
  abbrev test : E → E → Bool
  test a b = not (r.same a r.zero) && (not (r.same b r.zero) && r.same (r.mul a b) r.zero)

  nonzero : (a : E) → IsElem r a → a ≢ r.zero → not (r.same a r.zero) ≡ true
  nonzero a e n = ap not (false_from_ne_true _ (λ h. n (ring.equal.same_eq a r.zero e ring.closed.zero_in h)))

  not_zero : (a : E) → not (r.same a r.zero) ≡ true → a ≢ r.zero
  not_zero a h e = false≢true (sym (ap not (ap (λ x. r.same x r.zero) e ∙ ring.equal.same_refl r.zero ring.closed.zero_in)) ∙ h)

  tested : (a b : E) → IsElem r a → IsElem r b → test a b ≡ true → IsPair r a b
  tested a b p q h =
      let left = and_parts _ _ h in
      let right = and_parts _ _ left.1 in
      record {
        left_in = p;
        right_in = q;
        left_nonzero = not_zero a left.0;
        right_nonzero = not_zero b right.0;
        product_zero = ring.equal.same_eq _ _ (ring.closed.mul_in a b p q) ring.closed.zero_in right.1;
      }

  test_true : (a b : E) → IsElem r a → IsElem r b → a ≢ r.zero → b ≢ r.zero → r.mul a b ≡ r.zero → test a b ≡ true
  test_true a b p q m n e =
      and_from _ _ (nonzero a p m) (and_from _ _ (nonzero b q n) (ap (λ x. r.same x r.zero) e ∙ ring.equal.same_refl r.zero ring.closed.zero_in))

  abbrev Row : ℕ → Type 0
  Row i = (j : ℕ) × (j < count) × (test (by.nth i) (by.nth j) ≡ true)

  row_decided : (i : ℕ) → Row i ⊎ (Row i → ⊥)
  row_decided i = elim (found (λ j. test (by.nth i) (by.nth j) ≡ true) (λ j. decided (test (by.nth i) (by.nth j))) count) [
    | inl some ↦ inl some
    | inr none ↦ inr (λ row. none row.0 row.1 row.2)
  ]

  pub pair_or_none : ((a b : E) × IsPair r a b) ⊎ HasNoPair r
  pair_or_none = elim (found Row row_decided count) [
    | inl some ↦ inl (by.nth some.0, by.nth some.2.0, tested (by.nth some.0) (by.nth some.2.0) (by.nth_in some.0) (by.nth_in some.2.0) some.2.2)
    | inr none ↦ inr (λ a b p q m n e. none (by.index a) (by.below a p)
        (by.index b, by.below b q, ap₂ test (by.nth_index a p) (by.nth_index b q) ∙ test_true a b p q m n e))
  ]
