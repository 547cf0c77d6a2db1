-- A finite commutative ring with two elements at least, in which no two nonzero elements multiply to
-- zero, is a field, and its inverses are powers.
use Rattle.std.proofs.Common.{◌≡◌, ◌≢◌, ℕ, zero, suc, ◌-◌, ◌<◌, ◌≤◌, ◌⊎◌, inl, inr, Bool, true, false, cond, Option, Some, None, MatchOption, sym, ◌∙◌, ap, refl, true≢false, arith}
use Rattle.ring_core.specs.Ring.{RingOps, IsElem, IsRing, IsCommutative, IsNumbered}
use Rattle.ring_core.specs.Field.{IsField}
use Rattle.ring_core.specs.Powers.{power_of}
use Rattle.ring_core.proofs.Carrier.{RingOn, Element, elements, same_element, minus_same}
use Rattle.ring_core.proofs.PowerLaws.{power_in}
use Rattle.ring_core.proofs.Degrees.{no_zero_divisors}
use Rattle.finite_ring.specs.Finite.{HasNoPair, inverse_by_power, root_product}
use Rattle.finite_ring.proofs.Powers.{power_value}
use Rattle.finite_ring.proofs.Counted.{IsCounted, NoPair, counted_of, no_pair_on}
use Rattle.finite_ring.proofs.Fermat.{power_count, count_large}
use Rattle.finite_ring.proofs.Roots.{minus, falling, product_of_roots}
use Rattle.std.proofs.lemmas.Bool.{cases_Bool}

-- The products of elements commute as those of the ring do.
pub commute_on : {E : Type 0} (r : RingOps E) (h : IsRing r) → IsCommutative r → (a b : Element r) → (elements h).mul a b ≡ (elements h).mul b a
commute_on r h commutes a b = same_element r _ _ (commutes a.0 b.0 a.1 b.1)

match_cond : {E : Type 0} (b : Bool) (y : E) (P : Type 0) (Q : E → Type 0) → (b ≡ true → P) → (b ≡ false → Q y)
    → MatchOption (cond b None (Some y)) P Q
match_cond true y P Q p q = p refl
match_cond false y P Q p q = q refl

module _ {E : Type 0} (r : RingOps E) (h : IsRing r) (commutes : IsCommutative r) (count : ℕ) (fin : IsCounted (elements h) count)
    (ne : r.one ≢ r.zero) (no_pair : HasNoPair r) where
  one_apart : (elements h).one ≢ (elements h).zero
  one_apart e = ne (ap (λ x. x.0) e)

  pub inverse_is : (a : E) → IsElem r a → a ≢ r.zero → r.mul a (power_of r a (count - 2)) ≡ r.one
  inverse_is a p na =
      let x : Element r = (a, p) in
      let large : 2 ≤ count = count_large (elements h) (commute_on r h commutes) count fin one_apart (no_pair_on r h no_pair) in
      let is : suc (count - 2) ≡ count - 1 = omega arith in
      commutes a (power_of r a (count - 2)) p (power_in r h a (count - 2) p)
      ∙ ap (power_of r a) is ∙ sym (power_value r h x (count - 1))
      ∙ ap (λ y. y.0) (power_count (elements h) (commute_on r h commutes) count fin one_apart (no_pair_on r h no_pair) x (λ e. na (ap (λ y. y.0) e)))

  pub finite_field : IsField r (inverse_by_power r count)
  finite_field =
      record {
        ring = h;
        mul_comm = commutes;
        one_ne_zero = ne;
        inv_is = λ a p.
            match_cond (r.same a r.zero) (power_of r a (count - 2)) (a ≡ r.zero) (λ b. IsElem r b × (r.mul a b ≡ r.one))
            (λ e. h.equal.same_eq a r.zero p h.closed.zero_in e)
            (λ e. (
              power_in r h a (count - 2) p,
              inverse_is a p (λ d. true≢false (sym (h.equal.same_refl a p) ∙ ap (λ z. r.same a z) d ∙ e)),
            ));
      }

-- In a field of `count` elements each nonzero element to the power `count - 1` is one.
pub power_of_count : {E : Type 0} (r : RingOps E) (inv : E → Option E) (h : IsField r inv) (count : ℕ) → IsNumbered r count
    → (c : E) → IsElem r c → c ≢ r.zero → power_of r c (count - 1) ≡ r.one
power_of_count r inv h count n c p nc =
    sym (power_value r h.ring (c, p) (count - 1))
    ∙ ap (λ x. x.0)
    (power_count (elements h.ring) (commute_on r h.ring h.mul_comm) count (counted_of r h.ring count n)
    (λ e. h.one_ne_zero (ap (λ x. x.0) e)) (no_pair_on r h.ring (no_zero_divisors r inv h)) (c, p) (λ e. nc (ap (λ x. x.0) e)))

-- The elements of a field that the power q fixes: x^q - x is the product of x - c over q of them.
pub product_of_fixed : {E : Type 0} (r : RingOps E) (inv : E → Option E) (h : IsField r inv) (q : ℕ) → 2 ≤ q → (c : ℕ → E)
    → ((j : ℕ) → IsElem r (c j)) → ((i j : ℕ) → i < j → j < q → c i ≢ c j) → ((j : ℕ) → j < q → power_of r (c j) q ≡ c j)
    → (x : E) → IsElem r x → r.add (power_of r x q) (r.neg x) ≡ root_product r c q x
product_of_fixed {E} r inv h q large c c_in distinct fixed x p =
    ap (λ y. r.add y (r.neg x)) (sym (power_value r h.ring (x, p) q))
    ∙ ap (λ y. y.0)
    (product_of_roots R comm q large points
    (λ i j l m u e.
    elim (cases_zero u) [
      | inl z ↦ z
      | inr nu ↦
          absurd (no_pair (minus R (points j) (points i)) u
          (λ d. distinct i j l m (ap (λ y. y.0) (sym (minus_same R (points j) (points i) d)))) nu e)
    ])
    (λ j l. same_element r _ _ (power_value r h.ring (points j) q ∙ fixed j l)) (x, p))
    ∙ falls q
  where
    R : RingOn (Element r)
    R = elements h.ring

    comm : (a b : Element r) → R.mul a b ≡ R.mul b a
    comm = commute_on r h.ring h.mul_comm

    no_pair : NoPair R
    no_pair = no_pair_on r h.ring (no_zero_divisors r inv h)

    points : ℕ → Element r
    points j = (c j, c_in j)

    cases_zero : (u : Element r) → (u ≡ R.zero) ⊎ (u ≢ R.zero)
    cases_zero u =
        elim (cases_Bool (r.same u.0 r.zero)) [
          | inl e ↦ inl (same_element r _ _ (h.ring.equal.same_eq u.0 r.zero u.1 h.ring.closed.zero_in e))
          | inr e ↦
              inr (λ d. true≢false (sym (h.ring.equal.same_refl u.0 u.1) ∙ ap (λ z. r.same u.0 z) (ap (λ y. y.0) d) ∙ e))
        ]

    falls : (n : ℕ) → (falling R points n (x, p)).0 ≡ root_product r c n x
    falls zero = refl
    falls (suc n) = ap (λ y. r.mul y (r.add x (r.neg (c n)))) (falls n)
