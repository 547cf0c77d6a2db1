-- Lists of elements, and writes to them place by place.
use Rattle.std.proofs.Common.{◌≡◌, ℕ, zero, suc, ◌+◌, ◌-◌, ◌<◌, ◌≤◌, ◌⊎◌, inl, inr, Bool, true, List, [], ◌∷◌, ◌++◌, get_or, take, drop, replicate, refl, sym, ◌∙◌, ap, subst, arith, get_or-take, get_or-drop, slice_range, nat_lt, ltb-true, ltb-false, MatchOption, Option, Some, zero-add}
use Rattle.std.proofs.lemmas.Bool.{cases_lt}
use Rattle.std.proofs.lemmas.List.{replicate-append-replicate}
use Rattle.ring_core.specs.Ring.{RingOps, IsElem, IsRing}
use Rattle.ring_core.specs.Coeffs.{coeff, are_elems}
use Rattle.ring_core.specs.Written.{IsWritten}
use Rattle.ring_core.proofs.Coefficients.{elem_read, elems_take}
use Rattle.ring_core.proofs.Carrier.{elements, mul_zero, add_times_zero}
use Rattle.ring_core.proofs.PowerLaws.{elems_drop}
use Rattle.linear_algebra.proofs.Sums.{by_bool}
use Rattle.ring_core.specs.Field.{IsField}
use Rattle.fq_linear.specs.steps.Places.{IsHighestPlace, IsMonicMultiple}

pub replicate_more : {T : Type 0} (n : ℕ) (x : T) → replicate n x ++ x ∷ [] ≡ replicate (n + 1) x
replicate_more n x = replicate-append-replicate n 1 x

-- a place of a part of a list
pub range_place : {T : Type 0} (u : List T) (a b k : ℕ) (d : T) → k < b - a → get_or (slice_range u a b) k d ≡ get_or u (a + k) d
range_place u a b k d l = get_or-take (b - a) (drop a u) k d l ∙ get_or-drop a u k d

pub take_past : {T : Type 0} (n : ℕ) (u : List T) (k : ℕ) (d : T) → n ≤ k → get_or (take n u) k d ≡ d
take_past zero u k d l = refl
take_past (suc n) [] k d l = refl
take_past (suc n) (x ∷ xs) zero d l = absurd (omega arith)
take_past (suc n) (x ∷ xs) (suc k) d l = take_past n xs k d (omega arith)

pub range_past : {T : Type 0} (u : List T) (a b k : ℕ) (d : T) → b - a ≤ k → get_or (slice_range u a b) k d ≡ d
range_past u a b k d l = take_past (b - a) (drop a u) k d l

module _ {E : Type 0} (r : RingOps E) (h : IsRing r) where
  pub elems_range : (u : List E) (a b : ℕ) → are_elems r u ≡ true → are_elems r (slice_range u a b) ≡ true
  elems_range u a b e = elems_take r (b - a) (drop a u) (elems_drop r h a u e)

  -- adding a range of a row, told at every place
  module _ (a b : ℕ) (c : E) (row before u : List E) (bi : are_elems r before ≡ true) (ci : IsElem r c) (below : (k : ℕ) → k < a → coeff r u k ≡ coeff r before k)
      (added : (k : ℕ) → coeff r u (a + k) ≡ r.add (coeff r before (a + k)) (r.mul c (coeff r (slice_range row a b) k))) where
    pub range_inside : (k : ℕ) → a ≤ k → k < b → coeff r u k ≡ r.add (coeff r before k) (r.mul c (coeff r row k))
    range_inside k l m =
        let same : a + (k - a) ≡ k = omega (arith, l) in
        ap (coeff r u) (sym same) ∙ added (k - a) ∙ ap (λ x. r.add (coeff r before (a + (k - a))) (r.mul c x)) (range_place row a b (k - a) r.zero (omega (arith, l, m)))
        ∙ ap (λ i. r.add (coeff r before i) (r.mul c (coeff r row i))) same

    pub range_outside : (k : ℕ) → (k < a) ⊎ (b ≤ k) → coeff r u k ≡ coeff r before k
    range_outside k (inl l) = below k l
    range_outside k (inr l) = elim (cases_lt k a) [
      | inl low ↦ below k low
      | inr high ↦
          let same : a + (k - a) ≡ k = omega (arith, high) in
          ap (coeff r u) (sym same) ∙ added (k - a)
          ∙ add_times_zero r h _ c _ (elem_read r before h.closed.zero_in bi (a + (k - a))) ci (range_past row a b (k - a) r.zero (omega (arith, l)))
          ∙ ap (coeff r before) same
    ]

  -- what a comparison tells
  pub same_tells : (a b : E) (t : Bool) → IsElem r a → IsElem r b → t ≡ r.same a b → t ≡ true → a ≡ b
  same_tells a b t ai bi e q = h.equal.same_eq a b ai bi (sym e ∙ q)

pub elem_as : {E : Type 0} (r : RingOps E) (a b : E) → a ≡ b → IsElem r b → IsElem r a
elem_as r a b e h = ap r.is_elem e ∙ h

-- monic rows
pub monic_already : {E : Type 0} (r : RingOps E) (h : IsRing r) (row : List E) (l : ℕ) → are_elems r row ≡ true → coeff r row l ≡ r.one → IsMonicMultiple r l (coeff r row) (coeff r row)
monic_already r h row l ri e =
    let at = elem_read r row h.closed.zero_in ri in
    record {
      factor = r.one;
      elem = h.closed.one_in;
      is = λ k. sym (h.one_mul _ (at k));
      one = e;
      back = λ k. sym (ap (λ a. r.mul a (coeff r row k)) e ∙ h.one_mul _ (at k));
    }

scaled_at : {E : Type 0} (r : RingOps E) (inv : E → Option E) (h : IsField r inv) (row new : List E) (l : ℕ) (b : E)
    → are_elems r row ≡ true → IsHighestPlace r row l → IsElem r b
    → IsWritten r.zero 0 (l + 1) (λ k. r.mul b (coeff r row k)) row new → (k : ℕ) → coeff r new k ≡ r.mul b (coeff r row k)
scaled_at r inv h row new l b ri top bi w k = by_bool (nat_lt k (l + 1))
    (λ t. ap (coeff r new) (sym (zero-add k)) ∙ w.inside k (ltb-true k (l + 1) t))
    (λ t.
    let far : l + 1 ≤ k = ltb-false k (l + 1) t in
    let z = top.above k (omega arith) in
    w.outside k (inr (omega arith)) ∙ z ∙ sym (ap (r.mul b) z ∙ ap (λ a. a.0) (mul_zero (elements h.ring) (b, bi))))

pub monic_scaled : {E : Type 0} (r : RingOps E) (inv : E → Option E) (h : IsField r inv) (row new : List E) (l : ℕ) (b : E)
    → are_elems r row ≡ true → IsHighestPlace r row l → inv (coeff r row l) ≡ Some b
    → IsWritten r.zero 0 (l + 1) (λ k. r.mul b (coeff r row k)) row new → IsMonicMultiple r l (coeff r row) (coeff r new)
monic_scaled r inv h row new l b ri top e w =
    let at = elem_read r row h.ring.closed.zero_in ri in
    let law = subst (λ o. MatchOption o (coeff r row l ≡ r.zero) (λ x. IsElem r x × (r.mul (coeff r row l) x ≡ r.one))) e (h.inv_is _ (at l)) in
    let scaled : (k : ℕ) → coeff r new k ≡ r.mul b (coeff r row k) = scaled_at r inv h row new l b ri top law.0 w in
    record {
      factor = b;
      elem = law.0;
      is = scaled;
      one = scaled l ∙ h.mul_comm b _ law.0 (at l) ∙ law.1;
      back = λ k. sym (ap (r.mul (coeff r row l)) (scaled k) ∙ sym (h.ring.mul_assoc _ b _ (at l) law.0 (at k))
          ∙ ap (λ a. r.mul a (coeff r row k)) law.1 ∙ h.ring.one_mul _ (at k));
    }
