-- The steps of a division: each clears the top place of the rest, and adds a term to the quotient.
use Rattle.std.proofs.Common.{◌≡◌, ◌≢◌, ℕ, ◌+◌, ◌-◌, ◌<◌, ◌≤◌, true, List, [], length, set, sym, ◌∙◌, ap, ap₂, ⊎_elim, arith, get_or-set_same, get_or-set_other}
use Rattle.std.proofs.lemmas.Bool.{and_parts, cases_eq}
use Rattle.ring_core.specs.Ring.{RingOps, IsElem, IsRing, IsCommutative}
use Rattle.ring_core.specs.Coeffs.{coeff, are_elems, is_canonical, trim}
use Rattle.ring_core.specs.Monomial.{monomial}
use Rattle.ring_core.specs.Twisted.{list_add}
use Rattle.ring_core.proofs.Carrier.{RingOn, Element, same_element, elements, add_zero, add_exchange, zero_mul, neg_mul, add_times_zero}
use Rattle.ring_core.proofs.Coefficients.{coeff_past, elem_read, elems_set, coeff-trim, canonical-trim, trim-trimmed, trimmed-trim, same_coeffs}
use Rattle.ring_core.proofs.Degrees.{length_below}
use Rattle.ring_core.proofs.Twist.{no_twist}
use Rattle.ring_core.proofs.ListRing.{coeff-add, add_in, poly_ring}
use Rattle.ring_core.proofs.Monomial.{monomial_in, coeff-monomial_same, coeff-monomial_other}
use Rattle.ring_core.proofs.Terms.{add_nothing, trim_sum, term_added}
use Rattle.fq_poly.specs.Poly.{poly_mul, poly_ops}
use Rattle.fq_poly.specs.Division.{IsDivision}

-- (q + m) b + (s + n b) = q b + s where m + n = 0
moved : {M : Type 0} (R : RingOn M) (q m n s b : M) → R.add m n ≡ R.zero → R.add (R.mul (R.add q m) b) (R.add s (R.mul n b)) ≡ R.add (R.mul q b) s
moved R q m n s b e =
    ap (λ x. R.add x (R.add s (R.mul n b))) (R.add_mul q m b) ∙ add_exchange R (R.mul q b) (R.mul m b) s (R.mul n b)
    ∙ ap (R.add (R.add (R.mul q b) s)) (sym (R.add_mul m n b) ∙ ap (λ x. R.mul x b) e ∙ zero_mul R b)
    ∙ add_zero R (R.add (R.mul q b) s)

-- x - (x i) t = 0 where t i = 1
cancelled : {M : Type 0} (R : RingOn M) → ((a b : M) → R.mul a b ≡ R.mul b a) → (x i t : M) → R.mul t i ≡ R.one → R.add x (R.mul (R.neg (R.mul x i)) t) ≡ R.zero
cancelled R comm x i t inverts =
    ap (R.add x)
    (neg_mul R (R.mul x i) t
    ∙ ap R.neg (R.mul_assoc x i t ∙ ap (R.mul x) (comm i t ∙ inverts) ∙ R.mul_one x))
    ∙ R.add_neg x

module _ {E : Type 0} (r : RingOps E) (h : IsRing r) where
  -- one more coefficient is one more term
  term_set : (q : List E) (k : ℕ) (f : E) → are_elems r q ≡ true → IsElem r f → k < length q → coeff r q k ≡ r.zero → trim r (set q k f) ≡ list_add r (trim r q) (monomial r f k)
  term_set q k f eq fin room empty =
      let z = h.closed.zero_in in
      trim_sum r h (set q k f) q (monomial r f k) (elems_set r q k f eq fin) eq (and_parts _ _ (monomial_in r h f k fin)).0
      (λ n.
      ⊎_elim
      (λ (here : n ≡ k).
      ap (coeff r (set q k f)) here ∙ get_or-set_same q k f r.zero room
      ∙ sym (ap₂ r.add (ap (coeff r q) here ∙ empty) (ap (coeff r (monomial r f k)) here ∙ coeff-monomial_same r h f k fin) ∙ h.zero_add f fin))
      (λ (other : n ≢ k).
      get_or-set_other q k n f r.zero other
      ∙ sym (add_nothing r h (coeff r q n) (coeff r (monomial r f k) n) (elem_read r q z eq n) (coeff-monomial_other r h f k n fin other)))
      (cases_eq n k))

  -- a term and its negative
  opposite : (f : E) (k : ℕ) → IsElem r f → list_add r (monomial r f k) (monomial r (r.neg f) k) ≡ []
  opposite f k fin =
      let z = h.closed.zero_in in
      let nin = h.closed.neg_in f fin in
      let ef = (and_parts _ _ (monomial_in r h f k fin)).0 in
      let en = (and_parts _ _ (monomial_in r h (r.neg f) k nin)).0 in
      same_coeffs r z h.equal (list_add r (monomial r f k) (monomial r (r.neg f) k)) [] (and_parts _ _ (add_in r h (monomial r f k) (monomial r (r.neg f) k) ef en)).1 (trimmed-trim r [])
      (λ n.
      coeff-add r h (monomial r f k) (monomial r (r.neg f) k) ef en n
      ∙ ⊎_elim
      (λ (here : n ≡ k).
      ap (λ i. r.add (coeff r (monomial r f k) i) (coeff r (monomial r (r.neg f) k) i)) here
      ∙ ap₂ r.add (coeff-monomial_same r h f k fin) (coeff-monomial_same r h (r.neg f) k nin) ∙ h.add_neg f fin)
      (λ (other : n ≢ k).
      ap₂ r.add (coeff-monomial_other r h f k n fin other) (coeff-monomial_other r h (r.neg f) k n nin other) ∙ h.zero_add r.zero z)
      (cases_eq n k))

  -- one more place of the rest is zero
  pub place_cleared : (b rest left : List E) (k : ℕ) (inverse f m : E) → IsCommutative r → are_elems r b ≡ true → are_elems r rest ≡ true → IsElem r inverse → IsElem r m
      → 0 < length b → r.mul (coeff r b (length b - 1)) inverse ≡ r.one
      → f ≡ r.mul (coeff r rest (k + (length b - 1))) inverse → m ≡ r.neg f
      → ((n : ℕ) → k + 1 + length b ≤ n + 1 → coeff r rest n ≡ r.zero)
      → ((j : ℕ) → coeff r left (k + j) ≡ r.add (coeff r rest (k + j)) (r.mul m (coeff r b j)))
      → (n : ℕ) → k + length b ≤ n + 1 → coeff r left n ≡ r.zero
  place_cleared b rest left k inverse f m comm eb er iin min pos inverts quotient minus cleared from n past =
      let z = h.closed.zero_in in
      let high = length b - 1 in
      let top = coeff r rest (k + high) in
      ⊎_elim
      (λ (e : n ≡ k + high).
      ap (coeff r left) e ∙ from high
      ∙ ap (λ x. r.add top (r.mul x (coeff r b high))) (minus ∙ ap r.neg quotient)
      ∙ ap (λ x. x.0) (cancelled (elements h) (λ x y. same_element r _ _ (comm x.0 y.0 x.1 y.1))
      (top, elem_read r rest z er (k + high)) (inverse, iin) (coeff r b high, elem_read r b z eb high) (same_element r _ _ inverts)))
      (λ (ne : n ≡ k + high → ⊥).
      let j = n - k in
      let place : n ≡ k + j = omega arith in
      let over : length b ≤ j = omega arith in
      ap (coeff r left) place ∙ from j
      ∙ add_times_zero r h (coeff r rest (k + j)) m (coeff r b j) (elem_read r rest z er (k + j)) min (coeff_past r b j over)
      ∙ cleared (k + j) (omega arith))
      (cases_eq n (k + high))

  pub trimmed_zeros : (q : List E) → are_elems r q ≡ true → ((i : ℕ) → coeff r q i ≡ r.zero) → trim r q ≡ []
  trimmed_zeros q eq zeros =
      let z = h.closed.zero_in in
      same_coeffs r z h.equal (trim r q) [] (trimmed-trim r q) (trimmed-trim r []) (λ i. coeff-trim r z h.equal q eq i ∙ zeros i)

module _ {E : Type 0} (r : RingOps E) (h : IsRing r) (ne : r.one ≢ r.zero) where
  abbrev polys : RingOn (Element (poly_ops r))
  polys = elements (poly_ring r h ne)

  abbrev poly : (u : List E) → are_elems r u ≡ true → Element (poly_ops r)
  poly u e = (trim r u, canonical-trim r u e)

  -- no place of the quotient is written yet
  pub sum_started : (rest q b : List E) → are_elems r rest ≡ true → is_canonical r b ≡ true → are_elems r q ≡ true → ((i : ℕ) → coeff r q i ≡ r.zero) → trim r rest ≡ list_add r (poly_mul r (trim r q) b) (trim r rest)
  sum_started rest q b er cb eq zeros =
      sym (ap (λ x. x.0)
      (ap (λ x. polys.add (polys.mul x (b, cb)) (poly rest er)) (same_element (poly_ops r) (poly q eq) polys.zero (trimmed_zeros r h q eq zeros))
      ∙ ap (λ x. polys.add x (poly rest er)) (zero_mul polys (b, cb)) ∙ polys.zero_add (poly rest er)))

  -- the dividend stays the product of the quotient and the divisor, and the rest
  pub sum_kept : (a b q rest left : List E) (k : ℕ) (f m : E) → is_canonical r b ≡ true → are_elems r q ≡ true → are_elems r rest ≡ true → are_elems r left ≡ true → IsElem r f → IsElem r m
      → k < length q → coeff r q k ≡ r.zero → m ≡ r.neg f
      → trim r a ≡ list_add r (poly_mul r (trim r q) b) (trim r rest)
      → ((n : ℕ) → n < k → coeff r left n ≡ coeff r rest n)
      → ((j : ℕ) → coeff r left (k + j) ≡ r.add (coeff r rest (k + j)) (r.mul m (coeff r b j)))
      → trim r a ≡ list_add r (poly_mul r (trim r (set q k f)) b) (trim r left)
  sum_kept a b q rest left k f m cb eq er el fin min room empty minus held below from =
      let plus : Element (poly_ops r) = (monomial r f k, monomial_in r h f k fin) in
      let less : Element (poly_ops r) = (monomial r m k, monomial_in r h m k min) in
      let none : polys.add plus less ≡ polys.zero =
      same_element (poly_ops r) (polys.add plus less) polys.zero (ap (λ x. list_add r (monomial r f k) (monomial r x k)) minus ∙ opposite r h f k fin) in
      held
      ∙ sym (ap₂ (λ x y. list_add r (poly_mul r x b) y) (term_set r h q k f eq fin room empty)
      (term_added r h (λ c i. c) (no_twist r) left rest b m k el er (and_parts _ _ cb).0 min below from)
      ∙ ap (λ x. x.0) (moved polys (poly q eq) plus less (poly rest er) (b, cb) none))

  pub division_done : (a b q rest c left : List E) → is_canonical r a ≡ true → are_elems r q ≡ true → are_elems r rest ≡ true → 0 < length b
      → trim r a ≡ list_add r (poly_mul r (trim r q) b) (trim r rest)
      → ((n : ℕ) → length b ≤ n + 1 → coeff r rest n ≡ r.zero)
      → c ≡ trim r q → left ≡ trim r rest
      → IsDivision r a b c left
  division_done a b q rest c left ca eq er pos held cleared quotient remainder =
      rw (quotient, remainder)
      (record {
        quotient = canonical-trim r q eq;
        remainder = canonical-trim r rest er;
        sum = sym (trim-trimmed r a (and_parts _ _ ca).1) ∙ held;
        lower =
            length_below r h (trim r rest) (length b) pos (trimmed-trim r rest)
            (λ i l. coeff-trim r h.closed.zero_in h.equal rest er i ∙ cleared i l);
      })
