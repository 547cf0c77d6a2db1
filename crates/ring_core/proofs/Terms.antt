-- What a term that was added in place changes.
use Rattle.std.proofs.Common.{◌≡◌, ℕ, ◌+◌, ◌-◌, ◌<◌, ◌≤◌, inr, true, List, sym, ◌∙◌, ap, subst, ⊎_elim, arith}
use Rattle.std.proofs.lemmas.Bool.{and_parts, cases_lt}
use Rattle.ring_core.specs.Ring.{RingOps, IsElem, IsRing}
use Rattle.ring_core.specs.Coeffs.{coeff, are_elems, trim}
use Rattle.ring_core.specs.Twisted.{list_add, list_mul, product_at}
use Rattle.ring_core.specs.Monomial.{monomial}
use Rattle.ring_core.proofs.Carrier.{elements, add_zero, zero_mul, mul_zero}
use Rattle.ring_core.proofs.Coefficients.{elem_read, coeff-trim, elems-trim, trimmed-trim, same_coeffs}
use Rattle.ring_core.proofs.Twist.{IsTwist}
use Rattle.ring_core.proofs.ListRing.{coeff-add, add_in, coeff-mul, mul_in}
use Rattle.ring_core.proofs.Monomial.{monomial_in, monomial_product, monomial_product_below, product_monomial, product_monomial_below}
use Rattle.ring_core.specs.Written.{IsWritten}

module _ {E : Type 0} (r : RingOps E) (h : IsRing r) where
  pub add_nothing : (x y : E) → IsElem r x → y ≡ r.zero → r.add x y ≡ x
  add_nothing x y p e = ap (r.add x) e ∙ ap (λ a. a.0) (add_zero (elements h) (x, p))

  -- terms that were written, past their end too
  pub terms_added : (i n : ℕ) (term : ℕ → E) (before out : List E) → are_elems r before ≡ true → IsWritten r.zero i n (λ j. r.add (coeff r before (i + j)) (term j)) before out
      → ((j : ℕ) → n ≤ j → term j ≡ r.zero) → (j : ℕ) → coeff r out (i + j) ≡ r.add (coeff r before (i + j)) (term j)
  terms_added i n term before out e w past j =
      ⊎_elim
      (λ (low : j < n). w.inside j low)
      (λ (high : n ≤ j).
      w.outside (i + j) (inr (omega arith)) ∙ sym (add_nothing (coeff r before (i + j)) (term j) (elem_read r before h.closed.zero_in e (i + j)) (past j high)))
      (cases_lt j n)

  pub no_terms : (i : ℕ) (term : ℕ → E) (before : List E) → are_elems r before ≡ true → ((j : ℕ) → term j ≡ r.zero) → (j : ℕ) → coeff r before (i + j) ≡ r.add (coeff r before (i + j)) (term j)
  no_terms i term before e zeros j =
      sym (add_nothing (coeff r before (i + j)) (term j) (elem_read r before h.closed.zero_in e (i + j)) (zeros j))

  pub zero_times : (c x : E) → c ≡ r.zero → IsElem r x → r.mul c x ≡ r.zero
  zero_times c x e p = ap (λ y. r.mul y x) e ∙ ap (λ y. y.0) (zero_mul (elements h) (x, p))

  pub times_zero : (c x : E) → IsElem r c → x ≡ r.zero → r.mul c x ≡ r.zero
  times_zero c x p e = ap (r.mul c) e ∙ ap (λ y. y.0) (mul_zero (elements h) (c, p))

  -- a list with the coefficients of another and a product, without its zeros
  pub trim_sum : (out before p : List E) → are_elems r out ≡ true → are_elems r before ≡ true → are_elems r p ≡ true → ((n : ℕ) → coeff r out n ≡ r.add (coeff r before n) (coeff r p n)) → trim r out ≡ list_add r (trim r before) p
  trim_sum out before p eo eb ep e =
      let z = h.closed.zero_in in
      let tb = elems-trim r before eb in
      same_coeffs r z h.equal (trim r out) (list_add r (trim r before) p) (trimmed-trim r out) (and_parts _ _ (add_in r h (trim r before) p tb ep)).1
      (λ n. coeff-trim r z h.equal out eo n ∙ e n
      ∙ sym (coeff-add r h (trim r before) p tb ep n ∙ ap (λ x. r.add x (coeff r p n)) (coeff-trim r z h.equal before eb n)))

  module _ (frob : E → ℕ → E) (t : IsTwist r frob) where
    -- a product with zeros below k was added
    product_added : (out before a b : List E) (k : ℕ) → are_elems r out ≡ true → are_elems r before ≡ true → are_elems r a ≡ true → are_elems r b ≡ true
        → ((n : ℕ) → n < k → coeff r out n ≡ coeff r before n) → ((n : ℕ) → n < k → product_at r frob a b n ≡ r.zero)
        → ((n : ℕ) → k ≤ n → coeff r out n ≡ r.add (coeff r before n) (product_at r frob a b n))
        → trim r out ≡ list_add r (trim r before) (list_mul r frob a b)
    product_added out before a b k eo eb ea er below zeros added =
        trim_sum out before (list_mul r frob a b) eo eb (and_parts _ _ (mul_in r h frob t a b ea er)).0
        (λ n.
        ⊎_elim
        (λ (low : n < k). below n low ∙ sym (add_nothing (coeff r before n) (product_at r frob a b n) (elem_read r before h.closed.zero_in eb n) (zeros n low)))
        (added n)
        (cases_lt n k)
        ∙ ap (r.add (coeff r before n)) (sym (coeff-mul r h frob t a b ea er n)))

    -- c tau^k row was added
    pub term_added : (out before row : List E) (c : E) (k : ℕ) → are_elems r out ≡ true → are_elems r before ≡ true → are_elems r row ≡ true → IsElem r c
        → ((n : ℕ) → n < k → coeff r out n ≡ coeff r before n)
        → ((j : ℕ) → coeff r out (k + j) ≡ r.add (coeff r before (k + j)) (r.mul c (frob (coeff r row j) k)))
        → trim r out ≡ list_add r (trim r before) (list_mul r frob (monomial r c k) row)
    term_added out before row c k eo eb er p below added =
        product_added out before (monomial r c k) row k eo eb (and_parts _ _ (monomial_in r h c k p)).0 er below (monomial_product_below r h frob t c k row p er)
        (λ n high.
        let place : k + (n - k) ≡ n = omega arith in
        subst (λ m. coeff r out m ≡ r.add (coeff r before m) (r.mul c (frob (coeff r row (n - k)) k))) place (added (n - k))
        ∙ ap (r.add (coeff r before n)) (sym (monomial_product r h frob t c k row p er n high)))

    -- row c tau^k was added
    pub term_added_right : (out before row : List E) (c : E) (k : ℕ) → are_elems r out ≡ true → are_elems r before ≡ true → are_elems r row ≡ true → IsElem r c
        → ((n : ℕ) → n < k → coeff r out n ≡ coeff r before n)
        → ((j : ℕ) → coeff r out (k + j) ≡ r.add (coeff r before (k + j)) (r.mul (coeff r row j) (frob c j)))
        → trim r out ≡ list_add r (trim r before) (list_mul r frob row (monomial r c k))
    term_added_right out before row c k eo eb er p below added =
        product_added out before row (monomial r c k) k eo eb er (and_parts _ _ (monomial_in r h c k p)).0 below (product_monomial_below r h frob t row c k p er)
        (λ n high.
        let place : k + (n - k) ≡ n = omega arith in
        subst (λ m. coeff r out m ≡ r.add (coeff r before m) (r.mul (coeff r row (n - k)) (frob c (n - k)))) place (added (n - k))
        ∙ ap (r.add (coeff r before n)) (sym (product_monomial r h frob t row c k p er n high)))
