-- Degrees of products: over a ring with no zero divisors and with a one to one twist, they add.
use Rattle.std.proofs.Common.{◌≡◌, ◌≢◌, ℕ, suc, ◌+◌, ◌-◌, ◌<◌, ◌≤◌, true, Option, None, Some, MatchOption, List, [], ◌∷◌, length, refl, sym, ◌∙◌, ap, subst, ⊎_elim, arith}
use Rattle.std.proofs.lemmas.Bool.{and_parts, both_ways, not-true, cases_lt}
use Rattle.ring_core.specs.Ring.{RingOps, IsElem, IsRing, SameDecides}
use Rattle.ring_core.specs.Field.{IsField, FrobOps, IsFrobField}
use Rattle.ring_core.specs.Coeffs.{coeff, are_elems, is_trimmed, is_canonical}
use Rattle.ring_core.specs.Twisted.{product_at, list_mul}
use Rattle.ring_core.proofs.Carrier.{elements, mul_zero}
use Rattle.ring_core.proofs.Coefficients.{coeff_past, elem_read}
use Rattle.ring_core.proofs.Twist.{IsTwist, frob_of_zero}
use Rattle.ring_core.proofs.ListRing.{vanishes_past, product_zero, product_single, coeff-mul, mul_in}

-- The top coefficient of a polynomial isn't zero.
pub top_nonzero : {E : Type 0} (r : RingOps E) → IsElem r r.zero → SameDecides r → (u : List E) → is_trimmed r u ≡ true → u ≢ [] → coeff r u (length u - 1) ≢ r.zero
top_nonzero r z d [] e ne = λ s. ne refl
top_nonzero r z d (x ∷ []) e ne = λ s. both_ways (r.same x r.zero) (not-true _ e) (ap (λ y. r.same y r.zero) s ∙ d.same_refl r.zero z)
top_nonzero r z d (x ∷ y ∷ ys) e ne =
    let place : suc (length ys) ≡ suc (suc (length ys)) - 1 = omega arith in
    let below : length ys ≡ suc (length ys) - 1 = omega arith in
    λ s. top_nonzero r z d (y ∷ ys) e (λ q. cc) (ap (coeff r (y ∷ ys)) (sym below) ∙ ap (coeff r (x ∷ y ∷ ys)) place ∙ s)

-- A polynomial whose coefficient at `t` isn't zero, and all of whose coefficients past it are, has `t + 1` coefficients.
pub length_by_top : {E : Type 0} (r : RingOps E) → IsElem r r.zero → SameDecides r → (u : List E) (t : ℕ) → is_trimmed r u ≡ true → coeff r u t ≢ r.zero → ((i : ℕ) → t < i → coeff r u i ≡ r.zero) → length u ≡ t + 1
length_by_top r z d u t e top past =
    ⊎_elim
    (λ (few : length u < t + 1). absurd (top (coeff_past r u t (omega arith))))
    (λ (enough : t + 1 ≤ length u).
    ⊎_elim
    (λ (more : t < length u - 1).
    absurd (top_nonzero r z d u e (λ q. top (ap (λ v. coeff r v t) q)) (past (length u - 1) more)))
    (λ (all : length u - 1 ≤ t). omega arith)
    (cases_lt t (length u - 1)))
    (cases_lt (length u) (t + 1))

pub not_empty : {E : Type 0} (u : List E) → 0 < length u → u ≢ []
not_empty u pos e = let none : length u ≡ 0 = ap length e in absurd (omega arith)

pub has_members : {E : Type 0} (u : List E) → u ≢ [] → 0 < length u
has_members [] ne = absurd (ne refl)
has_members (x ∷ xs) ne = omega arith

-- A trimmed list ends before its zeros.
pub length_below : {E : Type 0} (r : RingOps E) → IsRing r → (u : List E) (n : ℕ) → 0 < n → is_trimmed r u ≡ true → ((i : ℕ) → n ≤ i + 1 → coeff r u i ≡ r.zero) → length u < n
length_below r h [] n pos t zeros = pos
length_below r h (x ∷ xs) n pos t zeros =
    ⊎_elim
    (λ (l : length (x ∷ xs) < n). l)
    (λ (l : n ≤ length (x ∷ xs)).
    absurd (top_nonzero r h.closed.zero_in h.equal (x ∷ xs) t (λ e. cc) (zeros (length (x ∷ xs) - 1) (omega arith))))
    (cases_lt (length (x ∷ xs)) n)

-- No zero divisors.
pub record HasNoDivisors {E : Type 0} (r : RingOps E) (frob : E → ℕ → E) : Type 0 where
  pub product : (a b : E) → IsElem r a → IsElem r b → a ≢ r.zero → b ≢ r.zero → r.mul a b ≢ r.zero
  pub image : (c : E) (i : ℕ) → IsElem r c → c ≢ r.zero → frob c i ≢ r.zero

module _ {E : Type 0} (r : RingOps E) (h : IsRing r) (frob : E → ℕ → E) (t : IsTwist r frob) where
  -- the top coefficient of a product
  pub product_top : (a b : List E) → are_elems r a ≡ true → are_elems r b ≡ true → (m n : ℕ) → length a ≡ m + 1 → length b ≡ n + 1 → product_at r frob a b (m + n) ≡ r.mul (coeff r a m) (frob (coeff r b n) m)
  product_top a b p q m n la lb =
      let place : m + n - m ≡ n = omega arith in
      product_single r h frob t a b p q (m + n) m (omega arith) (λ i l apart. vanishes_past r h frob t a b p q (m + n) i (λ low. omega arith))
      ∙ ap (λ j. r.mul (coeff r a m) (frob (coeff r b j) m)) place

  past_top : (a b : List E) → are_elems r a ≡ true → are_elems r b ≡ true → (m n k : ℕ) → length a ≡ m + 1 → length b ≡ n + 1 → m + n < k → product_at r frob a b k ≡ r.zero
  past_top a b p q m n k la lb past = product_zero r h frob t a b p q k (λ i l. vanishes_past r h frob t a b p q k i (λ low. omega arith))

  length_of_product : HasNoDivisors r frob → (a b : List E) → is_canonical r a ≡ true → is_canonical r b ≡ true → a ≢ [] → b ≢ [] → (m n : ℕ) → length a ≡ m + 1 → length b ≡ n + 1 → length (list_mul r frob a b) ≡ m + n + 1
  length_of_product none a b p q na nb m n la lb =
      let z = h.closed.zero_in in
      let ea : are_elems r a ≡ true = (and_parts _ _ p).0 in
      let eb : are_elems r b ≡ true = (and_parts _ _ q).0 in
      let ma : length a - 1 ≡ m = omega arith in
      let mb : length b - 1 ≡ n = omega arith in
      let top_a : coeff r a m ≢ r.zero = λ s. top_nonzero r z h.equal a (and_parts _ _ p).1 na (ap (coeff r a) ma ∙ s) in
      let top_b : coeff r b n ≢ r.zero = λ s. top_nonzero r z h.equal b (and_parts _ _ q).1 nb (ap (coeff r b) mb ∙ s) in
      let lead = coeff-mul r h frob t a b ea eb (m + n) ∙ product_top a b ea eb m n la lb in
      length_by_top r z h.equal (list_mul r frob a b) (m + n) (and_parts _ _ (mul_in r h frob t a b ea eb)).1
      (λ s.
      none.product _ _ (elem_read r a z ea m) (t.twist_in _ m (elem_read r b z eb n)) top_a
      (none.image _ m (elem_read r b z eb n) top_b) (sym lead ∙ s))
      (λ i l. coeff-mul r h frob t a b ea eb i ∙ past_top a b ea eb m n i la lb l)

  -- The degrees of nonzero factors add.
  pub degrees_add : HasNoDivisors r frob → (a b : List E) → is_canonical r a ≡ true → is_canonical r b ≡ true → a ≢ [] → b ≢ [] → length (list_mul r frob a b) + 1 ≡ length a + length b
  degrees_add none a b p q na nb =
      let pos_a = has_members a na in
      let pos_b = has_members b nb in
      omega (arith, length_of_product none a b p q na nb (length a - 1) (length b - 1) (omega arith) (omega arith))

-- A field has no zero divisors.
module _ {E : Type 0} (r : RingOps E) (inv : E → Option E) (k : IsField r inv) where
  zero_from : (a b : E) → IsElem r a → IsElem r b → r.mul a b ≡ r.zero → (o : Option E) → MatchOption o (a ≡ r.zero) (λ c. IsElem r c × (r.mul a c ≡ r.one)) → a ≢ r.zero → b ≡ r.zero
  zero_from a b p q e None inverse ne = absurd (ne inverse)
  zero_from a b p q e (Some c) inverse ne =
      let ring = k.ring in
      sym (ring.one_mul b q) ∙ ap (λ x. r.mul x b) (sym (k.mul_comm c a inverse.0 p ∙ inverse.1))
      ∙ ring.mul_assoc c a b inverse.0 p q ∙ ap (r.mul c) e ∙ ap (λ x. x.0) (mul_zero (elements ring) (c, inverse.0))

  pub no_zero_divisors : (a b : E) → IsElem r a → IsElem r b → a ≢ r.zero → b ≢ r.zero → r.mul a b ≢ r.zero
  no_zero_divisors a b p q na nb = λ e. nb (zero_from a b p q e (inv a) (k.inv_is a p) na)

  inverse_cases : (a : List E) → is_canonical r a ≡ true → 0 < length a → (o : Option E) → MatchOption o (coeff r a (length a - 1) ≡ r.zero) (λ c. IsElem r c × (r.mul (coeff r a (length a - 1)) c ≡ r.one))
      → MatchOption o (a ≡ []) (λ c. (0 < length a) × IsElem r c × (r.mul (coeff r a (length a - 1)) c ≡ r.one))
  inverse_cases a ca pos None is =
      absurd (top_nonzero r k.ring.closed.zero_in k.ring.equal a (and_parts _ _ ca).1 (not_empty a pos) is)
  inverse_cases a ca pos (Some c) is = (pos, is.0, is.1)

  -- the inverse of a top coefficient, which is there where there is such a coefficient
  pub top_inverse_is : (a : List E) (top : E) (o : Option E) → is_canonical r a ≡ true → 0 < length a → top ≡ coeff r a (length a - 1) → o ≡ inv top
      → MatchOption o (a ≡ []) (λ c. (0 < length a) × IsElem r c × (r.mul (coeff r a (length a - 1)) c ≡ r.one))
  top_inverse_is a top o ca pos read is =
      let e = (and_parts _ _ ca).0 in
      let Holds : Option E → Type 0 = λ p. MatchOption p (coeff r a (length a - 1) ≡ r.zero) (λ c. IsElem r c × (r.mul (coeff r a (length a - 1)) c ≡ r.one)) in
      inverse_cases a ca pos o
      (subst Holds (sym (is ∙ ap inv read)) (k.inv_is (coeff r a (length a - 1)) (elem_read r a k.ring.closed.zero_in e (length a - 1))))

  -- Polynomials in a letter that commutes.
  pub poly_no_divisors : HasNoDivisors r (λ c i. c)
  poly_no_divisors = record { product = no_zero_divisors; image = λ c i p ne. ne }

pub frob_no_divisors : {E B : Type 0} (r : RingOps E) (inv : E → Option E) (base : RingOps B) (f : FrobOps E B) → IsField r inv → IsFrobField r base f → HasNoDivisors r f.frob
frob_no_divisors r inv base f k l = record {
  product = no_zero_divisors r inv k;
  image = λ c i p ne e. ne (l.frob_inj c r.zero i p k.ring.closed.zero_in (e ∙ sym (frob_of_zero r inv base f k l i)));
}
