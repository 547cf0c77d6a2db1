-- Commutative rings with sizes, as Euclid's algorithm needs them: they are domains, the elements of size one
-- are the invertible ones, and two elements have a common divisor that is a combination of them.
use Rattle.std.proofs.Common.{◌≡◌, ◌≢◌, ℕ, ◌<◌, inl, inr, sym, ◌∙◌, ap, ap₂, arith}
use Rattle.std.proofs.lemmas.Bool.{cases_lt}
use Rattle.ring_core.proofs.Carrier.{RingOn, add_zero, mul_zero, zero_mul, mul_neg, minus_same}
use Rattle.linear_algebra.proofs.Dependent.{IsDomain}
use Rattle.euclid_theory.proofs.Sizes.{HasSizes, no_divisors, divide}
use Rattle.euclid_theory.proofs.Divisors.{chain_of, last_of}

-- A domain with sizes: polynomials over a field with their lengths.
pub record IsEuclidean {M : Type 0} (R : RingOn M) (size : M → ℕ) : Type 0 where
  pub sizes : HasSizes R size
  pub mul_comm : (a b : M) → R.mul a b ≡ R.mul b a

-- `x` is a multiple of `p`.
pub record IsMultiple {M : Type 0} (R : RingOn M) (p x : M) : Type 0 where
  pub factor : M
  pub is : x ≡ R.mul factor p

-- A common divisor of `a` and `b` that is a combination of them.
pub record Bezout {M : Type 0} (R : RingOn M) (a b : M) : Type 0 where
  pub divisor : M
  pub left : M
  pub right : M
  pub is : divisor ≡ R.add (R.mul left a) (R.mul right b)
  pub of_left : IsMultiple R divisor a
  pub of_right : IsMultiple R divisor b

module _ {M : Type 0} (R : RingOn M) where
  pub multiple_self : (p : M) → IsMultiple R p p
  multiple_self p = record { factor = R.one; is = sym (R.one_mul p) }

  pub multiple_zero : (p x : M) → x ≡ R.zero → IsMultiple R p x
  multiple_zero p x e = record { factor = R.zero; is = e ∙ sym (zero_mul R p) }

  pub multiple_as : (p x y : M) → y ≡ x → IsMultiple R p x → IsMultiple R p y
  multiple_as p x y e s = record { factor = s.factor; is = e ∙ s.is }

  pub multiple_through : (p x y : M) → IsMultiple R p x → IsMultiple R x y → IsMultiple R p y
  multiple_through p x y s t = record {
    factor = R.mul t.factor s.factor;
    is = t.is ∙ ap (R.mul t.factor) s.is ∙ sym (R.mul_assoc t.factor s.factor p);
  }

  -- a combination of multiples
  pub multiple_sum : (p x y a b : M) → IsMultiple R p x → IsMultiple R p y → IsMultiple R p (R.add (R.mul a x) (R.mul b y))
  multiple_sum p x y a b s t = record {
    factor = R.add (R.mul a s.factor) (R.mul b t.factor);
    is =
        ap₂ R.add (ap (R.mul a) s.is ∙ sym (R.mul_assoc a s.factor p)) (ap (R.mul b) t.is ∙ sym (R.mul_assoc b t.factor p))
        ∙ sym (R.add_mul (R.mul a s.factor) (R.mul b t.factor) p);
  }

module _ {M : Type 0} (R : RingOn M) (h : IsDomain R) where
  pub zero_product : (p a : M) → p ≢ R.zero → R.mul p a ≡ R.zero → a ≡ R.zero
  zero_product p a np e = elim (h.decided a) [
    | inl z ↦ z
    | inr ne ↦ absurd (h.product p a np ne e)
  ]

  pub cancel : (p a b : M) → p ≢ R.zero → R.mul p a ≡ R.mul p b → a ≡ b
  cancel p a b np e =
      minus_same R a b
      (zero_product p (R.add a (R.neg b)) np
      (R.mul_add p a (R.neg b) ∙ ap₂ R.add e (mul_neg R p b) ∙ R.add_neg (R.mul p b)))

  pub cancel_right : (p a b : M) → p ≢ R.zero → R.mul a p ≡ R.mul b p → a ≡ b
  cancel_right p a b np e = cancel p a b np (h.mul_comm p a ∙ e ∙ h.mul_comm b p)

module _ {M : Type 0} (R : RingOn M) (size : M → ℕ) (h : IsEuclidean R size) where
  pub some_size : (a : M) → a ≢ R.zero → 0 < size a
  some_size a ne = elim (cases_lt 0 (size a)) [
    | inl l ↦ l
    | inr l ↦ absurd (ne (h.sizes.empty a (omega (arith, l))))
  ]

  pub sized_nonzero : (a : M) → 0 < size a → a ≢ R.zero
  sized_nonzero a l z = let none : size a ≡ 0 = ap size z ∙ h.sizes.none in omega (arith, l, none)

  pub domain : IsDomain R
  domain = record {
    mul_comm = h.mul_comm;
    one_ne_zero = sized_nonzero R.one (let one = h.sizes.unit in omega (arith, one));
    decided = λ a. elim (cases_lt 0 (size a)) [
      | inl l ↦ inr (sized_nonzero a l)
      | inr l ↦ inl (h.sizes.empty a (omega (arith, l)))
    ];
    product = λ a b na nb e. na (no_divisors R size h.sizes a b (some_size b nb) e);
  }

  -- a factor of one has size one
  pub unit_size : (p u : M) → R.mul p u ≡ R.one → size p ≡ 1
  unit_size p u e =
      let some : (x : M) → x ≡ R.zero → R.mul p u ≢ R.zero = λ x z q. domain.one_ne_zero (sym e ∙ q) in
      let left = some_size p (λ z. some p z (ap (λ t. R.mul t u) z ∙ zero_mul R u)) in
      let right = some_size u (λ z. some u z (ap (R.mul p) z ∙ mul_zero R p)) in
      let one : size (R.mul p u) ≡ 1 = ap size e ∙ h.sizes.unit in
      omega (arith, left, right, one, h.sizes.product p u left right)

  -- an element of size one has an inverse
  pub unit_inverse : (p : M) → size p ≡ 1 → (u : M) × (R.mul p u ≡ R.one)
  unit_inverse p e =
      let d = divide R size h.sizes 2 R.one p (let one = h.sizes.unit in omega (arith, one)) (omega (arith, e)) in
      let rest : d.rest ≡ R.zero = h.sizes.empty d.rest (let low = d.lower in omega (arith, low, e)) in
      (d.quotient, h.mul_comm p d.quotient ∙ sym (d.sum ∙ ap (R.add (R.mul d.quotient p)) rest ∙ add_zero R _))

  -- the end of Euclid's chain
  pub bezout : (a b : M) → Bezout R a b
  bezout a b = elim (cases_lt 0 (size b)) [
    | inl l ↦
        let s = chain_of R size h.sizes a b l in
        let c = last_of R size h.sizes a b s.u s.v s.su s.sv s.wu s.wv s.chain s.end in
        record {
          divisor = s.u;
          left = s.su;
          right = s.wu;
          is = c.sum;
          of_left = record { factor = c.x; is = c.left };
          of_right = record { factor = c.y; is = c.right };
        }
    | inr l ↦ record {
      divisor = a;
      left = R.one;
      right = R.zero;
      is = sym (ap₂ R.add (R.one_mul a) (zero_mul R b) ∙ add_zero R a);
      of_left = multiple_self R a;
      of_right = multiple_zero R a b (h.sizes.empty b (omega (arith, l)));
    }
  ]
