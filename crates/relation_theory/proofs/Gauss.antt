-- Polynomials as sequences of coefficients: where an element that isn't invertible divides all coefficients of
-- a product, some divisor of it that isn't invertible divides all of one of the factors.
use Rattle.std.proofs.Common.{◌≡◌, ℕ, zero, suc, ◌+◌, ◌<◌, ◌≤◌, ◌⊎◌, inl, inr, sym, ◌∙◌, ap, ap₂, arith}
use mathlib.Core.Path.{fun_ext}
use Rattle.std.proofs.lemmas.Bool.{cases_lt}
use Rattle.ring_core.proofs.Carrier.{RingOn, add_zero, mul_zero, from_sum}
use Rattle.ring_core.proofs.Series.{conv, zero_conv, conv_comm}
use Rattle.linear_algebra.proofs.Spans.{neg_is}
use Rattle.relation_theory.proofs.Euclid.{IsEuclidean, IsMultiple, Bezout, multiple_self, multiple_zero, multiple_as, multiple_sum, multiple_through, some_size, sized_nonzero, unit_inverse, bezout}

-- The product of the polynomials `a` and `b`.
abbrev pub cauchy_product : {M : Type 0} → RingOn M → (ℕ → M) → (ℕ → M) → ℕ → M
cauchy_product R a b k = conv R (λ x. x) k a b

pub at_each : (P : ℕ → Type 0) → P 0 → ((i : ℕ) → P (suc i)) → (i : ℕ) → P i
at_each P z s zero = z
at_each P z s (suc i) = s i

module _ {M : Type 0} (R : RingOn M) where
  pub product_zero : (n : ℕ) (a b : ℕ → M) → ((i : ℕ) → a i ≡ R.zero) → cauchy_product R a b n ≡ R.zero
  product_zero n a b e = ap (λ t. cauchy_product R t b n) (fun_ext e) ∙ zero_conv R (λ x. x) n b

  -- the top coefficient of a product
  pub product_top : (k d n : ℕ) (a b : ℕ → M) → n ≡ k + d → ((i : ℕ) → k < i → a i ≡ R.zero) → ((i : ℕ) → d < i → b i ≡ R.zero) → cauchy_product R a b n ≡ R.mul (a k) (b d)
  product_top zero d zero a b e pa pb = let z : 0 ≡ d = omega arith in ap (λ i. R.mul (a 0) (b i)) z
  product_top zero d (suc n) a b e pa pb =
      let z : suc n ≡ d = omega arith in
      ap₂ R.add (ap (λ i. R.mul (a 0) (b i)) z) (product_zero n (λ i. a (suc i)) b (λ i. pa (suc i) (omega arith)))
      ∙ add_zero R _
  product_top (suc k) d zero a b e pa pb = absurd (omega arith)
  product_top (suc k) d (suc n) a b e pa pb =
      ap₂ R.add (ap (R.mul (a 0)) (pb (suc n) (omega arith)) ∙ mul_zero R (a 0))
      (product_top k d n (λ i. a (suc i)) b (omega arith) (λ i l. pa (suc i) (omega arith)) pb)
      ∙ R.zero_add _

-- A divisor of `q` that isn't invertible, and divides all members of one of `a` and `b`.
pub record DividesOne {M : Type 0} (R : RingOn M) (size : M → ℕ) (q : M) (a b : ℕ → M) : Type 0 where
  pub divisor : M
  pub large : 1 < size divisor
  pub of : IsMultiple R divisor q
  pub all : ((i : ℕ) → IsMultiple R divisor (a i)) ⊎ ((j : ℕ) → IsMultiple R divisor (b j))

module _ {M : Type 0} (R : RingOn M) (size : M → ℕ) (h : IsEuclidean R size) where
  second : (q x y : M) → IsMultiple R q (R.add x y) → IsMultiple R q x → IsMultiple R q y
  second q x y s t =
      multiple_as R q _ y (from_sum R y x (R.add x y) (R.add_comm y x) ∙ ap₂ R.add (sym (R.one_mul _)) (neg_is R x))
      (multiple_sum R q (R.add x y) x R.one (R.neg R.one) s t)

  multiple_right : (q x y : M) → IsMultiple R q x → IsMultiple R q (R.mul x y)
  multiple_right q x y s = multiple_through R q x (R.mul x y) s (record { factor = y; is = h.mul_comm x y })

  -- `q` divides `y` where it divides `x y`, and `q` and `x` have an invertible common divisor
  prime_to : (q x u y : M) (g : Bezout R q x) → R.mul g.divisor u ≡ R.one → IsMultiple R q (R.mul x y) → IsMultiple R q y
  prime_to q x u y g e m =
      multiple_through R q (R.mul g.divisor y) y
      (multiple_as R q _ (R.mul g.divisor y)
      (ap (λ t. R.mul t y) g.is ∙ R.add_mul (R.mul g.left q) (R.mul g.right x) y
      ∙ ap₂ R.add (R.mul_assoc g.left q y ∙ ap (R.mul g.left) (h.mul_comm q y) ∙ sym (R.mul_assoc g.left y q)) (R.mul_assoc g.right x y))
      (multiple_sum R q q (R.mul x y) (R.mul g.left y) g.right (multiple_self R q) m))
      (record { factor = u; is = sym (R.one_mul y) ∙ ap (λ t. R.mul t y) (sym e ∙ h.mul_comm g.divisor u) ∙ R.mul_assoc u g.divisor y })

  -- the first member of `b` has no common divisor with `q`
  gauss_at : (q : M) (a b : ℕ → M) → ((y : M) → IsMultiple R q (R.mul (b 0) y) → IsMultiple R q y) → ((n : ℕ) → IsMultiple R q (cauchy_product R a b n)) → (j : ℕ) → IsMultiple R q (a j)
  gauss_at q a b prime all zero = prime (a 0) (multiple_as R q _ _ (h.mul_comm (b 0) (a 0)) (all 0))
  gauss_at q a b prime all (suc j) =
      let first : IsMultiple R q (a 0) = prime (a 0) (multiple_as R q _ _ (h.mul_comm (b 0) (a 0)) (all 0)) in
      gauss_at q (λ i. a (suc i)) b prime
      (λ n. second q (R.mul (a 0) (b (suc n))) _ (all (suc n)) (multiple_right q (a 0) (b (suc n)) first)) j

  pub gauss : (n : ℕ) (q : M) (a b : ℕ → M) → 1 < size q → ((i : ℕ) → n ≤ i → b i ≡ R.zero) → ((k : ℕ) → IsMultiple R q (cauchy_product R a b k)) → DividesOne R size q a b
  gauss zero q a b large past all = record {
    divisor = q;
    large = large;
    of = multiple_self R q;
    all = inr (λ j. multiple_zero R q (b j) (past j (omega arith)));
  }
  gauss (suc n) q a b large past all =
      let g = bezout R size h q (b 0) in
      elim (cases_lt 1 (size g.divisor)) [
        | inl more ↦
            let tail : ℕ → M = λ i. b (suc i) in
            let rest : (k : ℕ) → IsMultiple R g.divisor (cauchy_product R a tail k) = λ k.
            multiple_as R g.divisor _ _ (conv_comm R h.mul_comm k a tail)
            (second g.divisor (R.mul (b 0) (a (suc k))) (cauchy_product R tail a k)
            (multiple_as R g.divisor _ _ (conv_comm R h.mul_comm (suc k) b a) (multiple_through R g.divisor q _ g.of_left (all (suc k))))
            (multiple_right g.divisor (b 0) (a (suc k)) g.of_right)) in
            let s = gauss n g.divisor a tail more (λ i l. past (suc i) (omega arith)) rest in
            record {
              divisor = s.divisor;
              large = s.large;
              of = multiple_through R s.divisor g.divisor q s.of g.of_left;
              all = elim s.all [
                | inl done ↦ inl done
                | inr others ↦ inr (at_each _ (multiple_through R s.divisor g.divisor (b 0) s.of g.of_right) others)
              ];
            }
        | inr few ↦
            let some = some_size R size h g.divisor (λ z. sized_nonzero R size h q (omega (arith, large)) (g.of_left.is ∙ ap (R.mul g.of_left.factor) z ∙ mul_zero R g.of_left.factor)) in
            let u = unit_inverse R size h g.divisor (omega (arith, few, some)) in
            record {
              divisor = q;
              large = large;
              of = multiple_self R q;
              all = inl (gauss_at q a b (λ y. prime_to q (b 0) u.0 y g u.1) all);
            }
      ]
