-- The least relation between rows over a Euclidean ring is monic up to an invertible factor, where a relation
-- moved up by one place is a relation.
use Rattle.std.proofs.Common.{◌≡◌, ◌≢◌, ℕ, zero, suc, ◌+◌, ◌-◌, ◌<◌, ◌≤◌, inl, inr, refl, sym, ◌∙◌, ap, ap₂, arith}
use mathlib.Core.Path.{fun_ext}
use Rattle.std.proofs.lemmas.Bool.{cases_lt}
use Rattle.ring_core.proofs.Carrier.{RingOn, mul_zero, zero_mul, neg_mul}
use Rattle.ring_core.proofs.Series.{conv-add_left, conv-scale}
use Rattle.linear_algebra.proofs.Sums.{combine, combine_scale}
use Rattle.linear_algebra.proofs.Spans.{Spans, minus_plus}
use Rattle.linear_algebra.proofs.Augment.{relation_of, relation_at, relation_above, relation_is}
use Rattle.relation_theory.proofs.Euclid.{IsEuclidean, IsMultiple, multiple_as, multiple_through, zero_product, cancel, cancel_right, some_size, sized_nonzero, domain, unit_size, unit_inverse}
use Rattle.relation_theory.proofs.Gauss.{cauchy_product, product_zero, product_top, gauss}
use Rattle.relation_theory.proofs.Relations.{IsRel, one_at, one_at_same, one_at_past, rel_more, rel_apart, rel_raised}
use Rattle.relation_theory.proofs.Chain.{some_row_depends}

-- A relation of `d + 1` members with a top that isn't zero: there is none with fewer, and each other one with
-- as many is a multiple of it.
pub record IsLeast {M : Type 0} (R : RingOn M) (rows : ℕ → ℕ → M) (d : ℕ) (f : ℕ → M) : Type 0 where
  pub relation : IsRel R rows (suc d) f
  pub top : f d ≢ R.zero
  pub none : (c : ℕ → M) → IsRel R rows d c → (i : ℕ) → c i ≡ R.zero
  pub only : (c : ℕ → M) → IsRel R rows (suc d) c → (u : M) × ((i : ℕ) → c i ≡ R.mul u (f i))

-- `factor c` is `quotient f`.
record IsCleared {M : Type 0} (R : RingOn M) (k : ℕ) (c f : ℕ → M) : Type 0 where
  factor : M
  quotient : ℕ → M
  nonzero : factor ≢ R.zero
  bound : (i : ℕ) → k ≤ i → quotient i ≡ R.zero
  is : (i : ℕ) → R.mul factor (c i) ≡ cauchy_product R quotient f i

module _ {M : Type 0} (R : RingOn M) (size : M → ℕ) (h : IsEuclidean R size) (rows : ℕ → ℕ → M)
    (moves : (n : ℕ) (c : ℕ → M) → IsRel R rows n c → (j : ℕ) → combine R n c (λ i. rows (suc i)) j ≡ R.zero)
    (d : ℕ) (f : ℕ → M) (least : IsLeast R rows d f) where
  abbrev past : (i : ℕ) → d < i → f i ≡ R.zero
  past i l = least.relation.past i (omega arith)

  -- x a = x (a - b c) + (x b) c
  apart_sum : (x a b c : M) → R.mul x a ≡ R.add (R.mul x (R.add a (R.mul (R.neg b) c))) (R.mul (R.mul x b) c)
  apart_sum x a b c =
      ap (R.mul x) (sym (ap (λ t. R.add (R.add a t) (R.mul b c)) (neg_mul R b c) ∙ minus_plus R a (R.mul b c)))
      ∙ R.mul_add x _ (R.mul b c) ∙ ap (R.add _) (sym (R.mul_assoc x b c))

  -- each relation times some element is a multiple of the least one
  cleared : (k : ℕ) (c : ℕ → M) → IsRel R rows (k + d) c → IsCleared R k c f
  cleared zero c s = record {
    factor = R.one;
    quotient = λ i. R.zero;
    nonzero = (domain R size h).one_ne_zero;
    bound = λ i l. refl;
    is = λ i. R.one_mul (c i) ∙ least.none c (rel_more R rows (0 + d) d c (omega arith) s) i ∙ sym (product_zero R i (λ j. R.zero) f (λ j. refl));
  }
  cleared (suc k) c s =
      let n = k + d in
      let e : ℕ → M = cauchy_product R (one_at R k) f in
      let more : IsRel R rows (suc n) e = rel_more R rows (k + suc d) (suc n) e (omega arith) (rel_raised R rows moves k (suc d) f least.relation) in
      let t = cleared k _ (rel_apart R rows h.mul_comm n c e (rel_more R rows (suc k + d) (suc n) c (omega arith) s) more) in
      let top : e n ≡ f d = product_top R k d n (one_at R k) f refl (one_at_past R k) past ∙ ap (λ y. R.mul y (f d)) (one_at_same R k) ∙ R.one_mul (f d) in
      let last = R.mul t.factor (c n) in
      record {
        factor = R.mul t.factor (e n);
        quotient = λ i. R.add (t.quotient i) (R.mul last (one_at R k i));
        nonzero = (domain R size h).product t.factor (e n) t.nonzero (λ z. least.top (sym top ∙ z));
        bound = λ i l.
            ap₂ R.add (t.bound i (omega arith)) (ap (R.mul last) (one_at_past R k i (omega arith)) ∙ mul_zero R last) ∙ R.zero_add R.zero;
        is = λ i.
            R.mul_assoc t.factor (e n) (c i) ∙ apart_sum t.factor (R.mul (e n) (c i)) (c n) (e i)
            ∙ ap₂ R.add (t.is i) (sym (conv-scale R (λ x. x) i last (one_at R k) f))
            ∙ sym (conv-add_left R (λ x. x) i t.quotient (λ j. R.mul last (one_at R k j)) f);
      }

  -- not all members have a common divisor but the invertible ones
  not_all : (p : M) → 1 < size p → ((i : ℕ) → IsMultiple R p (f i)) → ⊥
  not_all p large all =
      let one : size p ≡ 1 = unit_size R size h p again.0 (h.mul_comm p again.0 ∙ cancel_right R (domain R size h) (f d) _ R.one least.top
      (R.mul_assoc again.0 p (f d) ∙ ap (R.mul again.0) (h.mul_comm p (f d)) ∙ sym (R.mul_assoc again.0 (f d) p) ∙ ap (λ t. R.mul t p) (sym (again.1 d)) ∙ sym (all d).is ∙ sym (R.one_mul (f d)))) in
      omega (arith, one, large)
    where
      np : p ≢ R.zero
      np = sized_nonzero R size h p (omega (arith, large))

      is : (i : ℕ) → R.mul p (all i).factor ≡ f i
      is i = h.mul_comm p (all i).factor ∙ sym (all i).is

      again : (u : M) × ((i : ℕ) → (all i).factor ≡ R.mul u (f i))
      again = least.only (λ i. (all i).factor) (record {
        past = λ i l. zero_product R (domain R size h) p _ np (is i ∙ least.relation.past i l);
        is = λ j. zero_product R (domain R size h) p _ np
            (sym (combine_scale R (suc d) p (λ i. (all i).factor) rows j)
            ∙ ap (λ t. combine R (suc d) t rows j) (fun_ext is) ∙ least.relation.is j);
      })

  -- A monic relation, and the top of the least one not invertible: the factor that makes the first a multiple of
  -- the other can be divided by a divisor of that top again and again.
  module _ (k : ℕ) (c : ℕ → M) (monic : c (k + d) ≡ R.one) (large : 1 < size (f d)) where
    descend : (n : ℕ) (a : M) (g : ℕ → M) → size a ≤ n → a ≢ R.zero → ((i : ℕ) → k < i → g i ≡ R.zero) → ((i : ℕ) → R.mul a (c i) ≡ cauchy_product R g f i) → ⊥
    descend zero a g l na bound is = na (h.sizes.empty a (omega arith))
    descend (suc n) a g l na bound is =
        let top : a ≡ R.mul (g k) (f d) = sym (R.mul_one a) ∙ ap (R.mul a) (sym monic) ∙ is (k + d) ∙ product_top R k d (k + d) g f refl bound past in
        let of_a : IsMultiple R (f d) a = record { factor = g k; is = top } in
        let s = gauss R size h (suc d) (f d) g f large least.relation.past (λ i.
        multiple_as R (f d) (R.mul a (c i)) _ (sym (is i)) (multiple_through R (f d) a _ of_a (record { factor = c i; is = h.mul_comm a (c i) }))) in
        let p = s.divisor in
        let np = sized_nonzero R size h p (let m = s.large in omega (arith, m)) in
        let part = multiple_through R p (f d) a s.of of_a in
        let less : part.factor ≢ R.zero = λ z. na (part.is ∙ ap (λ t. R.mul t p) z ∙ zero_mul R p) in
        let sizes : size a + 1 ≡ size part.factor + size p =
        ap (λ t. size t + 1) part.is ∙ h.sizes.product part.factor p (some_size R size h part.factor less) (some_size R size h p np) in
        elim s.all [
          | inr all ↦ not_all p s.large all
          | inl all ↦
              descend n part.factor (λ i. (all i).factor) (let m = s.large in omega (arith, l, sizes, m)) less
              (λ i m. zero_product R (domain R size h) p _ np (h.mul_comm p _ ∙ sym (all i).is ∙ bound i m))
              (λ i. cancel R (domain R size h) p _ _ np
              (sym (R.mul_assoc p part.factor (c i)) ∙ ap (λ t. R.mul t (c i)) (h.mul_comm p part.factor ∙ sym part.is) ∙ is i
              ∙ ap (λ t. cauchy_product R t f i) (fun_ext (λ j. (all j).is ∙ h.mul_comm (all j).factor p))
              ∙ conv-scale R (λ x. x) i p (λ j. (all j).factor) f))
        ]

  -- a row that is a combination of those before it
  not_large : 1 < size (f d) → (m : ℕ) → Spans R m rows (rows m) → ⊥
  not_large large m s = elim (cases_lt m d) [
    | inl l ↦ (domain R size h).one_ne_zero (sym monic ∙ least.none c (rel_more R rows (suc m) d c (omega arith) relation) m)
    | inr l ↦
        let place : m - d + d ≡ m = omega (arith, l) in
        let t = cleared (suc (m - d)) c (rel_more R rows (suc m) (suc (m - d) + d) c (omega (arith, l)) relation) in
        descend (m - d) c (ap c place ∙ monic) large (size t.factor) t.factor t.quotient (omega arith) t.nonzero (λ i b. t.bound i (omega (arith, b))) t.is
  ]
    where
      c : ℕ → M
      c = relation_of R (suc m) rows m s.by

      monic : c m ≡ R.one
      monic = relation_at R (suc m) rows m s.by

      relation : IsRel R rows (suc m) c
      relation = record {
        past = λ i l. relation_above R (suc m) rows m s.by i (omega arith);
        is = relation_is R (suc m) rows m (omega arith) s.by s.is;
      }

  -- The top of the least relation is invertible.
  pub least_is_monic : (w : ℕ) → ((i j : ℕ) → w ≤ j → rows i j ≡ R.zero) → (b : M) × (R.mul (f d) b ≡ R.one)
  least_is_monic w far = elim (cases_lt 1 (size (f d))) [
    | inl large ↦ absurd (some_row_depends R size h w rows far (not_large large))
    | inr few ↦ let some = some_size R size h (f d) least.top in unit_inverse R size h (f d) (omega (arith, few, some))
  ]
