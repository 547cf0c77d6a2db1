-- Relations between rows, as sequences of coefficients that are zero from some place on.
use Rattle.std.proofs.Common.{◌≡◌, ℕ, zero, suc, ◌+◌, ◌<◌, ◌≤◌, inl, inr, refl, sym, ◌∙◌, ap, ap₂, subst, arith}
use mathlib.Core.Path.{fun_ext}
use Rattle.std.proofs.lemmas.Bool.{cases_lt}
use Rattle.ring_core.proofs.Carrier.{RingOn, add_zero, mul_zero, zero_mul, neg_mul, minus_same}
use Rattle.ring_core.proofs.Series.{total_first, zero_conv}
use Rattle.linear_algebra.proofs.Sums.{combine, total_rest, combine_add, combine_scale, same_or_other}
use Rattle.relation_theory.proofs.Gauss.{cauchy_product, at_each}

-- `c` is zero from `n` on, and the sum of `c i` times row `i` is zero.
pub record IsRel {M : Type 0} (R : RingOn M) (rows : ℕ → ℕ → M) (n : ℕ) (c : ℕ → M) : Type 0 where
  pub past : (i : ℕ) → n ≤ i → c i ≡ R.zero
  pub is : (j : ℕ) → combine R n c rows j ≡ R.zero

-- `x`, and then `c`.
abbrev pub before : {M : Type 0} → M → (ℕ → M) → ℕ → M
before x c zero = x
before x c (suc i) = c i

-- One at place `k`.
abbrev pub one_at : {M : Type 0} → RingOn M → ℕ → ℕ → M
one_at R zero zero = R.one
one_at R zero (suc i) = R.zero
one_at R (suc k) zero = R.zero
one_at R (suc k) (suc i) = one_at R k i

pub one_at_same : {M : Type 0} (R : RingOn M) (k : ℕ) → one_at R k k ≡ R.one
one_at_same R zero = refl
one_at_same R (suc k) = one_at_same R k

pub one_at_past : {M : Type 0} (R : RingOn M) (k i : ℕ) → k < i → one_at R k i ≡ R.zero
one_at_past R k zero l = absurd (omega arith)
one_at_past R zero (suc i) l = refl
one_at_past R (suc k) (suc i) l = one_at_past R k i (omega arith)

module _ {M : Type 0} (R : RingOn M) (rows : ℕ → ℕ → M) where
  -- the same members, as a relation of more or fewer rows
  pub rel_to : (n m : ℕ) (c : ℕ → M) → ((i : ℕ) → n ≤ i → c i ≡ R.zero) → IsRel R rows m c → IsRel R rows n c
  rel_to n m c past s = record {
    past = past;
    is = λ j. elim (cases_lt n m) [
      | inl l ↦ sym (total_rest R n m _ (omega (arith, l)) (λ i a b. none i j (past i a))) ∙ s.is j
      | inr l ↦ total_rest R m n _ l (λ i a b. none i j (s.past i a)) ∙ s.is j
    ];
  }
    where
      none : (i j : ℕ) → c i ≡ R.zero → R.mul (c i) (rows i j) ≡ R.zero
      none i j e = ap (λ t. R.mul t (rows i j)) e ∙ zero_mul R (rows i j)

  pub rel_more : (n m : ℕ) (c : ℕ → M) → n ≤ m → IsRel R rows n c → IsRel R rows m c
  rel_more n m c l s = rel_to m n c (λ i b. s.past i (omega arith)) s

  -- a relation whose last member is zero is one of fewer rows
  pub rel_less : (n : ℕ) (c : ℕ → M) → IsRel R rows (suc n) c → c n ≡ R.zero → IsRel R rows n c
  rel_less n c s e = rel_to n (suc n) c
      (λ i l. elim (same_or_other i n) [
        | inl q ↦ ap c q ∙ e
        | inr ne ↦ s.past i (omega (arith, l, ne))
      ])
      s

  pub rel_as : (n : ℕ) (c d : ℕ → M) → ((i : ℕ) → c i ≡ d i) → IsRel R rows n c → IsRel R rows n d
  rel_as n c d e = subst (IsRel R rows n) (fun_ext e)

  pub rel_add : (n : ℕ) (c d : ℕ → M) → IsRel R rows n c → IsRel R rows n d → IsRel R rows n (λ i. R.add (c i) (d i))
  rel_add n c d s t = record {
    past = λ i l. ap₂ R.add (s.past i l) (t.past i l) ∙ R.zero_add R.zero;
    is = λ j. combine_add R n c d rows j ∙ ap₂ R.add (s.is j) (t.is j) ∙ R.zero_add R.zero;
  }

  pub rel_scale : (n : ℕ) (a : M) (c : ℕ → M) → IsRel R rows n c → IsRel R rows n (λ i. R.mul a (c i))
  rel_scale n a c s = record {
    past = λ i l. ap (R.mul a) (s.past i l) ∙ mul_zero R a;
    is = λ j. combine_scale R n a c rows j ∙ ap (R.mul a) (s.is j) ∙ mul_zero R a;
  }

  -- two relations, each times the top of the other
  module _ (comm : (a b : M) → R.mul a b ≡ R.mul b a) (n : ℕ) (c e : ℕ → M) (s : IsRel R rows (suc n) c) (t : IsRel R rows (suc n) e) where
    pub rel_apart : IsRel R rows n (λ i. R.add (R.mul (e n) (c i)) (R.mul (R.neg (c n)) (e i)))
    rel_apart =
        rel_less n _ (rel_add (suc n) _ _ (rel_scale (suc n) (e n) c s) (rel_scale (suc n) (R.neg (c n)) e t))
        (ap₂ R.add (comm (e n) (c n)) (neg_mul R (c n) (e n)) ∙ R.add_neg (R.mul (c n) (e n)))

    pub proportional : ((x : ℕ → M) → IsRel R rows n x → (i : ℕ) → x i ≡ R.zero) → (i : ℕ) → R.mul (e n) (c i) ≡ R.mul (c n) (e i)
    proportional none i = minus_same R _ _ (ap (R.add (R.mul (e n) (c i))) (sym (neg_mul R (c n) (e i))) ∙ none _ rel_apart i)

  -- relations where one moved up by one place is one
  module _ (moves : (n : ℕ) (c : ℕ → M) → IsRel R rows n c → (j : ℕ) → combine R n c (λ i. rows (suc i)) j ≡ R.zero) where
    rel_shift : (n : ℕ) (c : ℕ → M) → IsRel R rows n c → IsRel R rows (suc n) (before R.zero c)
    rel_shift n c s = record {
      past = at_each (λ i. suc n ≤ i → before R.zero c i ≡ R.zero) (λ l. refl) (λ i l. s.past i (omega arith));
      is = λ j.
          total_first R n (λ i. R.mul (before R.zero c i) (rows i j))
          ∙ ap₂ R.add (zero_mul R (rows 0 j)) (moves n c s j) ∙ R.zero_add R.zero;
    }

    -- moved up by `k` places
    pub rel_raised : (k n : ℕ) (c : ℕ → M) → IsRel R rows n c → IsRel R rows (k + n) (cauchy_product R (one_at R k) c)
    rel_raised zero n c s =
        rel_as (0 + n) c _
        (at_each _ (sym (R.one_mul (c 0))) (λ i. sym (ap₂ R.add (R.one_mul (c (suc i))) (zero_conv R (λ x. x) i c) ∙ add_zero R (c (suc i)))))
        (rel_more n (0 + n) c (omega arith) s)
    rel_raised (suc k) n c s =
        rel_as (suc k + n) (before R.zero (cauchy_product R (one_at R k) c)) _
        (at_each _ (sym (zero_mul R (c 0))) (λ i. sym (ap (λ t. R.add t (cauchy_product R (one_at R k) c i)) (zero_mul R (c (suc i))) ∙ R.zero_add _)))
        (rel_more (suc (k + n)) (suc k + n) _ (omega arith) (rel_shift (k + n) _ (rel_raised k n c s)))
