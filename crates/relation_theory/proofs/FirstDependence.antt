-- Rows of bounded width over a Euclidean ring have a least relation. It is found by elimination, place after
-- place: the first row either is zero, or clears one place of all others.
use Rattle.std.proofs.Common.{◌≡◌, ◌≢◌, ℕ, zero, suc, ◌≤◌, inl, inr, refl, sym, ◌∙◌, ap, ap₂, arith}
use Rattle.std.proofs.lemmas.Bool.{cases_lt}
use Rattle.ring_core.proofs.Carrier.{RingOn, add_zero, zero_mul, mul_zero, mul_neg, neg_mul, neg_only}
use Rattle.ring_core.proofs.Series.{total_first}
use Rattle.linear_algebra.proofs.Sums.{combine, total_same, total_zero, total_add, total_right, combine_scale}
use Rattle.linear_algebra.proofs.Spans.{minus_self}
use Rattle.linear_algebra.proofs.Dependent.{IsDomain, find_nonzero, without, without_after, without_covers}
use mathlib.Core.Path.{fun_ext}
use Rattle.finite_ring.proofs.Powers.{mul_swap}
use Rattle.relation_theory.proofs.Euclid.{IsEuclidean, domain, zero_product}
use Rattle.relation_theory.proofs.Gauss.{at_each}
use Rattle.relation_theory.proofs.Relations.{IsRel, rel_more, before}
use Rattle.relation_theory.proofs.Least.{IsLeast}
use Rattle.relation_theory.proofs.Content.{primitive, primitive_least}

-- A relation of `count + 1` rows whose top isn't zero, where `count` rows have none.
pub record FirstDependence {M : Type 0} (R : RingOn M) (rows : ℕ → ℕ → M) (w : ℕ) : Type 0 where
  pub count : ℕ
  pub within : count ≤ w
  pub by : ℕ → M
  pub relation : IsRel R rows (suc count) by
  pub top : by count ≢ R.zero
  pub none : (c : ℕ → M) → IsRel R rows count c → (i : ℕ) → c i ≡ R.zero

module _ {M : Type 0} (R : RingOn M) (h : IsDomain R) where
  zero_row : (rows : ℕ → ℕ → M) (w : ℕ) → ((j : ℕ) → rows 0 j ≡ R.zero) → FirstDependence R rows w
  zero_row rows w z = record {
    count = 0;
    within = omega arith;
    by = before R.one (λ _. R.zero);
    relation = record {
      past = at_each (λ i. 1 ≤ i → before R.one (λ _. R.zero) i ≡ R.zero) (λ l. absurd (omega arith)) (λ i l. refl);
      is = λ j. R.zero_add _ ∙ R.one_mul (rows 0 j) ∙ z j;
    };
    top = h.one_ne_zero;
    none = λ c s i. s.past i (omega arith);
  }

  module _ (rows : ℕ → ℕ → M) (q : ℕ) (ne : rows 0 q ≢ R.zero) where
    -- the other rows times the member of row 0 at `q`, with zero there
    cleared : ℕ → ℕ → M
    cleared i j = R.add (R.mul (rows 0 q) (rows (suc i) j)) (R.neg (R.mul (rows (suc i) q) (rows 0 j)))

    -- a combination of them, as one of the rows
    raised : ℕ → (ℕ → M) → ℕ → M
    raised n c = before (R.neg (combine R n c (λ i. rows (suc i)) q)) (λ i. R.mul (rows 0 q) (c i))

    combine_cleared : (n : ℕ) (c : ℕ → M) (j : ℕ) → combine R (suc n) (raised n c) rows j ≡ combine R n c cleared j
    unfolding cleared raised
    combine_cleared n c j =
        total_first R n (λ i. R.mul (raised n c i) (rows i j)) ∙ R.add_comm _ _
        ∙ ap (R.add _)
        (neg_mul R _ (rows 0 j) ∙ sym (mul_neg R _ (rows 0 j)) ∙ sym (total_right R n (R.neg (rows 0 j)) (λ i. R.mul (c i) (rows (suc i) q))))
        ∙ sym (total_add R n _ _)
        ∙ total_same R n _ _ (λ i _.
        ap₂ R.add (R.mul_assoc (rows 0 q) (c i) (rows (suc i) j) ∙ mul_swap R h.mul_comm (rows 0 q) (c i) (rows (suc i) j))
        (R.mul_assoc (c i) (rows (suc i) q) (R.neg (rows 0 j)) ∙ ap (R.mul (c i)) (mul_neg R (rows (suc i) q) (rows 0 j)))
        ∙ sym (R.mul_add (c i) _ _))

    cleared_past : (i j : ℕ) → rows (suc i) j ≡ R.zero → rows 0 j ≡ R.zero → cleared i j ≡ R.zero
    unfolding cleared
    cleared_past i j e f =
        minus_self R _ _ (ap (R.mul (rows 0 q)) e ∙ mul_zero R _ ∙ sym (ap (R.mul (rows (suc i) q)) f ∙ mul_zero R _))

    -- a relation of the cleared rows at the places other than `q`
    all_places : (n : ℕ) (c : ℕ → M) → IsRel R (λ i j. cleared i (without q j)) n c → (j : ℕ) → combine R n c cleared j ≡ R.zero
    unfolding cleared
    all_places n c s j = elim (without_covers q j) [
      | inl e ↦ total_zero R n _ (λ i _. ap (R.mul (c i)) (ap (cleared i) e ∙ minus_self R _ _ (h.mul_comm (rows 0 q) (rows (suc i) q))) ∙ mul_zero R (c i))
      | inr k ↦ ap (combine R n c cleared) (sym k.1) ∙ s.is k.0
    ]

    -- a relation without its first member
    module _ (n : ℕ) (c : ℕ → M) (s : IsRel R rows (suc n) c) where
      tail : ℕ → M
      tail i = c (suc i)

      scaled : (i : ℕ) → raised n tail i ≡ R.mul (rows 0 q) (c i)
      unfolding raised tail
      scaled = at_each _
          (sym (neg_only R (combine R n (λ i. c (suc i)) (λ i. rows (suc i)) q) (R.mul (rows 0 q) (c 0))
          (R.add_comm _ _ ∙ ap₂ R.add (h.mul_comm (rows 0 q) (c 0)) refl ∙ sym (total_first R n (λ i. R.mul (c i) (rows i q))) ∙ s.is q)))
          (λ i. refl)

      tail_relation : IsRel R (λ i j. cleared i (without q j)) n tail
      unfolding tail
      tail_relation = record {
        past = λ i l. s.past (suc i) (omega arith);
        is = λ j.
            sym (combine_cleared n tail (without q j)) ∙ ap (λ t. combine R (suc n) t rows (without q j)) (fun_ext scaled)
            ∙ combine_scale R (suc n) (rows 0 q) c rows (without q j) ∙ ap (R.mul (rows 0 q)) (s.is (without q j)) ∙ mul_zero R (rows 0 q);
      }

      first_zero : ((i : ℕ) → c (suc i) ≡ R.zero) → c 0 ≡ R.zero
      first_zero e =
          zero_product R h (rows 0 q) (c 0) ne
          (h.mul_comm (rows 0 q) (c 0)
          ∙ sym (total_first R n (λ i. R.mul (c i) (rows i q))
          ∙ ap (R.add _) (total_zero R n _ (λ i _. ap (λ t. R.mul t (rows (suc i) q)) (e i) ∙ zero_mul R _)) ∙ add_zero R _)
          ∙ s.is q)

    with_first : (w : ℕ) → FirstDependence R (λ i j. cleared i (without q j)) w → FirstDependence R rows (suc w)
    unfolding raised tail
    with_first w s = record {
      count = suc s.count;
      within = let l = s.within in omega (arith, l);
      by = raised (suc s.count) s.by;
      relation = record {
        past = at_each (λ i. suc (suc s.count) ≤ i → raised (suc s.count) s.by i ≡ R.zero) (λ l. absurd (omega arith))
            (λ i l. ap (R.mul (rows 0 q)) (s.relation.past i (omega arith)) ∙ mul_zero R (rows 0 q));
        is = λ j. combine_cleared (suc s.count) s.by j ∙ all_places (suc s.count) s.by s.relation j;
      };
      top = h.product (rows 0 q) (s.by s.count) ne s.top;
      none = λ c t.
          let later = s.none (tail s.count c t) (tail_relation s.count c t) in
          at_each (λ i. c i ≡ R.zero) (first_zero s.count c t later) later;
    }

  pub first_dependence : (w : ℕ) (rows : ℕ → ℕ → M) → ((i j : ℕ) → w ≤ j → rows i j ≡ R.zero) → FirstDependence R rows w
  first_dependence zero rows past = zero_row rows 0 (λ j. past 0 j (omega arith))
  first_dependence (suc w) rows past = elim (find_nonzero R h (suc w) (rows 0)) [
    | inl s ↦ with_first rows s.0 s.2 w
        (first_dependence w (λ i j. cleared rows s.0 s.2 i (without s.0 j)) (λ i j l.
        let e = without_after s.0 j (let b = s.1 in omega (arith, b, l)) in
        let far : suc w ≤ without s.0 j = omega (arith, e, l) in
        cleared_past rows s.0 s.2 i (without s.0 j) (past (suc i) _ far) (past 0 _ far)))
    | inr none ↦ zero_row rows (suc w) (λ j. elim (cases_lt j (suc w)) [
      | inl l ↦ none j l
      | inr l ↦ past 0 j l
    ])
  ]

  -- more rows than places have a relation
  pub too_many : (w : ℕ) (rows : ℕ → ℕ → M) → ((i j : ℕ) → w ≤ j → rows i j ≡ R.zero) → ((c : ℕ → M) → IsRel R rows (suc w) c → (i : ℕ) → c i ≡ R.zero) → ⊥
  too_many w rows past none =
      let s = first_dependence w rows past in
      s.top (none s.by (rel_more R rows (suc s.count) (suc w) s.by (let l = s.within in omega (arith, l)) s.relation) s.count)

-- A least relation of rows of bounded width.
pub record LeastOfRows {M : Type 0} (R : RingOn M) (rows : ℕ → ℕ → M) : Type 0 where
  pub degree : ℕ
  pub relation : ℕ → M
  pub is : IsLeast R rows degree relation

pub least_of_rows : {M : Type 0} (R : RingOn M) (size : M → ℕ) → IsEuclidean R size → (w : ℕ) (rows : ℕ → ℕ → M) → ((i j : ℕ) → w ≤ j → rows i j ≡ R.zero) → LeastOfRows R rows
least_of_rows R size h w rows past =
    let s = first_dependence R (domain R size h) w rows past in
    record {
      degree = s.count;
      relation = primitive R size h rows s.count s.none s.by s.relation s.top;
      is = primitive_least R size h rows s.count s.none s.by s.relation s.top;
    }
