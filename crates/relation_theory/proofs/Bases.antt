-- The least relation from bases of relations: where the first `d` rows have none, and the first `d + 1` have
-- a basis of relations that isn't empty, its first member is the least relation.
use Rattle.std.proofs.Common.{◌≡◌, ◌≢◌, ℕ, zero, suc, ◌<◌, ◌≤◌, refl, sym, ◌∙◌, ap, arith}
use Rattle.ring_core.proofs.Carrier.{RingOn, zero_mul, neg_mul}
use Rattle.linear_algebra.proofs.Sums.{combine, unit, unit_combine, unit_same, total_rest}
use Rattle.linear_algebra.proofs.Spans.{Spans, minus_self}
use Rattle.linear_algebra.proofs.Dependent.{IsDomain}
use Rattle.relation_theory.proofs.Relations.{IsRel, rel_less, proportional, before}
use Rattle.relation_theory.proofs.Least.{IsLeast}

-- Each relation of the first `n` rows is a combination of the `count` members of the basis, by exactly one list
-- of coefficients.
pub record IsBasisOfRelations {M : Type 0} (R : RingOn M) (rows : ℕ → ℕ → M) (n count : ℕ) (basis : ℕ → ℕ → M) : Type 0 where
  pub relations : (i : ℕ) → i < count → IsRel R rows n (basis i)
  pub spans : (c : ℕ → M) → IsRel R rows n c → Spans R count basis c
  pub independent : (c : ℕ → M) → ((j : ℕ) → combine R count c basis j ≡ R.zero) → (i : ℕ) → i < count → c i ≡ R.zero

module _ {M : Type 0} (R : RingOn M) (h : IsDomain R) (rows : ℕ → ℕ → M) (d : ℕ) (none : (c : ℕ → M) → IsRel R rows d c → (i : ℕ) → c i ≡ R.zero) where
  basis_top : (count : ℕ) (basis : ℕ → ℕ → M) → IsBasisOfRelations R rows (suc d) count basis → 0 < count → basis 0 d ≢ R.zero
  basis_top count basis s l e =
      h.one_ne_zero
      (sym (unit_same R 0 0 refl)
      ∙ s.independent (unit R 0) (λ j. unit_combine R count 0 basis j l ∙ none (basis 0) (rel_less R rows d (basis 0) (s.relations 0 l) e) j) 0 l)

  -- of two members, each times the top of the other is the same
  one_member : (count : ℕ) (basis : ℕ → ℕ → M) → IsBasisOfRelations R rows (suc d) (suc (suc count)) basis → ⊥
  one_member count basis s =
      basis_top (suc (suc count)) basis s (omega arith) (s.independent by zeros 1 (omega arith))
    where
      by : ℕ → M
      by = before (R.neg (basis 1 d)) (before (basis 0 d) (λ _. R.zero))

      rest : (i : ℕ) → 2 ≤ i → by i ≡ R.zero
      rest zero l = absurd (omega arith)
      rest (suc zero) l = absurd (omega arith)
      rest (suc (suc i)) l = refl

      zeros : (j : ℕ) → combine R (suc (suc count)) by basis j ≡ R.zero
      zeros j =
          total_rest R 2 (suc (suc count)) _ (omega arith) (λ i a b. ap (λ t. R.mul t (basis i j)) (rest i a) ∙ zero_mul R (basis i j))
          ∙ ap (λ t. R.add t (R.mul (basis 0 d) (basis 1 j))) (R.zero_add _ ∙ neg_mul R (basis 1 d) (basis 0 j)) ∙ R.add_comm _ _
          ∙ minus_self R _ _ (proportional R rows h.mul_comm d (basis 1) (basis 0) (s.relations 1 (omega arith)) (s.relations 0 (omega arith)) none j)

  pub least_of_basis : (count : ℕ) (basis : ℕ → ℕ → M) → IsBasisOfRelations R rows (suc d) count basis → 0 < count → IsLeast R rows d (basis 0)
  least_of_basis zero basis s l = absurd (omega arith)
  least_of_basis (suc zero) basis s l = record {
    relation = s.relations 0 l;
    top = basis_top 1 basis s l;
    none = none;
    only = λ c t. let p = s.spans c t in (p.by 0, λ i. p.is i ∙ R.zero_add _);
  }
  least_of_basis (suc (suc count)) basis s l = absurd (one_member count basis s)
