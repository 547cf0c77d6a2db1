-- The greatest common divisor of the members of a relation. Divided by it, the relation is the least one, where
-- fewer rows have none.
use Rattle.std.proofs.Common.{◌≡◌, ◌≢◌, ℕ, zero, suc, ◌<◌, inl, inr, sym, ◌∙◌, ap, ap₂, arith}
use Rattle.std.proofs.lemmas.Bool.{cases_lt}
use mathlib.Core.Path.{fun_ext}
use Rattle.ring_core.proofs.Carrier.{RingOn, mul_zero, zero_mul}
use Rattle.linear_algebra.proofs.Sums.{combine, combine_scale, same_or_other}
use Rattle.finite_ring.proofs.Powers.{mul_swap}
use Rattle.relation_theory.proofs.Euclid.{IsEuclidean, IsMultiple, multiple_zero, multiple_as, multiple_sum, multiple_through, zero_product, cancel, cancel_right, domain, bezout}
use Rattle.relation_theory.proofs.Relations.{IsRel, proportional}
use Rattle.relation_theory.proofs.Least.{IsLeast}

-- A common divisor of the first `n` members: what divides each of them times `z` divides it times `z`.
pub record Content {M : Type 0} (R : RingOn M) (n : ℕ) (f : ℕ → M) : Type 0 where
  pub divisor : M
  pub divides : (i : ℕ) → i < n → IsMultiple R divisor (f i)
  pub greatest : (p z : M) → ((i : ℕ) → i < n → IsMultiple R p (R.mul z (f i))) → IsMultiple R p (R.mul z divisor)

module _ {M : Type 0} (R : RingOn M) (size : M → ℕ) (h : IsEuclidean R size) where
  pub content : (n : ℕ) (f : ℕ → M) → Content R n f
  content zero f = record {
    divisor = R.zero;
    divides = λ i l. absurd (omega arith);
    greatest = λ p z all. multiple_zero R p _ (mul_zero R z);
  }
  content (suc n) f =
      let s = content n f in
      let g = bezout R size h s.divisor (f n) in
      record {
        divisor = g.divisor;
        divides = λ i l. elim (same_or_other i n) [
          | inl e ↦ multiple_as R g.divisor (f n) (f i) (ap f e) g.of_right
          | inr ne ↦ multiple_through R g.divisor s.divisor (f i) g.of_left (s.divides i (omega (arith, l, ne)))
        ];
        greatest = λ p z all.
            multiple_as R p _ (R.mul z g.divisor)
            (ap (R.mul z) g.is ∙ R.mul_add z _ _ ∙ ap₂ R.add (mul_swap R h.mul_comm z g.left s.divisor) (mul_swap R h.mul_comm z g.right (f n)))
            (multiple_sum R p (R.mul z s.divisor) (R.mul z (f n)) g.left g.right (s.greatest p z (λ i l. all i (omega arith))) (all n (omega arith)));
      }

  -- A relation of `d + 1` rows whose top isn't zero, where `d` rows have none.
  module _ (rows : ℕ → ℕ → M) (d : ℕ) (none : (c : ℕ → M) → IsRel R rows d c → (i : ℕ) → c i ≡ R.zero)
      (f : ℕ → M) (relation : IsRel R rows (suc d) f) (top : f d ≢ R.zero) where
    whole : Content R (suc d) f
    whole = content (suc d) f

    member : (i : ℕ) → IsMultiple R whole.divisor (f i)
    member i = elim (cases_lt i (suc d)) [
      | inl l ↦ whole.divides i l
      | inr l ↦ multiple_zero R whole.divisor (f i) (relation.past i l)
    ]

    -- The relation divided by the common divisor of its members.
    pub primitive : ℕ → M
    primitive i = (member i).factor

    is_part : (i : ℕ) → R.mul whole.divisor (primitive i) ≡ f i
    unfolding primitive
    is_part i = h.mul_comm whole.divisor (primitive i) ∙ sym (member i).is

    divisor_nonzero : whole.divisor ≢ R.zero
    divisor_nonzero z = top (sym (is_part d) ∙ ap (λ t. R.mul t (primitive d)) z ∙ zero_mul R (primitive d))

    primitive_top : primitive d ≢ R.zero
    primitive_top z = top (sym (is_part d) ∙ ap (R.mul whole.divisor) z ∙ mul_zero R whole.divisor)

    primitive_relation : IsRel R rows (suc d) primitive
    primitive_relation = record {
      past = λ i l. zero_product R (domain R size h) whole.divisor _ divisor_nonzero (is_part i ∙ relation.past i l);
      is = λ j.
          zero_product R (domain R size h) whole.divisor _ divisor_nonzero
          (sym (combine_scale R (suc d) whole.divisor primitive rows j)
          ∙ ap (λ t. combine R (suc d) t rows j) (fun_ext is_part) ∙ relation.is j);
    }

    -- the top of another relation is a multiple of the top, since it is one times each member
    other_top : (c : ℕ → M) → IsRel R rows (suc d) c → IsMultiple R (primitive d) (c d)
    other_top c s =
        let m = whole.greatest (f d) (c d) (λ i l. record { factor = c i; is = sym (proportional R rows h.mul_comm d c f s relation none i) ∙ h.mul_comm (f d) (c i) }) in
        record {
          factor = m.factor;
          is =
              cancel_right R (domain R size h) whole.divisor _ _ divisor_nonzero
              (m.is ∙ ap (R.mul m.factor) (sym (is_part d) ∙ h.mul_comm whole.divisor (primitive d)) ∙ sym (R.mul_assoc m.factor (primitive d) whole.divisor));
        }

    pub primitive_least : IsLeast R rows d primitive
    primitive_least = record {
      relation = primitive_relation;
      top = primitive_top;
      none = none;
      only = λ c s.
          let u = other_top c s in (
            u.factor,
            λ i. cancel R (domain R size h) (primitive d) (c i) (R.mul u.factor (primitive i)) primitive_top
                (proportional R rows h.mul_comm d c primitive s primitive_relation none i
                ∙ ap (λ t. R.mul t (primitive i)) (u.is ∙ h.mul_comm u.factor (primitive d)) ∙ R.mul_assoc (primitive d) u.factor (primitive i)),
          );
    }
