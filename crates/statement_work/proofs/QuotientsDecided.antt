-- A module has a quotient, or there is a cause for which it has none.
use Rattle.std.proofs.Common.{◌≡◌, ◌≢◌, ◌<◌, ◌≤◌, ◌⊎◌, inl, inr, true, false, List, [], length, refl, ap, ◌∙◌, ⊎_elim, subst, arith}
use Rattle.std.proofs.lemmas.Bool.{and_parts, both_ways, cases_Bool, cases_lt}
use Rattle.std.proofs.lemmas.List.{nil_from_length}
use Rattle.ring_core.specs.Ring.{RingOps, IsElem, SameDecides}
use Rattle.ring_core.specs.Coeffs.{is_canonical}
use Rattle.ring_core.specs.Twisted.{list_mul}
use Rattle.ring_core.proofs.Coefficients.{elem_read}
use Rattle.ring_core.proofs.Degrees.{not_empty}
use Rattle.ring_core.proofs.ListRing.{frob_ring}
use Rattle.residue_field.specs.declared.TopElem.{TopElem}
use Rattle.residue_field.specs.Top.{Top, ops_of_top, inverse_of_top, frob_of_top}
use Rattle.residue_field.proofs.TopLaws.{top_field}
use Rattle.residue_field.proofs.TopFrob.{top_frob_field}
use Rattle.drinfeld_mod.specs.Module.{IsModule, constant_of}
use Rattle.kernel_quotient.specs.Quotient.{IsOtherFactor}
use Rattle.kernel_quotient.proofs.Factors.{quotient_found}
use Rattle.answer.specs.declared.Answer.{Answer}
use Rattle.answer.specs.declared.Answer.TheVariants as answer
use Rattle.statement_work.specs.Works.{IsQuotientOf}
use Rattle.statement_work.proofs.DivisionsExist.{right_division_exists}

-- Equality of elements is decided.
pub same_or_other : {E : Type 0} (r : RingOps E) → SameDecides r → (a b : E) → IsElem r a → IsElem r b → (a ≡ b) ⊎ (a ≢ b)
same_or_other r d a b p q =
    ⊎_elim
    (λ (same : r.same a b ≡ true). inl (d.same_eq a b p q same))
    (λ (other : r.same a b ≡ false). inr (λ e. both_ways (r.same a b) other (ap (λ x. r.same x b) e ∙ d.same_refl b q)))
    (cases_Bool (r.same a b))

module _ (t : Top) (phi u : List TopElem) (m : IsModule (ops_of_top t) phi) (cu : is_canonical (ops_of_top t) u ≡ true) where
  after_division : (c rest : List TopElem) → 0 < length u → IsOtherFactor (ops_of_top t) (frob_of_top t).frob phi u c rest → (a : Answer) × IsQuotientOf t phi u a
  after_division c rest some d =
      let z = (top_field t).ring.closed.zero_in in
      let decides = (top_field t).ring.equal in
      let own = constant_of (ops_of_top t) phi in
      let new = constant_of (ops_of_top t) c in
      let nonzero = not_empty u some in
      ⊎_elim
      (λ (no : length rest < 1).
      let none : rest ≡ [] = nil_from_length rest (omega arith) in
      ⊎_elim
      (λ (same : new ≡ own).
      (answer.Quotient c, quotient_found (ops_of_top t) (inverse_of_top t) _ (frob_of_top t) (top_field t) (top_frob_field t) phi m u c rest cu some d none same))
      (λ (other : new ≢ own).
      (answer.NoneConstant new, (nonzero, other, (c, subst (λ x. IsOtherFactor (ops_of_top t) (frob_of_top t).frob phi u c x) none d, refl))))
      (same_or_other (ops_of_top t) decides new own (elem_read (ops_of_top t) c z (and_parts _ _ d.quotient).0 0) (elem_read (ops_of_top t) phi z (and_parts _ _ m.canonical).0 0)))
      (λ (left : 1 ≤ length rest). (answer.NoneRemainder rest, (nonzero, not_empty rest left, (c, d))))
      (cases_lt (length rest) 1)

  pub quotient_or_cause : (a : Answer) × IsQuotientOf t phi u a
  quotient_or_cause =
      ⊎_elim
      (λ (no : length u < 1). (answer.NoneZero, nil_from_length u (omega arith)))
      (λ (some : 1 ≤ length u).
      let ring = frob_ring (ops_of_top t) (inverse_of_top t) _ (frob_of_top t) (top_field t) (top_frob_field t) in
      let d = right_division_exists (ops_of_top t) (inverse_of_top t) _ (frob_of_top t) (top_field t) (top_frob_field t)
      (list_mul (ops_of_top t) (frob_of_top t).frob u phi) u (ring.closed.mul_in u phi cu m.canonical) cu some in
      after_division d.0 d.1 some d.2)
      (cases_lt (length u) 1)
