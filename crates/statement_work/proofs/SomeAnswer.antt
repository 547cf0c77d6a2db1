-- A form whose operands have values, and which nothing refuses, has an answer.
use Rattle.std.proofs.Common.{◌≡◌, ◌⊎◌, inl, inr, ℕ, ◌<◌, ◌≤◌, not, Bool, true, false, Option, Some, None, List, [], ◌∷◌, length, refl, sym, ap, subst, ◌∙◌, arith}
use Rattle.std.specs.Prelude.{is_some, nat_lt}
use Rattle.std.proofs.lemmas.Bool.{false≢true, and_parts, ltb-true, cases_eq}
use Rattle.ring_core.specs.Coeffs.{is_canonical}
use Rattle.ring_core.specs.Twisted.{list_mul}
use Rattle.ring_core.proofs.Coefficients.{elem_read}
use Rattle.ring_core.proofs.ListRing.{frob_ring}
use Rattle.residue_field.specs.declared.TopElem.{TopElem}
use Rattle.residue_field.specs.Base.{ops_of, inverse_of, size_of}
use Rattle.residue_field.specs.Top.{Top, ops_of_top, inverse_of_top, frob_of_top}
use Rattle.residue_field.proofs.BaseLaws.{base_field}
use Rattle.residue_field.proofs.TopLaws.{top_field}
use Rattle.residue_field.proofs.TopFrob.{top_frob_field}
use Rattle.field_tower.proofs.BaseValues.{size_large}
use Rattle.drinfeld_mod.specs.Module.{IsModule, rank_of, constant_of}
use Rattle.drinfeld_mod.proofs.Lowest.{exists, one_height}
use Rattle.drinfeld_mod.proofs.Periods.{least_exists}
use Rattle.morphism.specs.Homomorphism.{IsHomomorphism}
use Rattle.script_statement.specs.declared.Form.{Form}
use Rattle.script_statement.specs.declared.Form.TheVariants as form
use Rattle.answer.specs.declared.Answer.{Answer}
use Rattle.answer.specs.declared.Answer.TheVariants as answer
use Rattle.answer.specs.declared.Value.{Value}
use Rattle.answer.specs.declared.Value.TheVariants as value
use Rattle.operand_value.specs.Operands.{list_values}
use Rattle.statement_operands.specs.declared.Need.{Need}
use Rattle.statement_operands.specs.declared.Need.TheVariants as need
use Rattle.statement_operands.specs.Asked.{unknown_name}
use Rattle.statement_operands.specs.Demands.{demands}
use Rattle.statement_operands.specs.Names.{value_of}
use Rattle.statement_operands.specs.Resolved.{AreOperands}
use Rattle.statement_operands.specs.Values.{module_value, twisted_value}
use Rattle.statement_work.specs.Greatest.{greatest_degree}
use Rattle.statement_work.specs.Refusals.{is_nil, has_invariant, own_refusal}
use Rattle.statement_work.specs.Works.{IsTruth, IsShown, IsItsHeight, Works}
use Rattle.statement_work.proofs.DivisionsExist.{right_division_exists, left_division_exists}
use Rattle.statement_work.proofs.InvariantsExist.{invariant_exists}
use Rattle.statement_work.proofs.ListsExist.{some_bounded, some_full, isomorphism_of, isogeny_of}
use Rattle.statement_work.proofs.MultiplesExist.{common_exists, multiple_exists}
use Rattle.statement_work.proofs.QuotientsDecided.{same_or_other, quotient_or_cause}
use Rattle.statement_work.proofs.Refused.{not_when}
use Rattle.statement_work.proofs.RelationsExist.{some_motive, some_relation, power_of_relation}

truth_of : (P : Type 0) → P ⊎ (P → ⊥) → (a : Answer) × IsTruth a P
truth_of P d = elim d [
  | inl p ↦ (answer.Truth true, (true, refl, (λ t. p, λ q. refl)))
  | inr n ↦ (answer.Truth false, (false, refl, (λ t. absurd (false≢true t), λ q. absurd (n q))))
]

shown : (v : Option Value) → not (is_some v) ≡ false → (a : Answer) × IsShown v a
shown None h = absurd (false≢true (sym h))
shown (Some v) h = (answer.Shown v, refl)

abbrev is_top_need : Need → Bool
is_top_need need.ATop = true
is_top_need n = false

not_over : (n : Need) → n ≡ need.ATop → is_top_need n ≡ false → ⊥
not_over n e h = false≢true (sym h ∙ ap is_top_need e)

not_nil : {A : Type 0} (u : List A) → is_nil u ≡ false → 0 < length u
not_nil [] h = absurd (false≢true (sym h))
not_nil (x ∷ xs) h = omega arith

is_there : (b : Bool) → not b ≡ false → b ≡ true
is_there true h = refl
is_there false h = absurd (false≢true (sym h))

module _ (t : Top) where
  homomorphism_or : (phi psi u : List TopElem) → IsModule (ops_of_top t) phi → IsModule (ops_of_top t) psi → is_canonical (ops_of_top t) u ≡ true
      → IsHomomorphism (ops_of_top t) (frob_of_top t).frob phi psi u ⊎ (IsHomomorphism (ops_of_top t) (frob_of_top t).frob phi psi u → ⊥)
  homomorphism_or phi psi u mp ms cu =
      let ring = frob_ring (ops_of_top t) (inverse_of_top t) _ (frob_of_top t) (top_field t) (top_frob_field t) in
      elim (same_or_other _ ring.equal (list_mul (ops_of_top t) (frob_of_top t).frob u phi) (list_mul (ops_of_top t) (frob_of_top t).frob psi u)
      (ring.closed.mul_in u phi cu mp.canonical) (ring.closed.mul_in psi u ms.canonical cu)) [
        | inl same ↦ inl (record { canonical = cu; commutes = same })
        | inr other ↦ inr (λ h. other h.commutes)
      ]

  height_is : (phi : List TopElem) (n : ℕ) → IsModule (ops_of_top t) phi → IsItsHeight t phi n ⊎ (IsItsHeight t phi n → ⊥)
  height_is phi n m =
      let h = exists (ops_of_top t) (inverse_of_top t) (ops_of t.base) (inverse_of t.base) (frob_of_top t) (top_field t) (base_field t.base) (top_frob_field t) phi m in
      elim (cases_eq h.0 n) [
        | inl same ↦ inl (subst (IsItsHeight t phi) same h.1)
        | inr other ↦ inr (λ g. other
            (one_height (ops_of_top t) (inverse_of_top t) (ops_of t.base) (inverse_of t.base) (frob_of_top t) (top_field t) (base_field t.base) (top_frob_field t) phi m h.0 n h.1 g))
      ]

  pub some_work : (ns : List (List ℕ × Value)) (f : Form) → AreOperands t ns (demands f) → (demands f).field ≡ need.ATop
      → unknown_name ns (demands f) ≡ false → own_refusal t ns f ≡ None → (a : Answer) × Works t ns f a
  some_work ns (form.Base p s modulus) o over known free = absurd (not_over _ over refl)
  some_work ns (form.Over n modulus) o over known free = absurd (not_over _ over refl)
  some_work ns (form.Module name list) o over known free = (answer.Named name (value.Module (list_values t list)), refl)
  some_work ns (form.Ore name u) o over known free = (answer.Named name (value.Ore (twisted_value t ns u)), refl)
  some_work ns (form.Show name) o over known free = shown (value_of ns name.bytes) known
  some_work ns (form.Rank m) o over known free = (_, refl)
  some_work ns (form.Char m) o over known free =
      let phi = module_value t ns m in
      let p = least_exists (ops_of_top t) (inverse_of_top t) (ops_of t.base) (inverse_of t.base) (frob_of_top t) (top_field t) (base_field t.base) (top_frob_field t)
      (constant_of (ops_of_top t) phi) (elem_read (ops_of_top t) phi (top_field t).ring.closed.zero_in (and_parts _ _ o.phi.canonical).0 0) in
      (answer.BasePoly p.0, (p.0, refl, p.1))
  some_work ns (form.Height m) o over known free =
      let h = exists (ops_of_top t) (inverse_of_top t) (ops_of t.base) (inverse_of t.base) (frob_of_top t) (top_field t) (base_field t.base) (top_frob_field t) (module_value t ns m) o.phi in
      (answer.Number h.0, (h.0, refl, h.1))
  some_work ns (form.Ordinary m) o over known free = truth_of _ (height_is (module_value t ns m) 1 o.phi)
  some_work ns (form.Supersingular m) o over known free = truth_of _ (height_is (module_value t ns m) (rank_of (module_value t ns m)) o.phi)
  some_work ns (form.J m k) o over known free =
      let phi = module_value t ns m in
      let parts = and_parts (nat_lt 0 k) _ (is_there (has_invariant phi k) (not_when _ _ free)) in
      let large : 2 ≤ size_of t.base = size_large t.base in
      let x = invariant_exists (ops_of_top t) (inverse_of_top t) (ops_of t.base) (frob_of_top t) (top_field t) (top_frob_field t) (size_of t.base) (omega (arith, large)) phi o.phi k (ltb-true 0 k parts.0) in
      (answer.Element x.0, (x.0, refl, x.1))
  some_work ns (form.Image m c name) o over known free = (_, refl)
  some_work ns (form.Add u v name) o over known free = (_, refl)
  some_work ns (form.Sub u v name) o over known free = (_, refl)
  some_work ns (form.Mul u v name) o over known free = (_, refl)
  some_work ns (form.Rdiv u v) o over known free =
      let d = right_division_exists (ops_of_top t) (inverse_of_top t) _ (frob_of_top t) (top_field t) (top_frob_field t) (twisted_value t ns u) (twisted_value t ns v) o.u o.v
      (not_nil _ (not_when _ _ free)) in
      (answer.Division d.0 d.1, (d.0, d.1, refl, d.2))
  some_work ns (form.Ldiv u v) o over known free =
      let d = left_division_exists (ops_of_top t) (inverse_of_top t) _ (frob_of_top t) (top_field t) (top_frob_field t) (twisted_value t ns u) (twisted_value t ns v) o.u o.v
      (not_nil _ (not_when _ _ free)) in
      (answer.Division d.0 d.1, (d.0, d.1, refl, d.2))
  some_work ns (form.Common u v) o over known free =
      let d = common_exists (ops_of_top t) (inverse_of_top t) _ (frob_of_top t) (top_field t) (top_frob_field t) (twisted_value t ns u) (twisted_value t ns v) o.u o.v in
      (answer.Common (record { d = d.0; s = d.1; w = d.2 }), (record { d = d.0; s = d.1; w = d.2 }, refl, d.3))
  some_work ns (form.Multiple u v) o over known free =
      let d = multiple_exists (ops_of_top t) (inverse_of_top t) _ (frob_of_top t) (top_field t) (top_frob_field t) (twisted_value t ns u) (twisted_value t ns v) o.u o.v in
      (answer.Multiple (record { m = d.0; s = d.1; w = d.2 }), (record { m = d.0; s = d.1; w = d.2 }, refl, d.3))
  some_work ns (form.Check m n u) o over known free =
      truth_of _ (homomorphism_or (module_value t ns m) (module_value t ns n) (twisted_value t ns u) o.phi o.psi o.u)
  some_work ns (form.Quotient m u name) o over known free = quotient_or_cause t (module_value t ns m) (twisted_value t ns u) o.phi o.u
  some_work ns (form.Iso m n) o over known free =
      let list = some_bounded t (module_value t ns m) (module_value t ns n) o.phi o.psi 0 in
      isomorphism_of t (module_value t ns m) (module_value t ns n) list.0 list.1
  some_work ns (form.Isogenous m n) o over known free =
      let list = some_full t (module_value t ns m) (module_value t ns n) o.phi o.psi in
      isogeny_of t (module_value t ns m) (module_value t ns n) list.0 list.1
  some_work ns (form.Bounded m n d) o over known free =
      let list = some_bounded t (module_value t ns m) (module_value t ns n) o.phi o.psi d in
      (answer.Members list.0, (list.0, refl, list.1))
  some_work ns (form.Full m n) o over known free =
      let list = some_full t (module_value t ns m) (module_value t ns n) o.phi o.psi in
      (answer.Members list.0, (list.0, refl, list.1))
  some_work ns (form.Fullsize m n) o over known free =
      let list = some_full t (module_value t ns m) (module_value t ns n) o.phi o.psi in
      (answer.Count (length list.0) (greatest_degree list.0), (list.0, refl, list.1))
  some_work ns (form.Motive m u) o over known free =
      let list = some_motive t (module_value t ns m) o.phi (twisted_value t ns u) o.u in
      (answer.Motive list.0, (list.0, refl, list.1))
  some_work ns (form.Frob m) o over known free =
      let relation = some_relation t (module_value t ns m) o.phi in
      (answer.Relation relation.0, (relation.0, refl, relation.1))
  some_work ns (form.Frobpower m) o over known free =
      let relation = some_relation t (module_value t ns m) o.phi in
      power_of_relation t (module_value t ns m) relation.0 relation.1
