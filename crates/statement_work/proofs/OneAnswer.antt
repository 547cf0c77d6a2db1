-- A form whose operands have values has at most one answer.
use Rattle.std.proofs.Common.{◌≡◌, ◌≢◌, ℕ, Bool, true, false, Option, Some, None, List, [], refl, sym, ap, ap₂, ◌∙◌}
use Rattle.std.specs.Prelude.{IsTrue}
use Rattle.ring_core.specs.Coeffs.{is_canonical}
use Rattle.residue_field.specs.declared.TopElem.{TopElem}
use Rattle.residue_field.specs.Base.{ops_of, inverse_of, size_of}
use Rattle.residue_field.specs.Top.{Top, ops_of_top, inverse_of_top, frob_of_top}
use Rattle.residue_field.proofs.BaseLaws.{base_field}
use Rattle.residue_field.proofs.TopLaws.{top_field}
use Rattle.residue_field.proofs.TopFrob.{top_frob_field}
use Rattle.field_tower.proofs.BaseValues.{size_large}
use Rattle.ore_divide.proofs.Unique.{right_division, common_divisor, least_multiple}
use Rattle.ore_divide.proofs.LeftUnique.{left_division}
use Rattle.drinfeld_mod.specs.Module.{IsModule, constant_of}
use Rattle.drinfeld_mod.proofs.Lowest.{one_characteristic, one_height}
use Rattle.drinfeld_mod.proofs.Norms.{same_invariant}
use Rattle.kernel_quotient.specs.Quotient.{IsOtherFactor, IsQuotient}
use Rattle.kernel_quotient.proofs.Factors.{no_quotient_rest, no_quotient_constant, one_quotient}
use Rattle.script_statement.specs.declared.Form.{Form}
use Rattle.script_statement.specs.declared.Form.TheVariants as form
use Rattle.answer.specs.declared.Answer.{Answer}
use Rattle.answer.specs.declared.Answer.TheVariants as answer
use Rattle.answer.specs.declared.Value.{Value}
use Rattle.statement_operands.specs.Demands.{demands}
use Rattle.statement_operands.specs.Names.{value_of}
use Rattle.statement_operands.specs.Resolved.{AreOperands}
use Rattle.statement_operands.specs.Values.{module_value, twisted_value}
use Rattle.statement_work.specs.Works.{IsTruth, IsShown, IsDivided, IsCommonOf, IsMultipleOf, IsQuotientOf, Works}
use Rattle.statement_work.proofs.ListsOnce.{one_members, one_bounded, one_full, one_count, one_isomorphism, one_isogeny}
use Rattle.statement_work.proofs.RelationsOnce.{one_motive, one_relation, one_power}

same_truth : (x y : Bool) → (IsTrue x → IsTrue y) → (IsTrue y → IsTrue x) → x ≡ y
same_truth true y h g = sym (h refl)
same_truth false true h g = g refl
same_truth false false h g = refl

one_truth : (a b : Answer) (P : Type 0) → IsTruth a P → IsTruth b P → a ≡ b
one_truth a b P h g =
    h.1 ∙ ap (λ x. answer.Truth x) (same_truth h.0 g.0 (λ t. g.2.1 (h.2.0 t)) (λ t. h.2.1 (g.2.0 t))) ∙ sym g.1

one_shown : (v : Option Value) (a b : Answer) → IsShown v a → IsShown v b → a ≡ b
one_shown None a b h g = absurd h
one_shown (Some v) a b h g = h ∙ sym g

one_divided : (a b : Answer) (P : List TopElem → List TopElem → Type 0) → ((c d rest other : List TopElem) → P c rest → P d other → (c ≡ d) × (rest ≡ other))
    → IsDivided a P → IsDivided b P → a ≡ b
one_divided a b P once h g =
    let same = once h.0 g.0 h.1 g.1 h.3 g.3 in
    h.2 ∙ ap₂ (λ c rest. answer.Division c rest) same.0 same.1 ∙ sym g.2

module _ (t : Top) where
  one_common : (u v : List TopElem) (a b : Answer) → is_canonical (ops_of_top t) u ≡ true → is_canonical (ops_of_top t) v ≡ true → IsCommonOf t u v a → IsCommonOf t u v b → a ≡ b
  one_common u v a b cu cv h g =
      let same = common_divisor (ops_of_top t) (inverse_of_top t) _ (frob_of_top t) (top_field t) (top_frob_field t) u v h.0.d h.0.s h.0.w g.0.d g.0.s g.0.w cu cv h.2 g.2 in
      h.1 ∙ ap₂ {B = List TopElem × List TopElem} (λ d p. answer.Common (record { d = d; s = p.0; w = p.1 })) same.0 (ap₂ (λ s w. (s, w)) same.1 same.2) ∙ sym g.1

  one_multiple : (u v : List TopElem) (a b : Answer) → is_canonical (ops_of_top t) u ≡ true → is_canonical (ops_of_top t) v ≡ true → IsMultipleOf t u v a → IsMultipleOf t u v b → a ≡ b
  one_multiple u v a b cu cv h g =
      let same = least_multiple (ops_of_top t) (inverse_of_top t) _ (frob_of_top t) (top_field t) (top_frob_field t) u v h.0.m h.0.s h.0.w g.0.m g.0.s g.0.w cu cv h.2 g.2 in
      h.1 ∙ ap₂ {B = List TopElem × List TopElem} (λ d p. answer.Multiple (record { m = d; s = p.0; w = p.1 })) same.0 (ap₂ (λ s w. (s, w)) same.1 same.2) ∙ sym g.1

  module _ (phi u : List TopElem) (m : IsModule (ops_of_top t) phi) (cu : is_canonical (ops_of_top t) u ≡ true) where
    abbrev Divided : List TopElem → List TopElem → Type 0
    Divided c rest = IsOtherFactor (ops_of_top t) (frob_of_top t).frob phi u c rest

    -- a remainder, and a constant, exclude a quotient
    rest_only : (c rest psi : List TopElem) → Divided c rest → rest ≢ [] → IsQuotient (ops_of_top t) (frob_of_top t).frob phi u psi → ⊥
    rest_only c rest psi d some q = no_quotient_rest (ops_of_top t) (inverse_of_top t) _ (frob_of_top t) (top_field t) (top_frob_field t) phi m u c rest d some psi q

    constant_only : (c psi : List TopElem) (x : TopElem) → Divided c [] → x ≡ constant_of (ops_of_top t) c → x ≢ constant_of (ops_of_top t) phi
        → IsQuotient (ops_of_top t) (frob_of_top t).frob phi u psi → ⊥
    constant_only c psi x d is other q =
        no_quotient_constant (ops_of_top t) (inverse_of_top t) _ (frob_of_top t) (top_field t) (top_frob_field t) phi m u c [] d (λ e. other (is ∙ e)) psi q

    divided_once : (c d rest other : List TopElem) → Divided c rest → Divided d other → (c ≡ d) × (rest ≡ other)
    divided_once c d rest other h g = right_division (ops_of_top t) (inverse_of_top t) _ (frob_of_top t) (top_field t) (top_frob_field t) _ u c d rest other cu h g

    one_quotient_answer : (a b : Answer) → IsQuotientOf t phi u a → IsQuotientOf t phi u b → a ≡ b
    one_quotient_answer (answer.Quotient psi) (answer.Quotient chi) h g =
        ap (λ x. answer.Quotient x) (one_quotient (ops_of_top t) (inverse_of_top t) _ (frob_of_top t) (top_field t) (top_frob_field t) phi m u psi chi h g)
    one_quotient_answer (answer.Quotient psi) answer.NoneZero h g = absurd (h.nonzero g)
    one_quotient_answer (answer.Quotient psi) (answer.NoneRemainder rest) h g = absurd (rest_only g.2.0 rest psi g.2.1 g.1 h)
    one_quotient_answer (answer.Quotient psi) (answer.NoneConstant x) h g = absurd (constant_only g.2.0 psi x g.2.1 g.2.2 g.1 h)
    one_quotient_answer (answer.Quotient psi) b h g = absurd g
    one_quotient_answer answer.NoneZero (answer.Quotient chi) h g = absurd (g.nonzero h)
    one_quotient_answer answer.NoneZero answer.NoneZero h g = refl
    one_quotient_answer answer.NoneZero (answer.NoneRemainder rest) h g = absurd (g.0 h)
    one_quotient_answer answer.NoneZero (answer.NoneConstant x) h g = absurd (g.0 h)
    one_quotient_answer answer.NoneZero b h g = absurd g
    one_quotient_answer (answer.NoneRemainder rest) (answer.Quotient chi) h g = absurd (rest_only h.2.0 rest chi h.2.1 h.1 g)
    one_quotient_answer (answer.NoneRemainder rest) answer.NoneZero h g = absurd (h.0 g)
    one_quotient_answer (answer.NoneRemainder rest) (answer.NoneRemainder other) h g =
        ap (λ x. answer.NoneRemainder x) (divided_once h.2.0 g.2.0 rest other h.2.1 g.2.1).1
    one_quotient_answer (answer.NoneRemainder rest) (answer.NoneConstant x) h g = absurd (h.1 (divided_once h.2.0 g.2.0 rest [] h.2.1 g.2.1).1)
    one_quotient_answer (answer.NoneRemainder rest) b h g = absurd g
    one_quotient_answer (answer.NoneConstant x) (answer.Quotient chi) h g = absurd (constant_only h.2.0 chi x h.2.1 h.2.2 h.1 g)
    one_quotient_answer (answer.NoneConstant x) answer.NoneZero h g = absurd (h.0 g)
    one_quotient_answer (answer.NoneConstant x) (answer.NoneRemainder rest) h g = absurd (g.1 (divided_once g.2.0 h.2.0 rest [] g.2.1 h.2.1).1)
    one_quotient_answer (answer.NoneConstant x) (answer.NoneConstant y) h g =
        ap (λ z. answer.NoneConstant z) (h.2.2 ∙ ap (constant_of (ops_of_top t)) (divided_once h.2.0 g.2.0 [] [] h.2.1 g.2.1).0 ∙ sym g.2.2)
    one_quotient_answer (answer.NoneConstant x) b h g = absurd g
    one_quotient_answer a b h g = absurd h

  pub one_work : (ns : List (List ℕ × Value)) (f : Form) (a b : Answer) → AreOperands t ns (demands f) → Works t ns f a → Works t ns f b → a ≡ b
  one_work ns (form.Module name list) a b o h g = h ∙ sym g
  one_work ns (form.Ore name u) a b o h g = h ∙ sym g
  one_work ns (form.Show name) a b o h g = one_shown (value_of ns name.bytes) a b h g
  one_work ns (form.Rank m) a b o h g = h ∙ sym g
  one_work ns (form.Char m) a b o h g =
      h.1
      ∙ ap (λ p. answer.BasePoly p)
      (one_characteristic (ops_of_top t) (inverse_of_top t) (ops_of t.base) (inverse_of t.base) (frob_of_top t) (top_field t) (base_field t.base) (top_frob_field t) (module_value t ns m) o.phi h.0 g.0 h.2 g.2)
      ∙ sym g.1
  one_work ns (form.Height m) a b o h g =
      h.1
      ∙ ap (λ n. answer.Number n)
      (one_height (ops_of_top t) (inverse_of_top t) (ops_of t.base) (inverse_of t.base) (frob_of_top t) (top_field t) (base_field t.base) (top_frob_field t) (module_value t ns m) o.phi h.0 g.0 h.2 g.2)
      ∙ sym g.1
  one_work ns (form.Ordinary m) a b o h g = one_truth a b _ h g
  one_work ns (form.Supersingular m) a b o h g = one_truth a b _ h g
  one_work ns (form.J m k) a b o h g =
      h.1
      ∙ ap (λ x. answer.Element x)
      (same_invariant (ops_of_top t) (inverse_of_top t) (ops_of t.base) (frob_of_top t) (top_field t) (top_frob_field t) (size_of t.base) (size_large t.base) (module_value t ns m) o.phi k h.0 g.0 h.2 g.2)
      ∙ sym g.1
  one_work ns (form.Image m c name) a b o h g = h ∙ sym g
  one_work ns (form.Add u v name) a b o h g = h ∙ sym g
  one_work ns (form.Sub u v name) a b o h g = h ∙ sym g
  one_work ns (form.Mul u v name) a b o h g = h ∙ sym g
  one_work ns (form.Rdiv u v) a b o h g =
      one_divided a b _
      (λ c d rest other p q. right_division (ops_of_top t) (inverse_of_top t) _ (frob_of_top t) (top_field t) (top_frob_field t) (twisted_value t ns u) (twisted_value t ns v) c d rest other o.v p q) h g
  one_work ns (form.Ldiv u v) a b o h g =
      one_divided a b _
      (λ c d rest other p q. left_division (ops_of_top t) (inverse_of_top t) _ (frob_of_top t) (top_field t) (top_frob_field t) (twisted_value t ns u) (twisted_value t ns v) c d rest other o.v p q) h g
  one_work ns (form.Common u v) a b o h g = one_common (twisted_value t ns u) (twisted_value t ns v) a b o.u o.v h g
  one_work ns (form.Multiple u v) a b o h g = one_multiple (twisted_value t ns u) (twisted_value t ns v) a b o.u o.v h g
  one_work ns (form.Check m n u) a b o h g = one_truth a b _ h g
  one_work ns (form.Quotient m u name) a b o h g = one_quotient_answer (module_value t ns m) (twisted_value t ns u) o.phi o.u a b h g
  one_work ns (form.Iso m n) a b o h g = one_isomorphism t (module_value t ns m) (module_value t ns n) o.phi o.psi a b h g
  one_work ns (form.Isogenous m n) a b o h g = one_isogeny t (module_value t ns m) (module_value t ns n) o.phi o.psi a b h g
  one_work ns (form.Bounded m n d) a b o h g = one_members a b _ (one_bounded t (module_value t ns m) (module_value t ns n) o.phi o.psi d) h g
  one_work ns (form.Full m n) a b o h g = one_members a b _ (one_full t (module_value t ns m) (module_value t ns n) o.phi o.psi) h g
  one_work ns (form.Fullsize m n) a b o h g = one_count t (module_value t ns m) (module_value t ns n) o.phi o.psi a b h g
  one_work ns (form.Motive m u) a b o h g =
      h.1 ∙ ap (λ x. answer.Motive x) (one_motive t (module_value t ns m) o.phi (twisted_value t ns u) h.0 g.0 o.u h.2 g.2) ∙ sym g.1
  one_work ns (form.Frob m) a b o h g = h.1 ∙ ap (λ x. answer.Relation x) (one_relation t (module_value t ns m) o.phi h.0 g.0 h.2 g.2) ∙ sym g.1
  one_work ns (form.Frobpower m) a b o h g = one_power t (module_value t ns m) o.phi a b h g
  one_work ns f a b o h g = absurd h
