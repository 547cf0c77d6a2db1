-- What sums stand for is of the field in which they are read.
use Rattle.std.proofs.Common.{◌≡◌, ℕ, Bool, true, false, List, [], ◌∷◌, map, fold, refl, sym, ap, subst, ◌%◌}
use Rattle.std.proofs.lemmas.Bool.{and_parts, and_from}
use Rattle.ring_core.specs.Ring.{RingOps, IsElem, IsRing}
use Rattle.ring_core.specs.Coeffs.{are_elems, is_canonical}
use Rattle.ring_core.specs.Monomial.{monomial}
use Rattle.ring_core.specs.Twisted.{list_add}
use Rattle.ring_core.proofs.ListRing.{add_in}
use Rattle.ring_core.proofs.Monomial.{monomial_in}
use Rattle.ring_core.proofs.PowerLaws.{power_in}
use Rattle.residue_field.specs.Base.{letter_code}
use Rattle.residue_field.specs.Top.{Top, ops_of_top, embed_of}
use Rattle.residue_field.proofs.BaseLaws.{letter_code_in}
use Rattle.residue_field.proofs.TopLaws.{top_field}
use Rattle.residue_field.proofs.TopFrob.{top_frob_field}
use Rattle.script_lang.specs.declared.Sum.{Sum, out-Sum}
use Rattle.script_lang.specs.declared.Term.{Term}
use Rattle.script_lang.specs.declared.Factor.{Factor}
use Rattle.script_lang.specs.declared.Factor.TheOpen.{Factor-F, Sum-F, Term-F}
use Rattle.script_lang.specs.declared.Factor.TheViews.{roll-Factor, roll-Sum, roll-Term}
use Rattle.script_lang.specs.declared.Factor.TheFolds.{fold-roll-Sum, fold-roll-Term, fold-roll-Factor, map-Factor, ind-Sum, ind-Term}
use Rattle.operand_value.specs.Values.{Letters, factor_step, term_step, sum_step, signed, factor_value, term_value, sum_value, poly_value, sum_values}
use Rattle.operand_value.specs.Fields.{top_letters}
use Rattle.operand_value.specs.Operands.{list_values, twisted_sum}
use Rattle.operand_value.proofs.Elements.{reduced_in, letter_in}

module _ {E : Type 0} (r : RingOps E) (h : IsRing r) (l : Letters E) (number_in : (n : ℕ) → IsElem r (l.number n)) (a_in : IsElem r l.a) (z_in : IsElem r l.z) where
  fold_in : {A : Type 0} (g : A → E) (op : E → E → E) → ((x y : E) → IsElem r x → IsElem r y → IsElem r (op x y)) → (v : E) → IsElem r v
      → (es : List ((x : A) × IsElem r (g x))) → IsElem r (fold op v (map g (map (λ e. e.0) es)))
  fold_in g op closed v p [] = p
  fold_in g op closed v p (e ∷ es) = fold_in g op closed (op v (g e.0)) (closed v (g e.0) p e.1) es

  signed_in : (minus : Bool) (v : E) → IsElem r v → IsElem r (signed r minus v)
  signed_in true v p = h.closed.neg_in v p
  signed_in false v p = p

  abbrev FactorIn : Factor → Type 0
  FactorIn f = IsElem r (factor_value r l f)

  abbrev SumIn : Sum → Type 0
  SumIn s = IsElem r (sum_value r l s)

  abbrev TermIn : Term → Type 0
  TermIn t = IsElem r (term_value r l t)

  factor_in : {A C : Type 0} (k : A → Factor) (j : C → Term) (y : Factor-F A ((s : Sum) × SumIn s) C)
      → FactorIn (roll-Factor (map-Factor A ((s : Sum) × SumIn s) C Factor Sum Term k (λ e. e.0) j y))
  factor_in k j (Factor-F.Number n) = subst (IsElem r) (sym (fold-roll-Factor E E E (factor_step r l) (sum_step r) (term_step r) (Factor-F.Number n))) (number_in n)
  factor_in k j (Factor-F.A m) = subst (IsElem r) (sym (fold-roll-Factor E E E (factor_step r l) (sum_step r) (term_step r) (Factor-F.A m))) (power_in r h l.a m a_in)
  factor_in k j (Factor-F.Z m) = subst (IsElem r) (sym (fold-roll-Factor E E E (factor_step r l) (sum_step r) (term_step r) (Factor-F.Z m))) (power_in r h l.z m z_in)
  factor_in k j (Factor-F.Group e) = subst (IsElem r) (sym (fold-roll-Factor E E E (factor_step r l) (sum_step r) (term_step r) (Factor-F.Group e.0))) e.1

  sum_layer : (x : Sum-F Factor Sum Term) (es : List ((t : Term) × TermIn t)) → map (λ e. e.0) es ≡ x.terms → SumIn (roll-Sum x)
  sum_layer x es e =
      subst (IsElem r) (sym (fold-roll-Sum E E E (factor_step r l) (sum_step r) (term_step r) x))
      (subst (λ ts. IsElem r (fold r.add r.zero (map (term_value r l) ts))) e (fold_in (term_value r l) r.add h.closed.add_in r.zero h.closed.zero_in es))

  term_layer : (x : Term-F Factor Sum Term) (es : List ((f : Factor) × FactorIn f)) → map (λ e. e.0) es ≡ x.factors → TermIn (roll-Term x)
  term_layer x es e =
      subst (IsElem r) (sym (fold-roll-Term E E E (factor_step r l) (sum_step r) (term_step r) x))
      (signed_in x.minus _ (subst (λ fs. IsElem r (fold r.mul r.one (map (factor_value r l) fs))) e (fold_in (factor_value r l) r.mul h.closed.mul_in r.one h.closed.one_in es)))

  pub sum_in : (s : Sum) → SumIn s
  sum_in = ind-Sum FactorIn SumIn TermIn
      (λ x y is. subst (λ w. FactorIn (roll-Factor w)) is (factor_in (λ e. e.0) (λ e. e.0) y))
      (λ x y is. sum_layer x y.terms (ap (λ w. w.terms) is))
      (λ x y is. term_layer x y.factors (ap (λ w. w.factors) is))

  pub sums_in : (list : List Sum) → are_elems r (sum_values r l list) ≡ true
  sums_in [] = refl
  sums_in (s ∷ list) = and_from _ _ (sum_in s) (sums_in list)

  term_in : (t : Term) → TermIn t
  term_in = ind-Term FactorIn SumIn TermIn
      (λ x y is. subst (λ w. FactorIn (roll-Factor w)) is (factor_in (λ e. e.0) (λ e. e.0) y))
      (λ x y is. sum_layer x y.terms (ap (λ w. w.terms) is))
      (λ x y is. term_layer x y.factors (ap (λ w. w.factors) is))

  terms_in : (v : List E) → is_canonical r v ≡ true → (terms : List Term) → is_canonical r (fold (λ w t. list_add r w (monomial r (term_value r l t) t.power)) v terms) ≡ true
  terms_in v c [] = c
  terms_in v c (t ∷ terms) =
      terms_in (list_add r v (monomial r (term_value r l t) t.power))
      (add_in r h v (monomial r (term_value r l t) t.power) (and_parts _ _ c).0 (and_parts _ _ (monomial_in r h (term_value r l t) t.power (term_in t))).0) terms

  pub poly_in : (s : Sum) → is_canonical r (poly_value r l s) ≡ true
  poly_in s = terms_in [] refl (out-Sum s).terms

top_number_in : (t : Top) (n : ℕ) → IsElem (ops_of_top t) (embed_of t (n % t.base.p))
top_number_in t n = (top_frob_field t).embed_in (n % t.base.p) (reduced_in t.base n)

top_a_in : (t : Top) → IsElem (ops_of_top t) (embed_of t (letter_code t.base))
top_a_in t = (top_frob_field t).embed_in (letter_code t.base) (letter_code_in t.base)

pub top_list_in : (t : Top) (list : List Sum) → are_elems (ops_of_top t) (list_values t list) ≡ true
unfolding list_values
top_list_in t list = sums_in (ops_of_top t) (top_field t).ring (top_letters t) (top_number_in t) (top_a_in t) (letter_in t) list

pub top_sum_in : (t : Top) (s : Sum) → is_canonical (ops_of_top t) (twisted_sum t s) ≡ true
unfolding twisted_sum
top_sum_in t s = poly_in (ops_of_top t) (top_field t).ring (top_letters t) (top_number_in t) (top_a_in t) (letter_in t) s
