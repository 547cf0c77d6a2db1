-- Terms of polynomials, added one after another and in place.
use Rattle.std.proofs.Common.{◌≡◌, ◌≢◌, ℕ, ◌+◌, ◌<◌, true, List, [], ◌∷◌, ◌++◌, length, take, fold, get_or, set, refl, sym, ◌∙◌, ap, ap₂, ⊎_elim, get_or-set_same, get_or-set_other}
use Rattle.std.proofs.lemmas.Bool.{and_parts, cases_eq}
use Rattle.std.proofs.lemmas.List.{take_more}
use Rattle.ring_core.specs.Ring.{RingOps, IsElem, IsRing}
use Rattle.ring_core.specs.Coeffs.{coeff, trim, are_elems}
use Rattle.ring_core.specs.Monomial.{monomial}
use Rattle.ring_core.specs.Twisted.{list_add}
use Rattle.ring_core.proofs.Carrier.{elements, add_zero}
use Rattle.ring_core.proofs.Coefficients.{elem_read, elems_set, elems-trim, trimmed-trim, coeff-trim, same_coeffs}
use Rattle.ring_core.proofs.ListRing.{add_in, coeff-add}
use Rattle.ring_core.proofs.Monomial.{monomial_in, coeff-monomial_same, coeff-monomial_other}
use Rattle.script_lang.specs.declared.Term.{Term}
use Rattle.operand_value.specs.Values.{Letters, term_value, terms_poly}

module _ {E : Type 0} (r : RingOps E) (h : IsRing r) where
  -- one place with a term added is that place of the sum with the term
  added_there : (u : List E) (c : E) (k i : ℕ) → k < length u → are_elems r u ≡ true → IsElem r c
      → coeff r (set u k (r.add (coeff r u k) c)) i ≡ r.add (coeff r u i) (coeff r (monomial r c k) i)
  added_there u c k i l e p =
      let sum = r.add (coeff r u k) c in
      ⊎_elim
      (λ (here : i ≡ k).
      ap (coeff r (set u k sum)) here ∙ get_or-set_same u k sum r.zero l
      ∙ ap₂ r.add (ap (coeff r u) (sym here)) (sym (coeff-monomial_same r h c k p) ∙ ap (coeff r (monomial r c k)) (sym here)))
      (λ (other : i ≢ k).
      get_or-set_other u k i sum r.zero other
      ∙ sym (ap (λ x. x.0) (add_zero (elements h) (coeff r u i, elem_read r u h.closed.zero_in e i)))
      ∙ ap (r.add (coeff r u i)) (sym (coeff-monomial_other r h c k i p other)))
      (cases_eq i k)

  -- a list with a term added in place
  pub added_in_place : (u : List E) (c : E) (k : ℕ) → k < length u → are_elems r u ≡ true → IsElem r c
      → trim r (set u k (r.add (coeff r u k) c)) ≡ list_add r (trim r u) (monomial r c k)
  added_in_place u c k l e p =
      let z = h.closed.zero_in in
      let d = h.equal in
      let w = set u k (r.add (coeff r u k) c) in
      let w_in = elems_set r u k (r.add (coeff r u k) c) e (h.closed.add_in _ _ (elem_read r u z e k) p) in
      let t_in = elems-trim r u e in
      let m_in = (and_parts _ _ (monomial_in r h c k p)).0 in
      same_coeffs r z d (trim r w) (list_add r (trim r u) (monomial r c k))
      (trimmed-trim r w) (and_parts _ _ (add_in r h (trim r u) (monomial r c k) t_in m_in)).1
      (λ i.
      coeff-trim r z d w w_in i ∙ added_there u c k i l e p
      ∙ ap (λ x. r.add x (coeff r (monomial r c k) i)) (sym (coeff-trim r z d u e i))
      ∙ sym (coeff-add r h (trim r u) (monomial r c k) t_in m_in i))

fold_last : {A B : Type 0} (f : B → A → B) (b : B) (xs : List A) (x : A) → fold f b (xs ++ x ∷ []) ≡ f (fold f b xs) x
fold_last f b [] x = refl
fold_last f b (y ∷ xs) x = fold_last f (f b y) xs x

-- One more term.
pub terms_more : {E : Type 0} (r : RingOps E) (l : Letters E) (terms : List Term) (i : ℕ) (t : Term) → i < length terms → t ≡ get_or terms i t
    → terms_poly r l (take (i + 1) terms) ≡ list_add r (terms_poly r l (take i terms)) (monomial r (term_value r l t) t.power)
terms_more r l terms i t h read =
    ap (terms_poly r l) (take_more terms i t h)
    ∙ fold_last (λ v x. list_add r v (monomial r (term_value r l x) x.power)) [] (take i terms) (get_or terms i t)
    ∙ ap (λ x. list_add r (terms_poly r l (take i terms)) (monomial r (term_value r l x) x.power)) (sym read)
