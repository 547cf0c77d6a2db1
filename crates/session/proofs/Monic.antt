-- What the tests of a polynomial tell, and when a base or a top is made of it.
use Rattle.std.proofs.Common.{◌≡◌, ℕ, ◌+◌, ◌-◌, ◌%◌, not, Bool, true, false, Option, Some, None, List, [], ◌∷◌, length, slice_index, refl, sym, ap, ap₂, subst, ◌∙◌, ltb-true, eq-eqb, eqb-true, mod-eq_of_lt}
use Rattle.std.proofs.lemmas.Bool.{and_parts, and_from, false_from_ne_true}
use Rattle.ring_core.specs.Ring.{RingOps, IsRing}
use Rattle.ring_core.specs.Coeffs.{coeff, are_elems}
use Rattle.ring_core.proofs.Coefficients.{elem_read}
use Rattle.residue_field.specs.declared.TopElem.{TopElem}
use Rattle.residue_field.specs.Prime.{is_listed, prime_ops}
use Rattle.residue_field.specs.Base.{Base, base_ops, ops_of}
use Rattle.residue_field.specs.Top.{Top, top_ops}
use Rattle.residue_field.proofs.BaseLaws.{base_ring}
use Rattle.residue_field.proofs.Listed.{listed_large}
use Rattle.residue_field.proofs.Modular.{prime_ring}
use Rattle.field_tower.specs.MakeBase.{reduced, IsMonicModulo, IsBaseOf}
use Rattle.field_tower.specs.MakeTop.{IsMonicOver}
use Rattle.field_tower.specs.Pairs.{IsPair}
use Rattle.script_lang.specs.declared.Sum.{Sum}
use Rattle.statement_operands.specs.declared.MeaningKind.TheVariants as meaning
use Rattle.statement_operands.specs.declared.Stop.{Stop}
use Rattle.statement_operands.specs.declared.Stop.TheVariants as stop
use Rattle.operand_value.specs.Operands.{base_modulus, top_modulus}
use Rattle.statement_work.specs.Refusals.{when}
use Rattle.session.specs.Refusals.{is_monic, base_refusal, top_refusal}
use Rattle.session.specs.Steps.{HasBasePair, HasTopPair, StopsAfter}

module _ {E : Type 0} (r : RingOps E) (ring : IsRing r) where
  monic_told : (n : ℕ) (list : List E) → are_elems r list ≡ true → (length list ≡ n + 1) × (coeff r list n ≡ r.one) → is_monic r n list ≡ true
  monic_told n list e h =
      and_from _ _ e (and_from _ _ (eq-eqb _ _ h.0) (ap (λ x. r.same x r.one) h.1 ∙ ring.equal.same_refl r.one ring.closed.one_in))

  pub told_monic : (n : ℕ) (list : List E) → is_monic r n list ≡ true → (are_elems r list ≡ true) × (length list ≡ n + 1) × (coeff r list n ≡ r.one)
  told_monic n list h =
      let both = and_parts _ _ h in
      let parts = and_parts _ _ both.1 in
      (both.0, eqb-true _ _ parts.0, ring.equal.same_eq _ _ (elem_read r list ring.closed.zero_in both.0 n) ring.closed.one_in parts.1)

  not_monic : (n : ℕ) (list : List E) → ((length list ≡ n + 1) × (coeff r list n ≡ r.one) → ⊥) → is_monic r n list ≡ false
  not_monic n list none = false_from_ne_true _ (λ h. none ((told_monic n list h).1, (told_monic n list h).2))

-- A number below `p` is its own rest.
reduced_elems : (p : ℕ) (list : List ℕ) → are_elems (prime_ops p) list ≡ true → reduced p list ≡ list
reduced_elems p [] e = refl
reduced_elems p (x ∷ xs) e =
    let parts = and_parts _ _ e in
    ap₂ (λ a b. a ∷ b) (mod-eq_of_lt (ltb-true x p parts.0)) (reduced_elems p xs parts.1)

refused : {A : Type 0} (b : Bool) (c : A) → b ≡ false → when (not b) c ≡ Some c
refused b c e = ap (λ x. when (not x) c) e

passed : {A : Type 0} (b : Bool) (c : A) → b ≡ true → when (not b) c ≡ None
passed b c e = ap (λ x. when (not x) c) e

-- The polynomial of a base, as it was computed.
pub record IsBaseList (p s : ℕ) (modulus : Option Sum) (list : List ℕ) : Type 0 where
  pub listed : is_listed p ≡ true
  pub value : list ≡ base_modulus p modulus
  pub elem : are_elems (prime_ops p) list ≡ true

module _ (p s : ℕ) (modulus : Option Sum) (list : List ℕ) (h : IsBaseList p s modulus list) where
  ring : IsRing (prime_ops p)
  ring = prime_ring p (listed_large p h.listed)

  reduced_is : reduced p list ≡ base_modulus p modulus
  reduced_is = reduced_elems p list h.elem ∙ h.value

  top_number : slice_index list s % p ≡ slice_index list s
  top_number = mod-eq_of_lt (ltb-true _ p (elem_read (prime_ops p) list ring.closed.zero_in h.elem s))

  pub base_passed : IsMonicModulo p s list → base_refusal p s modulus ≡ None
  unfolding base_refusal
  base_passed m =
      passed _ _ (ap (is_monic (prime_ops p) s) (sym h.value) ∙ monic_told (prime_ops p) ring s list h.elem (m.0, sym top_number ∙ m.1))

  pub base_refused : (IsMonicModulo p s list → ⊥) → base_refusal p s modulus ≡ Some (stop.Meaning meaning.BadModulus)
  unfolding base_refusal
  base_refused none =
      refused _ _ (ap (is_monic (prime_ops p) s) (sym h.value) ∙ not_monic (prime_ops p) ring s list (λ m. none (m.0, top_number ∙ m.1)))

  pub base_made : (k : Base) → IsBaseOf p s (reduced p list) k → IsBaseOf p s (base_modulus p modulus) k
  base_made k is = (is.0, is.1, is.2 ∙ reduced_is)

  pub base_pair : (a b : ℕ) → IsPair (base_ops p (s - 1) (reduced p list)) a b → HasBasePair p s modulus
  base_pair a b pair = (a, b, subst (λ m. IsPair (base_ops p (s - 1) m) a b) reduced_is pair)

  pub bad_base : (IsMonicModulo p s list → ⊥) → (rest : Type 0) → StopsAfter (base_refusal p s modulus) (stop.Meaning meaning.BadModulus) rest
  bad_base none rest = subst (λ o. StopsAfter o (stop.Meaning meaning.BadModulus) rest) (sym (base_refused none)) refl

  pub base_with_pair : IsMonicModulo p s list → (a b : ℕ) → IsPair (base_ops p (s - 1) (reduced p list)) a b → (c : Stop) → c ≡ stop.Meaning meaning.BaseReducible
      → StopsAfter (base_refusal p s modulus) c ((c ≡ stop.Meaning meaning.BaseReducible) × HasBasePair p s modulus)
  base_with_pair m a b pair c e =
      subst (λ o. StopsAfter o c ((c ≡ stop.Meaning meaning.BaseReducible) × HasBasePair p s modulus)) (sym (base_passed m)) (e, base_pair a b pair)

-- The polynomial of a top, as it was computed.
pub record IsTopList (k : Base) (modulus : Sum) (list : List ℕ) : Type 0 where
  pub value : list ≡ top_modulus k modulus
  pub elem : are_elems (ops_of k) list ≡ true

module _ (k : Base) (n : ℕ) (modulus : Sum) (list : List ℕ) (h : IsTopList k modulus list) where
  pub top_passed : IsMonicOver k n list → top_refusal k n modulus ≡ None
  unfolding top_refusal
  top_passed m = passed _ _ (ap (is_monic (ops_of k) n) (sym h.value) ∙ monic_told (ops_of k) (base_ring k) n list h.elem m)

  pub top_refused : (IsMonicOver k n list → ⊥) → top_refusal k n modulus ≡ Some (stop.Meaning meaning.BadModulus)
  unfolding top_refusal
  top_refused none = refused _ _ (ap (is_monic (ops_of k) n) (sym h.value) ∙ not_monic (ops_of k) (base_ring k) n list none)

  pub top_pair : (a b : TopElem) → IsPair (top_ops k (n - 1) list) a b → HasTopPair k n modulus
  top_pair a b pair = (a, b, subst (λ m. IsPair (top_ops k (n - 1) m) a b) h.value pair)

  -- A top of this polynomial is of a monic one.
  pub top_made : (t : Top) → t.base ≡ k → t.n ≡ n → t.modulus ≡ list → IsMonicOver k n list
  top_made t b d m =
      subst (λ x. IsMonicOver x n list) b
      (subst (λ x. IsMonicOver t.base x list) d (subst (λ x. IsMonicOver t.base t.n x) m (t.is_top.count, t.is_top.top)))

  pub bad_top : (IsMonicOver k n list → ⊥) → (rest : Type 0) → StopsAfter (top_refusal k n modulus) (stop.Meaning meaning.BadModulus) rest
  bad_top none rest = subst (λ o. StopsAfter o (stop.Meaning meaning.BadModulus) rest) (sym (top_refused none)) refl

  pub top_with_pair : IsMonicOver k n list → (a b : TopElem) → IsPair (top_ops k (n - 1) list) a b → (c : Stop) → c ≡ stop.Meaning meaning.TopReducible
      → StopsAfter (top_refusal k n modulus) c ((c ≡ stop.Meaning meaning.TopReducible) × HasTopPair k n modulus)
  top_with_pair m a b pair c e =
      subst (λ o. StopsAfter o c ((c ≡ stop.Meaning meaning.TopReducible) × HasTopPair k n modulus)) (sym (top_passed m)) (e, top_pair a b pair)
