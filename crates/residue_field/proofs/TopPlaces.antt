-- Lists of as many members as the greatest degree store residues of a degree up to most_places.
use mathlib.Core.Path.{fun_ext}
use Rattle.std.proofs.Common.{◌≡◌, inl, inr, ℕ, zero, suc, ◌<◌, ◌≤◌, true, cond, nat_lt, List, [], ◌∷◌, length, drop, sym, refl, ap, ap₂, ◌∙◌, arith, lt-ltb, le-ltb, eq-eqb, eqb-true}
use Rattle.std.proofs.lemmas.Bool.{and_parts, and_from, cond_both, cond-true, cond-false, cases_lt}
use Rattle.ring_core.specs.Ring.{RingOps, IsElem, IsRing, SameDecides}
use Rattle.ring_core.specs.Coeffs.{coeff, are_elems, first_values}
use Rattle.ring_core.proofs.Coefficients.{elem_read, elems-first_values, coeff-first_values, values-coeff, same_lists-refl, same_lists-eq}
use Rattle.ring_core.proofs.FirstValues.{length-first_values}
use Rattle.residue_field.specs.declared.TopElem.{TopElem}
use Rattle.residue_field.specs.Sizes.{most_places}
use Rattle.residue_field.specs.steps.Stored.{IsPlaces}
use Rattle.residue_field.specs.TopElem.{are_zeros, top_places}

module _ {E : Type 0} (r : RingOps E) (z : IsElem r r.zero) (d : SameDecides r) where
  zeros-read : (u : List E) (k : ℕ) → are_elems r u ≡ true → are_zeros r (drop k u) ≡ true → (i : ℕ) → k ≤ i → coeff r u i ≡ r.zero
  zeros-read [] k e s i l = refl
  zeros-read (x ∷ xs) zero e s zero l = d.same_eq x r.zero (and_parts _ _ e).0 z (and_parts _ _ s).0
  zeros-read (x ∷ xs) zero e s (suc i) l = zeros-read xs zero (and_parts _ _ e).1 (and_parts _ _ s).1 i (omega arith)
  zeros-read (x ∷ xs) (suc k) e s zero l = absurd (omega arith)
  zeros-read (x ∷ xs) (suc k) e s (suc i) l = zeros-read xs k (and_parts _ _ e).1 s i (omega arith)

  zeros-values : (w k : ℕ) (g : ℕ → E) → ((i : ℕ) → k ≤ i → g i ≡ r.zero) → are_zeros r (drop k (first_values w g)) ≡ true
  zeros-values zero zero g past = refl
  zeros-values zero (suc k) g past = refl
  zeros-values (suc w) zero g past =
      and_from _ _ (ap (λ x. r.same x r.zero) (past 0 (omega arith)) ∙ d.same_refl r.zero z)
      (zeros-values w zero (λ i. g (suc i)) (λ i l. past (suc i) (omega arith)))
  zeros-values (suc w) (suc k) g past = zeros-values w k (λ i. g (suc i)) (λ i (l : k ≤ i). past (suc i) (omega arith))

-- lists of one length are told apart by their coefficients
pub same_by_coeff : {E : Type 0} (r : RingOps E) (u v : List E) → length u ≡ length v → ((i : ℕ) → coeff r u i ≡ coeff r v i) → u ≡ v
same_by_coeff r u v len e = sym (values-coeff r u) ∙ ap₂ first_values len (fun_ext e) ∙ values-coeff r v

module _ (r : RingOps ℕ) (h : IsRing r) (n : ℕ) (fits : suc n ≤ most_places) where
  -- what `pack` stores
  abbrev pub cut : (ℕ → ℕ) → ℕ → ℕ
  cut g i = cond (nat_lt i (suc n)) (g i) r.zero

  cut_low : (g : ℕ → ℕ) (i : ℕ) → i < suc n → cut g i ≡ g i
  cut_low g i l = cond-true (nat_lt i (suc n)) (g i) r.zero (lt-ltb i (suc n) l)

  cut_past : (g : ℕ → ℕ) (i : ℕ) → suc n ≤ i → cut g i ≡ r.zero
  cut_past g i l = cond-false (nat_lt i (suc n)) (g i) r.zero (le-ltb i (suc n) l)

  cut_in : (g : ℕ → ℕ) → ((i : ℕ) → IsElem r (g i)) → (i : ℕ) → IsElem r (cut g i)
  cut_in g e i = cond_both (nat_lt i (suc n)) (g i) r.zero (IsElem r) (λ _. e i) (λ _. h.closed.zero_in)

  width_of : (t : TopElem) → (top_places r n).is_elem t ≡ true → length t.0 ≡ most_places
  width_of t e = eqb-true _ _ (and_parts _ _ e).0

  pub elems_of : (t : TopElem) → (top_places r n).is_elem t ≡ true → are_elems r t.0 ≡ true
  elems_of t e = (and_parts _ _ (and_parts _ _ e).1).0

  past_of : (t : TopElem) (i : ℕ) → (top_places r n).is_elem t ≡ true → suc n ≤ i → coeff r t.0 i ≡ r.zero
  past_of t i e l = zeros-read r h.closed.zero_in h.equal t.0 (suc n) (elems_of t e) (and_parts _ _ (and_parts _ _ e).1).1 i l

  from_list : (t u : TopElem) → t.0 ≡ u.0 → t ≡ u
  from_list t u e = let make : List ℕ → TopElem = λ l. record { 0 = l } in ap make e

  pub top_stores : IsPlaces r n (top_places r n)
  top_stores = record {
    place_in = λ t i e. elem_read r t.0 h.closed.zero_in (elems_of t e) i;
    place_past = past_of;
    pack_in = λ g e.
        and_from _ _ (eq-eqb _ _ (length-first_values most_places (cut g)))
        (and_from _ _ (elems-first_values r most_places (cut g) (λ i l. cut_in g e i))
        (zeros-values r h.closed.zero_in h.equal most_places (suc n) (cut g) (cut_past g)));
    place_pack = λ g i e l.
        coeff-first_values r most_places (cut g) (λ j past. cut_past g j (omega arith)) i ∙ cut_low g i l;
    place_inj = λ t u s e same.
        from_list t u (same_by_coeff r t.0 u.0 (width_of t s ∙ sym (width_of u e)) (λ i. elim (cases_lt i (suc n)) [
          | inl l ↦ same i l
          | inr l ↦ past_of t i s l ∙ sym (past_of u i e l)
        ]));
    same_refl = λ t e. same_lists-refl r h.closed.zero_in h.equal t.0 (elems_of t e);
    same_eq = λ t u s e same. from_list t u (same_lists-eq r h.closed.zero_in h.equal t.0 u.0 (elems_of t s) (elems_of u e) same);
  }
