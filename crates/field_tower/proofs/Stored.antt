-- Residues over a field of codes, stored in WIDTH places: told by their coefficients, and a ring.
use Rattle.std.proofs.Common.{◌≡◌, ◌≢◌, inl, inr, ℕ, zero, suc, ◌+◌, ◌-◌, ◌<◌, ◌≤◌, true, false, cond, nat_lt, List, [], ◌∷◌, length, sym, refl, ap, subst, ◌∙◌, arith, lt-ltb, le-ltb}
use mathlib.Core.Path.{fun_ext}
use Rattle.std.proofs.lemmas.Bool.{and_from, and_left, and_right, cond-true, cond-false, cases_lt}
use Rattle.ring_core.specs.Ring.{RingOps, IsElem, IsRing, IsCommutative}
use Rattle.ring_core.specs.Coeffs.{coeff, first_values}
use Rattle.ring_core.proofs.Coefficients.{elem_read, coeff_past, values-coeff, coeff-first_values}
use Rattle.ring_core.proofs.FirstValues.{values_same}
use Rattle.residue_field.specs.declared.TopElem.{TopElem}
use Rattle.residue_field.specs.declared.TheConstants.{WIDTH}
use Rattle.residue_field.specs.Residue.{constant_at}
use Rattle.residue_field.specs.steps.Stored.{IsMonic, IsPlaces}
use Rattle.residue_field.specs.TopElem.{top_places, are_zeros}
use Rattle.residue_field.proofs.TopPlaces.{top_stores}
use Rattle.residue_field.proofs.ResidueRing.{residue_ring}
use Rattle.field_tower.specs.steps.Places.{IsModulus, IsStored, stored, stored_ops}

abbrev pub top_elem : List ℕ → TopElem
top_elem u = record { 0 = u }

module _ {E : Type 0} (r : RingOps E) where
  pub zeros_all : (u : List E) → ((k : ℕ) → k < length u → r.same (coeff r u k) r.zero ≡ true) → are_zeros r u ≡ true
  zeros_all [] e = refl
  zeros_all (x ∷ xs) e = and_from _ _ (e 0 (omega arith)) (zeros_all xs (λ k (l : k < length xs). e (suc k) (omega arith)))

  pub zeros_miss : (u : List E) (i : ℕ) → i < length u → r.same (coeff r u i) r.zero ≡ false → are_zeros r u ≡ false
  zeros_miss [] i l e = absurd (omega arith)
  zeros_miss (x ∷ xs) zero l e = and_left _ _ e
  zeros_miss (x ∷ xs) (suc i) l e = and_right _ _ (zeros_miss xs i (omega arith) e)

  pub constant_past : (x : E) (j : ℕ) → j ≢ 0 → r.zero ≡ constant_at r x j
  constant_past x zero d = absurd (d refl)
  constant_past x (suc j) d = refl

module _ (r : RingOps ℕ) (d : ℕ) where
  -- what `stored` keeps of `g`
  cut : (ℕ → ℕ) → ℕ → ℕ
  cut g i = cond (nat_lt i (suc d)) (g i) r.zero

  cut_low : (g : ℕ → ℕ) (i : ℕ) → i < suc d → cut g i ≡ g i
  unfolding cut
  cut_low g i l = cond-true (nat_lt i (suc d)) (g i) r.zero (lt-ltb i (suc d) l)

  cut_past : (g : ℕ → ℕ) (i : ℕ) → suc d ≤ i → cut g i ≡ r.zero
  unfolding cut
  cut_past g i l = cond-false (nat_lt i (suc d)) (g i) r.zero (le-ltb i (suc d) l)

  stored_is : (g : ℕ → ℕ) → stored r d g ≡ top_elem (first_values WIDTH (cut g))
  unfolding stored cut
  stored_is g = refl

  -- WIDTH places with these coefficients
  pub stored_from : (u : List ℕ) (g : ℕ → ℕ) → length u ≡ WIDTH → ((i : ℕ) → i < suc d → coeff r u i ≡ g i)
      → ((i : ℕ) → suc d ≤ i → coeff r u i ≡ r.zero) → top_elem u ≡ stored r d g
  stored_from u g len low past =
      ap top_elem
      (sym (values-coeff r u) ∙ ap (λ w. first_values w (coeff r u)) len
      ∙ values_same WIDTH (coeff r u) (cut g) (λ i l. elim (cases_lt i (suc d)) [
        | inl m ↦ low i m ∙ sym (cut_low g i m)
        | inr m ↦ past i m ∙ sym (cut_past g i m)
      ]))
      ∙ sym (stored_is g)

  pub stored-low : suc d ≤ WIDTH → (g : ℕ → ℕ) (i : ℕ) → i < suc d → coeff r (stored r d g).0 i ≡ g i
  stored-low fits g i l =
      ap (λ t. coeff r t.0 i) (stored_is g)
      ∙ coeff-first_values r WIDTH (cut g) (λ j (m : WIDTH ≤ j). cut_past g j (omega arith)) i ∙ cut_low g i l

  pub stored_in : IsRing r → suc d ≤ WIDTH → (g : ℕ → ℕ) → ((i : ℕ) → IsElem r (g i)) → IsStored r d (stored r d g)
  unfolding stored
  stored_in h fits g e = (top_stores r h d fits).pack_in g e

module _ (r : RingOps ℕ) (h : IsRing r) (modulus : List ℕ) (m : IsModulus r modulus) where
  pub fits_of : suc (length modulus - 2) ≤ WIDTH
  fits_of = let room : length modulus ≤ WIDTH + 1 = m.room in omega (arith, m.degree)

  pub modulus_monic : IsMonic r (length modulus - 2) (coeff r modulus)
  modulus_monic =
      let degree : 2 ≤ length modulus = m.degree in
      let place : suc (length modulus - 2) ≡ length modulus - 1 = omega arith in
      record {
        coeff_in = elem_read r modulus h.closed.zero_in m.elems;
        top = ap (coeff r modulus) place ∙ m.monic;
        past = λ i (l : suc (length modulus - 2) < i). coeff_past r modulus i (omega arith);
      }

  pub stores_of : IsPlaces r (length modulus - 2) (top_places r (length modulus - 2))
  stores_of = top_stores r h (length modulus - 2) fits_of

  pub stored_ring : IsCommutative r → IsRing (stored_ops r modulus)
  unfolding stored_ops
  stored_ring commutes = residue_ring r h commutes (length modulus - 2) (coeff r modulus) modulus_monic (top_places r (length modulus - 2)) stores_of

  -- one, as code makes it
  pub one_in : IsCommutative r → {x : TopElem} → x ≡ (stored_ops r modulus).one → IsElem (stored_ops r modulus) x
  one_in commutes is = subst (IsElem (stored_ops r modulus)) (sym is) (stored_ring commutes).closed.one_in

module _ (r : RingOps ℕ) (modulus : List ℕ) where
  pub elem_of : (a : TopElem) → IsStored r (length modulus - 2) a → IsElem (stored_ops r modulus) a
  unfolding stored_ops
  elem_of a e = e

  pub stored_of : (a : TopElem) → IsElem (stored_ops r modulus) a → IsStored r (length modulus - 2) a
  unfolding stored_ops
  stored_of a e = e

  pub constant_made : (x : TopElem) (b : ℕ) → x ≡ stored r (length modulus - 2) (constant_at r b) → x ≡ (top_places r (length modulus - 2)).pack (constant_at r b)
  unfolding stored
  constant_made x b e = e

-- the constant zero is zero
pub none_is : (r : RingOps ℕ) (d : ℕ) → stored r d (constant_at r r.zero) ≡ stored r d (λ i. r.zero)
none_is r d = ap (stored r d) (fun_ext none)
  where
    none : (i : ℕ) → constant_at r r.zero i ≡ r.zero
    none zero = refl
    none (suc i) = refl
