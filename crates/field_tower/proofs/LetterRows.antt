-- The residues of the powers of the letter, each the letter times the one before.
use Rattle.std.proofs.lemmas.Bool.{cases_lt, cond-false}
use Rattle.std.proofs.Common.{inl, inr, ◌≡◌, ℕ, suc, ◌-◌, ◌<◌, cond, nat_lt, List, length, sym, ap, ◌∙◌, le-ltb}
use Rattle.ring_core.specs.Ring.{RingOps, IsElem, IsRing, IsCommutative}
use Rattle.ring_core.specs.Coeffs.{coeff}
use Rattle.ring_core.proofs.Carrier.{Element, elements, zero_mul}
use Rattle.ring_core.proofs.FirstValues.{values_same}
use Rattle.residue_field.specs.declared.TopElem.{TopElem}
use Rattle.residue_field.specs.declared.TheConstants.{WIDTH}
use Rattle.residue_field.specs.Residue.{times_x}
use Rattle.field_tower.specs.steps.Places.{IsModulus, IsStored, stored}
use Rattle.field_tower.specs.steps.Lanes.{letter_residue}
use Rattle.field_tower.proofs.Shifts.{shifted_in}
use Rattle.field_tower.proofs.Writes.{times-x_same}
use Rattle.field_tower.proofs.Stored.{top_elem, fits_of, modulus_monic, stored-low, stored_in}
use Rattle.field_tower.proofs.PowerRows.{letter_in}

-- the residue of the power k
abbrev pub power_at : RingOps ℕ → List ℕ → ℕ → TopElem
power_at r modulus k = stored r (length modulus - 2) (letter_residue r (length modulus - 2) (coeff r modulus) k)

-- the places below the degree decide
pub stored_same : (r : RingOps ℕ) (d : ℕ) (g k : ℕ → ℕ) → ((i : ℕ) → i < suc d → g i ≡ k i) → stored r d g ≡ stored r d k
unfolding stored
stored_same r d g k e =
    ap top_elem
    (values_same WIDTH _ _ (λ i l. elim (cases_lt i (suc d)) [
      | inl m ↦ ap (λ x. cond (nat_lt i (suc d)) x r.zero) (e i m)
      | inr m ↦ cond-false (nat_lt i (suc d)) (g i) r.zero (le-ltb i (suc d) m) ∙ sym (cond-false (nat_lt i (suc d)) (k i) r.zero (le-ltb i (suc d) m))
    ]))

module _ (r : RingOps ℕ) (ring : IsRing r) where
  -- nothing is added to the letter times v
  pub none_added : (z n : ℕ) (f v : ℕ → ℕ) (i : ℕ) → z ≡ r.zero → ((j : ℕ) → IsElem r (f j)) → ((j : ℕ) → IsElem r (v j))
      → r.add (r.mul z (f i)) (times_x r n f v i) ≡ times_x r n f v i
  none_added z n f v i e f_in v_in =
      let x : Element r = (f i, f_in i) in
      ap (λ s. r.add s (times_x r n f v i)) (ap (λ y. r.mul y (f i)) e ∙ ap (λ y. y.0) (zero_mul (elements ring) x))
      ∙ ring.zero_add (times_x r n f v i) (ring.closed.add_in _ _ (shifted_in r ring v v_in i) (ring.closed.neg_in _ (ring.closed.mul_in _ _ (v_in n) (f_in i))))

  module _ (commutes : IsCommutative r) (modulus : List ℕ) (monic : IsModulus r modulus) where
    abbrev d : ℕ
    d = length modulus - 2

    pub letter_stored : (k : ℕ) → IsStored r d (power_at r modulus k)
    letter_stored k =
        stored_in r d ring (fits_of r ring modulus monic) _ (letter_in r ring commutes d (coeff r modulus) (modulus_monic r ring modulus monic) k)

    pub letter_next : (k : ℕ) (x : TopElem) → x ≡ power_at r modulus k → stored r d (times_x r d (coeff r modulus) (coeff r x.0)) ≡ power_at r modulus (suc k)
    letter_next k x e =
        ap (λ y. stored r d (times_x r d (coeff r modulus) (coeff r y.0))) e
        ∙ stored_same r d _ _ (λ i l.
        times-x_same r d (coeff r modulus) (coeff r (power_at r modulus k).0) (letter_residue r d (coeff r modulus) k) i l
        (λ j m. stored-low r d (fits_of r ring modulus monic) _ j m))
