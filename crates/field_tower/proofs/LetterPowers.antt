-- The powers of the letter below the degree are the residues with one at a single place, and so are their powers made
-- from one another.
use Rattle.std.proofs.Common.{◌≡◌, inl, inr, ℕ, zero, suc, ◌-◌, ◌<◌, ◌≤◌, true, List, length, cond, nat_eq, sym, refl, ap, ap₂, subst, ◌∙◌, arith, eq-eqb, ne_eqb}
use mathlib.Core.Path.{fun_ext}
use Rattle.std.proofs.lemmas.Bool.{cond-true, cond-false, cond_both, cases_eq}
use Rattle.ring_core.specs.Ring.{RingOps, IsElem, IsRing, IsCommutative}
use Rattle.ring_core.specs.Coeffs.{coeff}
use Rattle.ring_core.specs.Powers.{power_of}
use Rattle.ring_core.proofs.PowerLaws.{power_in}
use Rattle.ring_core.proofs.Carrier.{RingOn, Element, elements, zero_mul, add_zero}
use Rattle.finite_ring.proofs.FieldOf.{commute_on}
use Rattle.finite_ring.proofs.Powers.{power_value, power-product}
use Rattle.residue_field.specs.Residue.{constant_at, shifted, times_x, Places, residue_ops}
use Rattle.residue_field.specs.steps.Stored.{residue_unit, IsMonic, IsPlaces}
use Rattle.residue_field.proofs.Act.{shift, x_act, act, constant, x-eq, x-zero, act-none}
use Rattle.residue_field.proofs.Reduce.{Residue}
use Rattle.residue_field.proofs.ResidueRing.{modulus_on, value_on, value-pack, product-is, product-in, times-x-value, residue_ring, residue_commutes}
use Rattle.residue_field.proofs.ResidueAlgebra.{unit-in, place-unit}
use Rattle.residue_field.specs.TopElem.{top_places}
use Rattle.field_tower.specs.steps.Places.{IsModulus, stored_ops}
use Rattle.field_tower.specs.steps.LetterPowers.{letter_power, letter_image}
use Rattle.field_tower.specs.steps.Lanes.{letter_residue}
use Rattle.field_tower.proofs.Letter.{minus_none}
use Rattle.field_tower.proofs.Stored.{modulus_monic, stores_of, stored_ring}
use Rattle.field_tower.proofs.Writes.{times-x_same}

-- one at the place j
abbrev pub unit_at : {E : Type 0} → RingOps E → ℕ → ℕ → E
unit_at r j i = cond (nat_eq j i) r.one r.zero

module _ {E : Type 0} (r : RingOps E) (h : IsRing r) (n : ℕ) (f : ℕ → E) (f_in : (i : ℕ) → IsElem r (f i)) where
  pub unit_at_in : (j i : ℕ) → IsElem r (unit_at r j i)
  unit_at_in j i = cond_both (nat_eq j i) r.one r.zero (IsElem r) (λ _. h.closed.one_in) (λ _. h.closed.zero_in)

  shifted-unit : (j i : ℕ) → shifted r (unit_at r j) i ≡ unit_at r (suc j) i
  shifted-unit j zero = sym (cond-false (nat_eq (suc j) 0) r.one r.zero (ne_eqb (suc j) 0 (λ e. absurd (omega arith))))
  shifted-unit j (suc i) =
      elim (cases_eq j i) [
        | inl e ↦
            cond-true (nat_eq j i) r.one r.zero (eq-eqb j i e)
            ∙ sym (cond-true (nat_eq (suc j) (suc i)) r.one r.zero (eq-eqb (suc j) (suc i) (ap suc e)))
        | inr d ↦
            cond-false (nat_eq j i) r.one r.zero (ne_eqb j i d)
            ∙ sym (cond-false (nat_eq (suc j) (suc i)) r.one r.zero (ne_eqb (suc j) (suc i) (λ (e : suc j ≡ suc i). d (omega arith))))
      ]

  -- below the degree the letter moves the one up
  pub times-unit : (j i : ℕ) → j < n → times_x r n f (unit_at r j) i ≡ unit_at r (suc j) i
  times-unit j i l =
      ap (λ x. r.add (shifted r (unit_at r j) i) (r.neg (r.mul x (f i)))) (cond-false (nat_eq j n) r.one r.zero (ne_eqb j n (λ e. absurd (omega arith))))
      ∙ ap (λ y. r.add y (r.neg (r.mul r.zero (f i)))) (shifted-unit j i)
      ∙ minus_none r h n f f_in (unit_at r (suc j) i) i (unit_at_in (suc j) i)

  first-unit : (i : ℕ) → constant_at r r.one i ≡ unit_at r 0 i
  first-unit zero = refl
  first-unit (suc i) = sym (cond-false (nat_eq 0 (suc i)) r.one r.zero (ne_eqb 0 (suc i) (λ e. absurd (omega arith))))

  pub letter-unit : (j i : ℕ) → j ≤ n → letter_residue r n f j i ≡ unit_at r j i
  letter-unit zero i l = first-unit i
  letter-unit (suc j) i l =
      ap (λ v. times_x r n f v i) (fun_ext (λ k. letter-unit j k (omega arith))) ∙ times-unit j i (omega arith)

  -- the residue of the power by the degree of the modulus
  pub first-row : (i : ℕ) → i < suc n → r.neg (f i) ≡ letter_residue r n f (suc n) i
  first-row i l =
      let x_in = h.closed.mul_in r.one (f i) h.closed.one_in (f_in i) in
      sym (ap (λ v. times_x r n f v i) (fun_ext (λ k. letter-unit n k (omega arith)))
      ∙ ap₂ r.add (shifted-unit n i ∙ cond-false (nat_eq (suc n) i) r.one r.zero (ne_eqb (suc n) i (λ e. absurd (omega arith))))
      (ap (λ x. r.neg (r.mul x (f i))) (cond-true (nat_eq n n) r.one r.zero (eq-eqb n n refl)))
      ∙ h.zero_add _ (h.closed.neg_in _ x_in)
      ∙ ap r.neg (h.one_mul (f i) (f_in i)))

-- The polynomial one and the letter, as they act on sequences.
module _ {M : Type 0} (R : RingOn M) (commutes : (a b : M) → R.mul a b ≡ R.mul b a) (n : ℕ) (f : ℕ → M) where
  one-acts : (k : ℕ) (v : ℕ → M) (i : ℕ) → 0 < k → act R n f k (constant R R.one) v i ≡ v i
  one-acts zero v i l = absurd (omega arith)
  one-acts (suc k) v i l =
      ap₂ R.add (R.one_mul (v i)) (x-eq R commutes n f _ (λ j. R.zero) (act-none R commutes n f k v) i ∙ x-zero R commutes n f i)
      ∙ add_zero R (v i)

  letter-acts : (k : ℕ) (v : ℕ → M) (i : ℕ) → 0 < k → act R n f (suc k) (shift R (constant R R.one)) v i ≡ x_act R n f v i
  letter-acts k v i l =
      ap (λ y. R.add y (x_act R n f (act R n f k (constant R R.one) v) i)) (zero_mul R (v i))
      ∙ R.zero_add _
      ∙ x-eq R commutes n f _ v (λ j. one-acts k v j l) i

  letter-below : 0 < n → (i : ℕ) → suc n ≤ i → shift R (constant R R.one) i ≡ R.zero
  letter-below l zero past = absurd (omega arith)
  letter-below l (suc zero) past = absurd (omega arith)
  letter-below l (suc (suc i)) past = refl

module _ {E T : Type 0} (r : RingOps E) (h : IsRing r) (commutes : IsCommutative r) (n : ℕ) (f : ℕ → E) (m : IsMonic r n f) (c : Places E T) (p : IsPlaces r n c) (large : 0 < n) where
  letter-is : (i : ℕ) → unit_at r 1 i ≡ (shift (elements h) (constant (elements h) (elements h).one) i).0
  letter-is zero = refl
  letter-is (suc zero) = refl
  letter-is (suc (suc i)) = cond-false (nat_eq 1 (suc (suc i))) r.one r.zero (ne_eqb 1 (suc (suc i)) (λ e. absurd (omega arith)))

  -- a product with the letter
  letter-times : (x : T) (i : ℕ) → c.is_elem x ≡ true → i < suc n → c.place ((residue_ops r n f c).mul (residue_unit r c 1) x) i ≡ times_x r n f (c.place x) i
  letter-times x i e l =
      let R = elements h in
      let comm = commute_on r h commutes in
      let fs = modulus_on r h commutes n f m c p in
      let one_in = unit-in r h commutes n f m c p 1 in
      let v = (value_on r h commutes n f m c p (x, e)).0 in
      let letter : Residue R n = (shift R (constant R R.one), letter-below R comm n fs large) in
      p.place_pack _ i (product-in r h commutes n f m c p (residue_unit r c 1, one_in) (x, e)) l
      ∙ product-is r h commutes n f m c p (residue_unit r c 1, one_in) (x, e) i
      ∙ ap (λ (u : Residue R n). (act R n fs (suc n) u.0 v i).0)
      (value-pack r h commutes n f m c p (unit_at r 1) (unit_at_in r h n f m.coeff_in 1) one_in letter (λ j b. letter-is j))
      ∙ ap (λ y. y.0) (letter-acts R comm n fs n v i large)
      ∙ sym (times-x-value r h n fs v i)

  letter-next : (j : ℕ) → j < n → (residue_ops r n f c).mul (residue_unit r c 1) (residue_unit r c j) ≡ residue_unit r c (suc j)
  letter-next j l =
      let ring = residue_ring r h commutes n f m c p in
      let first = unit-in r h commutes n f m c p 1 in
      let here = unit-in r h commutes n f m c p j in
      let next = unit-in r h commutes n f m c p (suc j) in
      p.place_inj _ _ (ring.closed.mul_in _ _ first here) next (λ i b.
      letter-times (residue_unit r c j) i here b
      ∙ times-x_same r n f (c.place (residue_unit r c j)) (unit_at r j) i b (λ k a. place-unit r h commutes n f m c p j k a)
      ∙ times-unit r h n f m.coeff_in j i l
      ∙ sym (place-unit r h commutes n f m c p (suc j) i b))

  -- a power of a power of the letter, from those of the letter and of the power before it
  pub letter-powers : (q j : ℕ) → j < n
      → (residue_ops r n f c).mul (power_of (residue_ops r n f c) (residue_unit r c 1) q) (power_of (residue_ops r n f c) (residue_unit r c j) q)
      ≡ power_of (residue_ops r n f c) (residue_unit r c (suc j)) q
  letter-powers q j l =
      let t = residue_ops r n f c in
      let ring = residue_ring r h commutes n f m c p in
      let R = elements ring in
      let comm = commute_on t ring (residue_commutes r h commutes n f m c p) in
      let first : Element t = (residue_unit r c 1, unit-in r h commutes n f m c p 1) in
      let here : Element t = (residue_unit r c j, unit-in r h commutes n f m c p j) in
      ap₂ t.mul (sym (power_value t ring first q)) (sym (power_value t ring here q))
      ∙ ap (λ y. y.0) (sym (power-product R comm first here q))
      ∙ power_value t ring (R.mul first here) q
      ∙ ap (λ x. power_of t x q) (letter-next j l)

-- the image of a power of the letter, from that of the letter and that of the power before it
module _ (r : RingOps ℕ) (h : IsRing r) (commutes : IsCommutative r) (modulus : List ℕ) (monic : IsModulus r modulus) where
  pub letter-power_in : (j : ℕ) → IsElem (stored_ops r modulus) (letter_power r (length modulus - 1) j)
  unfolding stored_ops
  letter-power_in j =
      let d = length modulus - 2 in
      let before : d ≡ length modulus - 1 - 1 = omega arith in
      subst (λ m. IsElem (stored_ops r modulus) (residue_unit r (top_places r m) j)) before
      (unit-in r h commutes d (coeff r modulus) (modulus_monic r h modulus monic) (top_places r d) (stores_of r h modulus monic) j)

  pub letter-image_in : (q j : ℕ) → IsElem (stored_ops r modulus) (letter_image r q modulus j)
  letter-image_in q j = power_in (stored_ops r modulus) (stored_ring r h modulus monic commutes) _ q (letter-power_in j)

  pub image-after : (q j : ℕ) → suc j < length modulus - 1
      → (stored_ops r modulus).mul (letter_image r q modulus 1) (letter_image r q modulus j) ≡ letter_image r q modulus (suc j)
  unfolding stored_ops
  image-after q j l =
      let t = stored_ops r modulus in
      let d = length modulus - 2 in
      let before : d ≡ length modulus - 1 - 1 = omega arith in
      subst
      (λ m. t.mul (power_of t (residue_unit r (top_places r m) 1) q) (power_of t (residue_unit r (top_places r m) j) q) ≡ power_of t (residue_unit r (top_places r m) (suc j)) q)
      before
      (letter-powers r h commutes d (coeff r modulus) (modulus_monic r h modulus monic) (top_places r d) (stores_of r h modulus monic) (omega arith) q j (omega arith))
