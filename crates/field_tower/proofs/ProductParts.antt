-- The product of residues over any ring: the plain product below the degree, and each further coefficient times the
-- residue of its power of the letter.
use Rattle.std.proofs.lemmas.Bool.{cases_lt}
use Rattle.std.proofs.lemmas.List.{length-take}
use Rattle.std.proofs.Common.{inl, inr, ◌≡◌, ℕ, suc, ◌+◌, ◌-◌, ◌<◌, ◌≤◌, true, List, length, take, get_or-take, sym, ap, ap₂, subst, ◌∙◌, arith}
use mathlib.Core.Path.{fun_ext}
use Rattle.ring_core.specs.Ring.{RingOps, IsElem, IsRing, IsCommutative}
use Rattle.ring_core.specs.Coeffs.{coeff, are_elems, first_values, sum_below}
use Rattle.ring_core.proofs.Coefficients.{coeff_past, elem_read, elems_take}
use Rattle.ring_core.proofs.Terms.{add_nothing, zero_times, times_zero}
use Rattle.ring_core.proofs.Twist.{sum_in, sum_of_zeros, sum_same}
use Rattle.residue_field.specs.declared.TopElem.{TopElem}
use Rattle.residue_field.specs.declared.TheConstants.{WIDTH}
use Rattle.linear_algebra.specs.Combines.{combined}
use Rattle.residue_field.specs.Residue.{residue, product}
use Rattle.residue_field.specs.TopElem.{top_places}
use Rattle.residue_field.specs.steps.Stored.{IsPlaces}
use Rattle.residue_field.proofs.TopPlaces.{elems_of}
use Rattle.field_tower.specs.steps.Places.{IsModulus, IsStored, stored}
use Rattle.field_tower.specs.steps.Images.{image_at}
use Rattle.field_tower.specs.steps.Lanes.{letter_residue, letter_row}
use Rattle.field_tower.proofs.Stored.{top_elem, fits_of, modulus_monic, stores_of, stored_from, stored-low, stored_in}
use Rattle.field_tower.proofs.FrobMap.{image-read, images_count}
use Rattle.field_tower.proofs.AddedRows.{combined_same}
use Rattle.field_tower.proofs.PowerRows.{letter_in, residue_parts}

module _ (r : RingOps ℕ) (ring : IsRing r) (commutes : IsCommutative r) (modulus : List ℕ) (monic : IsModulus r modulus)
    (over : List TopElem) (over_is : over ≡ first_values (length modulus - 1) (letter_row r modulus)) where
  abbrev d : ℕ
  d = length modulus - 2

  abbrev n : ℕ
  n = length modulus - 1

  degree : suc d ≡ n
  degree = let two : 2 ≤ length modulus = monic.degree in omega arith

  places : IsPlaces r d (top_places r d)
  places = stores_of r ring modulus monic

  pub over-count : length over ≡ n
  over-count = images_count over n (letter_row r modulus) over_is

  row-read : (t : ℕ) → t < n → image_at over t ≡ stored r d (letter_residue r d (coeff r modulus) (n + t))
  unfolding letter_row
  row-read t l = image-read over n (letter_row r modulus) over_is t l

  letters_in : (k i : ℕ) → IsElem r (letter_residue r d (coeff r modulus) k i)
  letters_in = letter_in r ring commutes d (coeff r modulus) (modulus_monic r ring modulus monic)

  pub row_stored : (t : ℕ) → t < n → IsStored r d (image_at over t)
  row_stored t l =
      subst (IsStored r d) (sym (row-read t l)) (stored_in r d ring (fits_of r ring modulus monic) _ (letters_in (n + t)))

  pub row_elems : (t : ℕ) → t < length over → are_elems r (image_at over t).0 ≡ true
  row_elems t l =
      let count = over-count in
      elems_of r ring d (fits_of r ring modulus monic) (image_at over t) (row_stored t (omega arith))

  row-below : (t i : ℕ) → t < n → i < suc d → letter_residue r d (coeff r modulus) (suc d + t) i ≡ coeff r (image_at over t).0 i
  row-below t i l m =
      ap (λ k. letter_residue r d (coeff r modulus) (k + t) i) degree
      ∙ sym (ap (λ x. coeff r x.0 i) (row-read t l) ∙ stored-low r d (fits_of r ring modulus monic) _ i m)

  -- the first n members of a residue
  taken : (a : TopElem) → IsStored r d a → coeff r (take n a.0) ≡ coeff r a.0
  taken a e =
      fun_ext (λ i. elim (cases_lt i n) [
        | inl l ↦ get_or-take n a.0 i r.zero l
        | inr m ↦
            let deg = degree in
            let count = length-take n a.0 in
            coeff_past r (take n a.0) i (omega arith) ∙ sym (places.place_past a i e (omega arith))
      ])

  module _ (a b : TopElem) (stored_a : IsStored r d a) (stored_b : IsStored r d b) where
    abbrev coeffs : ℕ → ℕ
    coeffs = product r (coeff r a.0) (coeff r b.0)

    coeffs_in : (k : ℕ) → IsElem r (coeffs k)
    coeffs_in k =
        sum_in r ring (k + 1) (λ i. r.mul (coeff r a.0 i) (coeff r b.0 (k - i)))
        (λ i l. ring.closed.mul_in _ _ (places.place_in a i stored_a) (places.place_in b (k - i) stored_b))

    -- the product has no coefficient 2 n - 1
    top_none : coeffs (suc d + d) ≡ r.zero
    top_none =
        sum_of_zeros r ring (suc d + d + 1) (λ i. r.mul (coeff r a.0 i) (coeff r b.0 (suc d + d - i))) (λ i l. elim (cases_lt i (suc d)) [
          | inl m ↦
              times_zero r ring (coeff r a.0 i) (coeff r b.0 (suc d + d - i)) (places.place_in a i stored_a)
              (places.place_past b (suc d + d - i) stored_b (omega arith))
          | inr m ↦
              zero_times r ring (coeff r a.0 i) (coeff r b.0 (suc d + d - i)) (places.place_past a i stored_a m)
              (places.place_in b (suc d + d - i) stored_b)
        ])

    pub product_parts : (i : ℕ) → i < n
        → residue r d (coeff r modulus) (d + 1 + (d + 1)) coeffs i
        ≡ r.add (coeffs i) (sum_below r (n - 1) (λ t. r.mul (coeffs (n + t)) (coeff r (image_at over t).0 i)))
    product_parts i l =
        let deg = degree in
        let f = coeff r modulus in
        let here : i < suc d = omega arith in
        let count : d + 1 + (d + 1) ≡ suc d + suc d = omega arith in
        let last : d ≡ n - 1 = omega arith in
        let term : ℕ → ℕ = λ t. r.mul (coeffs (suc d + t)) (letter_residue r d f (suc d + t) i) in
        let kept : ℕ → ℕ = λ t. r.mul (coeffs (n + t)) (coeff r (image_at over t).0 i) in
        ap (λ k. residue r d f k coeffs i) count
        ∙ residue_parts r ring commutes d f (modulus_monic r ring modulus monic) (suc d) coeffs coeffs_in i here
        ∙ ap (r.add (coeffs i))
        (add_nothing r ring (sum_below r d term) (term d)
        (sum_in r ring d term (λ t m. ring.closed.mul_in _ _ (coeffs_in (suc d + t)) (letters_in (suc d + t) i)))
        (zero_times r ring (coeffs (suc d + d)) (letter_residue r d f (suc d + d) i) top_none (letters_in (suc d + d) i))
        ∙ sum_same r ring d term kept (λ t m. ap₂ r.mul (ap (λ k. coeffs (k + t)) degree) (row-below t i (omega arith) here))
        ∙ ap (λ k. sum_below r k kept) last)

    -- the first places of the plain product p, and the rows times its others
    pub parts_stored : (p factors out : List ℕ) (low : TopElem) → length out ≡ WIDTH → are_elems r p ≡ true → length factors ≡ n - 1
        → ((k : ℕ) → k < n + n → coeff r p k ≡ product r (coeff r (take n a.0)) (coeff r (take n b.0)) k)
        → ((t : ℕ) → t < n - 1 → coeff r factors t ≡ coeff r p (n + t))
        → low ≡ stored r d (coeff r (take n p))
        → ((i : ℕ) → i < n → coeff r out i ≡ r.add (coeff r low.0 i) (combined r (length factors) (coeff r factors) (λ t. coeff r (image_at over (0 + t)).0) i))
        → ((i : ℕ) → n ≤ i → coeff r out i ≡ coeff r low.0 i)
        → top_elem out ≡ stored r d (residue r d (coeff r modulus) (d + 1 + (d + 1)) coeffs)
    parts_stored p factors out low width p_in count plain others low_is added past =
        let deg = degree in
        let fits = fits_of r ring modulus monic in
        let whole : (k : ℕ) → k < n + n → coeff r p k ≡ coeffs k =
        λ k l. plain k l ∙ ap₂ (λ x y. product r x y k) (taken a stored_a) (taken b stored_b) in
        stored_from r d out (residue r d (coeff r modulus) (d + 1 + (d + 1)) coeffs) width
        (λ i (l : i < suc d).
        added i (omega arith)
        ∙ ap₂ r.add
        (ap (λ x. coeff r x.0 i) low_is ∙ stored-low r d fits (coeff r (take n p)) i l ∙ get_or-take n p i r.zero (omega arith) ∙ whole i (omega arith))
        (combined_same r ring (n - 1) (length factors) (coeff r factors) (λ t. coeffs (n + t)) (λ t. coeff r (image_at over (0 + t)).0)
        (λ t. coeff r (image_at over t).0) i count (λ t m. others t m ∙ whole (n + t) (omega arith))
        (λ t m. let here : 0 + t ≡ t = omega arith in ap (λ k. coeff r (image_at over k).0 i) here))
        ∙ sym (product_parts i (omega arith)))
        (λ i (l : suc d ≤ i).
        past i (omega arith) ∙ ap (λ x. coeff r x.0 i) low_is
        ∙ places.place_past _ i (stored_in r d ring fits (coeff r (take n p)) (elem_read r (take n p) ring.closed.zero_in (elems_take r n p p_in))) l)
