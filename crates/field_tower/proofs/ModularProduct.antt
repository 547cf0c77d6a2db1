-- The product of residues over the numbers modulo a prime, by plain sums: the case of numbers of what holds over any ring.
use Rattle.std.proofs.Common.{◌≡◌, ℕ, suc, ◌+◌, ◌-◌, ◌*◌, ◌%◌, ◌<◌, ◌≤◌, List, length, slice_index_or, sym, ap, ap₂, subst, ◌∙◌, arith, mod-lt, mod-eq_of_lt, zero-mul}
use Rattle.std.proofs.Math.Nat.{add-mod-mod}
use Rattle.ring_core.specs.Ring.{RingOps, IsRing, IsCommutative}
use Rattle.ring_core.specs.Coeffs.{coeff, first_values}
use Rattle.residue_field.specs.declared.TopElem.{TopElem}
use Rattle.residue_field.specs.Residue.{residue, product}
use Rattle.residue_field.specs.TopElem.{top_places}
use Rattle.residue_field.specs.steps.Stored.{IsPlaces}
use Rattle.field_tower.specs.steps.Places.{IsModulus, IsStored}
use Rattle.field_tower.specs.steps.Images.{image_at}
use Rattle.field_tower.specs.steps.Lanes.{plain_sum, plain_product, place_of, letter_row}
use Rattle.field_tower.proofs.Stored.{stores_of}
use Rattle.field_tower.proofs.PlainSums.{plain-same}
use Rattle.field_tower.proofs.ModularForms.{IsModular, read_is, sum_is, plain-zero}
use Rattle.field_tower.proofs.ProductParts.{over-count, row_stored, product_parts}

module _ (r : RingOps ℕ) (p : ℕ) (large : 1 < p) (h : IsModular r p) (ring : IsRing r) (commutes : IsCommutative r) (modulus : List ℕ) (monic : IsModulus r modulus)
    (over : List TopElem) (over_is : over ≡ first_values (length modulus - 1) (letter_row r modulus)) where
  abbrev d : ℕ
  d = length modulus - 2

  abbrev n : ℕ
  n = length modulus - 1

  degree : suc d ≡ n
  degree = let two : 2 ≤ length modulus = monic.degree in omega arith

  places : IsPlaces r d (top_places r d)
  places = stores_of r ring modulus monic

  read : (u : List ℕ) (i : ℕ) → coeff r u i ≡ slice_index_or u i 0
  read = read_is r p large h

  pub factor_low : (a : TopElem) → IsStored r d a → (i : ℕ) → place_of a i < p
  factor_low a e i = subst (λ v. v < p) (read a.0 i) (h.low _ (places.place_in a i e))

  pub factor_past : (a : TopElem) → IsStored r d a → (i : ℕ) → n ≤ i → place_of a i ≡ 0
  factor_past a e i l =
      let deg = degree in
      sym (read a.0 i) ∙ places.place_past a i e (omega arith) ∙ h.zero_is

  pub row_low : (t i : ℕ) → t < length over → place_of (image_at over t) i < p
  row_low t i l =
      let count = over-count r ring commutes modulus monic over over_is in
      factor_low (image_at over t) (row_stored r ring commutes modulus monic over over_is t (omega arith)) i

  pub past_none : (i : ℕ) (y : ℕ → ℕ) → n ≤ i → plain_sum (n - 1) (λ t. place_of (image_at over t) i * y t) % p ≡ 0
  past_none i y l =
      let deg = degree in
      ap (λ m. m % p)
      (plain-zero (n - 1) (λ t. place_of (image_at over t) i * y t) (λ t m.
      ap (λ x. x * y t) (factor_past (image_at over t) (row_stored r ring commutes modulus monic over over_is t (omega arith)) i l) ∙ zero-mul (y t)))
      ∙ mod-eq_of_lt (omega (arith, large))

  module _ (a b : TopElem) (stored_a : IsStored r d a) (stored_b : IsStored r d b) where
    coeffs : ℕ → ℕ
    coeffs = product r (coeff r a.0) (coeff r b.0)

    coeffs_is : (k : ℕ) → coeffs k ≡ plain_product a b k % p
    unfolding coeffs
    coeffs_is k =
        sum_is r p large h (k + 1) (λ i. coeff r a.0 i) (λ i. coeff r b.0 (k - i))
        (λ i l. h.low _ (places.place_in a i stored_a)) (λ i l. h.low _ (places.place_in b (k - i) stored_b))
        ∙ ap (λ m. m % p) (plain-same (k + 1) _ _ (λ i l. ap₂ (λ x y. x * y) (read b.0 (k - i)) (read a.0 i)))

    coeffs_low : (k : ℕ) → coeffs k < p
    coeffs_low k = subst (λ v. v < p) (sym (coeffs_is k)) (mod-lt _ (omega (arith, large)))

    pub product_below : (i : ℕ) → i < n
        → residue r d (coeff r modulus) (d + 1 + (d + 1)) (product r (coeff r a.0) (coeff r b.0)) i
        ≡ (plain_product a b i % p + plain_sum (n - 1) (λ t. place_of (image_at over t) i * (plain_product a b (n + t) % p))) % p
    unfolding coeffs
    product_below i l =
        let deg = degree in
        let rest : ℕ → ℕ = λ t. coeff r (image_at over t).0 i * coeffs (n + t) in
        product_parts r ring commutes modulus monic over over_is a b stored_a stored_b i l
        ∙ ap₂ r.add (coeffs_is i)
        (sum_is r p large h (n - 1) (λ t. coeffs (n + t)) (λ t. coeff r (image_at over t).0 i) (λ t m. coeffs_low (n + t))
        (λ t m. h.low _ (places.place_in (image_at over t) i (row_stored r ring commutes modulus monic over over_is t (omega arith)))))
        ∙ h.add_is (plain_product a b i % p) (plain_sum (n - 1) rest % p) (mod-lt _ (omega (arith, large))) (mod-lt _ (omega (arith, large)))
        ∙ add-mod-mod (plain_product a b i % p) (plain_sum (n - 1) rest) p
        ∙ ap (λ s. (plain_product a b i % p + s) % p)
        (plain-same (n - 1) rest (λ t. place_of (image_at over t) i * (plain_product a b (n + t) % p)) (λ t m.
        ap₂ (λ x y. x * y) (read (image_at over t).0 i) (coeffs_is (n + t))))
