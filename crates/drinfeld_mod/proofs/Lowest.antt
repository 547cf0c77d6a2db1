-- A twisted polynomial that isn't zero has a lowest term; a module has one height, and it exists.
use Rattle.std.proofs.Common.{◌≡◌, ◌≢◌, ℕ, ◌-◌, ◌*◌, ◌/◌, ◌<◌, ◌≤◌, inl, inr, true, Option, List, [], length, subst, ⊎_elim, arith}
use Rattle.std.proofs.lemmas.Bool.{and_parts, cases_lt}
use Rattle.std.proofs.Math.Nat.{eq_of_mul-eq-mul_right}
use Rattle.ring_core.specs.Ring.{RingOps, IsElem, SameDecides}
use Rattle.ring_core.specs.Field.{IsField, FrobOps, IsFrobField}
use Rattle.ring_core.specs.Coeffs.{coeff, are_elems, is_canonical}
use Rattle.ring_core.proofs.Coefficients.{elem_read}
use Rattle.ring_core.proofs.Degrees.{top_nonzero, has_members}
use Rattle.minimal_poly.proofs.MinPoly.{same_poly}
use Rattle.ore_poly.specs.Terms.{IsLowest}
use Rattle.drinfeld_mod.specs.Module.{IsModule, rank_of, constant_of}
use Rattle.drinfeld_mod.specs.Image.{image}
use Rattle.drinfeld_mod.specs.Height.{IsCharacteristic, IsHeight}
use Rattle.drinfeld_mod.proofs.Modules.{equal_or_not}
use Rattle.drinfeld_mod.proofs.Actions.{image_in}
use Rattle.drinfeld_mod.proofs.Periods.{least_of, least_exists}
use Rattle.drinfeld_mod.proofs.Heights.{image_nonzero, degree_positive, height_found}

module _ {E : Type 0} (r : RingOps E) (z : IsElem r r.zero) (d : SameDecides r) where
  -- the lowest coefficient that isn't zero
  pub lowest_exists : (u : List E) → is_canonical r u ≡ true → u ≢ [] → (i : ℕ) × IsLowest r u i
  lowest_exists u c some =
      let parts = and_parts (are_elems r u) _ c in
      let decided = λ (i : ℕ). equal_or_not r d (coeff r u i) r.zero (elem_read r u z parts.0 i) z in
      let found =
      least_of (λ i. coeff r u i ≢ r.zero) (λ i. ⊎_elim (λ e. inr (λ ne. ne e)) (λ ne. inl ne) (decided i)) (length u - 1) (top_nonzero r z d u parts.1 some) in (
        found.0,
        record {
          within = omega (arith, found.1, has_members u some);
          nonzero = found.2.holds;
          below = λ j l. ⊎_elim (λ e. e) (λ ne. absurd (found.2.least j l ne)) (decided j);
        },
      )

  -- and only one
  pub lowest_only : (u : List E) (i j : ℕ) → IsLowest r u i → IsLowest r u j → i ≡ j
  lowest_only u i j a b =
      ⊎_elim
      (λ (less : i < j). absurd (a.nonzero (b.below i less)))
      (λ (most : j ≤ i). ⊎_elim (λ (less : j < i). absurd (b.nonzero (a.below j less))) (λ (least : i ≤ j). omega arith) (cases_lt j i))
      (cases_lt i j)

module _ {E B : Type 0} (r : RingOps E) (inv : E → Option E) (base : RingOps B) (base_inv : B → Option B) (f : FrobOps E B) (k : IsField r inv) (kb : IsField base base_inv) (l : IsFrobField r base f) (phi : List E) (m : IsModule r phi) where
  abbrev constant : E
  constant = constant_of r phi

  constant_in : IsElem r constant
  constant_in = elem_read r phi k.ring.closed.zero_in (and_parts _ _ m.canonical).0 0

  pub one_characteristic : (a b : List B) → IsCharacteristic r base f phi a → IsCharacteristic r base f phi b → a ≡ b
  one_characteristic a b pa pb = same_poly r inv base base_inv f k kb l constant constant_in a b pa pb

  pub exists : (h : ℕ) × IsHeight r base f phi h × (1 ≤ h) × (h ≤ rank_of phi)
  exists =
      let p = least_exists r inv base base_inv f k kb l constant constant_in in
      let elems : are_elems base p.0 ≡ true = (and_parts _ _ p.1.canonical).0 in
      let low =
      lowest_exists r k.ring.closed.zero_in k.ring.equal (image r base f phi p.0) (image_in r inv base base_inv f k kb l phi m.canonical p.0 elems)
      (image_nonzero r inv base base_inv f k kb l phi m p.0 p.1) in
      let found = height_found r inv base base_inv f k kb l phi m p.0 p.1 low.0 low.1 in
      (low.0 / (length p.0 - 1), found.0, found.1, found.2)

  pub one_height : (g h : ℕ) → IsHeight r base f phi g → IsHeight r base f phi h → g ≡ h
  one_height g h a b =
      let same : b.p ≡ a.p = one_characteristic b.p a.p b.characteristic a.characteristic in
      let low : IsLowest r (image r base f phi a.p) (h * (length a.p - 1)) = subst (λ p. IsLowest r (image r base f phi p) (h * (length p - 1))) same b.lowest in
      eq_of_mul-eq-mul_right (length a.p - 1) (degree_positive r inv base base_inv f k kb l phi m a.p a.characteristic _ a.lowest) g h
      (lowest_only r k.ring.closed.zero_in k.ring.equal (image r base f phi a.p) _ _ a.lowest low)
