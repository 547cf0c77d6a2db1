-- Pairs of codes, from pairs of residues in places.
use Rattle.std.proofs.Common.{◌≡◌, ℕ, suc, ◌-◌, ◌<◌, List, length, slice_index, ap, sym, subst, ◌∙◌, arith}
use Rattle.ring_core.specs.Ring.{IsRing}
use Rattle.ring_core.specs.Coeffs.{coeff}
use Rattle.finite_ring.specs.Finite.{HasNoPair}
use Rattle.residue_field.specs.declared.TopElem.{TopElem}
use Rattle.residue_field.specs.steps.Stored.{IsPlaces}
use Rattle.residue_field.specs.TopElem.{top_places}
use Rattle.residue_field.specs.Prime.{prime_ops}
use Rattle.residue_field.specs.Digits.{number, code_places}
use Rattle.residue_field.specs.Base.{base_ops}
use Rattle.residue_field.proofs.Modular.{prime_ring, prime_commutes}
use Rattle.residue_field.proofs.Listed.{listed_large}
use Rattle.residue_field.proofs.DigitLaws.{code_stores}
use Rattle.residue_field.proofs.Storage.{moved_in, moved_nonzero, moved_product, no_pair_moved}
use Rattle.field_tower.specs.declared.codes.Codes.{Codes}
use Rattle.field_tower.specs.steps.Places.{stored_ops}
use Rattle.field_tower.specs.Constants.{IsFieldOfCodes}
use Rattle.field_tower.specs.Pairs.{IsPair}
use Rattle.field_tower.proofs.CodeForms.{codes_degree, prime_below}
use Rattle.field_tower.proofs.Stored.{modulus_monic, stores_of}
use Rattle.field_tower.proofs.ConstantValues.{prime_codes}

module _ (k : Codes) where
  abbrev p : ℕ
  p = k.prime.p

  abbrev modulus : List ℕ
  modulus = k.modulus.now

  abbrev d : ℕ
  d = length modulus - 2

  large : 1 < p
  large = listed_large p k.prime.listed

  ring : IsRing (prime_ops p)
  ring = prime_ring p large

  places : IsPlaces (prime_ops p) d (top_places (prime_ops p) d)
  places = stores_of (prime_ops p) ring modulus k.monic

  codes : IsPlaces (prime_ops p) d (code_places p d)
  codes = code_stores p d (omega (arith, large))

  pub prime_constants : IsFieldOfCodes (prime_ops p) p
  prime_constants = prime_codes p k.prime.listed (omega (arith, prime_below k, k.small))

  pub no_code_pair : HasNoPair (stored_ops (prime_ops p) modulus) → HasNoPair (base_ops p d modulus)
  unfolding stored_ops base_ops
  no_code_pair =
      no_pair_moved (prime_ops p) ring (prime_commutes p) d (coeff (prime_ops p) modulus) (modulus_monic (prime_ops p) ring modulus k.monic)
      (top_places (prime_ops p) d) places (code_places p d) codes

  -- the code of a residue
  code_of : TopElem → ℕ
  code_of t = number p (suc d) (slice_index t.0)

  pair_of_codes : (a b : TopElem) → IsPair (stored_ops (prime_ops p) modulus) a b → IsPair (base_ops p d modulus) (code_of a) (code_of b)
  unfolding stored_ops base_ops code_of
  pair_of_codes a b pair =
      let r = prime_ops p in
      let f = coeff r modulus in
      let m = modulus_monic r ring modulus k.monic in
      let c = top_places r d in
      let to = code_places p d in
      record {
        left_in = moved_in r ring (prime_commutes p) d f m c places to codes a pair.left_in;
        right_in = moved_in r ring (prime_commutes p) d f m c places to codes b pair.right_in;
        left_nonzero = moved_nonzero r ring (prime_commutes p) d f m c places to codes a pair.left_in pair.left_nonzero;
        right_nonzero = moved_nonzero r ring (prime_commutes p) d f m c places to codes b pair.right_in pair.right_nonzero;
        product_zero = moved_product r ring (prime_commutes p) d f m c places to codes a b pair.left_in pair.right_in pair.product_zero;
      }

  pub code_pair_made : (a b : TopElem) (x y : ℕ) → IsPair (stored_ops (prime_ops p) modulus) a b
      → x ≡ number p (length modulus - 1) (slice_index a.0) → y ≡ number p (length modulus - 1) (slice_index b.0) → IsPair (base_ops p d modulus) x y
  unfolding code_of
  code_pair_made a b x y pair is_x is_y =
      let code = λ (t : TopElem). ap (λ m. number p m (slice_index t.0)) (codes_degree k) in
      subst (λ v. IsPair (base_ops p d modulus) x v) (sym (is_y ∙ code b))
      (subst (λ u. IsPair (base_ops p d modulus) u (code_of b)) (sym (is_x ∙ code a)) (pair_of_codes a b pair))
