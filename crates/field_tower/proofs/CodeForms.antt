-- The ring of the codes of which tables are made, and sums of codes that need no digits.
use Rattle.std.proofs.Common.{◌≡◌, ℕ, suc, ◌-◌, ◌^◌, ◌<◌, ◌≤◌, length, slice_index, bit_xor, sym, ap, subst, ◌∙◌, arith, lt-ltb, ltb-true}
use Rattle.ring_core.specs.Ring.{IsElem, IsRing}
use Rattle.residue_field.specs.Base.{base_ops}
use Rattle.residue_field.proofs.BaseLaws.{IsBaseShape, shape_ring}
use Rattle.residue_field.proofs.Listed.{listed_large}
use Rattle.residue_field.proofs.BaseForms.{add-xor}
use Rattle.field_tower.specs.declared.codes.Codes.{Codes}
use Rattle.field_tower.specs.steps.Codes.{code_ops}
use Rattle.field_tower.proofs.PowerSteps.{power_large}

module _ (k : Codes) where
  pub codes_degree : length k.modulus.now - 1 ≡ suc (length k.modulus.now - 2)
  codes_degree = omega (arith, k.monic.degree)

  pub codes_shape : IsBaseShape k.prime.p (length k.modulus.now - 2) k.modulus.now
  codes_shape = record {
    listed = k.prime.listed;
    elems = k.monic.elems;
    count = omega (arith, k.monic.degree);
    top = ap (slice_index k.modulus.now) (sym codes_degree) ∙ k.monic.monic;
  }

  pub codes_count : k.q ≡ k.prime.p ^ suc (length k.modulus.now - 2)
  codes_count = k.count ∙ ap (λ n. k.prime.p ^ n) codes_degree

  -- there are at least as many codes as numbers below the prime
  pub prime_below : k.prime.p ≤ k.q
  prime_below =
      let large : 1 < k.prime.p = listed_large k.prime.p k.prime.listed in
      subst (λ m. k.prime.p ≤ m) (sym k.count) (power_large k.prime.p (length k.modulus.now - 1) (omega arith) (omega (arith, k.monic.degree)))

  pub codes_large : 1 < k.q
  codes_large = omega (arith, listed_large k.prime.p k.prime.listed, prime_below)

  pub codes_ring : IsRing (code_ops k)
  codes_ring = shape_ring k.prime.p (length k.modulus.now - 2) k.modulus.now codes_shape

  pub code_in : (a : ℕ) → a < k.q → IsElem (code_ops k) a
  unfolding base_ops
  code_in a l = lt-ltb a (k.prime.p ^ suc (length k.modulus.now - 2)) (subst (λ m. a < m) codes_count l)

  pub code_below : (a : ℕ) → IsElem (code_ops k) a → a < k.q
  unfolding base_ops
  code_below a e = subst (λ m. a < m) (sym codes_count) (ltb-true a (k.prime.p ^ suc (length k.modulus.now - 2)) e)

  -- in characteristic two
  pub add-bits : k.prime.p ≡ 2 → (a b : ℕ) → a < k.q → b < k.q → bit_xor a b ≡ (code_ops k).add a b
  add-bits two a b l m =
      let d = length k.modulus.now - 2 in
      let count = codes_count ∙ ap (λ p. p ^ suc d) two in
      sym (add-xor d a b k.modulus.now (subst (λ n. a < n) count l) (subst (λ n. b < n) count m))
      ∙ ap (λ p. (base_ops p d k.modulus.now).add a b) (sym two)
