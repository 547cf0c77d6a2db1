-- Base fields are fields. The laws of the ring hold for every listed prime and monic modulus; that no two
-- nonzero codes multiply to zero gives the field.
use Rattle.std.proofs.Common.{◌≡◌, ◌≢◌, ℕ, suc, ◌+◌, ◌-◌, ◌^◌, ◌<◌, List, length, slice_index, true, sym, ap, subst, ◌∙◌, arith}
use Rattle.ring_core.specs.Ring.{IsElem, IsRing, IsCommutative, IsNumbered}
use Rattle.ring_core.specs.Field.{IsField}
use Rattle.ring_core.specs.Coeffs.{coeff, are_elems}
use Rattle.ring_core.proofs.Carrier.{elements}
use Rattle.ring_core.proofs.Coefficients.{elem_read, coeff_past}
use Rattle.finite_ring.specs.Finite.{HasNoPair, inverse_by_power}
use Rattle.finite_ring.proofs.Counted.{IsCounted, numbered}
use Rattle.residue_field.specs.steps.Stored.{IsMonic}
use Rattle.residue_field.specs.Prime.{is_listed, prime_ops}
use Rattle.residue_field.specs.Digits.{code_places}
use Rattle.residue_field.specs.Base.{Base, base_ops, ops_of, size_of, inverse_of, letter_code}
use Rattle.residue_field.proofs.Modular.{prime_ring, prime_commutes, prime_counted}
use Rattle.residue_field.proofs.Listed.{listed_large}
use Rattle.residue_field.proofs.DigitLaws.{code_stores}
use Rattle.residue_field.proofs.ResidueRing.{residue_ring, residue_commutes, residue_one}
use Rattle.residue_field.proofs.Letter.{letter-in}
use Rattle.residue_field.proofs.Counted.{residue_counted, residue_field}

-- The data of a base field of degree n + 1, before it is known that no two nonzero codes multiply to zero.
pub record IsBaseShape (p n : ℕ) (modulus : List ℕ) : Type 0 where
  pub listed : is_listed p ≡ true
  pub elems : are_elems (prime_ops p) modulus ≡ true
  pub count : length modulus ≡ suc n + 1
  pub top : slice_index modulus (suc n) ≡ 1

module _ (p n : ℕ) (modulus : List ℕ) (shape : IsBaseShape p n modulus) where
  large : 1 < p
  large = listed_large p shape.listed

  pub base_monic : IsMonic (prime_ops p) n (coeff (prime_ops p) modulus)
  base_monic = record {
    coeff_in = elem_read (prime_ops p) modulus (prime_ring p large).closed.zero_in shape.elems;
    top = shape.top;
    past = λ i l.
        let count : length modulus ≡ suc n + 1 = shape.count in
        coeff_past (prime_ops p) modulus i (omega arith);
  }

  pub shape_ring : IsRing (base_ops p n modulus)
  unfolding base_ops
  shape_ring = residue_ring (prime_ops p) (prime_ring p large) (prime_commutes p) n _ base_monic (code_places p n) (code_stores p n (omega (arith, large)))

  pub shape_commutes : IsCommutative (base_ops p n modulus)
  unfolding base_ops
  shape_commutes = residue_commutes (prime_ops p) (prime_ring p large) (prime_commutes p) n _ base_monic (code_places p n) (code_stores p n (omega (arith, large)))

  pub shape_one : (base_ops p n modulus).one ≢ (base_ops p n modulus).zero
  unfolding base_ops
  shape_one = residue_one (prime_ops p) (prime_ring p large) (prime_commutes p) n _ base_monic (code_places p n) (code_stores p n (omega (arith, large))) (λ e. absurd (omega arith))

  pub shape_counted : (ring : IsRing (base_ops p n modulus)) → IsCounted (elements ring) (p ^ suc n)
  unfolding base_ops
  shape_counted = residue_counted (prime_ops p) (prime_ring p large) n _ (code_places p n) (code_stores p n (omega (arith, large))) p (prime_counted p large)

  pub shape_field : HasNoPair (base_ops p n modulus) → IsField (base_ops p n modulus) (inverse_by_power (base_ops p n modulus) (p ^ suc n))
  unfolding base_ops
  shape_field =
      residue_field (prime_ops p) (prime_ring p large) (prime_commutes p) n _ base_monic (code_places p n) (code_stores p n (omega (arith, large)))
      p (prime_counted p large) (λ e. absurd (omega arith))

pub degree_of : (k : Base) → suc (k.s - 1) ≡ k.s
degree_of k = let positive : 0 < k.s = k.is_base.positive in omega arith

pub shape_of : (k : Base) → IsBaseShape k.p (k.s - 1) k.modulus
shape_of k = record {
  listed = k.is_base.listed;
  elems = k.is_base.elems;
  count = k.is_base.count ∙ ap (λ m. m + 1) (sym (degree_of k));
  top = ap (slice_index k.modulus) (degree_of k) ∙ k.is_base.top;
}

pub base_ring : (k : Base) → IsRing (ops_of k)
base_ring k = shape_ring k.p (k.s - 1) k.modulus (shape_of k)

pub base_commutes : (k : Base) → IsCommutative (ops_of k)
base_commutes k = shape_commutes k.p (k.s - 1) k.modulus (shape_of k)

pub base_one : (k : Base) → (ops_of k).one ≢ (ops_of k).zero
base_one k = shape_one k.p (k.s - 1) k.modulus (shape_of k)

pub base_counted : (k : Base) (ring : IsRing (ops_of k)) → IsCounted (elements ring) (size_of k)
base_counted k ring =
    subst (λ m. IsCounted (elements ring) (k.p ^ m)) (degree_of k) (shape_counted k.p (k.s - 1) k.modulus (shape_of k) ring)

pub base_numbered : (k : Base) → IsNumbered (ops_of k) (size_of k)
base_numbered k = numbered (ops_of k) (base_ring k) (size_of k) (base_counted k (base_ring k))

pub base_field : (k : Base) → IsField (ops_of k) (inverse_of k)
base_field k =
    subst (λ m. IsField (ops_of k) (inverse_by_power (ops_of k) (k.p ^ m))) (degree_of k)
    (shape_field k.p (k.s - 1) k.modulus (shape_of k) k.is_base.no_pair)

pub letter_code_in : (k : Base) → IsElem (ops_of k) (letter_code k)
unfolding base_ops letter_code
letter_code_in k =
    let prime : 1 < k.p = listed_large k.p k.is_base.listed in
    letter-in (prime_ops k.p) (prime_ring k.p prime) (prime_commutes k.p) (k.s - 1) _ (base_monic k.p (k.s - 1) k.modulus (shape_of k))
    (code_places k.p (k.s - 1)) (code_stores k.p (k.s - 1) (omega (arith, prime)))
