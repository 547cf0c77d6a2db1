-- Base fields as finite fields over the numbers modulo p, for which their operations stay shut.
use Rattle.std.proofs.Common.{◌≡◌, ℕ, suc, ◌-◌, ◌%◌, ◌^◌, ◌<◌, List, true, nat_lt, sym, subst, refl, ap, arith, lt-ltb, ltb-true, mod-lt, mod-eq_of_lt}
use Rattle.ring_core.specs.Ring.{IsRing}
use Rattle.ring_core.proofs.Carrier.{Element, elements, same_element}
use native.Mathlib.Nat.{one-le-pow}
use Rattle.finite_ring.proofs.Counted.{IsCounted}
use Rattle.finite_ring.specs.Finite.{HasNoPair}
use Rattle.finite_ring.proofs.Frobenius.{IsFiniteField}
use Rattle.residue_field.specs.steps.Stored.{IsPlaces}
use Rattle.residue_field.specs.Prime.{prime_ops}
use Rattle.residue_field.specs.Digits.{code_places}
use Rattle.residue_field.specs.Base.{Base, base_ops, ops_of, size_of}
use Rattle.residue_field.proofs.Modular.{prime_ring, prime_commutes}
use Rattle.residue_field.proofs.Listed.{listed_large}
use Rattle.residue_field.proofs.DigitLaws.{code_stores, number-zeros}
use Rattle.residue_field.proofs.Characteristic.{prime_finite}
use Rattle.residue_field.proofs.FrobLaws.{residue_finite}
use Rattle.residue_field.proofs.BaseLaws.{IsBaseShape, base_monic, degree_of, shape_of}

module _ (p n : ℕ) (modulus : List ℕ) (shape : IsBaseShape p n modulus) where
  stores : IsPlaces (prime_ops p) n (code_places p n)
  stores = code_stores p n (omega (arith, listed_large p shape.listed))

  pub shape_finite : (degree : ℕ) → degree ≡ suc n → HasNoPair (base_ops p n modulus) → (ring : IsRing (base_ops p n modulus)) → IsFiniteField (elements ring) (p ^ degree)
  unfolding base_ops
  shape_finite degree is no_pair =
      residue_finite (prime_ops p) (prime_ring p (listed_large p shape.listed)) (prime_commutes p) n _ (base_monic p n modulus shape)
      (code_places p n) stores p (prime_finite p shape.listed) degree is no_pair

-- The codes number themselves.
pub code_counted : (p n : ℕ) (modulus : List ℕ) → 0 < p → (size : ℕ) → size ≡ p ^ suc n → (ring : IsRing (base_ops p n modulus)) → IsCounted (elements ring) size
unfolding base_ops
code_counted p n modulus positive size is ring =
    let some : 0 < size = omega (arith, one-le-pow (suc n) p positive) in
    let below = λ (x : Element (base_ops p n modulus)). subst (λ m. x.0 < m) (sym is) (ltb-true x.0 (p ^ suc n) x.1) in
    record {
      index = λ x. x.0;
      nth = λ i. (i % size, subst (λ m. nat_lt (i % size) m ≡ true) is (lt-ltb _ size (mod-lt i some)));
      below = below;
      nth_index = λ x. same_element (base_ops p n modulus) _ _ (mod-eq_of_lt (below x));
      index_nth = λ i l. mod-eq_of_lt l;
      index_zero = number-zeros p (suc n) (λ i. 0) (λ i l. refl);
    }

-- A base field of the size of its codes, which number themselves.
pub base_finite : (k : Base) (ring : IsRing (ops_of k)) → IsFiniteField (elements ring) (size_of k)
base_finite k ring =
    let large : 1 < k.p = listed_large k.p k.is_base.listed in
    let by_code = code_counted k.p (k.s - 1) k.modulus (omega arith) (size_of k) (ap (λ m. k.p ^ m) (sym (degree_of k))) ring in
    record (shape_finite k.p (k.s - 1) k.modulus (shape_of k) k.s (sym (degree_of k)) k.is_base.no_pair ring) { counted = by_code }

pub base_nth : (k : Base) (ring : IsRing (ops_of k)) (i : ℕ) → i < size_of k → ((base_finite k ring).counted.nth i).0 ≡ i
unfolding base_finite code_counted
base_nth k ring i l = mod-eq_of_lt l
