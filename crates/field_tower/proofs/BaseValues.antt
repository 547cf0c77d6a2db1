-- The elements of a base field as numbers.
use Rattle.std.proofs.Common.{◌≡◌, ◌≢◌, ℕ, suc, ◌+◌, ◌-◌, ◌*◌, ◌^◌, ◌<◌, ◌≤◌, nat_eq, nat_lt, List, Some, None, sym, refl, ap, ◌∙◌, arith, ltb-true, eq-eqb, ne_eqb}
use Rattle.std.proofs.lemmas.Bool.{cond-true, cond-false}
use Rattle.ring_core.specs.Ring.{IsElem}
use Rattle.ring_core.specs.Powers.{power_of}
use Rattle.residue_field.specs.Base.{Base, base_ops, ops_of, size_of, inverse_of}
use Rattle.residue_field.proofs.DigitLaws.{number-zeros}
use Rattle.residue_field.proofs.Listed.{listed_large}
use Rattle.residue_field.proofs.BaseLaws.{degree_of}
use Rattle.field_tower.proofs.PowerSteps.{power_large}

module _ (p n : ℕ) (modulus : List ℕ) where
  pub base-zero : (base_ops p n modulus).zero ≡ 0
  unfolding base_ops
  base-zero = number-zeros p (suc n) (λ i. 0) (λ i l. refl)

  pub base-one : (base_ops p n modulus).one ≡ 1
  unfolding base_ops
  base-one = ap (λ x. 1 + p * x) (number-zeros p n (λ i. 0) (λ i l. refl)) ∙ omega arith

  pub base-same : (a b : ℕ) → (base_ops p n modulus).same a b ≡ nat_eq a b
  unfolding base_ops
  base-same a b = refl

pub elem-is : (k : Base) (a : ℕ) → (ops_of k).is_elem a ≡ nat_lt a (size_of k)
unfolding base_ops
elem-is k a = ap (λ m. nat_lt a (k.p ^ m)) (degree_of k)

pub below_size : (k : Base) (a : ℕ) → IsElem (ops_of k) a → a < size_of k
below_size k a e = ltb-true a (size_of k) (sym (elem-is k a) ∙ e)

pub size_large : (k : Base) → 2 ≤ size_of k
size_large k =
    let large : 1 < k.p = listed_large k.p k.is_base.listed in
    let positive : 0 < k.p = omega arith in
    let degree : 1 ≤ k.s = k.is_base.positive in
    let bound : k.p ≤ size_of k = power_large k.p k.s positive degree in
    omega arith

pub inverse_none : (k : Base) (a : ℕ) → a ≡ 0 → None ≡ inverse_of k a
inverse_none k a e =
    let zero = base-zero k.p (k.s - 1) k.modulus in
    sym (cond-true _ None (Some (power_of (ops_of k) a (size_of k - 2)))
    (base-same k.p (k.s - 1) k.modulus a _ ∙ eq-eqb a _ (e ∙ sym zero)))

pub inverse_some : (k : Base) (a b : ℕ) → a ≢ 0 → b ≡ power_of (ops_of k) a (size_of k - 2) → Some b ≡ inverse_of k a
inverse_some k a b d e =
    let zero = base-zero k.p (k.s - 1) k.modulus in
    ap Some e
    ∙ sym (cond-false _ None (Some (power_of (ops_of k) a (size_of k - 2)))
    (base-same k.p (k.s - 1) k.modulus a _ ∙ ne_eqb a _ (λ same. d (same ∙ zero))))
