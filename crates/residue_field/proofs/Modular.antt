-- Numbers modulo p are a commutative ring, numbered by themselves.
use native.Mathlib.Nat.{mod-add-mod, add-mod-mod, mod_self}
use Rattle.std.proofs.Common.{◌≡◌, ℕ, ◌+◌, ◌-◌, ◌*◌, ◌%◌, ◌<◌, sym, refl, ap, ◌∙◌, arith, lt-ltb, ltb-true, eq-eqb, eqb-true, add_assoc, add_comm, mul_assoc, mul_comm, one-mul, mul-one, zero-add, mul-add, add-mul, mod-lt, mod-eq_of_lt}
use Rattle.std.proofs.lemmas.Nat.{mul-mod_first, mul-mod_second}
use Rattle.ring_core.specs.Ring.{IsRing, IsCommutative}
use Rattle.ring_core.proofs.Carrier.{elements, same_element}
use Rattle.finite_ring.proofs.Counted.{IsCounted}
use Rattle.residue_field.specs.Prime.{prime_ops}

pub prime_ring : (p : ℕ) → 1 < p → IsRing (prime_ops p)
prime_ring p large =
    let positive : 0 < p = omega arith in
    let below = λ (a : ℕ). lt-ltb (a % p) p (mod-lt a positive) in
    record {
      closed = record {
        zero_in = lt-ltb 0 p positive;
        one_in = lt-ltb 1 p large;
        add_in = λ a b s t. below (a + b);
        neg_in = λ a s. below (p - a);
        mul_in = λ a b s t. below (a * b);
      };
      equal = record { same_refl = λ a s. eq-eqb a a refl; same_eq = λ a b s t e. eqb-true a b e };
      add_assoc = λ a b c q s t. mod-add-mod (a + b) p c ∙ ap (λ x. x % p) (add_assoc a b c) ∙ sym (add-mod-mod a (b + c) p);
      add_comm = λ a b q s. ap (λ x. x % p) (add_comm a b);
      zero_add = λ a q. ap (λ x. x % p) (zero-add a) ∙ mod-eq_of_lt (ltb-true a p q);
      add_neg = λ a q.
          let low : a < p = ltb-true a p q in
          let whole : a + (p - a) ≡ p = omega arith in
          add-mod-mod a (p - a) p ∙ ap (λ x. x % p) whole ∙ mod_self p;
      mul_assoc = λ a b c q s t. mul-mod_first (a * b) c p ∙ ap (λ x. x % p) (mul_assoc a b c) ∙ sym (mul-mod_second a (b * c) p);
      one_mul = λ a q. ap (λ x. x % p) (one-mul a) ∙ mod-eq_of_lt (ltb-true a p q);
      mul_one = λ a q. ap (λ x. x % p) (mul-one a) ∙ mod-eq_of_lt (ltb-true a p q);
      mul_add = λ a b c q s t.
          mul-mod_second a (b + c) p ∙ ap (λ x. x % p) (mul-add a b c)
          ∙ sym (mod-add-mod (a * b) p ((a * c) % p) ∙ add-mod-mod (a * b) (a * c) p);
      add_mul = λ a b c q s t.
          mul-mod_first (a + b) c p ∙ ap (λ x. x % p) (add-mul a b c)
          ∙ sym (mod-add-mod (a * c) p ((b * c) % p) ∙ add-mod-mod (a * c) (b * c) p);
    }

pub prime_commutes : (p : ℕ) → IsCommutative (prime_ops p)
prime_commutes p a b s t = ap (λ x. x % p) (mul_comm a b)

pub prime_counted : (p : ℕ) (large : 1 < p) → IsCounted (elements (prime_ring p large)) p
prime_counted p large =
    let positive : 0 < p = omega arith in
    record {
      index = λ x. x.0;
      nth = λ i. (i % p, lt-ltb (i % p) p (mod-lt i positive));
      below = λ x. ltb-true x.0 p x.1;
      nth_index = λ x. same_element (prime_ops p) _ _ (mod-eq_of_lt (ltb-true x.0 p x.1));
      index_nth = λ i l. mod-eq_of_lt l;
      index_zero = refl;
    }

pub prime_counted_nth : (p : ℕ) (large : 1 < p) (i : ℕ) → i < p → ((prime_counted p large).nth i).0 ≡ i
unfolding prime_counted
prime_counted_nth p large i l = mod-eq_of_lt l
