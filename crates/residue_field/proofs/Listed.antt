-- The listed numbers are prime: each nonzero number has an inverse modulo them, by a computed test.
use Rattle.std.proofs.Common.{◌≡◌, ◌≢◌, inl, inr, ℕ, zero, suc, ◌-◌, ◌*◌, ◌%◌, ◌^◌, ◌<◌, ◌≤◌, Bool, true, false, ◌&&◌, ◌||◌, cond, nat_eq, Some, None, MatchOption, sym, refl, subst, arith, eqb-true, ltb-true, lt-ltb}
use Rattle.std.proofs.lemmas.Bool.{or_cases, and_parts, eqb-false, cases_eq}
use Rattle.ring_core.specs.Ring.{IsElem}
use Rattle.ring_core.specs.Field.{IsField}
use Rattle.ring_core.proofs.Degrees.{no_zero_divisors}
use Rattle.finite_ring.specs.Finite.{HasNoPair}
use Rattle.residue_field.specs.Prime.{is_listed, prime_ops, prime_inv}
use Rattle.residue_field.proofs.Modular.{prime_ring, prime_commutes}

-- each of 1, .., k times its power p - 2 is 1 modulo p
abbrev all_inverses : ℕ → ℕ → Bool
all_inverses p zero = true
all_inverses p (suc k) = nat_eq ((suc k * (suc k ^ (p - 2) % p)) % p) 1 && all_inverses p k

abbrev IsTested : ℕ → Type 0
IsTested p = (1 < p) × (all_inverses p (p - 1) ≡ true)

inverse_at : (p k : ℕ) → all_inverses p k ≡ true → (a : ℕ) → 0 < a → a ≤ k → (a * (a ^ (p - 2) % p)) % p ≡ 1
inverse_at p zero e a positive low = absurd (omega arith)
inverse_at p (suc k) e a positive low =
    let parts = and_parts (nat_eq ((suc k * (suc k ^ (p - 2) % p)) % p) 1) (all_inverses p k) e in
    elim (cases_eq a (suc k)) [
      | inl same ↦ subst (λ b. (b * (b ^ (p - 2) % p)) % p ≡ 1) (sym same) (eqb-true _ 1 parts.0)
      | inr other ↦ inverse_at p k parts.1 a positive (omega arith)
    ]

-- what holds of each listed number
pub listed_cases : (P : ℕ → Type 0) → P 2 → P 3 → P 5 → P 7 → P 11 → P 13 → P 251 → P 257 → (p : ℕ) → is_listed p ≡ true → P p
listed_cases P at_2 at_3 at_5 at_7 at_11 at_13 at_251 at_257 p e =
    last 257 at_257 _ e (λ e. last 251 at_251 _ e (λ e. last 13 at_13 _ e (λ e. last 11 at_11 _ e (λ e. last 7 at_7 _ e (λ e. last 5 at_5 _ e (λ e. last 3 at_3 _ e
    (λ e. subst P (sym (eqb-true p 2 e)) at_2)))))))
  where
    last : (n : ℕ) → P n → (before : Bool) → (before || nat_eq p n) ≡ true → (before ≡ true → P p) → P p
    last n at before e rest =
        elim (or_cases before (nat_eq p n) e) [ inl b ↦ rest b | inr is ↦ subst P (sym (eqb-true p n is)) at ]

tested : (p : ℕ) → is_listed p ≡ true → IsTested p
tested p e =
    listed_cases IsTested (omega arith, refl) (omega arith, refl) (omega arith, refl) (omega arith, refl) (omega arith, refl)
    (omega arith, refl) (omega arith, refl) (omega arith, refl) p e

pub listed_large : (p : ℕ) → is_listed p ≡ true → 1 < p
listed_large p e = (tested p e).0

-- a nonzero number times its power p - 2 is one
pub prime_inverse : (p : ℕ) → is_listed p ≡ true → (a : ℕ) → a < p → a ≢ 0 → (a * (a ^ (p - 2) % p)) % p ≡ 1
prime_inverse p e a low ne = inverse_at p (p - 1) (tested p e).1 a (omega arith) (omega arith)

pub prime_field : (p : ℕ) → is_listed p ≡ true → IsField (prime_ops p) (prime_inv p)
prime_field p e =
    let large : 1 < p = listed_large p e in
    record {
      ring = prime_ring p large;
      mul_comm = prime_commutes p;
      one_ne_zero = λ d. absurd (omega arith);
      inv_is = λ a q. inverse_is a (ltb-true a p q) (nat_eq a 0) refl;
    }
  where
    inverse_is : (a : ℕ) → a < p → (b : Bool) → nat_eq a 0 ≡ b → MatchOption (cond b None (Some ((a ^ (p - 2)) % p))) (a ≡ 0) (λ b. IsElem (prime_ops p) b × ((a * b) % p ≡ 1))
    inverse_is a low true same = eqb-true a 0 same
    inverse_is a low false other =
        let positive : 0 < p = omega arith in
        (lt-ltb _ p (omega arith), prime_inverse p e a low (eqb-false a 0 other))

-- no two nonzero numbers multiply to zero modulo a listed number
pub prime_no_pair : (p : ℕ) → is_listed p ≡ true → HasNoPair (prime_ops p)
prime_no_pair p e = no_zero_divisors (prime_ops p) (prime_inv p) (prime_field p e)
