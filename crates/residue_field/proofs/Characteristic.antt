-- The numbers modulo a listed prime as a finite field: p ones are zero, and the binomials between the
-- ends of row p are zero modulo p.
use native.Mathlib.Nat.{mod-add-mod, mod_self, zero-mod, pow-zero}
use Rattle.std.proofs.Common.{◌≡◌, ◌≢◌, ℕ, zero, suc, ◌+◌, ◌*◌, ◌%◌, ◌^◌, ◌<◌, true, sym, ap, ◌∙◌, arith, add-one, one-mul, pow-suc}
use Rattle.ring_core.proofs.Carrier.{elements, same_element}
use Rattle.finite_ring.proofs.Freshman.{HasFreshRow, ones, fresh_2, fresh_3, fresh_5, fresh_7, fresh_11, fresh_13, fresh_251, fresh_257}
use Rattle.finite_ring.proofs.Frobenius.{IsFiniteField}
use Rattle.finite_ring.proofs.Embedding.{field_of}
use Rattle.residue_field.specs.Prime.{is_listed, prime_ops}
use Rattle.residue_field.proofs.Modular.{prime_ring, prime_commutes, prime_counted, prime_counted_nth}
use Rattle.residue_field.proofs.Listed.{listed_cases, listed_large, prime_no_pair}

ones_are : (p : ℕ) (large : 1 < p) (k : ℕ) → (ones (elements (prime_ring p large)) k).0 ≡ k % p
ones_are p large zero = sym (zero-mod p)
ones_are p large (suc k) =
    ap (λ x. (x + 1) % p) (ones_are p large k) ∙ mod-add-mod k p 1 ∙ ap (λ x. x % p) (add-one k)

prime_char : (p : ℕ) (large : 1 < p) → ones (elements (prime_ring p large)) p ≡ (elements (prime_ring p large)).zero
prime_char p large = same_element (prime_ops p) _ _ (ones_are p large p ∙ mod_self p)

fresh_row : (p : ℕ) → is_listed p ≡ true → HasFreshRow p
fresh_row p e = listed_cases HasFreshRow fresh_2 fresh_3 fresh_5 fresh_7 fresh_11 fresh_13 fresh_251 fresh_257 p e

pub prime_finite : (p : ℕ) (e : is_listed p ≡ true) → IsFiniteField (elements (prime_ring p (listed_large p e))) p
prime_finite p e =
    let large : 1 < p = listed_large p e in
    let one_apart : (prime_ops p).one ≢ (prime_ops p).zero = λ (d : (prime_ops p).one ≡ (prime_ops p).zero). absurd (omega arith) in
    let positive : 0 < p = omega arith in
    let once : p ≡ p ^ 1 = sym (pow-suc p 0 ∙ ap (λ x. x * p) (pow-zero p) ∙ one-mul p) in
    let field =
    field_of (prime_ops p) (prime_ring p large) (prime_commutes p) p (prime_counted p large) one_apart (prime_no_pair p e)
    p positive 1 once (fresh_row p e) (prime_char p large) in
    record field { counted = prime_counted p large }

-- the numbers below p number themselves
pub prime_nth : (p : ℕ) (e : is_listed p ≡ true) (i : ℕ) → i < p → ((prime_finite p e).counted.nth i).0 ≡ i
unfolding prime_finite
prime_nth p e i l = prime_counted_nth p (listed_large p e) i l
