-- The text of an element: a sum of powers of `z`.
use Rattle.std.proofs.Common.{◌≡◌, ℕ, zero, suc, ◌+◌, ◌*◌, ◌/◌, ◌<◌, ◌≤◌, ◌==◌, Bool, true, false, if◌then◌else◌, Some, List, [], ◌∷◌, ◌++◌, length, map, codes, decimal, refl, sym, ap, ap₂, subst, ◌∙◌, arith}
use Rattle.std.specs.Prelude.{nat_lt}
use Rattle.std.specs.List.{flat_map, list_all}
use Rattle.std.proofs.lemmas.Bool.{false≢true, and_from, and_parts, ltb-true, ne_eqb}
use Rattle.std.proofs.lemmas.List.{length-append}
use Rattle.std.proofs.lemmas.Fmt.{decimal_digit}
use Rattle.residue_field.specs.Digits.{digit}
use Rattle.answer.specs.Sums.{term_text, term_of, or_zero, sum_text}
use Rattle.answer.specs.Elements.{numbers}
use Rattle.sample_script.specs.Sample.{element}

-- A power of `z`, and powers behind a plus.
abbrev pub power : ℕ → List ℕ
power k = term_text (codes "z") (codes "1") k

-- The terms are powers below 8, at most `n` of them.
pub record ArePowers (n : ℕ) (terms : List (List ℕ)) : Type 0 where
  pub powers : List ℕ
  pub below : list_all (λ k. nat_lt k 8) powers ≡ true
  pub are : terms ≡ map power powers
  pub count : length powers ≤ n

digit_small : (d k : ℕ) → digit 2 d k < 2
digit_small d zero = omega arith
digit_small d (suc k) = digit_small (d / 2) k

-- The term of a bit.
a_bit : (c k : ℕ) → c < 2 → (c == 0) ≡ false → term_of numbers (codes "z") k (Some c) ≡ power k ∷ []
a_bit zero k l h = absurd (false≢true (sym h))
a_bit (suc zero) k l h = ap (λ t. term_text (codes "z") t k ∷ []) (decimal_digit 1 (omega arith))
a_bit (suc (suc c)) k l h = absurd (omega arith)

module _ (d : ℕ) where
  abbrev pub term_at_bit : ℕ → List (List ℕ)
  term_at_bit k = term_of numbers (codes "z") k (Some (digit 2 d k))

  no_term : (k : ℕ) → (digit 2 d k == 0) ≡ true → term_at_bit k ≡ []
  no_term k h = ap (λ b. if b then [] else term_text (codes "z") (decimal (digit 2 d k)) k ∷ []) h

  bits : (ks : List ℕ) → list_all (λ k. nat_lt k 8) ks ≡ true → ArePowers (length ks) (flat_map term_at_bit ks)
  bits [] below = record { powers = []; below = refl; are = refl; count = omega arith }
  bits (k ∷ ks) below = at (digit 2 d k == 0) refl (bits ks (and_parts (nat_lt k 8) _ below).1)
    where
      at : (b : Bool) → (digit 2 d k == 0) ≡ b → ArePowers (length ks) (flat_map term_at_bit ks) → ArePowers (suc (length ks)) (flat_map term_at_bit (k ∷ ks))
      at true h r =
          let few : length r.powers ≤ length ks = r.count in
          record { powers = r.powers; below = r.below; are = ap (λ t. t ++ flat_map term_at_bit ks) (no_term k h) ∙ r.are; count = omega (arith, few) }
      at false h r =
          let few : length r.powers ≤ length ks = r.count in
          record {
            powers = k ∷ r.powers;
            below = and_from _ _ (and_parts (nat_lt k 8) _ below).0 r.below;
            are = ap (λ t. t ++ flat_map term_at_bit ks) (a_bit (digit 2 d k) k (digit_small d k) h) ∙ ap (λ t. power k ∷ t) r.are;
            count = omega (arith, few);
          }

  abbrev pub terms : List (List ℕ)
  terms = flat_map term_at_bit (7 ∷ 6 ∷ 5 ∷ 4 ∷ 3 ∷ 2 ∷ 1 ∷ 0 ∷ [])

  pub are_powers : ArePowers 8 terms
  are_powers = bits (7 ∷ 6 ∷ 5 ∷ 4 ∷ 3 ∷ 2 ∷ 1 ∷ 0 ∷ []) refl

  pub element_is : element d ≡ or_zero (codes "+") terms
  unfolding element sum_text
  element_is = refl

-- The bytes of a power below 8.
abbrev pub power_bytes : ℕ → List ℕ
power_bytes zero = 49 ∷ []
power_bytes (suc zero) = 122 ∷ []
power_bytes (suc (suc k)) = 122 ∷ 94 ∷ (48 + suc (suc k)) ∷ []

pub power_is : (k : ℕ) → k < 8 → power k ≡ power_bytes k
power_is zero l = refl
power_is (suc zero) l = refl
power_is (suc (suc k)) l =
    let j = suc (suc k) in
    let not_zero : (j == 0) ≡ false = ne_eqb j 0 (λ e. omega (arith, e)) in
    let not_one : (j == 1) ≡ false = ne_eqb j 1 (λ e. omega (arith, e)) in
    ap₂ (λ a b. if a then codes "1" else if b then codes "z" else codes "z" ++ codes "^" ++ decimal j) not_zero not_one
    ∙ ap (λ t. 122 ∷ 94 ∷ t) (decimal_digit j (omega (arith, l)))

-- Powers behind a plus each.
abbrev pub behind : List ℕ → List ℕ
behind ks = flat_map (λ u. codes "+" ++ u) (map power ks)

power_short : (k : ℕ) → k < 8 → length (power k) ≤ 3
power_short k l = subst (λ t. length t ≤ 3) (sym (power_is k l)) (short k)
  where
    short : (k : ℕ) → length (power_bytes k) ≤ 3
    short zero = omega arith
    short (suc zero) = omega arith
    short (suc (suc k)) = omega arith

behind_short : (ks : List ℕ) → list_all (λ k. nat_lt k 8) ks ≡ true → length (behind ks) ≤ 4 * length ks
behind_short [] h = omega arith
behind_short (k ∷ ks) h =
    let parts = and_parts (nat_lt k 8) _ h in
    let one = power_short k (ltb-true k 8 parts.0) in
    let more = behind_short ks parts.1 in
    let all : length (behind (k ∷ ks)) ≡ suc (length (power k) + length (behind ks)) = ap suc (length-append (power k) (behind ks)) in
    omega (arith, one, more, all)

-- The text of an element has few bytes.
sum_short : (n : ℕ) (terms : List (List ℕ)) → ArePowers n terms → 0 < n → length (or_zero (codes "+") terms) ≤ 4 * n
sum_short n terms p large = subst (λ t. length (or_zero (codes "+") t) ≤ 4 * n) (sym p.are) (of_powers p.powers p.below p.count)
  where
    of_powers : (ks : List ℕ) → list_all (λ k. nat_lt k 8) ks ≡ true → length ks ≤ n → length (or_zero (codes "+") (map power ks)) ≤ 4 * n
    of_powers [] h c = omega (arith, large)
    of_powers (k ∷ ks) h c =
        let parts = and_parts (nat_lt k 8) _ h in
        let one = power_short k (ltb-true k 8 parts.0) in
        let more = behind_short ks parts.1 in
        let all : length (or_zero (codes "+") (map power (k ∷ ks))) ≡ length (power k) + length (behind ks) = length-append (power k) (behind ks) in
        omega (arith, one, more, all, c)

pub element_short : (d : ℕ) → length (element d) ≤ 32
element_short d = subst (λ t. length t ≤ 32) (sym (element_is d)) (sum_short 8 (terms d) (are_powers d) (omega arith))
