-- Digits and the numbers that they make are each other's inverse.
use native.Mathlib.Nat.{add-mul-mod_self_left, add-mul-div_left, div-eq_of_lt, mod-add-div, pow-zero, pow-succ'}
use Rattle.std.proofs.Common.{◌≡◌, ℕ, zero, suc, ◌+◌, ◌*◌, ◌/◌, ◌%◌, ◌^◌, ◌<◌, ◌≤◌, sym, refl, ap, ap₂, ◌∙◌, arith, lt-ltb, ltb-true, eq-eqb, eqb-true, mod-lt, mod-eq_of_lt, zero-add, pow-suc, mul-le-mul_left, div-lt_iff_lt-mul}
use Rattle.residue_field.specs.steps.Stored.{IsPlaces}
use Rattle.residue_field.specs.Prime.{prime_ops}
use Rattle.residue_field.specs.Digits.{digit, number, code_places}

-- the number depends on its digits alone
pub number-same : (p k : ℕ) (g h : ℕ → ℕ) → ((i : ℕ) → i < k → g i ≡ h i) → number p k g ≡ number p k h
number-same p zero g h e = refl
number-same p (suc k) g h e =
    ap₂ (λ a b. a + p * b) (e 0 (omega arith)) (number-same p k (λ i. g (suc i)) (λ i. h (suc i)) (λ i (l : i < k). e (suc i) (omega arith)))

pub number-zeros : (p k : ℕ) (g : ℕ → ℕ) → ((i : ℕ) → i < k → g i ≡ 0) → number p k g ≡ 0
number-zeros p zero g e = refl
number-zeros p (suc k) g e =
    let low = e 0 (omega arith) in
    let rest = number-zeros p k (λ i. g (suc i)) (λ i (l : i < k). e (suc i) (omega arith)) in
    ap₂ (λ a b. a + p * b) low rest ∙ omega arith

module _ (p : ℕ) (positive : 0 < p) where
  pub digit_below : (c i : ℕ) → digit p c i < p
  digit_below c zero = mod-lt c positive
  digit_below c (suc i) = digit_below (c / p) i

  pub digit-number : (k : ℕ) (g : ℕ → ℕ) → ((i : ℕ) → g i < p) → (i : ℕ) → i < k → digit p (number p k g) i ≡ g i
  digit-number zero g low i l = absurd (omega arith)
  digit-number (suc k) g low zero l = add-mul-mod_self_left (g 0) p (number p k (λ i. g (suc i))) ∙ mod-eq_of_lt (low 0)
  digit-number (suc k) g low (suc i) l =
      let rest = number p k (λ j. g (suc j)) in
      ap (λ c. digit p c i) (add-mul-div_left (g 0) rest positive ∙ ap (λ x. x + rest) (div-eq_of_lt (low 0)) ∙ zero-add rest)
      ∙ digit-number k (λ j. g (suc j)) (λ j. low (suc j)) i (omega arith)

  quotient_below : (c k : ℕ) → c < p ^ suc k → c / p < p ^ k
  quotient_below c k l =
      let l2 : c < p ^ k * p = omega (arith, pow-suc p k) in
      (div-lt_iff_lt-mul positive).1 l2

  pub number-digits : (k c : ℕ) → c < p ^ k → number p k (digit p c) ≡ c
  number-digits zero c l = omega (arith, pow-zero p)
  number-digits (suc k) c l =
      ap (λ x. c % p + p * x) (number-digits k (c / p) (quotient_below c k l)) ∙ mod-add-div c p

  pub number_below : (k : ℕ) (g : ℕ → ℕ) → ((i : ℕ) → g i < p) → number p k g < p ^ k
  number_below zero g low = omega (arith, pow-zero p)
  number_below (suc k) g low =
      let rest = number p k (λ i. g (suc i)) in
      let below : rest < p ^ k = number_below k (λ i. g (suc i)) (λ i. low (suc i)) in
      let first : g 0 < p = low 0 in
      let le : suc rest ≤ p ^ k = omega arith in
      omega (arith, mul-le-mul_left p le, pow-succ' p k)

  pub digit_past : (k c i : ℕ) → c < p ^ k → k ≤ i → digit p c i ≡ 0
  digit_past zero c i l past = ap (λ x. digit p x i) (omega (arith, pow-zero p)) ∙ of_zero i
    where
      of_zero : (i : ℕ) → digit p 0 i ≡ 0
      of_zero zero = mod-eq_of_lt positive
      of_zero (suc i) = ap (λ x. digit p x i) (div-eq_of_lt positive) ∙ of_zero i
  digit_past (suc k) c zero l past = absurd (omega arith)
  digit_past (suc k) c (suc i) l past = digit_past k (c / p) i (quotient_below c k l) (omega arith)

-- codes store residues over the numbers modulo p
pub code_stores : (p n : ℕ) → 0 < p → IsPlaces (prime_ops p) n (code_places p n)
code_stores p n positive = record {
  place_in = λ t i e. lt-ltb _ p (digit_below p positive t i);
  place_past = λ t i e l. digit_past p positive (suc n) t i (ltb-true t (p ^ suc n) e) l;
  pack_in = λ g e. lt-ltb _ (p ^ suc n) (number_below p positive (suc n) g (λ i. ltb-true (g i) p (e i)));
  place_pack = λ g i e l. digit-number p positive (suc n) g (λ j. ltb-true (g j) p (e j)) i l;
  place_inj = λ t u s e same.
      sym (number-digits p positive (suc n) t (ltb-true t (p ^ suc n) s)) ∙ number-same p (suc n) (digit p t) (digit p u) same
      ∙ number-digits p positive (suc n) u (ltb-true u (p ^ suc n) e);
  same_refl = λ t e. eq-eqb t t refl;
  same_eq = λ t u s e same. eqb-true t u same;
}
