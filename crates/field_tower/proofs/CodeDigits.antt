-- Codes and their digits, as code makes them.
use Rattle.std.proofs.Common.{◌≡◌, inl, inr, ℕ, suc, ◌+◌, ◌-◌, ◌*◌, ◌^◌, ◌/◌, ◌<◌, ◌≤◌, List, length, slice_index, sym, ap, ap₂, subst, ◌∙◌, arith, lt-ltb, ltb-true, pow-suc, mul-le-mul_right, div-lt_iff_lt-mul}
use Rattle.std.proofs.lemmas.Bool.{cases_lt}
use native.Mathlib.Nat.{pow-le-pow_right}
use mathlib.Core.Path.{fun_ext}
use Rattle.ring_core.specs.Ring.{IsElem}
use Rattle.ring_core.proofs.Coefficients.{elem_read}
use Rattle.residue_field.specs.declared.TopElem.{TopElem}
use Rattle.residue_field.specs.declared.TheConstants.{WIDTH}
use Rattle.residue_field.specs.Prime.{prime_ops}
use Rattle.residue_field.specs.Digits.{digit, number}
use Rattle.residue_field.proofs.Modular.{prime_ring}
use Rattle.residue_field.proofs.Listed.{listed_large}
use Rattle.residue_field.proofs.DigitLaws.{number-same, digit_below, digit_past}
use Rattle.residue_field.proofs.TopPlaces.{elems_of}
use Rattle.field_tower.specs.declared.codes.Codes.{Codes}
use Rattle.field_tower.specs.steps.Places.{IsStored, stored, stored_ops}
use Rattle.field_tower.proofs.CodeForms.{codes_degree}
use Rattle.field_tower.proofs.Stored.{stored_from, stored_in, stored-low, fits_of, elem_of, stored_of}

-- one more digit below the digits from place i on
pub number_step : (p n i : ℕ) (g : ℕ → ℕ) (c : ℕ) → 0 < i → i ≤ n → c ≡ number p (n - i) (λ j. g (i + j))
    → c * p + g (i - 1) ≡ number p (n - (i - 1)) (λ j. g (i - 1 + j))
number_step p n i g c pos low e =
    let lower : n - (i - 1) ≡ suc (n - i) = omega arith in
    let here : i - 1 ≡ i - 1 + 0 = omega arith in
    sum c (g (i - 1))
    ∙ ap₂ (λ x y. x + p * y) (ap g here) (e ∙ ap (number p (n - i)) (fun_ext (λ j. ap g (place i j pos))))
    ∙ ap (λ k. number p k (λ j. g (i - 1 + j))) (sym lower)
  where
    sum : (c x : ℕ) → c * p + x ≡ x + p * c
    sum c x = omega arith

    place : (i j : ℕ) → 0 < i → i + j ≡ i - 1 + suc j
    place i j pos = omega arith

pub step_below : (p n i c x : ℕ) → 0 < i → i ≤ n → c < p ^ (n - i) → x < p → c * p + x < p ^ (n - (i - 1))
step_below p n i c x pos low below digit =
    let lower : n - (i - 1) ≡ suc (n - i) = omega arith in
    let grown : suc c * p ≤ p ^ (n - i) * p = mul-le-mul_right p below in
    subst (λ k. c * p + x < p ^ k) (sym lower) (omega (arith, pow-suc p (n - i)))

pub step_fits : (p n i c x limit : ℕ) → 0 < i → i ≤ n → c < p ^ (n - i) → x < p → p ^ n ≤ limit → c * p + x < limit
step_fits p n i c x limit pos low below digit small =
    let positive : 0 < p = omega arith in
    let place : n - (i - 1) ≤ n = omega arith in
    omega (arith, step_below p n i c x pos low below digit, pow-le-pow_right positive place)

-- where p passes limit / p^i, the power of a larger exponent passes the limit
pub power_passes : (p s i q limit : ℕ) → 0 < q → 0 < p → q ≡ p ^ i → i < s → limit / q < p → limit < p ^ s
power_passes p s i q limit positive base is later passes =
    let product : limit < p * q = (div-lt_iff_lt-mul positive).0 passes in
    let next : p ^ suc i ≤ p ^ s = pow-le-pow_right base later in
    let same : p * q ≡ p ^ suc i = ap (λ x. p * x) is ∙ swap p (p ^ i) ∙ sym (pow-suc p i) in
    omega arith
  where
    swap : (a b : ℕ) → a * b ≡ b * a
    swap a b = omega arith

module _ (k : Codes) where
  abbrev p : ℕ
  p = k.prime.p

  abbrev modulus : List ℕ
  modulus = k.modulus.now

  abbrev d : ℕ
  d = length modulus - 2

  abbrev n : ℕ
  n = length modulus - 1

  large : 1 < p
  large = listed_large p k.prime.listed

  fits : suc d ≤ WIDTH
  fits = fits_of (prime_ops p) (prime_ring p large) modulus k.monic

  size : n ≡ suc d
  size = codes_degree k

  -- n digits with zero past them are all digits of a number below p^n
  pub digits_are : (t : TopElem) (c : ℕ) → c < k.q → ((i : ℕ) → i < n → slice_index t.0 i ≡ digit p c i) → ((i : ℕ) → n ≤ i → slice_index t.0 i ≡ 0)
      → (i : ℕ) → slice_index t.0 i ≡ digit p c i
  digits_are t c below low past i =
      elim (cases_lt i n) [
        | inl l ↦ low i l
        | inr l ↦ past i l ∙ sym (digit_past p (omega (arith, large)) n c i (subst (λ m. c < m) k.count below) l)
      ]

  pub digits_stored : (t : TopElem) (c : ℕ) → length t.0 ≡ WIDTH → ((i : ℕ) → slice_index t.0 i ≡ digit p c i) → ((i : ℕ) → n ≤ i → slice_index t.0 i ≡ 0)
      → IsElem (stored_ops (prime_ops p) modulus) t
  digits_stored t c width all past =
      elem_of (prime_ops p) modulus t
      (subst (IsStored (prime_ops p) d)
      (sym (stored_from (prime_ops p) d t.0 (digit p c) width (λ i l. all i) (λ i (l : suc d ≤ i). past i (omega (arith, size)))))
      (stored_in (prime_ops p) d (prime_ring p large) fits (digit p c) (λ i. lt-ltb _ p (digit_below p (omega (arith, large)) c i))))

  pub digits_below : (t : TopElem) → IsElem (stored_ops (prime_ops p) modulus) t → (i : ℕ) → slice_index t.0 i < p
  digits_below t e i =
      ltb-true _ p (elem_read (prime_ops p) t.0 (prime_ring p large).closed.zero_in (elems_of (prime_ops p) (prime_ring p large) d fits t (stored_of (prime_ops p) modulus t e)) i)

  -- the code of a residue, told by its coefficients
  pub code_made : (t : TopElem) (g h : ℕ → ℕ) → t ≡ stored (prime_ops p) d g → ((i : ℕ) → g i ≡ h i) → number p n (slice_index t.0) ≡ number p (suc d) h
  code_made t g h is same =
      ap (λ m. number p m (slice_index t.0)) size ∙ ap (λ u. number p (suc d) (slice_index u.0)) is
      ∙ number-same p (suc d) _ h (λ i l. stored-low (prime_ops p) d fits g i l ∙ same i)
