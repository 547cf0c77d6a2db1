-- A product of residues as windows that slide over one factor between zeros.
use Rattle.std.proofs.lemmas.Bool.{cases_lt}
use Rattle.std.proofs.Common.{inl, inr, ◌≡◌, ℕ, ◌+◌, ◌-◌, ◌*◌, ◌%◌, ◌<◌, ◌≤◌, List, length, slice_index_or, sym, ap, subst, ◌∙◌, arith, mod-lt}
use Rattle.std.proofs.lemmas.Nat.{mul-le}
use Rattle.ring_core.proofs.Coefficients.{coeff_past}
use Rattle.residue_field.specs.Prime.{prime_ops}
use Rattle.residue_field.specs.declared.TopElem.{TopElem}
use Rattle.field_tower.specs.steps.Lanes.{plain_sum, plain_product, place_of}
use Rattle.field_tower.proofs.PlainSums.{slid_is}

pub place-past : (x : TopElem) (i : ℕ) → length x.0 ≡ 16 → 16 ≤ i → place_of x i ≡ 0
place-past x i wide l = coeff_past (prime_ops 2) x.0 i (omega arith)

-- places that are remainders
pub places_low : (x : TopElem) (p : ℕ) (f : ℕ → ℕ) → 0 < p → length x.0 ≡ 16 → ((j : ℕ) → j < 16 → place_of x j ≡ f j % p) → (i : ℕ) → place_of x i < p
places_low x p f some wide e i =
    elim (cases_lt i 16) [
      | inl l ↦ subst (λ v. v < p) (sym (e i l)) (mod-lt (f i) some)
      | inr m ↦ subst (λ v. v < p) (sym (place-past x i wide m)) some
    ]

module _ (w : List ℕ) (b : TopElem) (before : (k : ℕ) → k < 16 → slice_index_or w k 0 ≡ 0) (places : (k : ℕ) → slice_index_or w (16 + k) 0 ≡ place_of b k) where
  pub between_low : (p : ℕ) → 0 < p → ((i : ℕ) → place_of b i < p) → (i : ℕ) → slice_index_or w i 0 < p
  between_low p some low i =
      elim (cases_lt i 16) [
        | inl l ↦ subst (λ v. v < p) (sym (before i l)) some
        | inr m ↦
            let place : 16 + (i - 16) ≡ i = omega arith in
            subst (λ k. slice_index_or w k 0 < p) place (subst (λ v. v < p) (sym (places (i - 16))) (low (i - 16)))
      ]

  -- windows that go down by a place for each coefficient
  pub slid_product : (a : TopElem) (n k : ℕ) (at : ℕ → ℕ) → ((i : ℕ) → n ≤ i → place_of a i ≡ 0)
      → ((i : ℕ) → i < n → i ≤ k → at i ≡ 16 + (k - i)) → ((i : ℕ) → i < n → k < i → at i < 16)
      → plain_sum n (λ i. slice_index_or w (at i) 0 * place_of a i) ≡ plain_product a b k
  slid_product a n k at past here none =
      slid_is n k (λ i. slice_index_or w (at i) 0) (place_of a) (place_of b) past
      (λ i l m. ap (λ j. slice_index_or w j 0) (here i l m) ∙ places (k - i))
      (λ i l m. before (at i) (none i l m))

-- a remainder and n - 1 products
pub rest-fits : (p n s : ℕ) → 1 < p → 0 < n → n ≤ 16 → s < p → s + (n - 1) * ((p - 1) * (p - 1)) ≤ 16 * ((p - 1) * (p - 1))
rest-fits p n s large some room low =
    let q = (p - 1) * (p - 1) in
    let least : (p - 1) * 1 ≤ q = mul-le (p - 1) 1 (p - 1) (p - 1) (omega arith) (omega arith) in
    let most : (n - 1) * q ≤ 15 * q = mul-le (n - 1) q 15 q (omega arith) (omega arith) in
    omega arith
