-- Digits, one after another.
use Rattle.std.proofs.Common.{◌≡◌, ℕ, suc, ◌+◌, ◌/◌, ◌%◌, List, [], ◌∷◌, ◌++◌, ◌∙◌, ap, ap₂, arith}
use Rattle.ring_core.specs.Coeffs.{first_values}
use Rattle.ring_core.proofs.FirstValues.{values_pushed}
use Rattle.residue_field.specs.Digits.{digit}

pub next_digit : (p c n rest : ℕ) (u w : List ℕ) (x : ℕ) → w ≡ u ++ x ∷ [] → u ≡ first_values n (digit p c) → x ≡ rest % p
    → ((i : ℕ) → digit p rest i ≡ digit p c (n + i)) → w ≡ first_values (n + 1) (digit p c)
next_digit p c n rest u w x pushed before is follows =
    let here : n + 0 ≡ n = omega arith in
    let one_more : suc n ≡ n + 1 = omega arith in
    pushed ∙ ap₂ (λ v y. v ++ y ∷ []) before (is ∙ follows 0 ∙ ap (digit p c) here)
    ∙ values_pushed n (digit p c) ∙ ap (λ m. first_values m (digit p c)) one_more

pub next_rest : (p c n rest : ℕ) → ((i : ℕ) → digit p rest i ≡ digit p c (n + i)) → (i : ℕ) → digit p (rest / p) i ≡ digit p c (n + 1 + i)
next_rest p c n rest follows i =
    let moved : n + suc i ≡ n + 1 + i = omega arith in
    follows (suc i) ∙ ap (digit p c) moved
