-- Lines, one after another.
use Rattle.std.proofs.Common.{◌≡◌, ℕ, suc, ◌+◌, ◌-◌, ◌*◌, ◌/◌, ◌≤◌, List, [], ◌∷◌, ◌++◌, ap, ap₂, sym, ◌∙◌, append-nil, append_assoc, arith}
use Rattle.std.specs.List.{flat_map}
use Rattle.std.proofs.lemmas.Grind.{flat_map-append}
use Rattle.ring_core.specs.Coeffs.{first_values}
use Rattle.ring_core.proofs.FirstValues.{values_pushed}
use Rattle.sample_script.specs.Sample.{next_value, value_at, module_text, module_line, twelve}

-- The texts for the numbers from 1 to `k`.
abbrev pub up_to : (ℕ → List ℕ) → ℕ → List ℕ
up_to f k = flat_map f (first_values k suc)

up_to_next : (f : ℕ → List ℕ) (k : ℕ) → up_to f (suc k) ≡ up_to f k ++ f (suc k)
up_to_next f k =
    ap (flat_map f) (sym (values_pushed k suc)) ∙ flat_map-append f (first_values k suc) (suc k ∷ []) ∙ ap (λ x. up_to f k ++ x) (append-nil (f (suc k)))

pub one_line : (f : ℕ → List ℕ) (old text new : List ℕ) (k : ℕ) → 1 ≤ k → text ≡ old ++ up_to f (k - 1) → new ≡ text ++ f k → new ≡ old ++ up_to f (k + 1 - 1)
one_line f old text new k l before after =
    let j : suc (k - 1) ≡ k = omega arith in
    let here : k + 1 - 1 ≡ suc (k - 1) = omega arith in
    after ∙ ap₂ (λ t i. t ++ f i) before (sym j) ∙ append_assoc old (up_to f (k - 1)) (f (suc (k - 1)))
    ∙ ap (λ t. old ++ t) (sym (up_to_next f (k - 1))) ∙ ap (λ i. old ++ up_to f i) (sym here)

pub all_lines : (f : ℕ → List ℕ) (old text : List ℕ) (k : ℕ) → k ≡ 13 → text ≡ old ++ up_to f (k - 1) → text ≡ old ++ twelve f
unfolding twelve
all_lines f old text k e is = is ∙ ap (λ i. old ++ up_to f (i - 1)) e

-- The draws of a module.
pub drawn : (n k v : ℕ) → 1 ≤ k → v ≡ value_at n (2 * (k - 1)) → module_text k (next_value v / 16777216) (next_value (next_value v) / 16777216) ≡ module_line n k
drawn n k v l is =
    let odd : suc (2 * (k - 1)) ≡ 2 * k - 1 = omega arith in
    let even : suc (suc (2 * (k - 1))) ≡ 2 * k = omega arith in
    ap₂ (λ a b. module_text k (a / 16777216) (b / 16777216)) (ap next_value is ∙ ap (value_at n) odd) (ap (λ a. next_value (next_value a)) is ∙ ap (value_at n) even)

pub drawn_twice : (n k v w : ℕ) → 1 ≤ k → v ≡ value_at n (2 * (k - 1)) → w ≡ next_value (next_value v) → w ≡ value_at n (2 * (k + 1 - 1))
drawn_twice n k v w l is after =
    let even : suc (suc (2 * (k - 1))) ≡ 2 * (k + 1 - 1) = omega arith in
    after ∙ ap (λ a. next_value (next_value a)) is ∙ ap (value_at n) even
