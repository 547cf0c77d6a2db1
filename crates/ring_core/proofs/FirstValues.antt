-- Lists of the first values of a function.
use Rattle.std.proofs.Common.{◌≡◌, ℕ, zero, suc, ◌<◌, [], ◌∷◌, ◌++◌, length, get_or, refl, ap, ap₂, arith}
use Rattle.ring_core.specs.Coeffs.{first_values}

module _ {T : Type 0} where
  pub length-first_values : (n : ℕ) (f : ℕ → T) → length (first_values n f) ≡ n
  length-first_values zero f = refl
  length-first_values (suc n) f = ap suc (length-first_values n (λ i. f (suc i)))

  pub values_pushed : (n : ℕ) (f : ℕ → T) → first_values n f ++ f n ∷ [] ≡ first_values (suc n) f
  values_pushed zero f = refl
  values_pushed (suc n) f = ap (λ t. f 0 ∷ t) (values_pushed n (λ i. f (suc i)))

  pub values_same : (n : ℕ) (f g : ℕ → T) → ((i : ℕ) → i < n → f i ≡ g i) → first_values n f ≡ first_values n g
  values_same zero f g e = refl
  values_same (suc n) f g e =
      ap₂ ◌∷◌ (e 0 (omega arith)) (values_same n (λ i. f (suc i)) (λ i. g (suc i)) (λ i (l : i < n). e (suc i) (omega arith)))

  pub at-first_values : (n : ℕ) (f : ℕ → T) (i : ℕ) (d : T) → i < n → get_or (first_values n f) i d ≡ f i
  at-first_values zero f i d l = absurd (omega arith)
  at-first_values (suc n) f zero d l = refl
  at-first_values (suc n) f (suc i) d l = at-first_values n (λ j. f (suc j)) i d (omega arith)
