-- Lists that are written in place.
use Rattle.std.specs.Prelude.{◌≡◌, ℕ, ◌+◌, ◌<◌, ◌≤◌, ◌⊎◌, List, slice_index_or}

-- `f 0` to `f (n - 1)` were written over the members from `at` on, and the others are as before. `d` is what
-- a place past the end of a list reads as.
pub record IsWritten {E : Type 0} (d : E) (at n : ℕ) (f : ℕ → E) (before after : List E) : Type 0 where
  pub inside : (k : ℕ) → k < n → slice_index_or after (at + k) d ≡ f k
  pub outside : (i : ℕ) → (i < at) ⊎ (at + n ≤ i) → slice_index_or after i d ≡ slice_index_or before i d
