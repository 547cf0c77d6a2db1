-- Rows of which at most one has each lead place.
use Rattle.std.specs.Prelude.{◌≡◌, ◌≢◌, ℕ, ◌+◌, ◌%◌, ◌≤◌, Option, Some, None, List, [], ◌∷◌, length, slice_index_or}
use Rattle.linear_algebra.specs.Linear.{row_at}
use Rattle.flat_modules.specs.Flat.{lead_at}

-- The number of the row that is named at the lead place `j`.
abbrev pub slot_of : List (Option ℕ) → ℕ → Option ℕ
slot_of slot j = slice_index_or slot j None

-- The members of all rows, counted.
abbrev pub total_len : {E : Type 0} → List (List E) → ℕ
total_len [] = 0
total_len (x ∷ xs) = length x + total_len xs

-- Row `q`, named in slot `j`, is a row up to `i`, but not row `p`, that isn't zero and has its lead place there.
pub record IsNamed {E : Type 0} (w i p : ℕ) (image : List (List E)) (j q : ℕ) : Type 0 where
  pub within : q ≤ i
  pub apart : q ≢ p
  pub nonzero : row_at image q ≢ []
  pub place : lead_at image q % w ≡ j

-- All rows up to `i` but row `p` are zero or are named at their lead places.
pub record IsUnsettled {E : Type 0} (w i p : ℕ) (slot : List (Option ℕ)) (image : List (List E)) : Type 0 where
  pub len : length slot ≡ w
  pub names : (j q : ℕ) → slot_of slot j ≡ Some q → IsNamed w i p image j q
  pub all : (k : ℕ) → k ≤ i → k ≢ p → row_at image k ≢ [] → slot_of slot (lead_at image k % w) ≡ Some k
