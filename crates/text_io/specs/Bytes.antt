-- Words on the bytes that come from a source or go to a sink, and on counts of faults. Bytes are
-- an `Option`: a source or a sink that does not tell them has `None`.
use Rattle.std.specs.Prelude.{◌≡◌, ℕ, ◌+◌, ◌-◌, ◌^◌, ◌≤◌, min, Option, IfSome, option_map, List, [], ◌++◌}

-- The value at which a count stands once it is reached.
abbrev pub last_count : ℕ
last_count = 2 ^ 64 - 1

-- The count after one more.
abbrev pub next_count : ℕ → ℕ
next_count n = min (n + 1) last_count

-- The count rose, or stands at its last value.
abbrev pub Rose : ℕ → ℕ → Type 0
Rose old new = next_count old ≤ new

-- `front`, and then `bytes`.
abbrev pub with_front : List ℕ → Option (List ℕ) → Option (List ℕ)
with_front front bytes = option_map (λ rest. front ++ rest) bytes

-- `bytes`, and then `back`.
abbrev pub with_back : Option (List ℕ) → List ℕ → Option (List ℕ)
with_back bytes back = option_map (λ front. front ++ back) bytes

-- No byte is left, where the bytes are told.
abbrev pub AtEnd : Option (List ℕ) → Type 0
AtEnd bytes = IfSome bytes (λ b. b ≡ [])

-- Each limit of reading is below this number.
abbrev pub read_bound : ℕ
read_bound = 1000000
