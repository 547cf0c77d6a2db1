-- Products looked up among sixteen.
use Rattle.std.specs.Prelude.{◌≡◌, ℕ, ◌*◌, ◌/◌, ◌%◌, ◌<◌, List, bit_xor, length, slice_index_or}
use Rattle.residue_field.specs.Base.{Base, ops_of, size_of}

-- `table` has the product of `c` and `k * step` at `k`, for each `k` below 16 with which that is a code.
pub record AreMultiples (field : Base) (c step : ℕ) (table : List ℕ) : Type 0 where
  pub count : length table ≡ 16
  pub value : (k : ℕ) → k < 16 → k * step < size_of field → slice_index_or table k 0 ≡ (ops_of field).mul c (k * step)

-- What `low` has at the lowest four bits of `x`, and `high` at the others, by the exclusive or.
abbrev pub looked_up : List ℕ → List ℕ → ℕ → ℕ
looked_up low high x = bit_xor (slice_index_or low (x % 16) 0) (slice_index_or high (x / 16) 0)
