-- Operations kept as tables.
use Rattle.std.specs.Prelude.{◌≡◌, ℕ, ◌+◌, ◌*◌, ◌<◌, List, length, slice_index}
use Rattle.ring_core.specs.Ring.{RingOps}

-- `row` holds `op a` at `a`, for each `a` below `q`.
pub record IsRow (q : ℕ) (op : ℕ → ℕ) (row : List ℕ) : Type 0 where
  pub count : length row ≡ q
  pub value : (a : ℕ) → a < q → slice_index row a ≡ op a

-- `table` holds `op a b` at `a * q + b`, for each `a` and `b` below `q`.
pub record IsTable (q : ℕ) (op : ℕ → ℕ → ℕ) (table : List ℕ) : Type 0 where
  pub count : length table ≡ q * q
  pub value : (a b : ℕ) → a < q → b < q → slice_index table (a * q + b) ≡ op a b

-- `a` is the sum of `rest` and `place`, which are below it.
pub record IsRest (r : RingOps ℕ) (a place rest : ℕ) : Type 0 where
  pub place_low : place < a
  pub rest_low : rest < a
  pub whole : r.add rest place ≡ a
