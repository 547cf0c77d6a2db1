-- Products by logarithms.
use Rattle.std.specs.Prelude.{◌≡◌, ℕ, zero, suc, ◌+◌, ◌-◌, ◌*◌, ◌<◌, ◌≤◌, cond, nat_lt, List, length, slice_index}

-- Where `i` steps from 1 lead, if a step leads from `a` to `row[a]`: a power of `g`, if `row` holds the products with `g`.
abbrev pub steps_from_one : List ℕ → ℕ → ℕ
steps_from_one row zero = 1
steps_from_one row (suc i) = slice_index row (steps_from_one row i)

-- Where `i` steps lead, and zero from the place `n` on.
abbrev pub steps_below : ℕ → List ℕ → ℕ → ℕ
steps_below n row i = cond (nat_lt i n) (steps_from_one row i) 0

-- Each step from a place of `row` leads to one.
pub record AreSteps (row : List ℕ) : Type 0 where
  pub large : 1 < length row
  pub inside : (a : ℕ) → a < length row → slice_index row a < length row

-- `logs` holds a place below `q - 1` of `powers` for each nonzero code below `q`, where the code stands, and `2 q - 2` for
-- zero.
pub record AreLogs (q : ℕ) (powers logs : List ℕ) : Type 0 where
  pub large : 1 < q
  pub count : length logs ≡ q
  pub at_zero : slice_index logs 0 ≡ 2 * q - 2
  pub low : (a : ℕ) → 0 < a → a < q → slice_index logs a < q - 1
  pub back : (a : ℕ) → 0 < a → a < q → slice_index powers (slice_index logs a) ≡ a

-- The value `op a b` of codes below `q` stands in `powers` at the sum of their members of `logs`.
pub record IsLogTable (q : ℕ) (op : ℕ → ℕ → ℕ) (powers logs : List ℕ) : Type 0 where
  pub count : length logs ≡ q
  pub long : q ≤ length powers
  pub low : (a : ℕ) → 0 < a → a < q → slice_index logs a < q
  pub fits : (a b : ℕ) → a < q → b < q → slice_index logs a + slice_index logs b < length powers
  pub value : (a b : ℕ) → a < q → b < q → slice_index powers (slice_index logs a + slice_index logs b) ≡ op a b
