-- Rows are functions of the place, zero past their end; combinations of them have elements of the ring as
-- coefficients.
use Rattle.std.specs.Prelude.{◌≡◌, ℕ}
use Rattle.ring_core.specs.Ring.{RingOps, IsElem}
use Rattle.ring_core.specs.Coeffs.{sum_below}

-- The sum of `c i` times row `i` at place `j`, over `i` below `n`. Where `c` is a row of another matrix,
-- this is the member of the product of the two matrices.
abbrev pub combined : {E : Type 0} → RingOps E → ℕ → (ℕ → E) → (ℕ → ℕ → E) → ℕ → E
combined r n c rows j = sum_below r n (λ i. r.mul (c i) (rows i j))

-- `x` is a combination of the first `n` rows.
pub record Combines {E : Type 0} (r : RingOps E) (n : ℕ) (rows : ℕ → ℕ → E) (x : ℕ → E) : Type 0 where
  pub by : ℕ → E
  pub elems : (i : ℕ) → IsElem r (by i)
  pub is : (j : ℕ) → x j ≡ combined r n by rows j
