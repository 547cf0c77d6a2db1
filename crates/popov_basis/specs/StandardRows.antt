-- Standard bases of modules of rows of polynomials, and division by them. The coefficient of x^e in entry `j` of a row
-- of `w` polynomials has the index `e w + j`; the lead is the highest index with a nonzero coefficient.
use Rattle.std.specs.Prelude.{◌≡◌, ◌≢◌, ℕ, ◌+◌, ◌*◌, ◌%◌, ◌<◌, true, List, length}
use Rattle.ring_core.specs.Ring.{RingOps}
use Rattle.ring_core.specs.Coeffs.{coeff, first_values}
use Rattle.linear_algebra.specs.Linear.{row_at, is_row}
use Rattle.fq_poly.specs.Poly.{poly_ops}
use Rattle.poly_reduce.specs.Matrices.{row_times, member, IsLead, IsRowBasis}

-- The sum of two rows of `w` members.
abbrev pub row_sum : {X : Type 0} → RingOps X → ℕ → List X → List X → List X
row_sum r w a b = first_values w (λ j. r.add (coeff r a j) (coeff r b j))

-- The leads rise and have different places; each row has the coefficient one at its lead, and zero at the leads of
-- the others and at these plus multiples of `w`.
pub record IsStandardRows {E : Type 0} (r : RingOps E) (w : ℕ) (rows : List (List (List E))) : Type 0 where
  pub lead : ℕ → ℕ
  pub is_lead : (i : ℕ) → i < length rows → IsLead r w (row_at rows i) (lead i)
  pub rising : (i k : ℕ) → i < k → k < length rows → lead i < lead k
  pub places : (i k : ℕ) → i < length rows → k < length rows → i ≢ k → lead i % w ≢ lead k % w
  pub one : (i : ℕ) → i < length rows → member r w (row_at rows i) (lead i) ≡ r.one
  pub clear : (i k e : ℕ) → i < length rows → k < length rows → i ≢ k → member r w (row_at rows i) (lead k + e * w) ≡ r.zero

-- The standard basis of the rows of `w` polynomials that have the property `P`.
pub record IsStandardRowBasis {E : Type 0} (r : RingOps E) (w : ℕ) (P : List (List E) → Type 0) (rows : List (List (List E))) : Type 0 where
  pub basis : IsRowBasis (poly_ops r) w P rows
  pub standard : IsStandardRows r w rows

-- `x` is `by` times the matrix, and `rest`, which is zero at the leads of the rows and at these plus multiples of `w`.
pub record IsNormalRow {E : Type 0} (r : RingOps E) (w : ℕ) (rows : List (List (List E))) (x by rest : List (List E)) : Type 0 where
  pub by_shape : is_row (poly_ops r) (length rows) by ≡ true
  pub rest_shape : is_row (poly_ops r) w rest ≡ true
  pub is : x ≡ row_sum (poly_ops r) w (row_times (poly_ops r) w by rows) rest
  pub clear : (i t e : ℕ) → i < length rows → IsLead r w (row_at rows i) t → member r w rest (t + e * w) ≡ r.zero
