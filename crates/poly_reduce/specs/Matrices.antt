-- Matrices as lists of rows of one width over a ring, and the flat rows that rows of polynomials stand for.
use Rattle.std.specs.Prelude.{◌≡◌, ◌≢◌, ℕ, zero, suc, ◌/◌, ◌%◌, ◌<◌, ◌++◌, ◌&&◌, Bool, true, List, [], ◌∷◌, length, cond, nat_eq}
use Rattle.ring_core.specs.Ring.{RingOps}
use Rattle.ring_core.specs.Coeffs.{coeff, first_values}
use Rattle.linear_algebra.specs.Combines.{combined}
use Rattle.linear_algebra.specs.Linear.{row_at, entry, is_row, are_rows}
use Rattle.fq_poly.specs.Poly.{poly_ops}
use Rattle.flat_modules.specs.Flat.{are_flat, unit_at}
use Rattle.poly_reduce.specs.Rows.{Rows}

-- Row `c` times the matrix with these rows, of the width `w`: entry `j` is the sum of `c_i` times entry `j` of row `i`.
abbrev pub row_times : {X : Type 0} → RingOps X → ℕ → List X → List (List X) → List X
row_times r w c rows = first_values w (combined r (length rows) (coeff r c) (entry r rows))

-- The product of two matrices, the second of the width `w`.
abbrev pub product : {X : Type 0} → RingOps X → ℕ → List (List X) → List (List X) → List (List X)
product r w a b = first_values (length a) (λ i. row_times r w (row_at a i) b)

-- The identity with `n` rows.
abbrev pub identity : {X : Type 0} → RingOps X → ℕ → List (List X)
identity r n = first_values n (λ i. first_values n (unit_at r i))

-- The row of `w` zeros.
abbrev pub zero_row : {X : Type 0} → RingOps X → ℕ → List X
zero_row r w = first_values w (λ j. r.zero)

-- `c` times the matrix is zero.
abbrev pub IsRelationRow : {X : Type 0} → RingOps X → ℕ → List (List X) → List X → Type 0
IsRelationRow r w rows c = row_times r w c rows ≡ zero_row r w

-- `x` is in the module of the rows: some row times the matrix is `x`.
pub record IsInRows {X : Type 0} (r : RingOps X) (w : ℕ) (rows : List (List X)) (x : List X) : Type 0 where
  pub by : List X
  pub shape : is_row r (length rows) by ≡ true
  pub is : x ≡ row_times r w by rows

-- Exactly one row times the matrix is `x`.
pub record IsOnlyProduct {X : Type 0} (r : RingOps X) (w : ℕ) (rows : List (List X)) (x : List X) : Type 0 where
  pub by : List X
  pub shape : is_row r (length rows) by ≡ true
  pub is : x ≡ row_times r w by rows
  pub only : (other : List X) → is_row r (length rows) other ≡ true → x ≡ row_times r w other rows → other ≡ by

-- A basis of the rows of `w` members that have the property `P`.
pub record IsRowBasis {X : Type 0} (r : RingOps X) (w : ℕ) (P : List X → Type 0) (rows : List (List X)) : Type 0 where
  pub shape : are_rows r w rows ≡ true
  pub within : (i : ℕ) → i < length rows → P (row_at rows i)
  pub spans : (x : List X) → is_row r w x ≡ true → P x → IsOnlyProduct r w rows x

-- A matrix of `n` rows of `w` members.
pub record IsMatrix {X : Type 0} (r : RingOps X) (n w : ℕ) (m : Rows (List X)) : Type 0 where
  pub width : m.width ≡ w
  pub count : length m.rows ≡ n
  pub shape : are_rows r w m.rows ≡ true

-- The coefficient with the index `t` of a row of `w` polynomials: that of x^(t / w) in entry t % w.
abbrev pub member : {E : Type 0} → RingOps E → ℕ → List (List E) → ℕ → E
member r w row t = coeff r (row_at row (t % w)) (t / w)

-- `t` is the lead of the row: its highest index with a nonzero coefficient.
pub record IsLead {E : Type 0} (r : RingOps E) (w : ℕ) (row : List (List E)) (t : ℕ) : Type 0 where
  pub nonzero : member r w row t ≢ r.zero
  pub above : (s : ℕ) → t < s → member r w row s ≡ r.zero

-- The flat rows that the rows of `w` polynomials stand for: member `t` is the coefficient with the index `t`.
pub record StandFor {E : Type 0} (r : RingOps E) (w : ℕ) (rows : List (List (List E))) (flats : List (List E)) : Type 0 where
  pub count : length flats ≡ length rows
  pub shape : are_rows (poly_ops r) w rows ≡ true
  pub flat : are_flat r flats ≡ true
  pub is : (i t : ℕ) → i < length rows → coeff r (row_at flats i) t ≡ member r w (row_at rows i) t

-- `left m = image` and `left back = back left = identity`, the nonzero rows of `image` having different lead places.
pub record IsRowReduction {E : Type 0} (r : RingOps E) (m left back image : Rows (List (List E))) : Type 0 where
  pub left_shape : IsMatrix (poly_ops r) (length m.rows) (length m.rows) left
  pub back_shape : IsMatrix (poly_ops r) (length m.rows) (length m.rows) back
  pub image_shape : IsMatrix (poly_ops r) (length m.rows) m.width image
  pub image_is : product (poly_ops r) m.width left.rows m.rows ≡ image.rows
  pub left_back : product (poly_ops r) (length m.rows) left.rows back.rows ≡ identity (poly_ops r) (length m.rows)
  pub back_left : product (poly_ops r) (length m.rows) back.rows left.rows ≡ identity (poly_ops r) (length m.rows)
  pub places : (i k s t : ℕ) → i ≢ k → IsLead r m.width (row_at image.rows i) s → IsLead r m.width (row_at image.rows k) t → s % m.width ≢ t % m.width

-- All polynomials of the row are zero.
abbrev pub all_empty : {E : Type 0} → List (List E) → Bool
all_empty [] = true
all_empty (x ∷ xs) = nat_eq (length x) 0 && all_empty xs

-- The rows of `left` below `n` where those of `image` are zero.
abbrev pub rows_at_zeros : {E : Type 0} → List (List (List E)) → List (List (List E)) → ℕ → List (List (List E))
rows_at_zeros image left zero = []
rows_at_zeros image left (suc n) = cond (all_empty (row_at image n)) (rows_at_zeros image left n ++ row_at left n ∷ []) (rows_at_zeros image left n)

-- The rows are those of some reduction's `left` whose image is zero.
pub record IsOfRowReduction {E : Type 0} (r : RingOps E) (m : Rows (List (List E))) (rows : List (List (List E))) : Type 0 where
  pub left : Rows (List (List E))
  pub back : Rows (List (List E))
  pub image : Rows (List (List E))
  pub reduction : IsRowReduction r m left back image
  pub picked : rows ≡ rows_at_zeros image.rows left.rows (length m.rows)
