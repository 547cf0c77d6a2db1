-- Lists of rows, with the members of each row as a list: spans, echelon bases, relations, dependence and
-- solutions. No definition speaks of elimination.
use Rattle.std.specs.Prelude.{◌≡◌, ℕ, ◌-◌, ◌<◌, ◌↔◌, Bool, true, ◌&&◌, List, [], ◌∷◌, length, nat_eq, slice_index_or}
use Rattle.ring_core.specs.Ring.{RingOps}
use Rattle.ring_core.specs.Coeffs.{coeff, trim, are_elems}
use Rattle.linear_algebra.specs.Combines.{combined, Combines}

abbrev pub row_at : {E : Type 0} → List (List E) → ℕ → List E
row_at rows i = slice_index_or rows i []

-- Member `j` of row `i`.
abbrev pub entry : {E : Type 0} → RingOps E → List (List E) → ℕ → ℕ → E
entry r rows i j = coeff r (row_at rows i) j

-- A row of `w` elements.
abbrev pub is_row : {E : Type 0} → RingOps E → ℕ → List E → Bool
is_row r w x = nat_eq (length x) w && are_elems r x

abbrev pub are_rows : {E : Type 0} → RingOps E → ℕ → List (List E) → Bool
are_rows r w [] = true
are_rows r w (x ∷ xs) = is_row r w x && are_rows r w xs

-- `x` is a combination of the rows.
abbrev pub IsCombination : {E : Type 0} → RingOps E → List (List E) → List E → Type 0
IsCombination r rows x = Combines r (length rows) (entry r rows) (coeff r x)

-- Row `k` is a combination of the rows before it.
abbrev pub IsDependent : {E : Type 0} → RingOps E → List (List E) → ℕ → Type 0
IsDependent r rows k = Combines r k (entry r rows) (entry r rows k)

-- The sum of `c_i` times row `i` is zero.
abbrev pub IsRelation : {E : Type 0} → RingOps E → List (List E) → List E → Type 0
IsRelation r rows c = (j : ℕ) → combined r (length rows) (coeff r c) (entry r rows) j ≡ r.zero

-- The highest place of `x` that is not zero, for an `x` that is not zero.
abbrev pub lead : {E : Type 0} → RingOps E → List E → ℕ
lead r x = length (trim r x) - 1

-- The leads rise; each row has one at its lead and zero at the leads of the others.
pub record IsEchelon {E : Type 0} (r : RingOps E) (basis : List (List E)) : Type 0 where
  pub rising : (i k : ℕ) → i < k → k < length basis → lead r (row_at basis i) < lead r (row_at basis k)
  pub one : (i : ℕ) → i < length basis → entry r basis i (lead r (row_at basis i)) ≡ r.one
  pub apart : (i k : ℕ) → i < length basis → k < length basis → (i ≡ k → ⊥) → entry r basis i (lead r (row_at basis k)) ≡ r.zero

-- The echelon basis of all rows `x` of `w` elements with `P x`.
pub record IsEchelonBasis {E : Type 0} (r : RingOps E) (w : ℕ) (P : List E → Type 0) (basis : List (List E)) : Type 0 where
  pub shape : are_rows r w basis ≡ true
  pub echelon : IsEchelon r basis
  pub spans : (x : List E) → is_row r w x ≡ true → P x ↔ IsCombination r basis x

-- `x` is the combination of the rows with the coefficients `c`, one for each row, and with no others.
pub record IsOnlyCombination {E : Type 0} (r : RingOps E) (rows : List (List E)) (x c : List E) : Type 0 where
  pub shape : is_row r (length rows) c ≡ true
  pub is : (j : ℕ) → coeff r x j ≡ combined r (length rows) (coeff r c) (entry r rows) j
  pub only : (d : List E) → is_row r (length rows) d ≡ true → ((j : ℕ) → coeff r x j ≡ combined r (length rows) (coeff r d) (entry r rows) j) → d ≡ c

-- Coefficients of `target`, with zero at each row that is a combination of the rows before it.
pub record IsSolution {E : Type 0} (r : RingOps E) (rows : List (List E)) (target c : List E) : Type 0 where
  pub shape : is_row r (length rows) c ≡ true
  pub is : (j : ℕ) → coeff r target j ≡ combined r (length rows) (coeff r c) (entry r rows) j
  pub zero : (k : ℕ) → k < length rows → IsDependent r rows k → coeff r c k ≡ r.zero

pub record IsOnlySolution {E : Type 0} (r : RingOps E) (rows : List (List E)) (target c : List E) : Type 0 where
  pub solves : IsSolution r rows target c
  pub only : (d : List E) → IsSolution r rows target d → d ≡ c

-- Row `k` is the first that is a combination of the rows before it, with the coefficients `c`.
pub record IsFirstDependence {E : Type 0} (r : RingOps E) (rows : List (List E)) (k : ℕ) (c : List E) : Type 0 where
  pub within : k < length rows
  pub shape : is_row r k c ≡ true
  pub is : (j : ℕ) → entry r rows k j ≡ combined r k (coeff r c) (entry r rows) j
  pub least : (i : ℕ) → i < k → IsDependent r rows i → ⊥

-- Only the coefficients zero give zero.
abbrev pub IsIndependent : {E : Type 0} → RingOps E → List (List E) → Type 0
IsIndependent {E} r rows = (c : List E) → is_row r (length rows) c ≡ true → IsRelation r rows c → (i : ℕ) → coeff r c i ≡ r.zero
