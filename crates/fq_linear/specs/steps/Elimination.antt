-- Rows in one table of cells, with the number of the row with lead `j` at place `j` of an index.
use Rattle.std.specs.Prelude.{◌≡◌, ℕ, ◌+◌, ◌*◌, ◌<◌, ◌≤◌, Bool, true, cond, Option, Some, None, is_some, false, List, [], ◌∷◌, length, slice_range, slice_index_or}
use Rattle.ring_core.specs.Ring.{RingOps, IsElem}
use Rattle.ring_core.specs.Coeffs.{coeff, are_elems, first_values}
use Rattle.linear_algebra.specs.Combines.{Combines}
use Rattle.linear_algebra.specs.steps.Slots.{minus, AreLedSlots, AreReducedSlots, beside}
use Rattle.fq_linear.specs.steps.Places.{unit_row, IsHighestPlace}

-- The number of the row with lead `j`.
abbrev pub row_number : List (Option ℕ) → ℕ → Option ℕ
row_number index j = slice_index_or index j None

abbrev pub is_lead : List (Option ℕ) → ℕ → Bool
is_lead index j = is_some (row_number index j)

-- The first `cut` cells of the row of that number, in rows of width `w`.
abbrev pub numbered_cells : {E : Type 0} → ℕ → ℕ → List E → Option ℕ → List E
numbered_cells w cut cells None = []
numbered_cells w cut cells (Some i) = slice_range cells (i * w) (i * w + cut)

-- The row with lead `j`, the zero row where there is none.
abbrev pub slot : {E : Type 0} → RingOps E → ℕ → List (Option ℕ) → List E → ℕ → ℕ → E
slot r w index cells j k = coeff r (numbered_cells w w cells (row_number index j)) k

-- The rows of the index lie within `len` cells.
pub record HasRowsWithin (w : ℕ) (index : List (Option ℕ)) (len : ℕ) : Type 0 where
  pub is : (j i : ℕ) → row_number index j ≡ Some i → i * w + w ≤ len

-- The rows in the index have their leads there. They need not be zero at the leads of the others.
pub record IsLedTable {E : Type 0} (r : RingOps E) (w : ℕ) (index : List (Option ℕ)) (cells : List E) : Type 0 where
  pub index_len : length index ≡ w
  pub elems : are_elems r cells ≡ true
  pub stored : HasRowsWithin w index (length cells)
  pub led : AreLedSlots r w (is_lead index) (slot r w index cells)

-- Only the first `count` rows of the table are in the index.
pub record IsBelow (count : ℕ) (index : List (Option ℕ)) : Type 0 where
  pub is : (j i : ℕ) → row_number index j ≡ Some i → i < count

-- What joins a table: a row with one at its lead `l` and zero above, where no other has its lead there.
pub record CanJoin {E : Type 0} (r : RingOps E) (index : List (Option ℕ)) (row : List E) (l : ℕ) : Type 0 where
  pub within : l < length row
  pub one : coeff r row l ≡ r.one
  pub above : (k : ℕ) → l < k → coeff r row k ≡ r.zero
  pub free : is_lead index l ≡ false

-- The row's highest place that is not zero is `l`, and no row of the table has its lead there.
pub record IsFreeTop {E : Type 0} (r : RingOps E) (index : List (Option ℕ)) (row : List E) (l : ℕ) : Type 0 where
  pub top : IsHighestPlace r row l
  pub free : is_lead index l ≡ false

-- The slots after the row `x` was inserted into the slots before: they span no less and no more than the
-- slots before and `x`.
pub record IsInserted {E : Type 0} (r : RingOps E) (w : ℕ) (before after : ℕ → ℕ → E) (x : ℕ → E) : Type 0 where
  pub keeps : (j : ℕ) → j < w → Combines r w after (before j)
  pub holds : Combines r w after x
  pub adds : (n : ℕ) (rows : ℕ → ℕ → E) → ((i j : ℕ) → IsElem r (rows i j)) → Combines r n rows x
      → ((j : ℕ) → j < w → Combines r n rows (before j)) → (j : ℕ) → j < w → Combines r n rows (after j)

-- The rows with the unit matrix of width `n` before them.
abbrev pub augmented : {E : Type 0} → RingOps E → ℕ → (ℕ → ℕ → E) → ℕ → ℕ → E
augmented r n rows i = beside n (unit_row r i) (rows i)

-- The table's rows have the span of the first `n` rows.
pub record IsEliminated {E : Type 0} (r : RingOps E) (w n : ℕ) (rows : ℕ → ℕ → E) (index : List (Option ℕ)) (cells : List E) : Type 0 where
  pub table : IsLedTable r w index cells
  pub within : (j : ℕ) → j < w → Combines r n rows (slot r w index cells j)
  pub holds : (i : ℕ) → i < n → Combines r w (slot r w index cells) (rows i)

-- Reduced rows with the leads of the slots and with their span.
pub record AreFinished {E : Type 0} (r : RingOps E) (w : ℕ) (lead : ℕ → Bool) (slots finished : ℕ → ℕ → E) : Type 0 where
  pub elems : (j k : ℕ) → IsElem r (finished j k)
  pub reduced : AreReducedSlots r w lead finished
  pub into : (j : ℕ) → j < w → Combines r w finished (slots j)
  pub back : (j : ℕ) → j < w → Combines r w slots (finished j)

-- The first `cut` members of the row with lead `j`, where there is one, as a list of rows.
abbrev pub cut_rows : {E : Type 0} → ℕ → (ℕ → Bool) → (ℕ → ℕ → E) → ℕ → List (List E)
cut_rows cut lead finished j = cond (lead j) (first_values cut (finished j) ∷ []) []

-- The target, with `n` zeros before it, was reduced by the table to `row`.
pub record IsReducedTarget {E : Type 0} (r : RingOps E) (n w : ℕ) (index : List (Option ℕ)) (cells target row : List E) : Type 0 where
  pub len : length row ≡ w
  pub elems : are_elems r row ≡ true
  pub taken : Combines r w (slot r w index cells) (minus r (beside n (λ _. r.zero) (coeff r target)) (coeff r row))
  pub clear : (k : ℕ) → is_lead index k ≡ true → coeff r row k ≡ r.zero

-- The first lead below `n`, at `k`, is that of row number `i`.
pub record IsFirstLead (n : ℕ) (index : List (Option ℕ)) (k i : ℕ) : Type 0 where
  pub within : k < n
  pub is : row_number index k ≡ Some i
  pub least : (j : ℕ) → j < k → is_lead index j ≡ false
