-- What contracts see of `Rows`: the width, and each row as a list.
use Rattle.std.specs.Prelude.{ℕ, ◌+◌, ◌*◌, List, slice_range}
use Rattle.ring_core.specs.Coeffs.{first_values}

pub record Table (E : Type 0) : Type 0 where
  pub width : ℕ
  pub rows : List (List E)

-- Row `i` of cells in rows of width `w`.
abbrev pub row_cells : {E : Type 0} → ℕ → List E → ℕ → List E
row_cells w cells i = slice_range cells (i * w) (i * w + w)

-- The first `n` rows of the cells.
abbrev pub table_rows : {E : Type 0} → ℕ → ℕ → List E → List (List E)
table_rows w n cells = first_values n (row_cells w cells)
