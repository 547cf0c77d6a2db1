-- What contracts see of rows of one width, in both forms, and reductions of flat rows.
use Rattle.std.specs.Prelude.{◌≡◌, ℕ, List, length, max}
use Rattle.ring_core.specs.Ring.{RingOps}
use Rattle.flat_modules.specs.Flat.{IsReduction}

-- The width, and the rows in order.
pub record Rows (X : Type 0) : Type 0 where
  pub width : ℕ
  pub rows : List X

-- The transform, its inverse and the image of the rows of `m`. The transform has the number of rows for its width,
-- and 1 where there are none.
pub record IsFlatReduction {E : Type 0} (r : RingOps E) (m left back image : Rows (List E)) : Type 0 where
  pub left_width : left.width ≡ max 1 (length m.rows)
  pub back_width : back.width ≡ max 1 (length m.rows)
  pub image_width : image.width ≡ m.width
  pub reduction : IsReduction r m.width m.rows left.rows back.rows image.rows
