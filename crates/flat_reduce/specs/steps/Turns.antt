-- Turns of rows: one row is added to another, in a matrix and in the transform that leads to it.
use Rattle.std.specs.Prelude.{◌≡◌, ◌≢◌, ℕ, ◌*◌, ◌<◌, List, length}
use Rattle.ring_core.specs.Ring.{RingOps, IsElem}
use Rattle.linear_algebra.specs.Linear.{entry}
use Rattle.flat_modules.specs.Flat.{shifted}

-- `c` times row `q` behind `s` zeros was added to row `p`.
pub record IsRowAdded {E : Type 0} (r : RingOps E) (p q s : ℕ) (c : E) (before after : List (List E)) : Type 0 where
  pub len : length after ≡ length before
  pub here : (t : ℕ) → entry r after p t ≡ r.add (entry r before p t) (r.mul c (shifted r s (entry r before q) t))
  pub rest : (i t : ℕ) → i ≢ p → entry r after i t ≡ entry r before i t

-- A turn: the same multiple of row `q`, times the same power of x, was added to row `p` of the images, of width `w`,
-- and of the transform, of width `n`. In the inverse of the transform, given by its columns, the same multiple of
-- column `p` was taken from column `q`.
pub record IsTurn {E : Type 0} (r : RingOps E) (w n p q : ℕ) (image left columns image_now left_now columns_now : List (List E)) : Type 0 where
  pub power : ℕ
  pub factor : E
  pub elem : IsElem r factor
  pub images : IsRowAdded r p q (power * w) factor image image_now
  pub lefts : IsRowAdded r p q (power * n) factor left left_now
  pub inverse : IsRowAdded r q p (power * n) (r.neg factor) columns columns_now

-- What came about by turns of two different rows below `n`.
pub data Turns {E : Type 0} (r : RingOps E) (w n : ℕ) (image left columns : List (List E)) : List (List E) → List (List E) → List (List E) → Type 0 where
  none : Turns r w n image left columns image left columns
  turn : (p q : ℕ) (a b k c d l : List (List E)) → p < n → q < n → p ≢ q → Turns r w n image left columns a b k → IsTurn r w n p q a b k c d l → Turns r w n image left columns c d l
