-- Rows with leads of different places, in rising order, divided by their tops and cleared by one another.
use Rattle.std.specs.Prelude.{◌≡◌, ◌≢◌, ℕ, ◌+◌, ◌-◌, ◌*◌, ◌%◌, ◌<◌, ◌≤◌, Option, Some, List, [], length}
use Rattle.ring_core.specs.Ring.{RingOps, IsElem}
use Rattle.ring_core.specs.Coeffs.{coeff}
use Rattle.linear_algebra.specs.Linear.{row_at, entry}
use Rattle.flat_modules.specs.Flat.{lead_at}
use Rattle.flat_reduce.specs.steps.Turns.{Turns}
use Rattle.flat_reduce.specs.steps.Settled.{slot_of}

-- Row `i` is the shortest of those that are longer than `above`.
pub record IsNext {E : Type 0} (image : List (List E)) (above i : ℕ) : Type 0 where
  pub within : i < length image
  pub longer : above < length (row_at image i)
  pub least : (k : ℕ) → above < length (row_at image k) → length (row_at image i) ≤ length (row_at image k)

-- `m` is `a` over its top coefficient.
pub record IsMonicOf {E : Type 0} (r : RingOps E) (a m : List E) : Type 0 where
  pub same_len : length m ≡ length a
  pub one : coeff r m (length m - 1) ≡ r.one
  pub factor : E
  pub elem : IsElem r factor
  pub is : (t : ℕ) → coeff r m t ≡ r.mul factor (coeff r a t)
  pub top : E
  pub top_elem : IsElem r top
  pub back : (t : ℕ) → coeff r a t ≡ r.mul top (coeff r m t)

-- The place of a row of `image` of which row `j` of the list is the multiple with the top one.
pub record IsFrom {E : Type 0} (r : RingOps E) (image list : List (List E)) (i j : ℕ) : Type 0 where
  pub within : i < length image
  pub listed : j < length list
  pub multiple : IsMonicOf r (row_at image i) (row_at list j)

pub record IsSource {E : Type 0} (r : RingOps E) (image list : List (List E)) (j : ℕ) : Type 0 where
  pub row : ℕ
  pub is : IsFrom r image list row j

pub record IsListed {E : Type 0} (r : RingOps E) (image list : List (List E)) (i : ℕ) : Type 0 where
  pub row : ℕ
  pub is : IsFrom r image list i row

-- The rows of `image` that aren't zero and have at most `above` members, over their tops, in rising order.
pub record IsLeading {E : Type 0} (r : RingOps E) (image : List (List E)) (above : ℕ) (list : List (List E)) : Type 0 where
  pub rising : (j k : ℕ) → j < k → k < length list → length (row_at list j) < length (row_at list k)
  pub full : (j : ℕ) → j < length list → 0 < length (row_at list j)
  pub low : (j : ℕ) → j < length list → length (row_at list j) ≤ above
  pub source : (j : ℕ) → j < length list → IsSource r image list j
  pub listed : (i : ℕ) → 0 < length (row_at image i) → length (row_at image i) ≤ above → IsListed r image list i

-- Each slot names the row that has its lead there.
pub record IsNaming {E : Type 0} (w n : ℕ) (slot : List (Option ℕ)) (rows : List (List E)) : Type 0 where
  pub len : length slot ≡ w
  pub names : (j q : ℕ) → slot_of slot j ≡ Some q → q < n
  pub places : (j q : ℕ) → slot_of slot j ≡ Some q → lead_at rows q % w ≡ j
  pub all : (k : ℕ) → k < n → slot_of slot (lead_at rows k % w) ≡ Some k

-- Row `p` was cleared at the place `t`, and its members above are the same, as are the other rows.
pub record IsClearedAt {E : Type 0} (r : RingOps E) (w p t : ℕ) (rows new : List (List E)) : Type 0 where
  pub len : length new ≡ length rows
  pub others : (k : ℕ) → k ≢ p → row_at new k ≡ row_at rows k
  pub high : (s : ℕ) → t < s → entry r new p s ≡ entry r rows p s
  pub clear : (j e : ℕ) → j < length rows → t ≡ lead_at rows j + e * w → entry r new p t ≡ r.zero
  pub turned : Turns r w (length rows) rows [] [] new [] []

-- Row `p` was cleared by the other rows at the places from `t` on; its lead is the same, as are the other rows.
pub record IsClearedFrom {E : Type 0} (r : RingOps E) (w p t : ℕ) (rows new : List (List E)) : Type 0 where
  pub len : length new ≡ length rows
  pub lens : (k : ℕ) → length (row_at new k) ≡ length (row_at rows k)
  pub others : (k : ℕ) → k ≢ p → row_at new k ≡ row_at rows k
  pub one : entry r new p (lead_at rows p) ≡ entry r rows p (lead_at rows p)
  pub clear : (j e : ℕ) → j < length rows → j ≢ p → t ≤ lead_at rows j + e * w → entry r new p (lead_at rows j + e * w) ≡ r.zero
  pub turned : Turns r w (length rows) rows [] [] new [] []

-- All rows below `m` were cleared.
pub record AreCleared {E : Type 0} (r : RingOps E) (w m : ℕ) (rows new : List (List E)) : Type 0 where
  pub len : length new ≡ length rows
  pub lens : (k : ℕ) → length (row_at new k) ≡ length (row_at rows k)
  pub one : (k : ℕ) → entry r new k (lead_at rows k) ≡ entry r rows k (lead_at rows k)
  pub clear : (k j e : ℕ) → k < m → j < length rows → j ≢ k → entry r new k (lead_at rows j + e * w) ≡ r.zero
  pub turned : Turns r w (length rows) rows [] [] new [] []
