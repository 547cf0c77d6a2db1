-- What the functions over slices do, place by place.
use Rattle.std.specs.Prelude.{◌≡◌, ◌≢◌, ℕ, ◌<◌, List, length, cond, nat_eq}
use Rattle.ring_core.specs.Ring.{RingOps, IsElem}
use Rattle.ring_core.specs.Coeffs.{coeff}

-- `l` is the highest place of the row that is not zero.
pub record IsHighestPlace {E : Type 0} (r : RingOps E) (row : List E) (l : ℕ) : Type 0 where
  pub within : l < length row
  pub nonzero : coeff r row l ≢ r.zero
  pub above : (k : ℕ) → l < k → coeff r row k ≡ r.zero

-- A multiple of `before` with one at `l`, which `before` is a multiple of.
pub record IsMonicMultiple {E : Type 0} (r : RingOps E) (l : ℕ) (before after : ℕ → E) : Type 0 where
  pub factor : E
  pub elem : IsElem r factor
  pub is : (k : ℕ) → after k ≡ r.mul factor (before k)
  pub one : after l ≡ r.one
  pub back : (k : ℕ) → before k ≡ r.mul (before l) (after k)

-- `x` with a multiple of `y` added, so that it has zero at `l` where `y` has one.
abbrev pub cleared : {E : Type 0} → RingOps E → ℕ → (ℕ → E) → (ℕ → E) → ℕ → E
cleared r l y x k = r.add (x k) (r.mul (r.neg (x l)) (y k))

-- Row `i` of the unit matrix.
abbrev pub unit_row : {E : Type 0} → RingOps E → ℕ → ℕ → E
unit_row r i k = cond (nat_eq i k) r.one r.zero
