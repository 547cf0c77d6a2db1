-- The power of an algebra by the number of constants, as a linear map with its rows and its kernel.
use Rattle.std.specs.Prelude.{◌≡◌, ◌≢◌, ℕ, ◌<◌, ◌≤◌, List, length}
use Rattle.ring_core.specs.Ring.{RingOps, IsElem}
use Rattle.ring_core.specs.Coeffs.{first_values}
use Rattle.ring_core.specs.Powers.{power_of}
use Rattle.linear_algebra.specs.Linear.{entry}
use Rattle.residue_field.specs.Algebra.{Coordinates, unit_of}
use Rattle.field_tower.specs.declared.accept.LinearMap.{LinearMap}
use Rattle.field_tower.specs.declared.accept.LinearMap.TheVariants.{Power, Difference}

-- The power `q` of `x`, or that power less `x`.
abbrev pub image_of : {T : Type 0} → RingOps T → ℕ → LinearMap → T → T
image_of t q Power x = power_of t x q
image_of t q Difference x = t.add (power_of t x q) (t.neg x)

-- The coordinates of the image of the element with coordinate one at place `j` and zero at the others.
abbrev pub image_row : {E T : Type 0} → RingOps E → RingOps T → Coordinates E T → ℕ → LinearMap → ℕ → List E
image_row r t c q map j = first_values c.dimension (c.coord (image_of t q map (unit_of r c j)))

-- The coordinates from the place `low` on are zero.
abbrev pub IsLow : {E T : Type 0} → RingOps E → Coordinates E T → ℕ → T → Type 0
IsLow r c low x = (i : ℕ) → low ≤ i → i < c.dimension → c.coord x i ≡ r.zero

-- Row `i` is zero from the place `low` on.
abbrev pub IsLowRow : {E : Type 0} → RingOps E → ℕ → List (List E) → ℕ → Type 0
IsLowRow r low rows i = (k : ℕ) → low ≤ k → entry r rows i k ≡ r.zero

-- All rows are.
abbrev pub AreLow : {E : Type 0} → RingOps E → ℕ → List (List E) → Type 0
AreLow r low rows = (i : ℕ) → i < length rows → IsLowRow r low rows i

-- `x` has a row as its coordinates that is not.
pub record IsAbove {E T : Type 0} (r : RingOps E) (c : Coordinates E T) (low : ℕ) (rows : List (List E)) (x : T) : Type 0 where
  pub row : ℕ
  pub within : row < length rows
  pub is : x ≡ c.of_coords (entry r rows row)
  pub above : IsLowRow r low rows row → ⊥

-- How many coordinates the elements with the image zero use in a field: none, or the one of the constants.
abbrev pub low_count : LinearMap → ℕ
low_count Power = 0
low_count Difference = 1

-- Only elements that are zero past those places have the image zero.
abbrev pub HasLowKernel : {E T : Type 0} → RingOps E → RingOps T → Coordinates E T → ℕ → LinearMap → Type 0
HasLowKernel {E} {T} r t c q map = (x : T) → IsElem t x → image_of t q map x ≡ t.zero → IsLow r c (low_count map) x

-- `x` has the image zero, and isn't zero past those places.
pub record IsInKernel {E T : Type 0} (r : RingOps E) (t : RingOps T) (c : Coordinates E T) (q : ℕ) (map : LinearMap) (x : T) : Type 0 where
  pub elem : IsElem t x
  pub image : image_of t q map x ≡ t.zero
  pub above : IsLow r c (low_count map) x → ⊥

-- `x` is the product `v`, which isn't zero.
pub record IsNonzero {T : Type 0} (t : RingOps T) (v x : T) : Type 0 where
  pub elem : IsElem t x
  pub value : x ≡ v
  pub nonzero : x ≢ t.zero
