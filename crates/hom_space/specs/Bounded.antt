-- The bounded list of homomorphisms from a module to another, for a degree `d`: it expresses each homomorphism that is
-- zero or of degree at most `d` once.
use Rattle.std.specs.Prelude.{◌≡◌, ◌≢◌, ℕ, ◌+◌, ◌<◌, ◌≤◌, List, length, true}
use Rattle.ring_core.specs.Ring.{RingOps}
use Rattle.ring_core.specs.Field.{FrobOps}
use Rattle.ring_core.specs.Coeffs.{coeff, sum_below}
use Rattle.ring_core.specs.Twisted.{twisted_ops, list_mul}
use Rattle.ring_core.specs.Monomial.{constant}
use Rattle.linear_algebra.specs.Linear.{row_at, is_row}
use Rattle.central_coords.specs.Coordinates.{coordinate, IsLeadingPlace}
use Rattle.morphism.specs.Homomorphism.{IsHomomorphism}

-- A homomorphism that is zero or of degree at most `d`.
pub record IsMember {E B : Type 0} (r : RingOps E) (f : FrobOps E B) (phi psi : List E) (d : ℕ) (u : List E) : Type 0 where
  pub hom : IsHomomorphism r f.frob phi psi u
  pub short : length u ≤ d + 1

-- The sum of `c_i` times member `i` of the list, for elements `c_i` of the base.
abbrev pub combination_of : {E B : Type 0} → RingOps E → RingOps B → FrobOps E B → List (List E) → List B → List E
combination_of r base f list c =
    sum_below (twisted_ops r f.frob) (length list) (λ i. list_mul r f.frob (constant r (f.embed (coeff base c i))) (row_at list i))

-- `u` is that sum for exactly one list of elements of the base, one for each member.
pub record IsOneCombination {E B : Type 0} (r : RingOps E) (base : RingOps B) (f : FrobOps E B) (list : List (List E)) (u : List E) : Type 0 where
  pub by : List B
  pub shape : is_row base (length list) by ≡ true
  pub is : u ≡ combination_of r base f list by
  pub only : (c : List B) → is_row base (length list) c ≡ true → u ≡ combination_of r base f list c → c ≡ by

-- Each homomorphism up to the degree is exactly one combination of the members, which are such homomorphisms. Their
-- leads rise; each member has coordinate one at its lead and zero at the leads of the others.
pub record IsBoundedList {E B : Type 0} (r : RingOps E) (base : RingOps B) (f : FrobOps E B) (phi psi : List E) (d : ℕ) (list : List (List E)) : Type 0 where
  pub members : (i : ℕ) → i < length list → IsMember r f phi psi d (row_at list i)
  pub spans : (u : List E) → IsMember r f phi psi d u → IsOneCombination r base f list u
  pub lead : ℕ → ℕ
  pub leads : (i : ℕ) → i < length list → IsLeadingPlace r base f (row_at list i) (lead i)
  pub rising : (i j : ℕ) → i < j → j < length list → lead i < lead j
  pub one : (i : ℕ) → i < length list → coordinate r f (row_at list i) (lead i) ≡ base.one
  pub apart : (i j : ℕ) → i < length list → j < length list → i ≢ j → coordinate r f (row_at list i) (lead j) ≡ base.zero
