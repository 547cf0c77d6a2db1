-- The full list of homomorphisms: it expresses each homomorphism once, over the polynomials in tau^n, where `n` is
-- the degree of the field.
use Rattle.std.specs.Prelude.{◌≡◌, ◌≢◌, ℕ, ◌+◌, ◌*◌, ◌%◌, ◌<◌, List, length, true}
use Rattle.ring_core.specs.Ring.{RingOps}
use Rattle.ring_core.specs.Field.{FrobOps}
use Rattle.ring_core.specs.Coeffs.{coeff, sum_below}
use Rattle.ring_core.specs.Twisted.{twisted_ops, list_mul}
use Rattle.ring_core.specs.Monomial.{constant, tau_power}
use Rattle.linear_algebra.specs.Linear.{row_at}
use Rattle.flat_modules.specs.Flat.{are_flat}
use Rattle.morphism.specs.Homomorphism.{IsHomomorphism}
use Rattle.central_coords.specs.Coordinates.{coordinate, IsLeadingPlace}

-- `c(tau^n)` for the polynomial `c`: the sum of `c_e tau^(n e)`.
abbrev pub at_degree_power : {E B : Type 0} → RingOps E → RingOps B → FrobOps E B → List B → List E
at_degree_power r base f c =
    sum_below (twisted_ops r f.frob) (length c) (λ e. list_mul r f.frob (constant r (f.embed (coeff base c e))) (tau_power r (f.degree * e)))

-- The sum of `c_i(tau^n)` times member `i`.
abbrev pub full_combination : {E B : Type 0} → RingOps E → RingOps B → FrobOps E B → List (List E) → List (List B) → List E
full_combination r base f list c =
    sum_below (twisted_ops r f.frob) (length list) (λ i. list_mul r f.frob (at_degree_power r base f (row_at c i)) (row_at list i))

-- `u` is that sum for exactly one list of polynomials.
pub record IsOnlyFullCombination {E B : Type 0} (r : RingOps E) (base : RingOps B) (f : FrobOps E B) (list : List (List E)) (u : List E) : Type 0 where
  pub by : List (List B)
  pub len : length by ≡ length list
  pub polys : are_flat base by ≡ true
  pub is : u ≡ full_combination r base f list by
  pub only : (other : List (List B)) → length other ≡ length list → are_flat base other ≡ true → u ≡ full_combination r base f list other → other ≡ by

-- The members are homomorphisms, and every homomorphism is such a sum of them. Their leads rise and are distinct
-- modulo `n^2`. Each member has coordinate one at its lead, and zero at the leads of the other members and at these plus
-- multiples of `n^2`.
pub record IsFullList {E B : Type 0} (r : RingOps E) (base : RingOps B) (f : FrobOps E B) (phi psi : List E) (list : List (List E)) : Type 0 where
  pub members : (i : ℕ) → i < length list → IsHomomorphism r f.frob phi psi (row_at list i)
  pub spans : (u : List E) → IsHomomorphism r f.frob phi psi u → IsOnlyFullCombination r base f list u
  pub lead : ℕ → ℕ
  pub leads : (i : ℕ) → i < length list → IsLeadingPlace r base f (row_at list i) (lead i)
  pub rising : (i j : ℕ) → i < j → j < length list → lead i < lead j
  pub places : (i j : ℕ) → i < length list → j < length list → i ≢ j → lead i % (f.degree * f.degree) ≢ lead j % (f.degree * f.degree)
  pub one : (i : ℕ) → i < length list → coordinate r f (row_at list i) (lead i) ≡ base.one
  pub clear : (i j e : ℕ) → i < length list → j < length list → i ≢ j → coordinate r f (row_at list i) (lead j + e * (f.degree * f.degree)) ≡ base.zero
