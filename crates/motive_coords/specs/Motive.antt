-- Motive coordinates: each twisted polynomial is a sum of terms `c tau^i phi_T^j` with `i` below the rank.
use Rattle.std.specs.Prelude.{◌≡◌, ℕ, true, List, length}
use Rattle.ring_core.specs.Ring.{RingOps}
use Rattle.ring_core.specs.Coeffs.{coeff, sum_below, are_elems}
use Rattle.ring_core.specs.Powers.{power_of}
use Rattle.ring_core.specs.Twisted.{list_mul, twisted_ops}
use Rattle.ring_core.specs.Monomial.{monomial}
use Rattle.fq_poly.specs.Poly.{poly_ops}
use Rattle.drinfeld_mod.specs.Module.{rank_of}

-- The sum of `c_ij tau^i phi_T^j` over the coefficients `c_ij` of the members `c_i` of the list.
abbrev pub motive_value : {E : Type 0} → RingOps E → (E → ℕ → E) → List E → List (List E) → List E
motive_value r frob phi list =
    let s = twisted_ops r frob in
    let member = coeff (poly_ops r) list in
    sum_below s (length list) (λ i. sum_below s (length (member i)) (λ j. list_mul r frob (monomial r (coeff r (member i) j) i) (power_of s phi j)))

-- The list holds the motive coordinates of `u`: as many polynomials over the field as the rank.
pub record IsMotive {E : Type 0} (r : RingOps E) (frob : E → ℕ → E) (phi u : List E) (list : List (List E)) : Type 0 where
  pub count : length list ≡ rank_of phi
  pub elems : are_elems (poly_ops r) list ≡ true
  pub is : u ≡ motive_value r frob phi list
