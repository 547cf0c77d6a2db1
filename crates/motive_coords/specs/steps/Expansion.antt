-- Expansions in powers of a twisted polynomial, and their coefficients in columns and in rows.
use Rattle.std.specs.Prelude.{◌≡◌, ℕ, zero, suc, ◌<◌, true, List, [], length}
use Rattle.ring_core.specs.Ring.{RingOps}
use Rattle.ring_core.specs.Coeffs.{coeff, sum_below, are_elems, list_of}
use Rattle.ring_core.specs.Powers.{power_of}
use Rattle.ring_core.specs.Twisted.{list_add, list_mul, twisted_ops}
use Rattle.fq_poly.specs.Poly.{poly_ops}

-- The sum of the members times the powers of `phi`, below `n`.
abbrev pub expansion : {E : Type 0} → RingOps E → (E → ℕ → E) → List E → ℕ → List (List E) → List E
expansion r frob phi n digits =
    let s = twisted_ops r frob in
    sum_below s n (λ j. list_mul r frob (coeff s digits j) (power_of s phi j))

-- Polynomials of lower degree than `phi`, which give `u` with the powers of `phi`.
pub record IsExpansion {E : Type 0} (r : RingOps E) (frob : E → ℕ → E) (phi u : List E) (digits : List (List E)) : Type 0 where
  pub elems : are_elems (twisted_ops r frob) digits ≡ true
  pub lower : (j : ℕ) → length (coeff (twisted_ops r frob) digits j) < length phi
  pub is : u ≡ expansion r frob phi (length digits) digits

-- The coefficients at `i` of the members, as a polynomial.
abbrev pub column_at : {E : Type 0} → RingOps E → (E → ℕ → E) → List (List E) → ℕ → List E
column_at r frob digits i = list_of r (length digits) (λ j. coeff r (coeff (twisted_ops r frob) digits j) i)

-- The coefficients at `j` of the members, as a twisted polynomial.
abbrev pub digit_at : {E : Type 0} → RingOps E → List (List E) → ℕ → List E
digit_at r list j = list_of r (length list) (λ i. coeff r (coeff (poly_ops r) list i) j)

-- The sum of `n` of these twisted polynomials from number `from` on, times the powers of `phi`.
abbrev pub digits_value : {E : Type 0} → RingOps E → (E → ℕ → E) → List E → List (List E) → ℕ → ℕ → List E
digits_value r frob phi list from zero = []
digits_value r frob phi list from (suc n) = list_add r (list_mul r frob (digits_value r frob phi list (suc from) n) phi) (digit_at r list from)
