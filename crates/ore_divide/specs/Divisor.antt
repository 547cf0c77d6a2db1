-- Common right divisors of twisted polynomials.
use Rattle.std.specs.Prelude.{◌≡◌, ◌≢◌, ℕ, ◌+◌, ◌-◌, ◌≤◌, true, List, [], length}
use Rattle.ring_core.specs.Ring.{RingOps}
use Rattle.ring_core.specs.Coeffs.{coeff, is_canonical}
use Rattle.ring_core.specs.Twisted.{list_add, list_mul}

-- `a = c d` for some `c`.
pub record DividesRight {E : Type 0} (r : RingOps E) (frob : E → ℕ → E) (d a : List E) : Type 0 where
  pub factor : List E
  pub factor_in : is_canonical r factor ≡ true
  pub is : a ≡ list_mul r frob factor d

-- The top coefficient is one.
abbrev pub IsMonic : {E : Type 0} → RingOps E → List E → Type 0
IsMonic r u = coeff r u (length u - 1) ≡ r.one

-- `d = s a + w b` is the monic right divisor of both, or zero where both are zero. Where both are nonzero,
-- `s` is zero or of lower degree than the difference of the degrees of `b` and `d`; where one is zero, its
-- cofactor is zero, and the other cofactor is a constant, zero where both are zero.
pub record IsCommonRight {E : Type 0} (r : RingOps E) (frob : E → ℕ → E) (a b d s w : List E) : Type 0 where
  pub divisor : is_canonical r d ≡ true
  pub left_in : is_canonical r s ≡ true
  pub right_in : is_canonical r w ≡ true
  pub sum : d ≡ list_add r (list_mul r frob s a) (list_mul r frob w b)
  pub left : DividesRight r frob d a
  pub right : DividesRight r frob d b
  pub monic : d ≢ [] → IsMonic r d
  pub bound : a ≢ [] → b ≢ [] → s ≢ [] → length s + length d ≤ length b
  pub no_left : a ≡ [] → (s ≡ []) × (length w ≤ 1) × (b ≡ [] → w ≡ [])
  pub no_right : a ≢ [] → b ≡ [] → (w ≡ []) × (length s ≤ 1)
