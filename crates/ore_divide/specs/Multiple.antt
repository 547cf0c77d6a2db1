-- Common left multiples of twisted polynomials.
use Rattle.std.specs.Prelude.{◌≡◌, ◌≢◌, ℕ, ◌≤◌, true, List, [], length}
use Rattle.ring_core.specs.Ring.{RingOps}
use Rattle.ring_core.specs.Coeffs.{is_canonical}
use Rattle.ring_core.specs.Twisted.{list_mul}
use Rattle.ore_divide.specs.Divisor.{DividesRight, IsMonic}

-- `m = s a = w b` is the monic common multiple of least degree; all three are zero where `a` or `b` is.
pub record IsLeastMultiple {E : Type 0} (r : RingOps E) (frob : E → ℕ → E) (a b m s w : List E) : Type 0 where
  pub multiple : is_canonical r m ≡ true
  pub left_in : is_canonical r s ≡ true
  pub right_in : is_canonical r w ≡ true
  pub left : m ≡ list_mul r frob s a
  pub right : m ≡ list_mul r frob w b
  pub monic : a ≢ [] → b ≢ [] → IsMonic r m
  pub least : a ≢ [] → b ≢ [] → (n : List E) → is_canonical r n ≡ true → n ≢ [] → DividesRight r frob a n → DividesRight r frob b n → length m ≤ length n
  pub no_left : a ≡ [] → (m ≡ []) × (s ≡ []) × (w ≡ [])
  pub no_right : b ≡ [] → (m ≡ []) × (s ≡ []) × (w ≡ [])
