-- What the steps of Euclid's algorithm do to three lists at once.
use Rattle.std.specs.Prelude.{◌≡◌, ℕ, true, List}
use Rattle.ring_core.specs.Ring.{RingOps}
use Rattle.ring_core.specs.Coeffs.{is_canonical, trim}
use Rattle.ring_core.specs.Twisted.{list_add, list_mul}

-- From `u`, `o` and `p` one left multiple each was taken away, of `b`, of `s` and of `w`, by the same factor.
pub record IsReduced {E : Type 0} (r : RingOps E) (frob : E → ℕ → E) (u o p b s w rest left right : List E) : Type 0 where
  pub factor : List E
  pub factor_in : is_canonical r factor ≡ true
  pub first : trim r u ≡ list_add r (trim r rest) (list_mul r frob factor b)
  pub second : trim r o ≡ list_add r (trim r left) (list_mul r frob factor s)
  pub third : trim r p ≡ list_add r (trim r right) (list_mul r frob factor w)
