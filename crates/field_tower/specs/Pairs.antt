-- Two nonzero elements whose product is zero.
use Rattle.std.specs.Prelude.{◌≡◌, ◌≢◌}
use Rattle.ring_core.specs.Ring.{RingOps, IsElem}

-- `a` and `b` aren't zero, and their product is.
pub record IsPair {E : Type 0} (r : RingOps E) (a b : E) : Type 0 where
  pub left_in : IsElem r a
  pub right_in : IsElem r b
  pub left_nonzero : a ≢ r.zero
  pub right_nonzero : b ≢ r.zero
  pub product_zero : r.mul a b ≡ r.zero
