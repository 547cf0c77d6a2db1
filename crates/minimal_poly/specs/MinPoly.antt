-- The polynomial of least degree over a base field that has a given root in a field over it.
use Rattle.std.specs.Prelude.{◌≡◌, ◌≢◌, ◌-◌, ◌≤◌, List, [], length, true}
use Rattle.ring_core.specs.Ring.{RingOps}
use Rattle.ring_core.specs.Coeffs.{coeff, is_canonical}
use Rattle.ring_core.specs.Powers.{base_value}

-- `a` is monic and has the root `x`, and no polynomial with this root but zero has a lower degree: it has at
-- least as many coefficients.
pub record IsMinPoly {E B : Type 0} (r : RingOps E) (base : RingOps B) (embed : B → E) (x : E) (a : List B) : Type 0 where
  pub canonical : is_canonical base a ≡ true
  pub monic : coeff base a (length a - 1) ≡ base.one
  pub root : base_value r base embed a x ≡ r.zero
  pub least : (b : List B) → is_canonical base b ≡ true → b ≢ [] → base_value r base embed b x ≡ r.zero → length a ≤ length b
