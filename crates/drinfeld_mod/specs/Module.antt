-- A Drinfeld module, given by the image of T.
use Rattle.std.specs.Prelude.{◌≡◌, ℕ, ◌-◌, ◌≤◌, List, length, true}
use Rattle.ring_core.specs.Ring.{RingOps}
use Rattle.ring_core.specs.Coeffs.{coeff, is_canonical}

abbrev pub rank_of : {E : Type 0} → List E → ℕ
rank_of phi = length phi - 1

-- The list `z, g_1, .., g_r` of elements, with a rank `r` from 1 to 8 and a `g_r` that isn't zero.
pub record IsModule {E : Type 0} (r : RingOps E) (phi : List E) : Type 0 where
  pub canonical : is_canonical r phi ≡ true
  pub rank_pos : 1 ≤ rank_of phi
  pub rank_small : rank_of phi ≤ 8

-- The image of T is `constant_of phi` and terms in tau.
abbrev pub constant_of : {E : Type 0} → RingOps E → List E → E
constant_of r phi = coeff r phi 0
