-- The invariants `j_k` of a Drinfeld module.
use Rattle.std.specs.Prelude.{◌≡◌, ℕ, ◌-◌, ◌*◌, ◌^◌, ◌≤◌, List}
use Rattle.ring_core.specs.Ring.{RingOps, IsElem}
use Rattle.ring_core.specs.Coeffs.{coeff}
use Rattle.ring_core.specs.Powers.{power_of}
use Rattle.drinfeld_mod.specs.Module.{rank_of}

abbrev pub Divides : ℕ → ℕ → Type 0
Divides d n = (c : ℕ) × (n ≡ c * d)

pub record IsGreatestCommonDivisor (e k n : ℕ) : Type 0 where
  pub left : Divides e k
  pub right : Divides e n
  pub greatest : (d : ℕ) → Divides d k → Divides d n → d ≤ e

-- `x` is `g_k^a / g_r^b` with `a = (q^r - 1) / (q^e - 1)` and `b = (q^k - 1) / (q^e - 1)`, where `r` is the rank
-- and `e` the greatest common divisor of `k` and `r`.
pub record IsInvariant {E : Type 0} (r : RingOps E) (q : ℕ) (phi : List E) (k : ℕ) (x : E) : Type 0 where
  pub e : ℕ
  pub divisor : IsGreatestCommonDivisor e k (rank_of phi)
  pub a : ℕ
  pub b : ℕ
  pub top : a * (q ^ e - 1) ≡ q ^ rank_of phi - 1
  pub bottom : b * (q ^ e - 1) ≡ q ^ k - 1
  pub elem : IsElem r x
  pub is : r.mul x (power_of r (coeff r phi (rank_of phi)) b) ≡ power_of r (coeff r phi k) a
