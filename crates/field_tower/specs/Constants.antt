-- Constants that are codes.
use Rattle.std.specs.Prelude.{◌≡◌, ℕ, ◌<◌, ◌≤◌}
use Rattle.ring_core.specs.Ring.{RingOps, IsRing, IsCommutative}
use Rattle.ring_core.proofs.Carrier.{elements}
use Rattle.finite_ring.proofs.Frobenius.{IsFiniteField}
use Rattle.field_tower.specs.declared.size.TheConstants.{CODES}

-- A finite field of `q` elements: the codes below `q`, each of which is its own number.
pub record IsFieldOfCodes (r : RingOps ℕ) (q : ℕ) : Type 0 where
  pub ring : IsRing r
  pub commutes : IsCommutative r
  pub finite : IsFiniteField (elements ring) q
  pub nth : (i : ℕ) → i < q → (finite.counted.nth i).0 ≡ i
  pub few : q ≤ CODES
