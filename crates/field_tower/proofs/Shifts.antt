-- Constants and multiples of the letter, as sequences of elements.
use Rattle.std.proofs.Common.{ℕ, zero, suc}
use Rattle.ring_core.specs.Ring.{RingOps, IsElem, IsRing}
use Rattle.residue_field.specs.Residue.{constant_at, shifted}

module _ {E : Type 0} (r : RingOps E) (h : IsRing r) where
  pub constant_at_in : (b : E) → IsElem r b → (i : ℕ) → IsElem r (constant_at r b i)
  constant_at_in b e zero = e
  constant_at_in b e (suc i) = h.closed.zero_in

  pub shifted_in : (v : ℕ → E) → ((i : ℕ) → IsElem r (v i)) → (i : ℕ) → IsElem r (shifted r v i)
  shifted_in v e zero = h.closed.zero_in
  shifted_in v e (suc i) = e i
