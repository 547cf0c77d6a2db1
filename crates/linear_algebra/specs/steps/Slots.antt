-- Rows in the course of an elimination, at the places of their leads.
use Rattle.std.specs.Prelude.{◌≡◌, ℕ, ◌<◌, Bool, true, false, ◌-◌, cond, nat_lt}
use Rattle.ring_core.specs.Ring.{RingOps}

-- `x` below `n`, and then `y`.
abbrev pub beside : {E : Type 0} → ℕ → (ℕ → E) → (ℕ → E) → ℕ → E
beside n x y k = cond (nat_lt k n) (x k) (y (k - n))

-- `x - y`, place by place.
abbrev pub minus : {E : Type 0} → RingOps E → (ℕ → E) → (ℕ → E) → ℕ → E
minus r x y k = r.add (x k) (r.neg (y k))

-- The row at each lead `j` has its highest nonzero member at `j`, which is one; the rows elsewhere are zero.
pub record AreLedSlots {E : Type 0} (r : RingOps E) (w : ℕ) (lead : ℕ → Bool) (slots : ℕ → ℕ → E) : Type 0 where
  pub within : (j : ℕ) → lead j ≡ true → j < w
  pub absent : (j k : ℕ) → lead j ≡ false → slots j k ≡ r.zero
  pub one : (j : ℕ) → lead j ≡ true → slots j j ≡ r.one
  pub above : (j k : ℕ) → j < k → slots j k ≡ r.zero

-- Such rows, with zero at all other leads.
pub record AreReducedSlots {E : Type 0} (r : RingOps E) (w : ℕ) (lead : ℕ → Bool) (slots : ℕ → ℕ → E) : Type 0 where
  pub within : (j : ℕ) → lead j ≡ true → j < w
  pub absent : (j k : ℕ) → lead j ≡ false → slots j k ≡ r.zero
  pub one : (j : ℕ) → lead j ≡ true → slots j j ≡ r.one
  pub above : (j k : ℕ) → j < k → slots j k ≡ r.zero
  pub apart : (j k : ℕ) → lead k ≡ true → (j ≡ k → ⊥) → slots j k ≡ r.zero
