-- When a finite commutative ring is a field, what its inverses are, and the powers by which fields over
-- finite fields are told.
use Rattle.std.specs.Prelude.{◌≢◌, ℕ, zero, suc, ◌-◌, Option, Some, None, cond}
use Rattle.ring_core.specs.Ring.{RingOps, IsElem}
use Rattle.ring_core.specs.Powers.{power_of}

-- No two nonzero elements multiply to zero.
abbrev pub HasNoPair : {E : Type 0} → RingOps E → Type 0
HasNoPair {E} r = (a b : E) → IsElem r a → IsElem r b → a ≢ r.zero → b ≢ r.zero → r.mul a b ≢ r.zero

-- The inverse of `a` in a field of `count` elements: none for zero, else the power `count - 2` of `a`,
-- since there the power `count - 1` of each nonzero element is one.
abbrev pub inverse_by_power : {E : Type 0} → RingOps E → ℕ → E → Option E
inverse_by_power r count a = cond (r.same a r.zero) None (Some (power_of r a (count - 2)))

-- The product of `x - c j` over `j` below `n`.
abbrev pub root_product : {E : Type 0} → RingOps E → (ℕ → E) → ℕ → E → E
root_product r c zero x = r.one
root_product r c (suc n) x = r.mul (root_product r c n x) (r.add x (r.neg (c n)))
