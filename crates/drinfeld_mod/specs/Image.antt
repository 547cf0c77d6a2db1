-- The action of polynomials over the base: their images under a Drinfeld module.
use Rattle.std.specs.Prelude.{List}
use Rattle.ring_core.specs.Ring.{RingOps}
use Rattle.ring_core.specs.Field.{FrobOps}
use Rattle.ring_core.specs.Powers.{base_value}
use Rattle.ring_core.specs.Twisted.{twisted_ops}
use Rattle.ring_core.specs.Monomial.{constant}

-- `phi_a`, the sum of `a_i phi_T^i` in the ring of twisted polynomials, where `a_i` is taken as a constant.
abbrev pub image : {E B : Type 0} → RingOps E → RingOps B → FrobOps E B → List E → List B → List E
image r base f phi a = base_value (twisted_ops r f.frob) base (λ b. constant r (f.embed b)) a phi
