-- Polynomials with one term.
use Rattle.std.specs.Prelude.{ℕ, ◌+◌, List, if◌then◌else◌, nat_eq}
use Rattle.ring_core.specs.Ring.{RingOps}
use Rattle.ring_core.specs.Coeffs.{list_of}

-- The polynomial `c tau^k`, which is zero where `c` is.
abbrev pub monomial : {E : Type 0} → RingOps E → E → ℕ → List E
monomial r c k = list_of r (k + 1) (λ i. if nat_eq i k then c else r.zero)

-- The constant polynomial `c`.
abbrev pub constant : {E : Type 0} → RingOps E → E → List E
constant r c = monomial r c 0

-- The polynomial `tau^k`.
abbrev pub tau_power : {E : Type 0} → RingOps E → ℕ → List E
tau_power r k = monomial r r.one k
