-- Polynomials in a letter that commutes with its coefficients, as lists, lowest coefficient first: the
-- case of the product with a twist in which the twist changes nothing.
use Rattle.std.specs.Prelude.{List, [], ◌∷◌}
use Rattle.ring_core.specs.Ring.{RingOps}
use Rattle.ring_core.specs.Twisted.{list_mul, twisted_ops}

-- Coefficient `k` is the sum of `a_i b_j` over `i + j = k`.
abbrev pub poly_mul : {E : Type 0} → RingOps E → List E → List E → List E
poly_mul r a b = list_mul r (λ c i. c) a b

-- The ring of polynomials.
abbrev pub poly_ops : {E : Type 0} → RingOps E → RingOps (List E)
poly_ops r = twisted_ops r (λ c i. c)

-- The letter.
abbrev pub letter : {E : Type 0} → RingOps E → List E
letter r = r.zero ∷ r.one ∷ []
