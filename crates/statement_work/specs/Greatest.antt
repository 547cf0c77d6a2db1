-- The greatest of the degrees of some twisted polynomials.
use Rattle.std.specs.Prelude.{ℕ, Option, Some, None, List, [], ◌∷◌, max}
use Rattle.ring_core.specs.Degrees.{degree_of}

-- The greater of two degrees, where zero has none.
abbrev pub greater : Option ℕ → Option ℕ → Option ℕ
greater None b = b
greater (Some m) None = Some m
greater (Some m) (Some n) = Some (max m n)

-- None where there are none, or all are zero.
abbrev pub greatest_degree : {E : Type 0} → List (List E) → Option ℕ
greatest_degree [] = None
greatest_degree (u ∷ us) = greater (degree_of u) (greatest_degree us)
