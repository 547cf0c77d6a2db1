-- The degree of a polynomial that is given by the list of its coefficients, lowest first.
use Rattle.std.specs.Prelude.{ℕ, Option, None, Some, List, [], ◌∷◌, length}

-- The length less one; zero has none.
abbrev pub degree_of : {E : Type 0} → List E → Option ℕ
degree_of [] = None
degree_of (x ∷ xs) = Some (length xs)
