-- Lists of elements as polynomials, lowest coefficient first.
use Rattle.std.specs.Prelude.{ℕ, zero, suc, Bool, true, false, not, ◌&&◌, List, [], ◌∷◌, cond, slice_index_or}
use Rattle.ring_core.specs.Ring.{RingOps}

-- The coefficient at `i`, zero past the end.
abbrev pub coeff : {E : Type 0} → RingOps E → List E → ℕ → E
coeff r u i = slice_index_or u i r.zero

-- The sum of `f i` over `i` below `n`.
abbrev pub sum_below : {E : Type 0} → RingOps E → ℕ → (ℕ → E) → E
sum_below r zero f = r.zero
sum_below r (suc n) f = r.add (sum_below r n f) (f n)

abbrev pub cons_trimmed : {E : Type 0} → RingOps E → E → List E → List E
cons_trimmed r x [] = cond (r.same x r.zero) [] (x ∷ [])
cons_trimmed r x (y ∷ ys) = x ∷ y ∷ ys

-- The list without the zeros at its top.
abbrev pub trim : {E : Type 0} → RingOps E → List E → List E
trim r [] = []
trim r (x ∷ xs) = cons_trimmed r x (trim r xs)

-- No zero stands at the top.
abbrev pub is_trimmed : {E : Type 0} → RingOps E → List E → Bool
is_trimmed r [] = true
is_trimmed r (x ∷ []) = not (r.same x r.zero)
is_trimmed r (x ∷ y ∷ ys) = is_trimmed r (y ∷ ys)

abbrev pub are_elems : {E : Type 0} → RingOps E → List E → Bool
are_elems r [] = true
are_elems r (x ∷ xs) = r.is_elem x && are_elems r xs

-- A polynomial: elements, with no zero at the top.
abbrev pub is_canonical : {E : Type 0} → RingOps E → List E → Bool
is_canonical r u = are_elems r u && is_trimmed r u

-- Equal lists by `same` at each place.
abbrev pub same_lists : {E : Type 0} → RingOps E → List E → List E → Bool
same_lists r [] [] = true
same_lists r [] (y ∷ ys) = false
same_lists r (x ∷ xs) [] = false
same_lists r (x ∷ xs) (y ∷ ys) = r.same x y && same_lists r xs ys

-- The list of `f 0` to `f (n - 1)`.
abbrev pub first_values : {E : Type 0} → ℕ → (ℕ → E) → List E
first_values zero f = []
first_values (suc n) f = f 0 ∷ first_values n (λ i. f (suc i))

-- The polynomial with the coefficients `f 0` to `f (n - 1)`.
abbrev pub list_of : {E : Type 0} → RingOps E → ℕ → (ℕ → E) → List E
list_of r n f = trim r (first_values n f)
