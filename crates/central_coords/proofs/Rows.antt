-- Lists of coordinates: made from a twisted polynomial, and read as one.
use Rattle.std.proofs.Common.{◌≡◌, ℕ, zero, suc, ◌+◌, ◌*◌, ◌/◌, ◌%◌, ◌<◌, ◌≤◌, true, List, [], ◌∷◌, ◌++◌, length, sym, ◌∙◌, ap, ap₂, ⊎_elim, arith}
use Rattle.std.proofs.Math.Nat.{div-add-mod', div-mul-le_self, div-lt_iff_lt-mul}
use Rattle.std.proofs.lemmas.Bool.{cases_lt}
use Rattle.std.proofs.lemmas.List.{append_assoc}
use Rattle.ring_core.specs.Ring.{RingOps}
use Rattle.ring_core.specs.Field.{FrobOps}
use Rattle.ring_core.specs.Coeffs.{coeff, trim, are_elems, first_values}
use Rattle.ring_core.proofs.Coefficients.{elem_read, elems-first_values, coeff_past, coeff-trim}
use Rattle.ring_core.proofs.FirstValues.{length-first_values, at-first_values, values_pushed, values_same}
use Rattle.central_coords.specs.Coordinates.{coordinate, coordinate_row}
use Rattle.central_coords.proofs.Places.{Extension, degree_positive, coordinate_of, coord_zero, place_low}

-- the values of `f`, in two parts
pub values_append : {T : Type 0} (a b : ℕ) (f : ℕ → T) → first_values (a + b) f ≡ first_values a f ++ first_values b (λ j. f (a + j))
values_append zero b f =
    let e : 0 + b ≡ b = omega arith in
    ap (λ n. first_values n f) e ∙ values_same b f (λ j. f (0 + j)) (λ j l. let s : j ≡ 0 + j = omega arith in ap f s)
values_append (suc a) b f =
    let e : suc a + b ≡ suc (a + b) = omega arith in
    ap (λ n. first_values n f) e
    ∙ ap (λ t. f 0 ∷ t)
    (values_append a b (λ i. f (suc i))
    ∙ ap (λ t. first_values a (λ i. f (suc i)) ++ t) (values_same b (λ j. f (suc (a + j))) (λ j. f (suc a + j)) (λ j l. let s : suc (a + j) ≡ suc a + j = omega arith in ap f s)))

-- one value more, after other members
pub values_after : {T : Type 0} (before : List T) (n : ℕ) (f : ℕ → T) (u w : List T) (x : T) → w ≡ u ++ x ∷ [] → u ≡ before ++ first_values n f → x ≡ f n → w ≡ before ++ first_values (n + 1) f
values_after before n f u w x ew eu ex =
    let next : suc n ≡ n + 1 = omega arith in
    ew ∙ ap₂ (λ t y. t ++ y ∷ []) eu ex ∙ append_assoc before (first_values n f) (f n ∷ []) ∙ ap (λ t. before ++ t) (values_pushed n f ∙ ap (λ m. first_values m f) next)

module _ {E B : Type 0} {r : RingOps E} {base : RingOps B} {f : FrobOps E B} (o : Extension r base f) where
  -- the coordinates of one coefficient more
  pub row_more : (u : List E) (i : ℕ) → coordinate_row r f ((i + 1) * f.degree) u ≡ coordinate_row r f (i * f.degree) u ++ first_values f.degree (f.coord (coeff r u i))
  row_more u i =
      let e : (i + 1) * f.degree ≡ i * f.degree + f.degree = omega arith in
      ap (λ n. first_values n (coordinate r f u)) e ∙ values_append (i * f.degree) f.degree (coordinate r f u)
      ∙ ap (λ t. coordinate_row r f (i * f.degree) u ++ t)
      (values_same f.degree (λ j. coordinate r f u (i * f.degree + j)) (f.coord (coeff r u i)) (λ j m. coordinate_of o u i j m))

  module _ (x : List B) (ex : are_elems base x ≡ true) where
    -- the members of `x` that are the coordinates of the coefficient at `i`
    abbrev part : ℕ → List B
    part i = first_values f.degree (λ j. coeff base x (i * f.degree + j))

    pub part_in : (i : ℕ) → are_elems base (part i) ≡ true
    part_in i = elems-first_values base f.degree (λ j. coeff base x (i * f.degree + j)) (λ j m. elem_read base x o.base_field.ring.closed.zero_in ex (i * f.degree + j))

    abbrev pub members : ℕ → List E
    members m = first_values m (λ i. f.of_coords (part i))

    pub members_in : (m : ℕ) → are_elems r (members m) ≡ true
    members_in m = elems-first_values r m (λ i. f.of_coords (part i)) (λ i low. o.laws.of_coords_in (part i) (part_in i) (length-first_values f.degree _))

    pub members_coordinate : (t : ℕ) → coordinate r f (trim r (members (length x / f.degree + 1))) t ≡ coeff base x t
    members_coordinate t =
        let count = length x / f.degree + 1 in
        let i = t / f.degree in
        let j = t % f.degree in
        let low : j < f.degree = place_low o t in
        ap (λ y. f.coord y j) (coeff-trim r o.field.ring.closed.zero_in o.field.ring.equal (members count) (members_in count) i)
        ∙ ⊎_elim
        (λ (near : i < count).
        ap (λ y. f.coord y j) (at-first_values count (λ i. f.of_coords (part i)) i r.zero near)
        ∙ o.laws.of_coords_is (part i) j (part_in i) (length-first_values f.degree _) low
        ∙ at-first_values f.degree (λ j. coeff base x (i * f.degree + j)) j base.zero low
        ∙ ap (coeff base x) (div-add-mod' t f.degree))
        (λ (past : count ≤ i).
        let over : length (members count) ≤ i = omega (arith, length-first_values count (λ i. f.of_coords (part i)), past) in
        let few : length x < i * f.degree = (div-lt_iff_lt-mul (degree_positive o)).0 (omega (arith, past)) in
        let far : length x ≤ t = omega (arith, few, div-mul-le_self t f.degree) in
        ap (λ y. f.coord y j) (coeff_past r (members count) i over) ∙ coord_zero o j low ∙ sym (coeff_past base x t far))
        (cases_lt i count)
