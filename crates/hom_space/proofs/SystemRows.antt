-- The rows that the code makes are those of the map `u phi_T - psi_T u`, and lists are read from rows without any code.
use Rattle.std.proofs.Common.{◌≡◌, ℕ, ◌+◌, ◌-◌, ◌*◌, ◌/◌, ◌%◌, ◌<◌, ◌≤◌, true, max, cond, List, [], ◌++◌, length, refl, sym, ◌∙◌, ap, ap₂, subst, ⊎_elim, lt-ltb, le-ltb, arith, eq-eqb}
use Rattle.std.proofs.Math.Nat.{div-lt_iff_lt-mul, mul-le-mul_right}
use Rattle.std.proofs.lemmas.Nat.{div-mul-add, mod-mul-add}
use Rattle.std.proofs.lemmas.Bool.{and_parts, and_from, cases_lt}
use Rattle.ring_core.specs.Ring.{RingOps, IsElem}
use Rattle.ring_core.specs.Field.{FrobOps}
use Rattle.ring_core.specs.Coeffs.{coeff, are_elems, trim, first_values}
use Rattle.ring_core.specs.Monomial.{monomial}
use Rattle.ring_core.proofs.Carrier.{elements}
use Rattle.ring_core.proofs.Coefficients.{elem_read, coeff_past, coeff-first_values, elems-first_values, canonical-trim, coeff-trim}
use Rattle.ring_core.proofs.FirstValues.{length-first_values, at-first_values, values_same}
use Rattle.ring_core.proofs.Terms.{zero_times, times_zero}
use Rattle.ring_core.proofs.Twist.{twist_of_zero}
use Rattle.ring_core.proofs.ListRing.{coeff-add, coeff-neg, coeff-mul}
use Rattle.ring_core.proofs.Monomial.{monomial_in, monomial_product, monomial_product_below, product_monomial, product_monomial_below}
use Rattle.linear_algebra.specs.Linear.{row_at, is_row, are_rows, IsRelation, IsEchelonBasis}
use Rattle.linear_algebra.proofs.RowLists.{row_elems, rows_at, rows_by_places}
use Rattle.flat_modules.specs.Flat.{are_flat, shifted, IsRelationOf, IsStandardBasis}
use Rattle.flat_modules.proofs.Lists.{flat_at, row_past}
use Rattle.flat_modules.proofs.Lists.{flat_first}
use Rattle.fq_linear.proofs.Exists.{relations_exist}
use Rattle.popov_basis.proofs.Exists.{relations_exist as standard_relations}
use Rattle.central_coords.specs.Coordinates.{coordinate, coordinate_row}
use Rattle.central_coords.proofs.Places.{Extension, Polys, polys, twist, degree_positive, coordinate_in, coordinate_past, unit_in, elems_of}
use Rattle.central_coords.proofs.Rows.{values_append}
use Rattle.hom_space.specs.Bounded.{IsBoundedList}
use Rattle.hom_space.specs.Full.{IsFullList}
use Rattle.hom_space.specs.steps.Reading.{IsReadRow, AreReadRows}
use Rattle.hom_space.specs.steps.System.{unit_element, raised_list, turned_list, image_list, system_row}
use Rattle.hom_space.proofs.HomRows.{L, IsMapRows, square, wide, word, word_at}
use Rattle.hom_space.proofs.BoundedList.{bounded_of_relations}
use Rattle.hom_space.proofs.FullList.{full_of_relations}

-- values behind zeros
pub values_shifted : {E : Type 0} (r : RingOps E) (s n : ℕ) (v : ℕ → E) → first_values s (λ i. r.zero) ++ first_values n v ≡ first_values (s + n) (shifted r s v)
values_shifted r s n v =
    ap₂ ◌++◌ (values_same s (λ i. r.zero) (shifted r s v) (λ i low. sym (ap (λ b. cond b r.zero (v (i - s))) (lt-ltb i s low))))
    (values_same n v (λ j. shifted r s v (s + j))
    (λ j low. let back : s + j - s ≡ j = omega arith in sym (ap (λ b. cond b r.zero (v (s + j - s))) (le-ltb (s + j) s (omega arith)) ∙ ap v back)))
    ∙ sym (values_append s n (shifted r s v))

all_elems : {E : Type 0} (r : RingOps E) (w : ℕ) (rows : List (List E)) → are_rows r w rows ≡ true → (i : ℕ) → are_elems r (row_at rows i) ≡ true
all_elems r w rows shape i =
    ⊎_elim (λ (low : i < length rows). row_elems r w (row_at rows i) (rows_at r w rows shape i low)) (λ (past : length rows ≤ i). ap (are_elems r) (row_past r rows i past)) (cases_lt i (length rows))

module _ {E B : Type 0} {r : RingOps E} {base : RingOps B} {f : FrobOps E B} (o : Extension r base f) where
  -- rows of elements are the coordinates of twisted polynomials
  reads_exist : (rows : List (List B)) → ((i : ℕ) → are_elems base (row_at rows i) ≡ true) → (list : List (List E)) × AreReadRows r base f rows list
  reads_exist rows elems =
      let read = λ (i : ℕ). (word o (row_at rows i) (elems i)).0 in
      let long : length (first_values (length rows) read) ≡ length rows = length-first_values (length rows) read in (
        first_values (length rows) read,
        record {
          count = long;
          each = λ i m.
              subst (IsReadRow r base f (row_at rows i)) (sym (at-first_values (length rows) read i [] (omega (arith, long, m))))
              (record { canonical = (word o (row_at rows i) (elems i)).1; coords = word_at o (row_at rows i) (elems i) });
        },
      )

  pub all_turned_in : (psi elements : List E) (turned : List (List E)) (s : ℕ) → are_elems r psi ≡ true → are_elems r elements ≡ true
      → turned ≡ first_values (length elements) (λ j. turned_list r f psi s (coeff r elements j)) → (j : ℕ) → j < length turned → are_elems r (row_at turned j) ≡ true
  all_turned_in psi elements turned s es ee e j low =
      let row = λ (j : ℕ). turned_list r f psi s (coeff r elements j) in
      let long : length turned ≡ length elements = ap length e ∙ length-first_values (length elements) row in
      let closed = o.field.ring.closed in
      ap (λ v. are_elems r (row_at v j)) e ∙ ap (are_elems r) (at-first_values (length elements) row j [] (omega (arith, low, long)))
      ∙ elems-first_values r s _ (λ m _. closed.mul_in _ _ (elem_read r psi closed.zero_in es m) (o.laws.frob_in _ m (elem_read r elements closed.zero_in ee j)))

  module _ (phi psi : Polys o) where
    abbrev s : ℕ
    s = max (length phi.0) (length psi.0)

    -- the map at a term
    module _ (z : E) (zi : IsElem r z) (i : ℕ) where
      abbrev term : Polys o
      term = (monomial r z i, monomial_in r o.field.ring z i zi)

      abbrev image : Polys o
      image = L o phi psi term

      -- the coefficient `m` places above the term
      abbrev value : ℕ → E
      value m = r.add (r.mul z (f.frob (coeff r phi.0 m) i)) (r.neg (r.mul (coeff r psi.0 m) (f.frob z m)))

      parts : (e : ℕ) → coeff r image.0 e ≡ r.add (coeff r ((polys o).mul term phi).0 e) (r.neg (coeff r ((polys o).mul psi term).0 e))
      parts e =
          let right = (polys o).mul psi term in
          coeff-add r o.field.ring ((polys o).mul term phi).0 ((polys o).neg right).0 (elems_of o ((polys o).mul term phi)) (elems_of o ((polys o).neg right)) e
          ∙ ap (r.add (coeff r ((polys o).mul term phi).0 e)) (coeff-neg r o.field.ring right.0 (elems_of o right) e)

      image_is : (e : ℕ) → coeff r image.0 e ≡ shifted r i value e
      image_is e =
          let left = coeff-mul r o.field.ring f.frob (twist o) term.0 phi.0 (elems_of o term) (elems_of o phi) e in
          let right = coeff-mul r o.field.ring f.frob (twist o) psi.0 term.0 (elems_of o psi) (elems_of o term) e in
          parts e
          ∙ ⊎_elim
          (λ (low : e < i).
          ap₂ (λ a b. r.add a (r.neg b)) (left ∙ monomial_product_below r o.field.ring f.frob (twist o) z i phi.0 zi (elems_of o phi) e low)
          (right ∙ product_monomial_below r o.field.ring f.frob (twist o) psi.0 z i zi (elems_of o psi) e low)
          ∙ o.field.ring.add_neg r.zero o.field.ring.closed.zero_in ∙ sym (ap (λ b. cond b r.zero (value (e - i))) (lt-ltb e i low)))
          (λ (high : i ≤ e).
          ap₂ (λ a b. r.add a (r.neg b)) (left ∙ monomial_product r o.field.ring f.frob (twist o) z i phi.0 zi (elems_of o phi) e high)
          (right ∙ product_monomial r o.field.ring f.frob (twist o) psi.0 z i zi (elems_of o psi) e high)
          ∙ sym (ap (λ b. cond b r.zero (value (e - i))) (le-ltb e i high)))
          (cases_lt e i)

      -- the list that the code makes has these coefficients
      abbrev made : List E
      made = image_list r i z (raised_list r f phi.0 s i) (turned_list r f psi.0 s z)

      raised_at : (m : ℕ) → coeff r (raised_list r f phi.0 s i) m ≡ f.frob (coeff r phi.0 m) i
      raised_at m =
          coeff-first_values r s (λ m. f.frob (coeff r phi.0 m) i) (λ m past. ap (λ x. f.frob x i) (coeff_past r phi.0 m (omega arith)) ∙ twist_of_zero r o.field.ring f.frob (twist o) i) m

      turned_at : (m : ℕ) → coeff r (turned_list r f psi.0 s z) m ≡ r.mul (coeff r psi.0 m) (f.frob z m)
      turned_at m =
          coeff-first_values r s (λ m. r.mul (coeff r psi.0 m) (f.frob z m))
          (λ m past. zero_times r o.field.ring (coeff r psi.0 m) (f.frob z m) (coeff_past r psi.0 m (omega arith)) (o.laws.frob_in z m zi)) m

      made_values : made ≡ first_values (i + s) (shifted r i value)
      made_values =
          let long : length (raised_list r f phi.0 s i) ≡ s = length-first_values s (λ m. f.frob (coeff r phi.0 m) i) in
          ap (λ n. first_values i (λ m. r.zero) ++ first_values n (λ m. r.add (r.mul z (coeff r (raised_list r f phi.0 s i) m)) (r.neg (coeff r (turned_list r f psi.0 s z) m)))) long
          ∙ ap (λ t. first_values i (λ m. r.zero) ++ t) (values_same s _ value (λ m low. ap₂ (λ a b. r.add (r.mul z a) (r.neg b)) (raised_at m) (turned_at m)))
          ∙ values_shifted r i s value

      value_past : (m : ℕ) → s ≤ m → value m ≡ r.zero
      value_past m past =
          ap₂ (λ a b. r.add a (r.neg b))
          (times_zero r o.field.ring z _ zi (ap (λ x. f.frob x i) (coeff_past r phi.0 m (omega arith)) ∙ twist_of_zero r o.field.ring f.frob (twist o) i))
          (zero_times r o.field.ring _ (f.frob z m) (coeff_past r psi.0 m (omega arith)) (o.laws.frob_in z m zi))
          ∙ o.field.ring.add_neg r.zero o.field.ring.closed.zero_in

      made_is : (e : ℕ) → coeff r made e ≡ coeff r image.0 e
      made_is e =
          ap (λ w. coeff r w e) made_values
          ∙ coeff-first_values r (i + s) (shifted r i value) (λ m past. ap (λ b. cond b r.zero (value (m - i))) (le-ltb m i (omega arith)) ∙ value_past (m - i) (omega arith)) e
          ∙ sym (image_is e)

      -- its coordinates, in a row that is wide enough
      same_coordinate : (c : ℕ) → coordinate r f made c ≡ coordinate r f image.0 c
      same_coordinate c = ap (λ x. f.coord x (c % f.degree)) (made_is (c / f.degree))

      made_row : (count : ℕ) → i + s ≤ count → (c : ℕ) → coeff base (coordinate_row r f (count * f.degree) made) c ≡ coordinate r f image.0 c
      made_row count enough c =
          let long : length made ≡ i + s = ap length made_values ∙ length-first_values (i + s) (shifted r i value) in
          let fits : length made * f.degree ≤ count * f.degree = mul-le-mul_right f.degree (omega (arith, long, enough)) in
          coeff-first_values base (count * f.degree) (coordinate r f made) (λ c past. coordinate_past o made c (omega (arith, fits, past))) c ∙ same_coordinate c

      made_shape : (w : ℕ) → is_row base w (coordinate_row r f w made) ≡ true
      made_shape w =
          and_from _ _ (eq-eqb _ _ (length-first_values w (coordinate r f made)))
          (elems-first_values base w (coordinate r f made) (λ c m. ap base.is_elem (same_coordinate c) ∙ coordinate_in o image.0 (elems_of o image) c))

    -- the rows that the code makes of the lists that it calls with
    module _ (d : ℕ) (p q : List E) (ep : p ≡ phi.0) (eq : q ≡ psi.0) (rows : List (List B)) (e : rows ≡ first_values ((d + 1) * f.degree) (system_row r base f p q (d + max (length p) (length q)))) where
      abbrev w : ℕ
      w = (d + 1) * f.degree

      abbrev row : ℕ → List B
      row = system_row r base f phi.0 psi.0 (d + s)

      made_rows : rows ≡ first_values w row
      made_rows = e ∙ ap₂ (λ p q. first_values w (system_row r base f p q (d + max (length p) (length q)))) ep eq

      system_long : length rows ≡ w
      system_long = ap length made_rows ∙ length-first_values w row

      row_is : (c : ℕ) → c < w → row_at rows c ≡ row c
      row_is c low = ap (λ v. row_at v c) made_rows ∙ at-first_values w row c [] low

      system_is : IsMapRows o phi psi w rows
      system_is = record {
        count = system_long;
        is = λ c low j.
            let q : c / f.degree < d + 1 = (div-lt_iff_lt-mul (degree_positive o)).1 low in
            ap (λ x. coeff base x j) (row_is c low) ∙ made_row (unit_element base f (c % f.degree)) (unit_in o (c % f.degree)) (c / f.degree) (d + s) (omega (arith, q)) j;
      }

      pub system_shape : are_rows base ((d + max (length p) (length q)) * f.degree) rows ≡ true
      system_shape =
          ap₂ (λ p q. are_rows base ((d + max (length p) (length q)) * f.degree) rows) ep eq
          ∙ rows_by_places base ((d + s) * f.degree) rows
          (λ c m.
          ap (is_row base ((d + s) * f.degree)) (row_is c (omega (arith, m, system_long)))
          ∙ made_shape (unit_element base f (c % f.degree)) (unit_in o (c % f.degree)) (c / f.degree) ((d + s) * f.degree))

      pub bounded_made : (basis : List (List B)) (list : List (List E)) → IsEchelonBasis base (length rows) (IsRelation base rows) basis → AreReadRows r base f basis list → IsBoundedList r base f phi.0 psi.0 d list
      bounded_made basis list found reads = bounded_of_relations o phi psi d rows basis list system_is (subst (λ n. IsEchelonBasis base n (IsRelation base rows) basis) system_long found) reads

    -- The rows for the degrees below that of the field, without zeros at their ends, are the matrix of the map.
    module _ (n : ℕ) (en : n ≡ f.degree) (p q : List E) (ep : p ≡ phi.0) (eq : q ≡ psi.0) (rows : List (List B))
        (e : rows ≡ first_values ((n - 1 + 1) * f.degree) (system_row r base f p q (n - 1 + max (length p) (length q)))) where
      size : length rows ≡ square o
      size =
          let some = degree_positive o in
          let next : n - 1 + 1 ≡ f.degree = omega (arith, some, en) in
          system_long (n - 1) p q ep eq rows e ∙ ap (λ n. n * f.degree) next

      pub some_rows : 0 < length rows
      some_rows = let all = size in let some = wide o in omega (arith, all, some)

      abbrev matrix : List (List B)
      matrix = first_values (length rows) (λ i. trim base (row_at rows i))

      elems : (i : ℕ) → are_elems base (row_at rows i) ≡ true
      elems = all_elems base _ rows (system_shape (n - 1) p q ep eq rows e)

      pub matrix_flat : are_flat base matrix ≡ true
      matrix_flat = flat_first base (length rows) (λ i. trim base (row_at rows i)) (λ i. canonical-trim base (row_at rows i) (elems i))

      long : length matrix ≡ length rows
      long = length-first_values (length rows) (λ i. trim base (row_at rows i))

      matrix_is : IsMapRows o phi psi (square o) matrix
      matrix_is = record {
        count = long ∙ size;
        is = λ i low t.
            let m : i < length rows = omega (arith, low, size) in
            let sys = system_is (n - 1) p q ep eq rows e in
            ap (λ x. coeff base x t) (at-first_values (length rows) (λ i. trim base (row_at rows i)) i [] m)
            ∙ coeff-trim base o.base_field.ring.closed.zero_in o.base_field.ring.equal (row_at rows i) (elems i) t ∙ sys.is i (omega (arith, m, sys.count)) t;
      }

      pub full_made : (m : List (List B)) (width : ℕ) (basis : List (List B)) (list : List (List E)) → m ≡ matrix → width ≡ length rows → IsStandardBasis base (length m) (IsRelationOf base width m) basis
          → AreReadRows r base f basis list → IsFullList r base f phi.0 psi.0 list
      full_made m width basis list em ew found reads =
          full_of_relations o phi psi m basis list (subst (IsMapRows o phi psi (square o)) (sym em) matrix_is)
          (subst (λ n. IsStandardBasis base n (IsRelationOf base (square o) m) basis) (ap length em ∙ long ∙ size)
          (subst (λ n. IsStandardBasis base (length m) (IsRelationOf base n m) basis) (ew ∙ size) found)) reads

    -- There is a bounded list for each degree, and a full list.
    pub bounded_exists : (d : ℕ) → (list : List (List E)) × IsBoundedList r base f phi.0 psi.0 d list
    bounded_exists d =
        let rows : List (List B) = first_values ((d + 1) * f.degree) (system_row r base f phi.0 psi.0 (d + s)) in
        let found = relations_exist base o.base_inv o.base_field ((d + s) * f.degree) rows (system_shape d phi.0 psi.0 refl refl rows refl) in
        let list = reads_exist found.0 (all_elems base _ found.0 found.1.shape) in
        (list.0, bounded_made d phi.0 psi.0 refl refl rows refl found.0 list.0 found.1 list.1)

    pub full_exists : (list : List (List E)) × IsFullList r base f phi.0 psi.0 list
    full_exists =
        let rows : List (List B) = first_values ((f.degree - 1 + 1) * f.degree) (system_row r base f phi.0 psi.0 (f.degree - 1 + s)) in
        let m : List (List B) = matrix f.degree refl phi.0 psi.0 refl refl rows refl in
        let found = standard_relations base o.base_inv o.base_field (length rows) (some_rows f.degree refl phi.0 psi.0 refl refl rows refl) m (matrix_flat f.degree refl phi.0 psi.0 refl refl rows refl) in
        let list = reads_exist found.0 (λ i. (and_parts (are_elems base (row_at found.0 i)) _ (flat_at base found.0 found.1.basis.shape i)).0) in
        (list.0, full_made f.degree refl phi.0 psi.0 refl refl rows refl m (length rows) found.0 list.0 refl refl found.1 list.1)

-- the rows of the system for one power of tau more
pub block : {E B : Type 0} (r : RingOps E) (base : RingOps B) (f : FrobOps E B) (phi psi : List E) (d i : ℕ) (elements : List E) (turned : List (List E)) → let s = max (length phi) (length psi) in
    elements ≡ first_values f.degree (unit_element base f) → turned ≡ first_values (length elements) (λ j. turned_list r f psi s (coeff r elements j))
    → first_values (i * f.degree) (system_row r base f phi psi (d + s))
    ++ first_values (length elements) (λ j. coordinate_row r f ((d + s) * f.degree) (image_list r i (coeff r elements j) (raised_list r f phi s i) (row_at turned j)))
    ≡ first_values ((i + 1) * f.degree) (system_row r base f phi psi (d + s))
block {E} r base f phi psi d i elements turned e1 e2 =
    let n = f.degree in
    let s = max (length phi) (length psi) in
    let made = λ (a : ℕ) (z : E) (v : List E). coordinate_row r f ((d + s) * n) (image_list r a z (raised_list r f phi s a) v) in
    let size : i * n + n ≡ (i + 1) * n = omega arith in
    let long : length elements ≡ n = ap length e1 ∙ length-first_values n (unit_element base f) in
    ap (λ v. first_values (i * n) (system_row r base f phi psi (d + s)) ++ v)
    (ap (λ m. first_values m (λ j. made i (coeff r elements j) (row_at turned j))) long
    ∙ values_same n (λ j. made i (coeff r elements j) (row_at turned j)) (λ j. system_row r base f phi psi (d + s) (i * n + j))
    (λ j low.
    let v : row_at turned j ≡ turned_list r f psi s (coeff r elements j) =
    ap (λ v. row_at v j) e2 ∙ at-first_values (length elements) (λ j. turned_list r f psi s (coeff r elements j)) j [] (omega (arith, long, low)) in
    ap (made i (coeff r elements j)) v ∙ ap (λ z. made i z (turned_list r f psi s z)) (ap (λ v. coeff r v j) e1 ∙ at-first_values n (unit_element base f) j r.zero low)
    ∙ ap₂ (λ a b. made a (unit_element base f b) (turned_list r f psi s (unit_element base f b))) (sym (div-mul-add i n j low)) (sym (mod-mul-add i n j low))))
    ∙ sym (values_append (i * n) n (system_row r base f phi psi (d + s))) ∙ ap (λ m. first_values m (system_row r base f phi psi (d + s))) size
