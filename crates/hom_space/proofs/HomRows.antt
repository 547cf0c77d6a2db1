-- Rows of homomorphisms: lists of their coordinates over the base. They are what the map `u phi_T - psi_T u` takes to
-- zero, and combinations and shifts of them are such rows.
use Rattle.std.proofs.Common.{◌≡◌, ◌≢◌, ℕ, zero, suc, ◌+◌, ◌-◌, ◌*◌, ◌/◌, ◌%◌, ◌<◌, ◌≤◌, ◌↔◌, true, inl, inr, cond, nat_lt, List, [], ◌∷◌, ◌++◌, length, sym, ◌∙◌, ap, ap₂, subst, ⊎_elim, arith, ext_get_or}
use Rattle.std.proofs.Math.Nat.{div-add-mod', mod-lt, mul-pos, mul-le-mul_right}
use Rattle.std.proofs.lemmas.Bool.{and_parts, cases_lt, cases_eq}
use Rattle.ring_core.specs.Ring.{RingOps}
use Rattle.ring_core.specs.Field.{FrobOps}
use Rattle.ring_core.specs.Coeffs.{coeff, are_elems, is_canonical}
use Rattle.ring_core.specs.Twisted.{twisted_ops}
use Rattle.ring_core.proofs.Carrier.{RingOn, Element, same_element, zero_mul, mul_zero, mul_neg, neg_sum, add_exchange, minus_same}
use Rattle.ring_core.proofs.Coefficients.{elem_read, coeff_past}
use Rattle.ring_core.proofs.Degrees.{length_below}
use Rattle.ring_core.proofs.Central.{base_central}
use Rattle.linear_algebra.specs.Combines.{combined}
use Rattle.linear_algebra.specs.Linear.{row_at, entry, is_row, IsRelation, IsEchelonBasis}
use Rattle.linear_algebra.proofs.RowLists.{row_len, row_elems}
use Rattle.linear_algebra.proofs.Sums.{same_or_other}
use Rattle.linear_algebra.proofs.Spans.{minus_self}
use Rattle.linear_algebra.proofs.Lift.{AreIn, row_of, combine_value, combined_rows}
use Rattle.flat_modules.specs.Flat.{shifted, multiples, times_rows, IsRelationOf}
use Rattle.flat_modules.proofs.Shift.{shift_is}
use Rattle.flat_modules.proofs.Lists.{row_past, shift_value}
use Rattle.flat_reduce.proofs.Pushed.{push_low, push_last}
use Rattle.euclid_theory.proofs.Sizes.{minus}
use Rattle.central_coords.specs.Coordinates.{coordinate}
use Rattle.central_coords.proofs.Expand.{coordinate_zero, sum_of, sum_coordinate, sum_image, units_coordinate}
use Rattle.central_coords.proofs.Places.{Extension, Polys, polys, scalars, degree_positive, at, up, unit_at_place, coordinates, coordinate_of, elems_of, read, coord_zero}
use Rattle.central_coords.proofs.Raised.{letter, moves, central}
use Rattle.morphism.specs.Homomorphism.{IsHomomorphism}
use Rattle.hom_space.specs.steps.Reading.{IsReadRow, AreReadRows}

-- `x` lists the coordinates of a homomorphism.
pub record IsHomRow {E B : Type 0} (r : RingOps E) (f : FrobOps E B) (phi psi : List E) (x : ℕ → B) : Type 0 where
  pub u : List E
  pub hom : IsHomomorphism r f.frob phi psi u
  pub coords : (t : ℕ) → coordinate r f u t ≡ x t

pub hom_as : {E B : Type 0} (r : RingOps E) (f : FrobOps E B) (phi psi : List E) (x y : ℕ → B) → ((t : ℕ) → x t ≡ y t) → IsHomRow r f phi psi x → IsHomRow r f phi psi y
hom_as r f phi psi x y e h = record { u = h.u; hom = h.hom; coords = λ t. h.coords t ∙ e t }

-- one more row is read
pub read_more : {E B : Type 0} (r : RingOps E) (base : RingOps B) (f : FrobOps E B) (rows : List (List B)) (list new : List (List E)) (u : List E) (i : ℕ) → new ≡ list ++ u ∷ [] → length list ≡ i
    → ((j : ℕ) → j < i → IsReadRow r base f (row_at rows j) (row_at list j)) → IsReadRow r base f (row_at rows i) u → (j : ℕ) → j < i + 1 → IsReadRow r base f (row_at rows j) (row_at new j)
read_more r base f rows list new u i e long before here j low = elim (same_or_other j i) [
  | inl q ↦
      subst (λ m. IsReadRow r base f (row_at rows m) (row_at new m)) (sym q) (subst (IsReadRow r base f (row_at rows i)) (sym (ap (λ v. row_at v i) e ∙ push_last list u i long)) here)
  | inr d ↦
      let less : j < i = omega (arith, low, d) in
      subst (IsReadRow r base f (row_at rows j)) (sym (ap (λ v. row_at v j) e ∙ push_low list u j (omega (arith, less, long)))) (before j less)
]

-- canonical members, zero past the end
pub all_canonical : {E : Type 0} (r : RingOps E) (list : List (List E)) → ((i : ℕ) → i < length list → is_canonical r (row_at list i) ≡ true) → (i : ℕ) → is_canonical r (row_at list i) ≡ true
all_canonical r list h i = ⊎_elim (λ (m : i < length list). h i m) (λ (m : length list ≤ i). ap (is_canonical r) (row_past r list i m)) (cases_lt i (length list))

module _ {M : Type 0} (R : RingOn M) (p s : M) where
  -- u p - s u
  abbrev hom_map : M → M
  hom_map u = minus R (R.mul u p) (R.mul s u)

  hom_add : (x y : M) → hom_map (R.add x y) ≡ R.add (hom_map x) (hom_map y)
  hom_add x y = ap₂ (λ a b. R.add a (R.neg b)) (R.add_mul x y p) (R.mul_add s x y) ∙ ap (R.add _) (neg_sum R _ _) ∙ add_exchange R _ _ _ _

  hom_scale : (c : M) → R.mul c s ≡ R.mul s c → (x : M) → hom_map (R.mul c x) ≡ R.mul c (hom_map x)
  hom_scale c commutes x =
      ap₂ (λ a b. R.add a (R.neg b)) (R.mul_assoc c x p) (sym (R.mul_assoc s c x) ∙ ap (λ y. R.mul y x) (sym commutes) ∙ R.mul_assoc c s x)
      ∙ ap (R.add (R.mul c (R.mul x p))) (sym (mul_neg R c (R.mul s x))) ∙ sym (R.mul_add c _ _)

module _ {E B : Type 0} {r : RingOps E} {base : RingOps B} {f : FrobOps E B} (o : Extension r base f) where
  abbrev pub square : ℕ
  square = f.degree * f.degree

  pub wide : 0 < square
  wide = mul-pos (degree_positive o) (degree_positive o)

  -- the coordinates tell a twisted polynomial, and the lists that are read from rows
  pub same_by_coords : (u v : Polys o) → ((j : ℕ) → coordinate r f u.0 j ≡ coordinate r f v.0 j) → u.0 ≡ v.0
  same_by_coords u v e = ap (λ x. x.0) ((coordinates o).inj u v (λ j. same_element base _ _ (e j)))

  pub one_reading : (rows : List (List B)) (a b : List (List E)) → AreReadRows r base f rows a → AreReadRows r base f rows b → a ≡ b
  one_reading rows a b ha hb =
      ext_get_or [] a b (ha.count ∙ sym hb.count)
      (λ i m.
      let p = ha.each i m in
      let q = hb.each i (omega (arith, m, ha.count, hb.count)) in
      same_by_coords (row_at a i, p.canonical) (row_at b i, q.canonical) (λ j. p.coords j ∙ sym (q.coords j)))

  -- equal to a twisted polynomial exactly where the coordinates are
  pub told : (m : Polys o) (v : List E) (y : ℕ → B) → m.0 ≡ v → ((j : ℕ) → coordinate r f m.0 j ≡ y j) → (u : Polys o) → (u.0 ≡ v) ↔ ((j : ℕ) → coordinate r f u.0 j ≡ y j)
  told m v y is at_place u = (
    λ e j. ap (λ x. coordinate r f x j) (e ∙ sym is) ∙ at_place j,
    λ e. same_by_coords u m (λ j. e j ∙ sym (at_place j)) ∙ is,
  )

  -- no coordinates from those of a degree on
  pub short_past : (u : Polys o) (d : ℕ) → ((j : ℕ) → (d + 1) * f.degree ≤ j → coordinate r f u.0 j ≡ base.zero) → length u.0 ≤ d + 1
  short_past u d past =
      let few : length u.0 < d + 1 + 1 =
      length_below r o.field.ring u.0 (d + 1 + 1) (omega arith) (and_parts (are_elems r u.0) _ u.1).1
      (λ i (m : d + 1 + 1 ≤ i + 1).
      let far : (d + 1) * f.degree ≤ i * f.degree = mul-le-mul_right f.degree (omega arith) in
      o.laws.coord_inj _ _ (read o u i) o.field.ring.closed.zero_in
      (λ j (low : j < f.degree). sym (coordinate_of o u.0 i j low) ∙ past (i * f.degree + j) (omega (arith, far)) ∙ sym (coord_zero o j low))) in
      omega (arith, few)

  -- the members of a list, and the twisted polynomial with these coordinates
  abbrev pub members : (x : List B) → are_elems base x ≡ true → ℕ → Element base
  members x ex = row_of base (coeff base x) (elem_read base x o.base_field.ring.closed.zero_in ex)

  abbrev pub word : (x : List B) → are_elems base x ≡ true → Polys o
  word x ex = sum_of (coordinates o) (length x) (members x ex) (unit_at_place o)

  pub word_at : (x : List B) (ex : are_elems base x ≡ true) (j : ℕ) → coordinate r f (word x ex).0 j ≡ coeff base x j
  word_at x ex j = ap (λ y. y.0) (units_coordinate (coordinates o) j (length x) (members x ex) (λ i past. same_element base _ _ (coeff_past base x i past)))

  zero_at : (t : ℕ) → coordinate r f (polys o).zero.0 t ≡ base.zero
  zero_at t = ap (λ y. y.0) (coordinate_zero (coordinates o) t)

  -- a unit at a place that is raised
  unit_raised : (e p : ℕ) → unit_at_place o (e * square + p) ≡ (polys o).mul (letter o e) (unit_at_place o p)
  unit_raised e p =
      let s = e * square in
      let h = coordinates o in
      h.inj _ _
      (λ j.
      sym
      (moves o e j (unit_at_place o p)
      ∙ shift_is (scalars o) s (λ i. at o i (unit_at_place o p)) j (at o j (unit_at_place o (s + p)))
      (λ low. sym (h.other j (s + p) (omega (arith, low))))
      (λ high.
      ⊎_elim
      (λ (here : j ≡ s + p). let place : j - s ≡ p = omega (arith, here) in ap (λ i. at o i (unit_at_place o p)) place ∙ h.same p ∙ sym (ap (λ i. at o i (unit_at_place o (s + p))) here ∙ h.same (s + p)))
      (λ (there : j ≢ s + p). h.other (j - s) p (λ q. there (omega (arith, q, high))) ∙ sym (h.other j (s + p) there))
      (cases_eq j (s + p)))))

  module _ (phi psi : Polys o) where
    abbrev pub L : Polys o → Polys o
    L = hom_map (polys o) phi psi

    abbrev pub IsRow : (ℕ → B) → Type 0
    IsRow = IsHomRow r f phi.0 psi.0

    constants_pass : (b : Element base) (x : Polys o) → L ((polys o).mul (up o b) x) ≡ (polys o).mul (up o b) (L x)
    constants_pass b x =
        hom_scale (polys o) phi psi (up o b) (same_element (twisted_ops r f.frob) _ _ (base_central r o.inv base f o.field o.laws b.0 psi.0 b.1 (elems_of o psi))) x

    letters_pass : (e : ℕ) (x : Polys o) → L ((polys o).mul (letter o e) x) ≡ (polys o).mul (letter o e) (L x)
    letters_pass e x = hom_scale (polys o) phi psi (letter o e) (central o e psi) x

    -- a homomorphism is what the map takes to zero
    hom_gone : (u : Polys o) → IsHomomorphism r f.frob phi.0 psi.0 u.0 → L u ≡ (polys o).zero
    hom_gone u h = minus_self (polys o) _ _ (same_element (twisted_ops r f.frob) _ _ h.commutes)

    gone_hom : (u : Polys o) → L u ≡ (polys o).zero → IsHomomorphism r f.frob phi.0 psi.0 u.0
    gone_hom u gone = record { canonical = u.1; commutes = ap (λ x. x.0) (minus_same (polys o) _ _ gone) }

    pub hom_of_row : (u : Polys o) (x : ℕ → B) → ((j : ℕ) → coordinate r f u.0 j ≡ x j) → IsRow x → IsHomomorphism r f.frob phi.0 psi.0 u.0
    hom_of_row u x e h = subst (IsHomomorphism r f.frob phi.0 psi.0) (same_by_coords (h.u, h.hom.canonical) u (λ j. h.coords j ∙ sym (e j))) h.hom

    -- sums, combinations and shifts of rows of homomorphisms
    hom_plus : (x y : ℕ → B) (c : Element base) → IsRow x → IsRow y → IsRow (λ t. base.add (x t) (base.mul c.0 (y t)))
    hom_plus x y c h k =
        let S = polys o in
        let u : Polys o = (h.u, h.hom.canonical) in
        let v : Polys o = (k.u, k.hom.canonical) in
        let term = S.mul (up o c) v in
        record {
          u = (S.add u term).0;
          hom = gone_hom (S.add u term)
              (hom_add S phi psi u term ∙ ap₂ S.add (hom_gone u h.hom) (constants_pass c v ∙ ap (S.mul (up o c)) (hom_gone v k.hom) ∙ mul_zero S (up o c)) ∙ S.zero_add S.zero);
          coords = λ t.
              ap (λ z. z.0) ((coordinates o).add t u term ∙ ap ((scalars o).add (at o t u)) ((coordinates o).scale t c v))
              ∙ ap₂ (λ a b. base.add a (base.mul c.0 b)) (h.coords t) (k.coords t);
        }

    pub hom_combined : (n : ℕ) (c : ℕ → B) (rows : ℕ → ℕ → B) → AreIn base c → ((i : ℕ) → i < n → IsRow (rows i)) → IsRow (combined base n c rows)
    hom_combined zero c rows ci h =
        let S = polys o in
        let gone : L S.zero ≡ S.zero = ap₂ (λ a b. S.add a (S.neg b)) (zero_mul S phi) (mul_zero S psi) ∙ S.add_neg S.zero in
        record { u = S.zero.0; hom = gone_hom S.zero gone; coords = zero_at }
    hom_combined (suc n) c rows ci h =
        hom_plus (combined base n c rows) (rows n) (c n, ci n) (hom_combined n c rows ci (λ i l. h i (omega arith))) (h n (omega arith))

    pub hom_shifted : (e : ℕ) (x : ℕ → B) → IsRow x → IsRow (shifted base (e * square) x)
    hom_shifted e x h =
        let S = polys o in
        let u : Polys o = (h.u, h.hom.canonical) in
        record {
          u = (S.mul (letter o e) u).0;
          hom = gone_hom (S.mul (letter o e) u) (letters_pass e u ∙ ap (S.mul (letter o e)) (hom_gone u h.hom) ∙ mul_zero S (letter o e));
          coords = λ t.
              ap (λ y. y.0) (moves o e t u) ∙ shift_value base o.base_field.ring (e * square) (λ j. at o j u) t
              ∙ ap (cond (nat_lt t (e * square)) base.zero) (h.coords (t - e * square));
        }

    -- the coordinates of the images of the units tell the map
    abbrev pub images : ℕ → ℕ → B
    images k t = (at o t (L (unit_at_place o k))).0

    image_at : (x : List B) (ex : are_elems base x ≡ true) (t : ℕ) → coordinate r f (L (word x ex)).0 t ≡ combined base (length x) (coeff base x) images t
    image_at x ex t =
        let c = members x ex in
        ap (λ y. (at o t y).0)
        (sum_image (coordinates o) L (hom_add (polys o) phi psi) constants_pass (length x) c (unit_at_place o))
        ∙ ap (λ y. y.0) (sum_coordinate (coordinates o) t (length x) c (λ k. L (unit_at_place o k)))
        ∙ combine_value base o.base_field.ring (length x) c (λ k j. at o j (L (unit_at_place o k))) t

    pub hom_by_images : (x : List B) → are_elems base x ≡ true → IsRow (coeff base x) ↔ ((t : ℕ) → combined base (length x) (coeff base x) images t ≡ base.zero)
    hom_by_images x ex = (
      λ h t.
          let u = word x ex in
          sym (image_at x ex t) ∙ ap (λ y. coordinate r f y.0 t) (hom_gone u (hom_of_row u (coeff base x) (word_at x ex) h)) ∙ zero_at t,
      λ gone. record {
        u = (word x ex).0;
        hom = gone_hom (word x ex) ((coordinates o).inj _ _ (λ t. same_element base _ _ (image_at x ex t ∙ gone t ∙ sym (zero_at t))));
        coords = word_at x ex;
      },
    )

    -- The first `w` of them, as rows.
    pub record IsMapRows (w : ℕ) (m : List (List B)) : Type 0 where
      pub count : length m ≡ w
      pub is : (i : ℕ) → i < w → (t : ℕ) → entry base m i t ≡ images i t

    -- a row is that of a homomorphism exactly where it is a relation of these rows
    pub hom_relation : (w : ℕ) (m : List (List B)) → IsMapRows w m → (x : List B) → is_row base w x ≡ true → IsRow (coeff base x) ↔ IsRelation base m x
    hom_relation w m rows x shape =
        let told_by = hom_by_images x (row_elems base w x shape) in
        (λ h j. value j ∙ told_by.0 h j, λ relation. told_by.1 (λ j. sym (value j) ∙ relation j))
      where
        value : (j : ℕ) → combined base (length m) (coeff base x) (entry base m) j ≡ combined base (length x) (coeff base x) images j
        value j =
            combined_rows base o.base_field.ring (length m) (coeff base x) (entry base m) images j (λ i low. rows.is i (omega (arith, low, rows.count)) j)
            ∙ ap (λ n. combined base n (coeff base x) images j) (rows.count ∙ sym (row_len base w x shape))

    -- the first n^2 of them tell the map over the polynomials in tau^n
    pub hom_flat_relation : (m : List (List B)) → IsMapRows square m → (x : List B) → is_canonical base x ≡ true → IsRow (coeff base x) ↔ IsRelationOf base square m x
    hom_flat_relation m rows x cx =
        let told_by = hom_by_images x (and_parts (are_elems base x) _ cx).0 in (
          λ h. record {
            none = λ e. let none : length m ≡ 0 = ap length e in let some = wide in absurd (omega (arith, none, some, rows.count));
            zero = λ t. value t ∙ told_by.0 h t;
          },
          λ relation. told_by.1 (λ t. sym (value t) ∙ relation.zero t),
        )
      where
        image_is : (k t : ℕ) → multiples base (length m) square (entry base m) k t ≡ images k t
        image_is k t =
            let e = k / square in
            let p = k % square in
            ap (λ n. multiples base n square (entry base m) k t) rows.count
            ∙ ap (cond (nat_lt t (e * square)) base.zero) (rows.is p (mod-lt k wide) (t - e * square))
            ∙ sym (ap (λ i. images i t) (sym (div-add-mod' k square)) ∙ ap (λ u. (at o t (L u)).0) (unit_raised e p) ∙ ap (λ u. (at o t u).0) (letters_pass e (unit_at_place o p))
            ∙ ap (λ y. y.0) (moves o e t (L (unit_at_place o p))) ∙ shift_value base o.base_field.ring (e * square) (λ j. at o j (L (unit_at_place o p))) t)

        value : (t : ℕ) → times_rows base (length m) square x (entry base m) t ≡ combined base (length x) (coeff base x) images t
        value t = combined_rows base o.base_field.ring (length x) (coeff base x) (multiples base (length m) square (entry base m)) images t (λ k low. image_is k t)

  -- An echelon basis of one property is that of another that holds of the same rows.
  pub echelon_as : (w : ℕ) (P Q : List B → Type 0) (basis : List (List B)) → ((x : List B) → is_row base w x ≡ true → P x ↔ Q x) → IsEchelonBasis base w Q basis → IsEchelonBasis base w P basis
  echelon_as w P Q basis same h = record {
    shape = h.shape;
    echelon = h.echelon;
    spans = λ x sx. (λ p. (h.spans x sx).0 ((same x sx).0 p), λ c. (same x sx).1 ((h.spans x sx).1 c));
  }
