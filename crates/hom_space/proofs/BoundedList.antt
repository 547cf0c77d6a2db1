-- The echelon basis of the rows of homomorphisms up to a degree, read as twisted polynomials, is the bounded list.
use Rattle.std.proofs.Common.{◌≡◌, ℕ, ◌+◌, ◌-◌, ◌*◌, ◌<◌, ◌≤◌, ◌↔◌, true, List, [], length, sym, ◌∙◌, ap, subst, eq-eqb, arith}
use Rattle.std.proofs.Math.Nat.{mul-le-mul_right}
use Rattle.std.proofs.lemmas.Bool.{and_from}
use Rattle.ring_core.specs.Ring.{RingOps}
use Rattle.ring_core.specs.Field.{FrobOps}
use Rattle.ring_core.specs.Coeffs.{coeff, are_elems, first_values}
use Rattle.ring_core.specs.Twisted.{twisted_ops}
use Rattle.ring_core.proofs.Coefficients.{elem_read, coeff_past, coeff-first_values, elems-first_values}
use Rattle.ring_core.proofs.FirstValues.{length-first_values, at-first_values}
use Rattle.ring_core.proofs.ListRing.{frob_ring}
use Rattle.ring_core.proofs.Twist.{total_is}
use Rattle.linear_algebra.specs.Combines.{combined}
use Rattle.linear_algebra.specs.Linear.{row_at, entry, is_row, are_rows, lead, IsRelation, IsEchelonBasis}
use Rattle.linear_algebra.proofs.RowLists.{row_len, row_elems, rows_at, rows_in, rows_by_places}
use Rattle.linear_algebra.proofs.Lift.{combine_value, combined_rows, combines_row}
use Rattle.fq_linear.proofs.Leads.{lead_is, lead_above}
use Rattle.fq_linear.proofs.Solutions.{same_basis, only_combination}
use Rattle.central_coords.specs.Coordinates.{coordinate, coordinate_row}
use Rattle.central_coords.proofs.Expand.{sum_of, sum_coordinate}
use Rattle.central_coords.proofs.Places.{Extension, Polys, polys, at, up, coordinates, coordinate_in, coordinate_past, elems_of}
use Rattle.hom_space.specs.Bounded.{IsMember, combination_of, IsOneCombination, IsBoundedList}
use Rattle.hom_space.specs.steps.Reading.{AreReadRows}
use Rattle.hom_space.proofs.HomRows.{IsRow, IsMapRows, all_canonical, one_reading, told, short_past, members, hom_as, hom_of_row, hom_combined, hom_relation, echelon_as}

module _ {E B : Type 0} {r : RingOps E} {base : RingOps B} {f : FrobOps E B} (o : Extension r base f) (phi psi : Polys o) (d : ℕ) where
  abbrev w : ℕ
  w = (d + 1) * f.degree

  abbrev P : List B → Type 0
  P x = IsRow o phi psi (coeff base x)

  -- the row of a short twisted polynomial
  abbrev row : List E → List B
  row u = coordinate_row r f w u

  pub row_value : (u : List E) → length u ≤ d + 1 → (j : ℕ) → coeff base (row u) j ≡ coordinate r f u j
  row_value u short j =
      let few : length u * f.degree ≤ w = mul-le-mul_right f.degree short in
      coeff-first_values base w (coordinate r f u) (λ i past. coordinate_past o u i (omega (arith, few, past))) j

  pub row_shape : (u : Polys o) → is_row base w (row u.0) ≡ true
  row_shape u = and_from _ _ (eq-eqb _ _ (length-first_values w (coordinate r f u.0))) (elems-first_values base w (coordinate r f u.0) (λ i m. coordinate_in o u.0 (elems_of o u) i))

  -- A combination of the members of a list is told by that of the rows from which it is read.
  combination_told : (list : List (List E)) (rows : List (List B)) → AreReadRows r base f rows list → (c : List B) → are_elems base c ≡ true → (u : Polys o)
      → (u.0 ≡ combination_of r base f list c) ↔ ((j : ℕ) → coordinate r f u.0 j ≡ combined base (length rows) (coeff base c) (entry base rows) j)
  combination_told list rows reads c ec =
      let member : ℕ → Polys o = λ i. (row_at list i, all_canonical r list (λ i m. (reads.each i m).canonical) i) in
      let by = members o c ec in
      let made = sum_of (coordinates o) (length list) by member in
      told o made (combination_of r base f list c) (combined base (length rows) (coeff base c) (entry base rows))
      (total_is (twisted_ops r f.frob) (frob_ring r o.inv base f o.field o.laws) (length list) (λ i. (polys o).mul (up o (by i)) (member i)))
      (λ j.
      ap (λ y. y.0) (sum_coordinate (coordinates o) j (length list) by member)
      ∙ combine_value base o.base_field.ring (length list) by (λ i j. at o j (member i)) j
      ∙ combined_rows base o.base_field.ring (length list) (coeff base c) (λ i j. coordinate r f (row_at list i) j) (entry base rows) j (λ i m. (reads.each i m).coords j)
      ∙ ap (λ n. combined base n (coeff base c) (entry base rows) j) reads.count)

  -- From the echelon basis to the bounded list.
  module _ (basis : List (List B)) (list : List (List E)) (ech : IsEchelonBasis base w P basis) (reads : AreReadRows r base f basis list) where
    inside : (i : ℕ) → i < length list → i < length basis
    inside i m = omega (arith, reads.count, m)

    row_in : (i : ℕ) → i < length list → is_row base w (row_at basis i) ≡ true
    row_in i m = rows_at base w basis ech.shape i (inside i m)

    member : (i : ℕ) → i < length list → IsMember r f phi.0 psi.0 d (row_at list i)
    member i m =
        let read = reads.each i m in
        let x = row_at basis i in
        record {
          hom = hom_of_row o phi psi (row_at list i, read.canonical) (coeff base x) read.coords
              ((ech.spans x (row_in i m)).1 (combines_row base o.base_field.ring (length basis) (entry base basis) (rows_in base o.base_field.ring.closed.zero_in w basis ech.shape) i (inside i m)));
          short = short_past o (row_at list i, read.canonical) d (λ j past. read.coords j ∙ coeff_past base x j (omega (arith, row_len base w x (row_in i m), past)));
        }

    spanned : (u : List E) → IsMember r f phi.0 psi.0 d u → IsOneCombination r base f list u
    spanned u p =
        let word : Polys o = (u, p.hom.canonical) in
        let at_row = row_value u p.short in
        let s = (ech.spans (row u) (row_shape word)).0 (record { u = u; hom = p.hom; coords = λ j. sym (at_row j) }) in
        let found = only_combination base o.base_field.ring w basis (row u) ech.shape ech.echelon s in
        let by : List B = found.0 in
        let only = found.1 in
        record {
          by = by;
          shape = subst (λ n. is_row base n by ≡ true) (sym reads.count) only.shape;
          is = (combination_told list basis reads by (row_elems base (length basis) by only.shape) word).1 (λ j. sym (at_row j) ∙ only.is j);
          only = λ c sc e.
              only.only c (subst (λ n. is_row base n c ≡ true) reads.count sc) (λ j. at_row j ∙ (combination_told list basis reads c (row_elems base (length list) c sc) word).0 e j);
        }

    pub bounded_list : IsBoundedList r base f phi.0 psi.0 d list
    bounded_list =
        let one : (i : ℕ) → i < length list → coordinate r f (row_at list i) (lead base (row_at basis i)) ≡ base.one =
        λ i m. (reads.each i m).coords (lead base (row_at basis i)) ∙ ech.echelon.one i (inside i m) in
        record {
          members = member;
          spans = spanned;
          lead = λ i. lead base (row_at basis i);
          leads = λ i m. record {
            nonzero = λ e. o.base_field.one_ne_zero (sym (one i m) ∙ e);
            above = λ j past. (reads.each i m).coords j ∙ lead_above base o.base_field.ring (row_at basis i) j (row_elems base w (row_at basis i) (row_in i m)) past;
          };
          rising = λ i j m n. ech.echelon.rising i j m (inside j n);
          one = one;
          apart = λ i j m n ne. (reads.each i m).coords (lead base (row_at basis j)) ∙ ech.echelon.apart i j (inside i m) (inside j n) ne;
        }

  -- And back.
  module _ (list : List (List E)) (p : IsBoundedList r base f phi.0 psi.0 d list) where
    abbrev rows : List (List B)
    rows = first_values (length list) (λ i. row (row_at list i))

    count : length rows ≡ length list
    count = length-first_values (length list) (λ i. row (row_at list i))

    row_is : (i : ℕ) → i < length list → row_at rows i ≡ row (row_at list i)
    row_is i m = at-first_values (length list) (λ i. row (row_at list i)) i [] m

    entry_is : (i : ℕ) → i < length list → (j : ℕ) → coordinate r f (row_at list i) j ≡ entry base rows i j
    entry_is i m j = sym (ap (λ x. coeff base x j) (row_is i m) ∙ row_value (row_at list i) (p.members i m).short j)

    within : (i : ℕ) → i < length rows → i < length list
    within i m = omega (arith, count, m)

    reads_rows : AreReadRows r base f rows list
    reads_rows = record { count = sym count; each = λ i m. record { canonical = (p.members i m).hom.canonical; coords = entry_is i m } }

    shapes : are_rows base w rows ≡ true
    shapes = rows_by_places base w rows (λ i m. ap (is_row base w) (row_is i (within i m)) ∙ row_shape (row_at list i, (p.members i (within i m)).hom.canonical))

    lead_of : (i : ℕ) (m : i < length rows) → lead base (row_at rows i) ≡ p.lead i
    lead_of i m =
        let n = within i m in
        lead_is base o.base_field.ring (row_at rows i) (p.lead i) (row_elems base w (row_at rows i) (rows_at base w rows shapes i m))
        (λ e. (p.leads i n).nonzero (entry_is i n (p.lead i) ∙ e)) (λ j past. sym (entry_is i n j) ∙ (p.leads i n).above j past)

    pub echelon_rows : IsEchelonBasis base w P rows
    echelon_rows = record {
      shape = shapes;
      echelon = record {
        rising = λ i j m n.
            let a : i < length rows = omega (arith, m, n) in
            let up = p.rising i j m (within j n) in
            omega (arith, lead_of i a, lead_of j n, up);
        one = λ i m. ap (entry base rows i) (lead_of i m) ∙ sym (entry_is i (within i m) (p.lead i)) ∙ p.one i (within i m);
        apart = λ i j m n ne. ap (entry base rows i) (lead_of j n) ∙ sym (entry_is i (within i m) (p.lead j)) ∙ p.apart i j (within i m) (within j n) ne;
      };
      spans = λ x sx. (
        λ h.
            let short = short_past o (h.u, h.hom.canonical) d (λ j past. h.coords j ∙ coeff_past base x j (omega (arith, row_len base w x sx, past))) in
            let s = p.spans h.u (record { hom = h.hom; short = short }) in
            let elems = row_elems base (length list) s.by s.shape in
            record {
              by = coeff base s.by;
              elems = elem_read base s.by o.base_field.ring.closed.zero_in elems;
              is = λ j. sym (h.coords j) ∙ (combination_told list rows reads_rows s.by elems (h.u, h.hom.canonical)).0 s.is j;
            },
        λ s.
            hom_as r f phi.0 psi.0 (combined base (length rows) s.by (entry base rows)) (coeff base x) (λ j. sym (s.is j))
            (hom_combined o phi psi (length rows) s.by (entry base rows) s.elems
            (λ i m. record { u = row_at list i; hom = (p.members i (within i m)).hom; coords = entry_is i (within i m) })),
      );
    }

  pub one_bounded_list : (a b : List (List E)) → IsBoundedList r base f phi.0 psi.0 d a → IsBoundedList r base f phi.0 psi.0 d b → a ≡ b
  one_bounded_list a b p q =
      let ha = echelon_rows a p in
      let hb = echelon_rows b q in
      let same : rows a p ≡ rows b q =
      same_basis base o.base_inv o.base_field w (rows a p) (rows b q) ha.shape hb.shape ha.echelon hb.echelon
      (λ x sx. (λ s. (hb.spans x sx).0 ((ha.spans x sx).1 s), λ s. (ha.spans x sx).0 ((hb.spans x sx).1 s))) in
      one_reading o (rows b q) a b (subst (λ v. AreReadRows r base f v a) same (reads_rows a p)) (reads_rows b q)

  -- What `bounded` needs: the rows of the map, the echelon basis of their relations, that basis read as twisted
  -- polynomials.
  pub bounded_of_relations : (m basis : List (List B)) (list : List (List E)) → IsMapRows o phi psi w m → IsEchelonBasis base w (IsRelation base m) basis → AreReadRows r base f basis list
      → IsBoundedList r base f phi.0 psi.0 d list
  bounded_of_relations m basis list rows found reads =
      bounded_list basis list (echelon_as o w P (IsRelation base m) basis (λ x sx. hom_relation o phi psi w m rows x sx) found) reads
