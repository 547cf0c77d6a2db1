-- The standard basis of the flat rows of homomorphisms, read as twisted polynomials, is the full list.
use Rattle.std.proofs.Common.{◌≡◌, ℕ, ◌+◌, ◌-◌, ◌*◌, ◌%◌, ◌<◌, ◌↔◌, true, cond, nat_lt, List, [], length, sym, ◌∙◌, ap, subst, arith}
use Rattle.std.proofs.lemmas.Bool.{and_parts}
use Rattle.ring_core.specs.Ring.{RingOps}
use Rattle.ring_core.specs.Field.{FrobOps}
use Rattle.ring_core.specs.Coeffs.{coeff, sum_below, are_elems, is_trimmed, is_canonical, first_values, list_of}
use Rattle.ring_core.specs.Twisted.{twisted_ops, list_mul}
use Rattle.ring_core.proofs.Carrier.{Element}
use Rattle.ring_core.proofs.Series.{total}
use Rattle.ring_core.proofs.Coefficients.{coeff_past, coeff-list_of, canonical-list_of, trim-trimmed}
use Rattle.ring_core.proofs.FirstValues.{length-first_values, at-first_values}
use Rattle.ring_core.proofs.ListRing.{frob_ring}
use Rattle.ring_core.proofs.Twist.{total_is, sum_same}
use Rattle.linear_algebra.specs.Linear.{row_at, entry}
use Rattle.linear_algebra.proofs.Sums.{total_same, total_right}
use Rattle.linear_algebra.proofs.Lift.{combine_value, combined_rows}
use Rattle.fq_linear.proofs.Leads.{lead_is}
use Rattle.flat_modules.specs.Flat.{are_flat, shifted, times, combination, lead_at, IsRelationOf, IsOnlyCombination, IsStandard, IsStandardBasis}
use Rattle.flat_modules.proofs.Lists.{flat_at, shift_value}
use Rattle.flat_modules.proofs.OneBasis.{one_standard}
use Rattle.central_coords.specs.Coordinates.{coordinate}
use Rattle.central_coords.proofs.Expand.{image_total, sum_of, sum_coordinate}
use Rattle.central_coords.proofs.Places.{Extension, Polys, polys, scalars, at, up, coordinates, coordinate_in, coordinate_past, elems_of}
use Rattle.central_coords.proofs.Raised.{letter, moves}
use Rattle.central_coords.proofs.Blocks.{flat_values}
use Rattle.morphism.specs.Homomorphism.{IsHomomorphism}
use Rattle.hom_space.specs.Full.{full_combination, IsOnlyFullCombination, IsFullList}
use Rattle.hom_space.specs.steps.Reading.{AreReadRows}
use Rattle.hom_space.proofs.HomRows.{IsRow, IsMapRows, square, wide, all_canonical, one_reading, told, members, hom_of_row, hom_flat_relation}

module _ {E B : Type 0} {r : RingOps E} {base : RingOps B} {f : FrobOps E B} (o : Extension r base f) where
  -- the coordinates without zeros at the end
  abbrev flat_row : List E → List B
  flat_row u = list_of base (length u * f.degree) (coordinate r f u)

  flat_row_at : (u : Polys o) (j : ℕ) → coeff base (flat_row u.0) j ≡ coordinate r f u.0 j
  flat_row_at u j =
      coeff-list_of base o.base_field.ring.closed.zero_in o.base_field.ring.equal (length u.0 * f.degree) (coordinate r f u.0) (coordinate_in o u.0 (elems_of o u)) (coordinate_past o u.0) j

  flat_row_in : (u : Polys o) → is_canonical base (flat_row u.0) ≡ true
  flat_row_in u = canonical-list_of base (length u.0 * f.degree) (coordinate r f u.0) (λ i m. coordinate_in o u.0 (elems_of o u) i)

  -- A combination of the members of a list over the polynomials in tau^n is told by that of the rows from which it is read.
  module _ (list : List (List E)) (rows : List (List B)) (reads : AreReadRows r base f rows list) (by : List (List B)) (bi : are_flat base by ≡ true) where
    abbrev member : ℕ → Polys o
    member i = (row_at list i, all_canonical r list (λ i m. (reads.each i m).canonical) i)

    abbrev coeffs : ℕ → ℕ → Element base
    coeffs i = members o (row_at by i) (and_parts (are_elems base (row_at by i)) _ (flat_at base by bi i)).0

    -- the value of a polynomial at tau^n
    abbrev value : ℕ → Polys o
    value i = sum_of (coordinates o) (length (row_at by i)) (coeffs i) (letter o)

    abbrev made : Polys o
    made = total (polys o) (length list) (λ i. (polys o).mul (value i) (member i))

    made_is : made.0 ≡ full_combination r base f list by
    made_is =
        let ring = frob_ring r o.inv base f o.field o.laws in
        let ops = twisted_ops r f.frob in
        total_is ops ring (length list) (λ i. (polys o).mul (value i) (member i))
        ∙ sum_same ops ring (length list) _ _ (λ i m. ap (λ v. list_mul r f.frob v (row_at list i)) (total_is ops ring (length (row_at by i)) (λ e. (polys o).mul (up o (coeffs i e)) (letter o e))))

    part : (i t : ℕ) → i < length list → coordinate r f ((polys o).mul (value i) (member i)).0 t ≡ times base (square o) (row_at by i) (coeff base (row_at rows i)) t
    part i t m =
        let n = length (row_at by i) in
        let S = polys o in
        let raised = λ (e : ℕ). S.mul (letter o e) (member i) in
        ap (λ y. coordinate r f y.0 t)
        (sym (total_right S n (member i) (λ e. S.mul (up o (coeffs i e)) (letter o e))) ∙ total_same S n _ _ (λ e l. S.mul_assoc (up o (coeffs i e)) (letter o e) (member i)))
        ∙ ap (λ y. y.0) (sum_coordinate (coordinates o) t n (coeffs i) raised)
        ∙ combine_value base o.base_field.ring n (coeffs i) (λ e j. at o j (raised e)) t
        ∙ combined_rows base o.base_field.ring n (coeff base (row_at by i)) (λ e j. coordinate r f (raised e).0 j) (λ e. shifted base (e * square o) (coeff base (row_at rows i))) t
        (λ e l.
        ap (λ y. y.0) (moves o e t (member i)) ∙ shift_value base o.base_field.ring (e * square o) (λ j. at o j (member i)) t
        ∙ ap (cond (nat_lt t (e * square o)) base.zero) ((reads.each i m).coords (t - e * square o)))

    combination_told : (u : Polys o) → (u.0 ≡ full_combination r base f list by) ↔ ((t : ℕ) → coordinate r f u.0 t ≡ combination base (square o) rows by t)
    combination_told =
        told o made (full_combination r base f list by) (combination base (square o) rows by) made_is
        (λ t.
        ap (λ y. y.0) (image_total (polys o) (scalars o) (at o t) ((coordinates o).add t) (length list) (λ i. (polys o).mul (value i) (member i)))
        ∙ total_is base o.base_field.ring (length list) (λ i. at o t ((polys o).mul (value i) (member i)))
        ∙ sum_same base o.base_field.ring (length list) _ _ (λ i m. part i t m)
        ∙ ap (λ n. sum_below base n (λ i. times base (square o) (row_at by i) (coeff base (row_at rows i)) t)) reads.count)

  module _ (phi psi : Polys o) where
    abbrev P : List B → Type 0
    P x = IsRow o phi psi (coeff base x)

    -- From the standard basis to the full list.
    module _ (list : List (List E)) (rows : List (List B)) (reads : AreReadRows r base f rows list) (s : IsStandardBasis base (square o) P rows) where
      inside : (i : ℕ) → i < length list → i < length rows
      inside i m = omega (arith, reads.count, m)

      spanned : (u : List E) → IsHomomorphism r f.frob phi.0 psi.0 u → IsOnlyFullCombination r base f list u
      spanned u h =
          let word : Polys o = (u, h.canonical) in
          let at_row = flat_row_at word in
          let only = s.basis.spans (flat_row u) (flat_row_in word) (record { u = u; hom = h; coords = λ t. sym (at_row t) }) in
          record {
            by = only.by;
            len = only.len ∙ sym reads.count;
            polys = only.polys;
            is = (combination_told list rows reads only.by only.polys word).1 (λ t. sym (at_row t) ∙ only.is t);
            only = λ other len flat e. only.only other (len ∙ reads.count) flat (λ t. at_row t ∙ (combination_told list rows reads other flat word).0 e t);
          }

      pub full_list : IsFullList r base f phi.0 psi.0 list
      full_list = record {
        members = λ i m. hom_of_row o phi psi (row_at list i, (reads.each i m).canonical) (coeff base (row_at rows i)) (reads.each i m).coords (s.basis.within i (inside i m));
        spans = spanned;
        lead = lead_at rows;
        leads = λ i m. record {
          nonzero = λ e. o.base_field.one_ne_zero (sym (s.standard.one i (inside i m)) ∙ sym ((reads.each i m).coords (lead_at rows i)) ∙ e);
          above = λ j past. (reads.each i m).coords j ∙ coeff_past base (row_at rows i) j (omega (arith, past));
        };
        rising = λ i j m n. s.standard.rising i j m (inside j n);
        places = λ i j m n ne. s.standard.places i j (inside i m) (inside j n) ne;
        one = λ i m. (reads.each i m).coords (lead_at rows i) ∙ s.standard.one i (inside i m);
        clear = λ i j e m n ne. (reads.each i m).coords (lead_at rows j + e * square o) ∙ s.standard.clear i j e (inside i m) (inside j n) ne;
      }

    -- And back.
    module _ (list : List (List E)) (p : IsFullList r base f phi.0 psi.0 list) where
      abbrev word : ℕ → Polys o
      word i = (row_at list i, all_canonical r list (λ i m. (p.members i m).canonical) i)

      abbrev pub rows_of_list : List (List B)
      rows_of_list = first_values (length list) (λ i. flat_row (row_at list i))

      row_count : length list ≡ length rows_of_list
      row_count = sym (length-first_values (length list) (λ i. flat_row (row_at list i)))

      within : (i : ℕ) → i < length rows_of_list → i < length list
      within i m = omega (arith, row_count, m)

      pub row_coords : (i : ℕ) → i < length list → (t : ℕ) → coordinate r f (row_at list i) t ≡ entry base rows_of_list i t
      row_coords i m t = sym (ap (λ x. coeff base x t) (at-first_values (length list) (λ i. flat_row (row_at list i)) i [] m) ∙ flat_row_at (word i) t)

      pub reads_rows : AreReadRows r base f rows_of_list list
      reads_rows = record { count = row_count; each = λ i m. record { canonical = (p.members i m).canonical; coords = row_coords i m } }

      flat_rows : are_flat base rows_of_list ≡ true
      flat_rows = flat_values base (length list) (λ i. flat_row (row_at list i)) (λ i. flat_row_in (word i))

      lead_same : (i : ℕ) → i < length list → lead_at rows_of_list i ≡ p.lead i
      lead_same i m =
          let x = row_at rows_of_list i in
          let parts = and_parts (are_elems base x) (is_trimmed base x) (flat_at base rows_of_list flat_rows i) in
          ap (λ y. length y - 1) (sym (trim-trimmed base x parts.1))
          ∙ lead_is base o.base_field.ring x (p.lead i) parts.0
          (λ e. (p.leads i m).nonzero (row_coords i m (p.lead i) ∙ e)) (λ j past. sym (row_coords i m j) ∙ (p.leads i m).above j past)

      standard : IsStandard base (square o) rows_of_list
      standard = record {
        rising = λ i j m n.
            let b = within j n in
            let a : i < length list = omega (arith, m, b) in
            let rise = p.rising i j m b in
            omega (arith, lead_same i a, lead_same j b, rise);
        places = λ i j m n ne e.
            p.places i j (within i m) (within j n) ne (ap (λ x. x % square o) (sym (lead_same i (within i m))) ∙ e ∙ ap (λ x. x % square o) (lead_same j (within j n)));
        one = λ i m. ap (entry base rows_of_list i) (lead_same i (within i m)) ∙ sym (row_coords i (within i m) (p.lead i)) ∙ p.one i (within i m);
        clear = λ i j e m n ne.
            ap (λ x. entry base rows_of_list i (x + e * square o)) (lead_same j (within j n)) ∙ sym (row_coords i (within i m) (p.lead j + e * square o))
            ∙ p.clear i j e (within i m) (within j n) ne;
      }

      spanned_back : (x : List B) → is_canonical base x ≡ true → P x → IsOnlyCombination base (square o) rows_of_list x
      spanned_back x cx h =
          let s = p.spans h.u h.hom in
          let u : Polys o = (h.u, h.hom.canonical) in
          record {
            by = s.by;
            len = s.len ∙ row_count;
            polys = s.polys;
            is = λ t. sym (h.coords t) ∙ (combination_told list rows_of_list reads_rows s.by s.polys u).0 s.is t;
            only = λ other len flat e. s.only other (len ∙ sym row_count) flat ((combination_told list rows_of_list reads_rows other flat u).1 (λ t. h.coords t ∙ e t));
          }

      pub standard_rows : IsStandardBasis base (square o) P rows_of_list
      standard_rows = record {
        basis = record {
          shape = flat_rows;
          within = λ i m. record { u = row_at list i; hom = p.members i (within i m); coords = row_coords i (within i m) };
          spans = spanned_back;
        };
        standard = standard;
      }

    pub one_full_list : (a b : List (List E)) → IsFullList r base f phi.0 psi.0 a → IsFullList r base f phi.0 psi.0 b → a ≡ b
    one_full_list a b p q =
        let same : rows_of_list a p ≡ rows_of_list b q = one_standard base o.base_inv o.base_field (square o) (wide o) P (rows_of_list a p) (rows_of_list b q) (standard_rows a p) (standard_rows b q) in
        one_reading o (rows_of_list b q) a b (subst (λ v. AreReadRows r base f v a) same (reads_rows a p)) (reads_rows b q)

    -- What `full` needs: the rows of the map, the standard basis of their relations, that basis read as twisted polynomials.
    pub full_of_relations : (m basis : List (List B)) (list : List (List E)) → IsMapRows o phi psi (square o) m → IsStandardBasis base (square o) (IsRelationOf base (square o) m) basis
        → AreReadRows r base f basis list → IsFullList r base f phi.0 psi.0 list
    full_of_relations m basis list rows found reads =
        full_list list basis reads
        (record {
          basis = record {
            shape = found.basis.shape;
            within = λ i low. (hom_flat_relation o phi psi m rows (row_at basis i) (flat_at base basis found.basis.shape i)).1 (found.basis.within i low);
            spans = λ x cx h. found.basis.spans x cx ((hom_flat_relation o phi psi m rows x cx).0 h);
          };
          standard = found.standard;
        })
