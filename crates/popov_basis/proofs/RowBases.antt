-- From standard bases and remainders of flat rows to those of the rows of polynomials that stand for them, and back.
use Rattle.std.proofs.Common.{◌≡◌, ℕ, ◌+◌, ◌*◌, ◌/◌, ◌%◌, ◌<◌, ◌↔◌, true, Option, List, [], length, refl, sym, ◌∙◌, ap, ap₂, subst, arith}
use Rattle.std.proofs.Math.Nat.{mod-lt}
use Rattle.std.proofs.lemmas.Bool.{and_parts}
use Rattle.ring_core.specs.Ring.{RingOps, IsRing}
use Rattle.ring_core.specs.Field.{IsField}
use Rattle.ring_core.specs.Coeffs.{coeff, are_elems, is_canonical, is_trimmed}
use Rattle.ring_core.proofs.Coefficients.{coeff_past, same_coeffs, elems-first_values}
use Rattle.ring_core.proofs.FirstValues.{length-first_values, at-first_values}
use Rattle.ring_core.proofs.ListRing.{poly_ring, coeff-add}
use Rattle.linear_algebra.specs.Linear.{row_at, is_row, are_rows}
use Rattle.linear_algebra.proofs.RowLists.{row_len, row_elems, rows_at}
use Rattle.flat_modules.specs.Flat.{lead_at, combination, IsStandard, IsStandardBasis, IsInModule, IsNormal}
use Rattle.flat_modules.proofs.Lists.{flat_at}
use Rattle.flat_modules.proofs.OneBasis.{one_standard}
use Rattle.poly_reduce.specs.Matrices.{row_times, zero_row, member, StandFor, IsLead, IsInRows}
use Rattle.poly_reduce.proofs.Views.{p, row_canonical, polys_flat, flat_polys, stand_at, entry_canonical, to_combination, from_combination, flat_exists}
use Rattle.poly_reduce.proofs.Stands.{row_from, row_same, row_for, row_for_shape, row_for_is, stand_same, flats_exist}
use Rattle.poly_reduce.proofs.Bases.{lead_is, only_from}
use Rattle.popov_basis.specs.StandardRows.{row_sum, IsStandardRows, IsStandardRowBasis, IsNormalRow}

module _ {E : Type 0} (r : RingOps E) (inv : E → Option E) (field : IsField r inv) (w : ℕ) (posw : 0 < w) where
  abbrev ring : IsRing r
  ring = field.ring

  -- the rows of a standard basis
  module _ (rows : List (List (List E))) (flats : List (List E)) (s : StandFor r w rows flats) where
    pub standard_from : IsStandard r w flats → IsStandardRows r w rows
    standard_from h =
        let count = s.count in
        let within : (i : ℕ) → i < length rows → i < length flats = λ i l. omega (arith, l, count) in
        record {
          lead = lead_at flats;
          is_lead = λ i l. record {
            nonzero = λ z. field.one_ne_zero (sym (h.one i (within i l)) ∙ s.is i (lead_at flats i) l ∙ z);
            above = λ t far. sym (s.is i t l) ∙ coeff_past r (row_at flats i) t (omega (arith, far));
          };
          rising = λ i k l m. h.rising i k l (within k m);
          places = λ i k l m. h.places i k (within i l) (within k m);
          one = λ i l. sym (s.is i (lead_at flats i) l) ∙ h.one i (within i l);
          clear = λ i k e l m ne. sym (s.is i (lead_at flats k + e * w) l) ∙ h.clear i k e (within i l) (within k m) ne;
        }

    lead_same : (i t : ℕ) → IsLead r w (row_at rows i) t → lead_at flats i ≡ t
    lead_same i t h =
        let len = lead_is r inv field w t (row_at rows i) (row_at flats i) (flat_at r flats s.flat i) (stand_at r w rows flats s i) h in
        omega (arith, len)

    pub standard_into : IsStandardRows r w rows → IsStandard r w flats
    standard_into h =
        let count = s.count in
        let within : (i : ℕ) → i < length flats → i < length rows = λ i l. omega (arith, l, count) in
        let same : (i : ℕ) → i < length flats → lead_at flats i ≡ h.lead i = λ i l. lead_same i (h.lead i) (h.is_lead i (within i l)) in
        record {
          rising = λ i k l m.
              let low : i < length flats = omega (arith, l, m) in
              let rises = h.rising i k l (within k m) in
              let a = same i low in
              let b = same k m in
              omega (arith, rises, a, b);
          places = λ i k l m ne e. h.places i k (within i l) (within k m) ne (ap (λ v. v % w) (sym (same i l)) ∙ e ∙ ap (λ v. v % w) (same k m));
          one = λ i l. s.is i (lead_at flats i) (within i l) ∙ ap (member r w (row_at rows i)) (same i l) ∙ h.one i (within i l);
          clear = λ i k e l m ne. s.is i (lead_at flats k + e * w) (within i l) ∙ ap (λ v. member r w (row_at rows i) (v + e * w)) (same k m) ∙ h.clear i k e (within i l) (within k m) ne;
        }

    -- the module of the rows
    pub module_into : (x : List (List E)) (u : List E) → ((t : ℕ) → coeff r u t ≡ member r w x t) → IsInRows (p r) w rows x → IsInModule r w flats u
    module_into x u is h =
        let inside = row_elems (p r) (length rows) h.by h.shape in
        record {
          by = h.by;
          len = row_len (p r) (length rows) h.by h.shape ∙ sym s.count;
          polys = polys_flat r h.by inside;
          is = λ t. is t ∙ to_combination r ring w posw rows flats s x h.by inside h.is t;
        }

    pub module_from : (x : List (List E)) (u : List E) → is_row (p r) w x ≡ true → ((t : ℕ) → coeff r u t ≡ member r w x t) → IsInModule r w flats u → IsInRows (p r) w rows x
    module_from x u xr is h =
        let inside = flat_polys r h.by h.polys in
        record {
          by = h.by;
          shape = row_from (p r) (length rows) h.by (h.len ∙ s.count) inside;
          is = from_combination r ring w posw rows flats s x h.by inside xr (λ t. sym (is t) ∙ h.is t);
        }

    -- a division
    module _ (x : List (List E)) (u : List E) (xr : is_row (p r) w x ≡ true) (is : (t : ℕ) → coeff r u t ≡ member r w x t) (by : List (List E)) (z : List (List E)) (rest : List E) (zr : is_row (p r) w z ≡ true)
        (zis : (t : ℕ) → coeff r rest t ≡ member r w z t) (h : IsNormal r w flats u by rest) where
      abbrev polys : are_elems (p r) by ≡ true
      polys = flat_polys r by h.polys

      abbrev product_row : List (List E)
      product_row = row_times (p r) w by rows

      product_shape : is_row (p r) w product_row ≡ true
      product_shape = row_from (p r) w product_row (length-first_values w _) (elems-first_values (p r) w _ (λ j _. entry_canonical r ring w posw rows flats s by polys j))

      canonical_at : (y : List (List E)) → is_row (p r) w y ≡ true → (j : ℕ) → is_canonical r (row_at y j) ≡ true
      canonical_at y yr j = row_canonical r y (row_elems (p r) w y yr) j

      sum_shape : is_row (p r) w (row_sum (p r) w product_row z) ≡ true
      sum_shape = row_from (p r) w _ (length-first_values w _)
          (elems-first_values (p r) w _ (λ j _. (poly_ring r ring field.one_ne_zero).closed.add_in (row_at product_row j) (row_at z j) (canonical_at product_row product_shape j) (canonical_at z zr j)))

      sum_member : (t : ℕ) → member r w (row_sum (p r) w product_row z) t ≡ r.add (combination r w flats by t) (coeff r rest t)
      sum_member t =
          let a = row_at product_row (t % w) in
          let b = row_at z (t % w) in
          ap (λ v. coeff r v (t / w)) (at-first_values w (λ j. (p r).add (row_at product_row j) (row_at z j)) (t % w) [] (mod-lt t {m = w} posw))
          ∙ coeff-add r ring a b (and_parts (are_elems r a) (is_trimmed r a) (canonical_at product_row product_shape (t % w))).0 (and_parts (are_elems r b) (is_trimmed r b) (canonical_at z zr (t % w))).0 (t / w)
          ∙ ap₂ r.add (to_combination r ring w posw rows flats s product_row by polys refl t) (sym (zis t))

      pub normal_from : IsNormalRow r w rows x by z
      normal_from =
          let count = s.count in
          record {
            by_shape = row_from (p r) (length rows) by (h.len ∙ count) polys;
            rest_shape = zr;
            is = row_same r ring w posw x (row_sum (p r) w product_row z) xr sum_shape (λ t. sym (is t) ∙ h.is t ∙ sym (sum_member t));
            clear = λ i t e l lead. sym (zis (t + e * w)) ∙ ap (λ v. coeff r rest (v + e * w)) (sym (lead_same i t lead)) ∙ h.clear i e (omega (arith, l, count));
          }

      zero_member : (t : ℕ) → member r w (zero_row (p r) w) t ≡ r.zero
      zero_member t = ap (λ v. coeff r v (t / w)) (at-first_values w (λ j. []) (t % w) [] (mod-lt t {m = w} posw))

      pub rest_from : ((rest ≡ []) ↔ IsInModule r w flats u) → (z ≡ zero_row (p r) w) ↔ IsInRows (p r) w rows x
      rest_from both = (
        λ e. module_from x u xr is (both.0 (same_coeffs r ring.closed.zero_in ring.equal rest [] (and_parts (are_elems r rest) (is_trimmed r rest) h.flat).1 refl (λ t. zis t ∙ ap (λ v. member r w v t) e ∙ zero_member t))),
        λ inside. row_same r ring w posw z (zero_row (p r) w) zr (row_from (p r) w _ (length-first_values w (λ j. [])) (elems-first_values (p r) w (λ j. []) (λ j _. refl)))
            (λ t. sym (zis t) ∙ ap (λ v. coeff r v t) (both.1 (module_into x u is inside)) ∙ sym (zero_member t)),
      )

  -- standard bases of the module of the rows `m`
  module _ (m : List (List (List E))) (flat : List (List E)) (sm : StandFor r w m flat) (rows : List (List (List E))) (flats : List (List E)) (s : StandFor r w rows flats) where
    pub basis_from : IsStandardBasis r w (IsInModule r w flat) flats → IsStandardRowBasis r w (IsInRows (p r) w m) rows
    basis_from h =
        let count = s.count in
        record {
          basis = record {
            shape = s.shape;
            within = λ i l. module_from m flat sm (row_at rows i) (row_at flats i) (rows_at (p r) w rows s.shape i l) (stand_at r w rows flats s i) (h.basis.within i (omega (arith, l, count)));
            spans = λ x xr inside.
                let u = flat_exists r ring w posw x (row_elems (p r) w x xr) in
                only_from r inv field w posw rows flats s x u.0 xr u.2 (h.basis.spans u.0 u.1 (module_into m flat sm x u.0 u.2 inside));
          };
          standard = standard_from rows flats s h.standard;
        }

    pub basis_into : IsStandardRowBasis r w (IsInRows (p r) w m) rows → IsStandardBasis r w (IsInModule r w flat) flats
    basis_into h =
        let count = s.count in
        record {
          basis = record {
            shape = s.flat;
            within = λ i l. module_into m flat sm (row_at rows i) (row_at flats i) (stand_at r w rows flats s i) (h.basis.within i (omega (arith, l, count)));
            spans = λ u ue inside.
                let x = row_for r ring w posw u in
                let xr = row_for_shape r ring w posw u ue in
                let is = row_for_is r ring w posw u ue in
                let one = h.basis.spans x xr (module_from m flat sm x u xr is inside) in
                let polys = row_elems (p r) (length rows) one.by one.shape in
                record {
                  by = one.by;
                  len = row_len (p r) (length rows) one.by one.shape ∙ sym count;
                  polys = polys_flat r one.by polys;
                  is = λ t. is t ∙ to_combination r ring w posw rows flats s x one.by polys one.is t;
                  only = λ other len oi e.
                      let inside = flat_polys r other oi in
                      one.only other (row_from (p r) (length rows) other (len ∙ count) inside) (from_combination r ring w posw rows flats s x other inside xr (λ t. sym (is t) ∙ e t));
                };
          };
          standard = standard_into rows flats s h.standard;
        }

  -- there is one
  pub one_row_basis : (m a b : List (List (List E))) → are_rows (p r) w m ≡ true → IsStandardRowBasis r w (IsInRows (p r) w m) a → IsStandardRowBasis r w (IsInRows (p r) w m) b → a ≡ b
  one_row_basis m a b shape ha hb =
      let flat = flats_exist r ring w posw m shape in
      let fa = flats_exist r ring w posw a ha.basis.shape in
      let fb = flats_exist r ring w posw b hb.basis.shape in
      let same = one_standard r inv field w posw (IsInModule r w flat.0) fa.0 fb.0 (basis_into m flat.0 flat.1 a fa.0 fa.1 ha) (basis_into m flat.0 flat.1 b fb.0 fb.1 hb) in
      stand_same r ring w posw a b fb.0 (subst (StandFor r w a) same fa.1) fb.1
