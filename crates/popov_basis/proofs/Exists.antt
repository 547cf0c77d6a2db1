-- There is a standard basis of the module of flat rows, and of their relations. Nothing is called: the rows are settled,
-- divided by their tops, sorted and cleared by one another.
use Rattle.std.proofs.Common.{◌≡◌, ◌≢◌, ℕ, zero, suc, ◌+◌, ◌-◌, ◌%◌, ◌<◌, ◌≤◌, inl, inr, true, cond, nat_lt, nat_eq, Option, Some, None, List, [], ◌∷◌, ◌++◌, length, replicate, set, refl, sym, ◌∙◌, ap, subst, arith, length-set, ltb-true, ltb-false, ne_eqb}
use Rattle.std.proofs.Math.Nat.{mod-lt}
use Rattle.std.proofs.lemmas.Bool.{and_from, and_parts, cond_both}
use Rattle.ring_core.specs.Ring.{RingOps, IsElem, IsRing}
use Rattle.ring_core.specs.Field.{IsField}
use Rattle.ring_core.specs.Coeffs.{coeff, is_canonical, is_trimmed, are_elems, list_of, first_values}
use Rattle.ring_core.proofs.Coefficients.{coeff_past, elem_read, coeff-list_of, canonical-list_of}
use Rattle.ring_core.proofs.FirstValues.{length-first_values, at-first_values}
use Rattle.ring_core.proofs.Terms.{times_zero}
use Rattle.linear_algebra.specs.Linear.{row_at, entry, are_rows}
use Rattle.linear_algebra.proofs.Sums.{by_bool, same_or_other}
use Rattle.linear_algebra.proofs.Echelon.{find_place}
use Rattle.flat_modules.specs.Flat.{are_flat, lead_at, unit_at, zero_rows, IsBasis, IsInModule, IsRelationOf, IsStandardBasis}
use Rattle.flat_modules.proofs.Lists.{flat_at, flat_in, flat_first, row_past, longest}
use Rattle.flat_reduce.specs.steps.Settled.{slot_of, IsUnsettled}
use Rattle.flat_reduce.proofs.KernelBasis.{kernel_basis}
use Rattle.flat_reduce.proofs.Pushed.{free_len, not_free, flat_push}
use Rattle.flat_reduce.proofs.RowSteps.{inverse_of}
use Rattle.flat_reduce.proofs.Settling.{some_same, set_here, set_apart, empty_row}
use Rattle.poly_reduce.specs.Matrices.{IsInRows}
use Rattle.poly_reduce.proofs.Views.{p}
use Rattle.poly_reduce.proofs.Stands.{rows_exist, flats_exist}
use Rattle.popov_basis.specs.StandardRows.{IsStandardRowBasis}
use Rattle.popov_basis.specs.steps.Leading.{IsNext, IsMonicOf, IsLeading, IsNaming, IsClearedAt, IsClearedFrom, AreCleared}
use Rattle.popov_basis.proofs.Leads.{monic_is, leading_none, leading_more}
use Rattle.popov_basis.proofs.Clearing.{clear_free, clear_high, clear_added, clear_start, clear_more, naming_same, rows_none, rows_more}
use Rattle.popov_basis.proofs.RelationBasis.{no_relations, relations_basis}
use Rattle.popov_basis.proofs.RowBases.{basis_from}
use Rattle.popov_basis.proofs.SettledRows.{by_option, added_exists, top_inverse, settled_exist}
use Rattle.popov_basis.proofs.StandardBasis.{settled_apart, leading_places, standard_basis}

-- Rows that are found, with what they are wanted for.
pub record Found {E : Type 0} (r : RingOps E) (P : List (List E) → Type 0) : Type 0 where
  pub new : List (List E)
  pub flat : are_flat r new ≡ true
  pub is : P new

-- Each row is named at its lead place.
module _ {E : Type 0} (w : ℕ) (posw : 0 < w) (rows : List (List E)) (apart : (i k : ℕ) → i < length rows → k < length rows → i ≢ k → lead_at rows i % w ≢ lead_at rows k % w) where
  name_more : (n : ℕ) (slot : List (Option ℕ)) → n < length rows → IsNaming w n slot rows → IsNaming w (suc n) (set slot (lead_at rows n % w) (Some n)) rows
  name_more n slot l h =
      let place = lead_at rows n % w in
      let inside : place < length slot = let low = mod-lt (lead_at rows n) posw in omega (arith, low, h.len) in
      let new : (j q : ℕ) → place ≡ j → slot_of (set slot place (Some n)) j ≡ Some q → n ≡ q =
      λ j q here e. some_same n q (sym (set_here slot place (Some n) inside) ∙ ap (slot_of (set slot place (Some n))) here ∙ e) in
      let old : (j q : ℕ) → place ≢ j → slot_of (set slot place (Some n)) j ≡ Some q → slot_of slot j ≡ Some q = λ j q other e. sym (set_apart slot place j (Some n) other) ∙ e in
      record {
        len = length-set slot place (Some n) ∙ h.len;
        names = λ j q e. elim (same_or_other place j) [
          | inl here ↦ let is = new j q here e in omega (arith, is)
          | inr other ↦ let low = h.names j q (old j q other e) in omega (arith, low)
        ];
        places = λ j q e. elim (same_or_other place j) [
          | inl here ↦ ap (λ i. lead_at rows i % w) (sym (new j q here e)) ∙ here
          | inr other ↦ h.places j q (old j q other e)
        ];
        all = λ k b. elim (same_or_other k n) [
          | inl is ↦ ap (λ i. slot_of (set slot place (Some n)) (lead_at rows i % w)) is ∙ set_here slot place (Some n) inside ∙ ap Some (sym is)
          | inr ne ↦
              let low : k < n = omega (arith, b, ne) in
              set_apart slot place (lead_at rows k % w) (Some n) (apart n k l (omega (arith, low, l)) (λ e. ne (sym e))) ∙ h.all k low
        ];
      }

  named : (n : ℕ) → n ≤ length rows → (slot : List (Option ℕ)) × IsNaming w n slot rows
  named zero l = (replicate w None, record { len = free_len w; names = λ j q e. absurd (not_free w j q e); places = λ j q e. absurd (not_free w j q e); all = λ k b. absurd (omega (arith, b)) })
  named (suc n) l = let s = named n (omega (arith, l)) in (set s.0 (lead_at rows n % w) (Some n), name_more n s.0 (omega (arith, l)) s.1)

  pub naming_exists : (slot : List (Option ℕ)) × IsNaming w (length rows) slot rows
  naming_exists = named (length rows) (omega arith)

module _ {E : Type 0} (r : RingOps E) (inv : E → Option E) (field : IsField r inv) where
  abbrev ring : IsRing r
  ring = field.ring

  -- a row over its top
  pub record HasMonic (row : List E) : Type 0 where
    pub monic : List E
    pub flat : is_canonical r monic ≡ true
    pub is : IsMonicOf r row monic

  monic_exists : (row : List E) → is_canonical r row ≡ true → 0 < length row → HasMonic row
  monic_exists row ri pos =
      let top = coeff r row (length row - 1) in
      let read = elem_read r row ring.closed.zero_in (and_parts (are_elems r row) (is_trimmed r row) ri).0 in
      let inverse = top_inverse r inv field (row ∷ []) 0 (and_from _ _ ri refl) (λ z. let e = ap length z in omega (arith, e, pos)) in
      let v = inverse_of r inv field top inverse.inverse (read (length row - 1)) inverse.found in
      let value : ℕ → E = λ i. r.mul inverse.inverse (coeff r row i) in
      let value_in : (i : ℕ) → IsElem r (value i) = λ i. ring.closed.mul_in _ _ v.0 (read i) in
      let flat = canonical-list_of r (length row) value (λ i _. value_in i) in
      record {
        monic = list_of r (length row) value;
        flat = flat;
        is = monic_is r inv field row (list_of r (length row) value) top inverse.inverse ri flat pos v.0 refl v.1
            (λ t. coeff-list_of r ring.closed.zero_in ring.equal (length row) value value_in (λ i l. times_zero r ring inverse.inverse _ v.0 (coeff_past r row i l)) t);
      }

  module _ (image : List (List E)) (fi : are_flat r image ≡ true) (apart : (i k : ℕ) → i ≢ k → 0 < length (row_at image i) → length (row_at image i) ≢ length (row_at image k)) where
    -- settled rows over their tops, in rising order
    leading_exists : (above : ℕ) → Found r (IsLeading r image above)
    leading_exists zero = record { new = []; flat = refl; is = leading_none r image }
    leading_exists (suc above) =
        let s = leading_exists above in
        elim (find_place (length image) (λ i. length (row_at image i)) (suc above)) [
          | inl found ↦
              let i = found.0 in
              let len = found.2 in
              let m = monic_exists (row_at image i) (flat_at r image fi i) (omega (arith, len)) in
              let next : IsNext image above i = record { within = found.1; longer = omega (arith, len); least = λ k l. omega (arith, len, l) } in
              record {
                new = s.new ++ m.monic ∷ [];
                flat = flat_push r s.new m.monic s.flat m.flat;
                is = subst (λ n. IsLeading r image n (s.new ++ m.monic ∷ [])) len (leading_more r image above s.new s.is i next m.monic m.is apart);
              }
          | inr none ↦
              record {
                new = s.new;
                flat = s.flat;
                is = record {
                  rising = s.is.rising;
                  full = s.is.full;
                  low = λ j l. let b = s.is.low j l in omega (arith, b);
                  source = s.is.source;
                  listed = λ i pos b.
                      let inside : i < length image = by_bool (nat_lt i (length image))
                      (λ t. ltb-true i (length image) t)
                      (λ t. let e = ap length (row_past r image i (ltb-false i (length image) t)) in absurd (omega (arith, e, pos))) in
                      s.is.listed i pos (let other = none i inside in omega (arith, b, other));
                };
              }
        ]

  module _ (w : ℕ) (posw : 0 < w) (slot : List (Option ℕ)) where
    -- one at each lead
    abbrev Ones : List (List E) → Type 0
    Ones rows = (k : ℕ) → k < length rows → entry r rows k (lead_at rows k) ≡ r.one

    clear_at_exists : (rows : List (List E)) → are_flat r rows ≡ true → IsNaming w (length rows) slot rows → Ones rows → (p t : ℕ) → p < length rows → t < lead_at rows p → Found r (IsClearedAt r w p t rows)
    clear_at_exists rows ri naming ones p t lp below =
        by_option (slot_of slot (t % w))
        (λ e. record { new = rows; flat = ri; is = clear_free r inv field w p posw slot rows ri naming t e })
        (λ q e. by_bool (nat_lt t (lead_at rows q))
        (λ b. record { new = rows; flat = ri; is = clear_high r inv field w p posw slot rows ri naming t q e (ltb-true _ _ b) })
        (λ b.
        let c = r.neg (entry r rows p t) in
        let ci : IsElem r c = ring.closed.neg_in _ (flat_in r ring rows ri p t) in
        let a = added_exists r ring rows ri p q (t - lead_at rows q) c ci lp in
        record {
          new = a.new;
          flat = a.flat;
          is = clear_added r inv field w p posw slot rows ri naming t q e c a.new a.flat lp (ltb-false _ _ b) below ci refl (ones q (naming.names (t % w) q e)) a.is;
        }))

    module _ (rows : List (List E)) (ri : are_flat r rows ≡ true) (naming : IsNaming w (length rows) slot rows) (ones : Ones rows) where
      -- the row is cleared from its lead down
      clear_from_exists : (p : ℕ) → p < length rows → (k t : ℕ) → t + k ≡ lead_at rows p → Found r (IsClearedFrom r w p t rows)
      clear_from_exists p lp zero t e = record {
        new = rows;
        flat = ri;
        is = subst (λ n. IsClearedFrom r w p n rows rows) (sym (let same : t ≡ lead_at rows p = omega (arith, e) in same)) (clear_start r inv field w p posw slot rows ri naming lp);
      }
      clear_from_exists p lp (suc k) t e =
          let s = clear_from_exists p lp k (t + 1) (omega (arith, e)) in
          let mid = s.new in
          let len = s.is.len in
          let lead : lead_at mid p ≡ lead_at rows p = ap (λ n. n - 1) (s.is.lens p) in
          let mid_ones : Ones mid = λ q l. elim (same_or_other q p) [
            | inl is ↦ ap (λ i. entry r mid i (lead_at mid i)) is ∙ ap (entry r mid p) lead ∙ s.is.one ∙ ones p lp
            | inr ne ↦ ap (λ u. coeff r u (length u - 1)) (s.is.others q ne) ∙ ones q (omega (arith, l, len))
          ] in
          let c = clear_at_exists mid s.flat (naming_same r inv field w p posw slot rows mid len s.is.lens naming) mid_ones p t (omega (arith, lp, len)) (omega (arith, lead, e)) in
          record {
            new = c.new;
            flat = c.flat;
            is = clear_more r inv field w p posw slot rows mid c.new s.flat c.flat t (omega (arith, e)) s.is c.is;
          }

    -- the rows are cleared one after another
    clear_exists : (rows : List (List E)) → are_flat r rows ≡ true → IsNaming w (length rows) slot rows → Ones rows → (n : ℕ) → n ≤ length rows → Found r (AreCleared r w n rows)
    clear_exists rows ri naming ones zero l = record { new = rows; flat = ri; is = rows_none r inv field w rows }
    clear_exists rows ri naming ones (suc n) l =
        let s = clear_exists rows ri naming ones n (omega (arith, l)) in
        let mid = s.new in
        let len = s.is.len in
        let mid_ones : Ones mid = λ q b. ap (λ k. entry r mid q (k - 1)) (s.is.lens q) ∙ s.is.one q ∙ ones q (omega (arith, b, len)) in
        let mid_naming = naming_same r inv field w n posw slot rows mid len s.is.lens naming in
        let c = clear_from_exists mid s.flat mid_naming mid_ones n (omega (arith, l, len)) (lead_at mid n) 0 (omega arith) in
        let next : n + 1 ≡ suc n = omega arith in
        record {
          new = c.new;
          flat = c.flat;
          is = subst (λ k. AreCleared r w k rows c.new) next (rows_more r inv field w n posw slot rows mid c.new s.flat c.flat s.is c.is);
        }

  module _ (w : ℕ) (posw : 0 < w) where
    -- There is a standard basis of the module of the rows.
    pub standard_exists : (rows : List (List E)) → are_flat r rows ≡ true → (basis : List (List E)) × IsStandardBasis r w (IsInModule r w rows) basis
    standard_exists rows ri =
        let n = length rows in
        let s = settled_exist r inv field w n posw rows rows rows (record { images = ri; lefts = ri; inverses = ri; image_len = refl; left_len = refl; columns_len = refl }) in
        let image = s.made.image in
        let settled : IsUnsettled w (length image) (length image) s.slot image = subst (λ k. IsUnsettled w k k s.slot image) (sym s.made.rows.image_len) s.unsettled in
        let above = longest r image in
        let leads = leading_exists image s.made.rows.images (settled_apart w s.slot image settled r) above.0 in
        let list = leads.new in
        let names = naming_exists w posw list (leading_places w s.slot image settled r above.0 list leads.is) in
        let c = clear_exists w posw names.0 list leads.flat names.1 (λ k l. (leads.is.source k l).is.multiple.one) (length list) (omega arith) in (
          c.new,
          standard_basis r inv field w posw rows image rows rows s.made.left s.made.columns list c.new s.slot above.0 ri c.flat leads.flat s.made.turned settled leads.is above.1 c.is,
        )

    -- the identity
    unit_in : (i t : ℕ) → IsElem r (unit_at r i t)
    unit_in i t = cond_both (nat_eq i t) r.one r.zero (λ a. IsElem r a) (λ _. ring.closed.one_in) (λ _. ring.closed.zero_in)

    abbrev unit_row : ℕ → List E
    unit_row i = list_of r (suc i) (unit_at r i)

    unit_row_is : (i t : ℕ) → coeff r (unit_row i) t ≡ unit_at r i t
    unit_row_is i t = coeff-list_of r ring.closed.zero_in ring.equal (suc i) (unit_at r i) (unit_in i) (λ k l. ap (λ b. cond b r.one r.zero) (ne_eqb i k (λ e. omega (arith, e, l)))) t

    -- There is a basis of the relations of the rows.
    kernel_exists : (m : List (List E)) → are_flat r m ≡ true → (basis : List (List E)) × IsBasis r (length m) (IsRelationOf r w m) basis
    kernel_exists m mi =
        let n = length m in
        let ids = first_values n unit_row in
        let long : length ids ≡ n = length-first_values n unit_row in
        let flat : are_flat r ids ≡ true = flat_first r n unit_row (λ i. canonical-list_of r (suc i) (unit_at r i) (λ t _. unit_in i t)) in
        let unit_is : (i t : ℕ) → i < n → entry r ids i t ≡ unit_at r i t = λ i t l. ap (λ u. coeff r u t) (at-first_values n unit_row i [] l) ∙ unit_row_is i t in
        let s = settled_exist r inv field w n posw m ids m (record { images = mi; lefts = flat; inverses = mi; image_len = refl; left_len = long; columns_len = refl }) in (
          zero_rows s.made.image s.made.left n,
          kernel_basis r inv field w m ids m s.made.image s.made.left s.made.columns s.slot posw mi flat s.made.rows.images s.made.rows.lefts long s.made.rows.image_len unit_is s.unsettled s.made.turned,
        )

  -- There is a standard basis of the relations of the rows.
  pub relations_exist : (w : ℕ) → 0 < w → (m : List (List E)) → are_flat r m ≡ true → (basis : List (List E)) × IsStandardBasis r (length m) (IsRelationOf r w m) basis
  relations_exist w posw m mi = elim (same_or_other (length m) 0) [
    | inl e ↦ ([], no_relations r ring w m (empty_row m e))
    | inr ne ↦
        let posn : 0 < length m = omega (arith, ne) in
        let found = kernel_exists w posw m mi in
        let new = standard_exists (length m) posn found.0 found.1.shape in
        (new.0, relations_basis r ring w m found.0 new.0 posn mi found.1 new.1)
  ]

  module _ (w : ℕ) (posw : 0 < w) where
    -- There is a standard basis of the module of rows of polynomials.
    pub row_basis_exists : (m : List (List (List E))) → are_rows (p r) w m ≡ true → (basis : List (List (List E))) × IsStandardRowBasis r w (IsInRows (p r) w m) basis
    row_basis_exists m shape =
        let flat = flats_exist r ring w posw m shape in
        let found = standard_exists w posw flat.0 flat.1.flat in
        let rows = rows_exist r ring w posw found.0 found.1.basis.shape in
        (rows.0, basis_from r inv field w posw m flat.0 flat.1 rows.0 found.0 rows.1 found.1)
