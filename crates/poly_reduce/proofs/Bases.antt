-- From reductions and bases of flat rows to those of the rows of polynomials that stand for them.
use Rattle.std.proofs.Common.{◌≡◌, ℕ, ◌+◌, ◌*◌, ◌/◌, ◌%◌, ◌<◌, ◌≤◌, inl, inr, true, false, Bool, Option, List, [], ◌∷◌, length, cond, nat_eq, nat_lt, refl, sym, ◌∙◌, ap, subst, arith, ext_get_or, eq-eqb, ne_eqb, ltb-true, ltb-false}
use Rattle.std.proofs.Math.Nat.{mod-lt, mod-eq_of_lt, mul-le-mul_right}
use Rattle.std.proofs.lemmas.Bool.{cond_both}
use Rattle.std.proofs.lemmas.Nat.{div-add-mod'}
use Rattle.ring_core.specs.Ring.{RingOps, IsRing}
use Rattle.ring_core.specs.Field.{IsField}
use Rattle.ring_core.specs.Coeffs.{coeff, are_elems, is_canonical, first_values}
use Rattle.ring_core.proofs.Coefficients.{coeff_past, elems-first_values}
use Rattle.ring_core.proofs.ListRing.{poly_ring}
use Rattle.ring_core.proofs.FirstValues.{length-first_values, at-first_values}
use Rattle.linear_algebra.specs.Linear.{row_at, entry, is_row, are_rows}
use Rattle.linear_algebra.proofs.RowLists.{row_len, row_elems, rows_at, rows_by_places}
use Rattle.linear_algebra.proofs.Sums.{by_bool, same_or_other}
use Rattle.fq_poly.specs.Poly.{poly_ops}
use Rattle.flat_modules.specs.Flat.{lead_at, unit_at, times_rows, IsReduction, IsBasis, IsRelationOf, IsOnlyCombination}
use Rattle.flat_modules.proofs.Lists.{flat_at}
use Rattle.flat_reduce.proofs.RowSteps.{length_by_zeros}
use Rattle.flat_reduce.proofs.Settling.{empty_row}
use Rattle.poly_reduce.specs.Rows.{Rows}
use Rattle.poly_reduce.specs.Matrices.{row_times, product, identity, zero_row, member, StandFor, IsLead, IsMatrix, IsRowReduction, IsRelationRow, IsOnlyProduct, IsRowBasis}
use Rattle.poly_reduce.proofs.Stands.{row_from}
use Rattle.poly_reduce.proofs.Views.{polys_flat, flat_polys, stand_at, to_combination, from_combination, times_combination, flat_exists}

module _ {E : Type 0} (r : RingOps E) (inv : E → Option E) (field : IsField r inv) where
  abbrev ring : IsRing r
  ring = field.ring

  abbrev p : RingOps (List E)
  p = poly_ops r

  -- rows times a matrix, from the flat rows
  product_same : (w : ℕ) (posw : 0 < w) (m : List (List (List E))) (flat : List (List E)) → StandFor r w m flat → 0 < length flat → (left : List (List (List E))) (flat_left : List (List E)) → StandFor r (length flat) left flat_left
      → (image : List (List (List E))) → length image ≡ length left → are_rows p w image ≡ true
      → ((i t : ℕ) → i < length left → times_rows r (length flat) w (row_at flat_left i) (entry r flat) t ≡ member r w (row_at image i) t) → product p w left m ≡ image
  product_same w posw m flat s posn left flat_left sl image len shape is =
      let row = λ (i : ℕ). row_times p w (row_at left i) m in
      ext_get_or [] (product p w left m) image (length-first_values (length left) row ∙ sym len) (λ i l.
      let count = length-first_values (length left) row in
      let low : i < length left = omega (arith, l, count) in
      let within = sl.count in
      let by = row_at left i in
      let bi = row_elems p (length flat) by (rows_at p (length flat) left sl.shape i low) in
      at-first_values (length left) row i [] low
      ∙ sym (from_combination r ring w posw m flat s (row_at image i) by bi (rows_at p w image shape i (omega (arith, low, len)))
      (λ t. sym (is i t low) ∙ times_combination r ring w posw m flat s (row_at flat_left i) by (flat_at r flat_left sl.flat i) bi posn (λ k. stand_at r (length flat) left flat_left sl i k) t)))

  -- row `i` of the identity
  unit_member : (n i t : ℕ) → i < n → unit_at r i t ≡ member r n (first_values n (unit_at p i)) t
  unit_member n i t l =
      let whole = div-add-mod' t n in
      let unit : (b : Bool) → nat_eq i t ≡ b → unit_at r i t ≡ cond b r.one r.zero = λ b e. ap (λ b. cond b r.one r.zero) e in
      sym (ap (λ u. coeff r u (t / n)) (at-first_values n (unit_at p i) (t % n) [] (mod-lt t {m = n} (omega (arith, l))))
      ∙ elim (same_or_other i (t % n)) [
        | inl e ↦ ap (λ b. coeff r (cond b (r.one ∷ []) []) (t / n)) (eq-eqb i (t % n) e) ∙ elim (same_or_other (t / n) 0) [
          | inl z ↦ ap (coeff r (r.one ∷ [])) z ∙ sym (unit true (eq-eqb i t (let v = ap (λ a. a * n) z in omega (arith, e, whole, v))))
          | inr nz ↦
              let some = mul-le-mul_right {m = 1} {n = t / n} n (omega (arith, nz)) in
              coeff_past r (r.one ∷ []) (t / n) (omega (arith, nz)) ∙ sym (unit false (ne_eqb i t (λ q. omega (arith, q, l, some, whole))))
        ]
        | inr ne ↦ ap (λ b. coeff r (cond b (r.one ∷ []) []) (t / n)) (ne_eqb i (t % n) ne) ∙ sym (unit false (ne_eqb i t (λ q. ne (sym (mod-eq_of_lt l) ∙ ap (λ a. a % n) q))))
      ])

  unit_canonical : (i j : ℕ) → is_canonical r (unit_at p i j) ≡ true
  unit_canonical i j = cond_both (nat_eq i j) (r.one ∷ []) [] (λ u. is_canonical r u ≡ true) (λ _. (poly_ring r ring field.one_ne_zero).closed.one_in) (λ _. refl)

  unit_rows_in : (n k : ℕ) → are_rows p n (first_values k (λ i. first_values n (unit_at p i))) ≡ true
  unit_rows_in n k = rows_by_places p n _ (λ i l.
      let count = length-first_values k (λ i. first_values n (unit_at p i)) in
      ap (is_row p n) (at-first_values k (λ i. first_values n (unit_at p i)) i [] (omega (arith, l, count)))
      ∙ row_from p n (first_values n (unit_at p i)) (length-first_values n (unit_at p i)) (elems-first_values p n (unit_at p i) (λ j _. unit_canonical i j)))

  -- the lead of a row is that of its flat row
  pub lead_is : (w s : ℕ) (x : List (List E)) (u : List E) → is_canonical r u ≡ true → ((t : ℕ) → coeff r u t ≡ member r w x t) → IsLead r w x s → length u ≡ s + 1
  lead_is w s x u ue is h =
      let few = length_by_zeros r inv field u (s + 1) ue (λ t l. is t ∙ h.above t (omega (arith, l))) in
      by_bool (nat_lt s (length u))
      (λ b. let l = ltb-true s (length u) b in omega (arith, l, few))
      (λ b. let l : length u ≤ s = ltb-false s (length u) b in absurd (h.nonzero (sym (is s) ∙ coeff_past r u s l)))

  module _ (k : ℕ) (posk : 0 < k) (rows : List (List (List E))) (flats : List (List E)) (sr : StandFor r k rows flats) where
    -- exactly one combination of the flat rows is exactly one product
    pub only_from : (x : List (List E)) (u : List E) → is_row p k x ≡ true → ((t : ℕ) → coeff r u t ≡ member r k x t) → IsOnlyCombination r k flats u → IsOnlyProduct p k rows x
    only_from x u xr is h =
        let count = sr.count in
        let polys = flat_polys r h.by h.polys in
        record {
          by = h.by;
          shape = row_from p (length rows) h.by (h.len ∙ count) polys;
          is = from_combination r ring k posk rows flats sr x h.by polys xr (λ t. sym (is t) ∙ h.is t);
          only = λ other shape e.
              let inside = row_elems p (length rows) other shape in
              h.only other (row_len p (length rows) other shape ∙ sym count) (polys_flat r other inside) (λ t. is t ∙ to_combination r ring k posk rows flats sr x other inside e t);
        }

  module _ (m : Rows (List (List E))) (posw : 0 < m.width) (flat : List (List E)) (s : StandFor r m.width m.rows flat) (posn : 0 < length flat) where
    abbrev n : ℕ
    n = length flat

    abbrev w : ℕ
    w = m.width

    pub reduced_from : (left back image : Rows (List (List E))) (flat_left flat_back flat_image : List (List E)) → left.width ≡ n → back.width ≡ n → image.width ≡ w
        → StandFor r n left.rows flat_left → StandFor r n back.rows flat_back → StandFor r w image.rows flat_image → IsReduction r w flat flat_left flat_back flat_image → IsRowReduction r m left back image
    reduced_from left back image flat_left flat_back flat_image wl wb wi sl sb si h =
        let many = s.count in
        let ll = sl.count in
        let lb = sb.count in
        let li = si.count in
        let hl = h.left_len in
        let hb = h.back_len in
        let hi = h.image_len in
        let shape_left : IsMatrix p n n left = record { width = wl; count = sym ll ∙ hl; shape = sl.shape } in
        let shape_back : IsMatrix p n n back = record { width = wb; count = sym lb ∙ hb; shape = sb.shape } in
        let shape_image : IsMatrix p n w image = record { width = wi; count = sym li ∙ hi; shape = si.shape } in
        let units = unit_rows_in n n in
        let unit_count = length-first_values n (λ i. first_values n (unit_at p i)) in
        let unit_row = λ (i : ℕ) (t : ℕ) (l : i < n). unit_member n i t l ∙ ap (λ u. member r n u t) (sym (at-first_values n (λ i. first_values n (unit_at p i)) i [] l)) in
        let products = product_same w posw m.rows flat s posn left.rows flat_left sl image.rows (omega (arith, ll, li, hl, hi)) si.shape (λ i t l.
        let low : i < n = omega (arith, l, ll, hl) in
        h.image_is i t low ∙ stand_at r w image.rows flat_image si i t) in
        let count_back : length flat_back ≡ n = hb in
        let left_back = product_same n posn back.rows flat_back sb (omega (arith, hb, posn)) left.rows flat_left (subst (λ k. StandFor r k left.rows flat_left) (sym hb) sl) (identity p n) (unit_count ∙ sym (sym ll ∙ hl)) units (λ i t l.
        let low : i < n = omega (arith, l, ll, hl) in
        ap (λ k. times_rows r k n (row_at flat_left i) (entry r flat_back) t) hb ∙ h.left_back i t low ∙ unit_row i t low) in
        let back_left = product_same n posn left.rows flat_left sl (omega (arith, hl, posn)) back.rows flat_back (subst (λ k. StandFor r k back.rows flat_back) (sym hl) sb) (identity p n) (unit_count ∙ sym (sym lb ∙ hb)) units (λ i t l.
        let low : i < n = omega (arith, l, lb, hb) in
        ap (λ k. times_rows r k n (row_at flat_back i) (entry r flat_left) t) hl ∙ h.back_left i t low ∙ unit_row i t low) in
        record {
          left_shape = subst (λ k. IsMatrix p k k left) many shape_left;
          back_shape = subst (λ k. IsMatrix p k k back) many shape_back;
          image_shape = subst (λ k. IsMatrix p k w image) many shape_image;
          image_is = products;
          left_back = subst (λ k. product p k left.rows back.rows ≡ identity p k) many left_back;
          back_left = subst (λ k. product p k back.rows left.rows ≡ identity p k) many back_left;
          places = λ i k a b ne la lb e.
              let da = lead_is w a (row_at image.rows i) (row_at flat_image i) (flat_at r flat_image h.image_flat i) (stand_at r w image.rows flat_image si i) la in
              let db = lead_is w b (row_at image.rows k) (row_at flat_image k) (flat_at r flat_image h.image_flat k) (stand_at r w image.rows flat_image si k) lb in
              let fa : lead_at flat_image i ≡ a = omega (arith, da) in
              let fb : lead_at flat_image k ≡ b = omega (arith, db) in
              h.places i k (λ z. let v = ap length z in omega (arith, v, da)) (λ z. let v = ap length z in omega (arith, v, db)) ne (ap (λ v. v % w) fa ∙ e ∙ sym (ap (λ v. v % w) fb));
        }

    -- a row times the matrix is zero where its flat row is a relation
    relation_from : (c : List (List E)) (u : List E) → is_canonical r u ≡ true → are_elems p c ≡ true → ((t : ℕ) → coeff r u t ≡ member r n c t) → ((t : ℕ) → times_rows r n w u (entry r flat) t ≡ r.zero) → IsRelationRow p w m.rows c
    relation_from c u ue ce is none =
        sym (from_combination r ring w posw m.rows flat s (zero_row p w) c ce
        (row_from p w (zero_row p w) (length-first_values w (λ j. [])) (elems-first_values p w (λ j. []) (λ j _. refl)))
        (λ t. ap (λ v. coeff r v (t / w)) (at-first_values w (λ j. []) (t % w) [] (mod-lt t {m = w} posw)) ∙ sym (sym (times_combination r ring w posw m.rows flat s u c ue ce posn is t) ∙ none t)))

    relation_into : (c : List (List E)) (u : List E) → is_canonical r u ≡ true → are_elems p c ≡ true → ((t : ℕ) → coeff r u t ≡ member r n c t) → IsRelationRow p w m.rows c → (t : ℕ) → times_rows r n w u (entry r flat) t ≡ r.zero
    relation_into c u ue ce is none t =
        times_combination r ring w posw m.rows flat s u c ue ce posn is t
        ∙ sym (to_combination r ring w posw m.rows flat s (zero_row p w) c ce (sym none) t)
        ∙ ap (λ v. coeff r v (t / w)) (at-first_values w (λ j. []) (t % w) [] (mod-lt t {m = w} posw))

    pub kernel_from : (rows : List (List (List E))) (flats : List (List E)) → StandFor r n rows flats → IsBasis r n (IsRelationOf r w flat) flats → IsRowBasis p n (IsRelationRow p w m.rows) rows
    kernel_from rows flats sr h =
        let count = sr.count in
        record {
          shape = sr.shape;
          within = λ i l.
              let low : i < length flats = omega (arith, l, count) in
              relation_from (row_at rows i) (row_at flats i) (flat_at r flats sr.flat i) (row_elems p n (row_at rows i) (rows_at p n rows sr.shape i l)) (stand_at r n rows flats sr i) (h.within i low).zero;
          spans = λ x xr none.
              let polys = row_elems p n x xr in
              let u = flat_exists r ring n posn x polys in
              only_from n posn rows flats sr x u.0 xr u.2 (h.spans u.0 u.1 (record {
                none = λ e. let v = ap length e in absurd (omega (arith, v, posn));
                zero = relation_into x u.0 u.1 polys u.2 none;
              }));
        }

  -- no rows
  pub reduced_none : (m left back image : Rows (List (List E))) → m.rows ≡ [] → left.width ≡ 0 → back.width ≡ 0 → image.width ≡ m.width → left.rows ≡ [] → back.rows ≡ [] → image.rows ≡ [] → IsRowReduction r m left back image
  reduced_none m left back image e wl wb wi l b i =
      let many = ap length e in
      record {
        left_shape = record { width = wl ∙ sym many; count = ap length l ∙ sym many; shape = ap (are_rows p (length m.rows)) l };
        back_shape = record { width = wb ∙ sym many; count = ap length b ∙ sym many; shape = ap (are_rows p (length m.rows)) b };
        image_shape = record { width = wi; count = ap length i ∙ sym many; shape = ap (are_rows p m.width) i };
        image_is = ap (λ v. product p m.width v m.rows) l ∙ sym i;
        left_back = ap (λ v. product p (length m.rows) v back.rows) l ∙ sym (ap (identity p) many);
        back_left = ap (λ v. product p (length m.rows) v left.rows) b ∙ sym (ap (identity p) many);
        places = λ j k s t ne lead other. absurd (lead.nonzero (ap (λ v. member r m.width (row_at v j) s) i));
      }

  pub kernel_none : (w : ℕ) (m rows : List (List (List E))) → m ≡ [] → rows ≡ [] → IsRowBasis p (length m) (IsRelationRow p w m) rows
  kernel_none w m rows e z =
      let many = ap length e in
      record {
        shape = ap (are_rows p (length m)) z;
        within = λ i l. absurd (let v = ap length z in omega (arith, v, l));
        spans = λ x xr none. record {
          by = [];
          shape = ap (λ v. is_row p (length v) []) z;
          is = empty_row x (row_len p (length m) x xr ∙ many) ∙ sym (ap (λ k. row_times p k [] rows) many);
          only = λ other shape _. empty_row other (row_len p (length rows) other shape ∙ ap length z);
        };
      }
