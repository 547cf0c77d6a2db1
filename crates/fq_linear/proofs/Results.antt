-- What the eliminated rows tell: the echelon basis, the relations, solutions and the first dependence.
use Rattle.linear_algebra.proofs.RowLists.{row_elems, rows_in}
use Rattle.std.proofs.Common.{◌≡◌, ◌≢◌, ℕ, zero, suc, ◌+◌, ◌-◌, ◌*◌, ◌<◌, ◌≤◌, ◌↔◌, Option, Some, is_some, slice_range, Bool, true, false, cond, List, length, map, nat_lt, nat_eq, refl, sym, ◌∙◌, ap, ap₂, subst, arith, zero-add, eq-eqb, le-ltb}
use Rattle.std.proofs.lemmas.Bool.{and_from, cond_both}
use Rattle.ring_core.specs.Ring.{RingOps, IsElem, IsRing}
use Rattle.ring_core.specs.Field.{IsField}
use Rattle.ring_core.specs.Coeffs.{coeff, are_elems, first_values}
use Rattle.ring_core.proofs.Carrier.{RingOn, Element, elements, same_element, neg_zero}
use Rattle.ring_core.proofs.Coefficients.{elem_read, elems-first_values}
use Rattle.ring_core.proofs.FirstValues.{length-first_values, at-first_values}
use Rattle.linear_algebra.specs.Combines.{Combines, combined}
use Rattle.linear_algebra.specs.steps.Slots.{minus, beside}
use Rattle.linear_algebra.specs.Linear.{entry, is_row, are_rows, IsCombination, IsRelation, IsDependent, IsIndependent, IsSolution, IsEchelonBasis, IsFirstDependence}
use Rattle.linear_algebra.proofs.Spans.{Spans, span_as, span_rows, span_into}
use Rattle.linear_algebra.proofs.Augment.{augmented as augmented_on, Eliminates, no_relation, dependent_is_lead, lead_depends, solution, nothing_left}
use Rattle.linear_algebra.proofs.Lift.{AllIn, AreIn, row_of, rows_of, to_spans, to_reduced, combines_into, combines_as, combines_rows, combine_value}
use Rattle.fq_linear.specs.steps.Places.{unit_row}
use Rattle.fq_linear.specs.steps.Elimination.{row_number, is_lead, numbered_cells, slot, augmented, IsEliminated, IsReducedTarget, AreFinished}
use Rattle.fq_linear.proofs.Slots.{slot_in, augmented_in}
use Rattle.fq_linear.proofs.Steps.{taken_none}
use Rattle.fq_linear.proofs.Gathered.{low_shape, low_same, cut_length}
use Rattle.fq_linear.proofs.Finished.{finished_exist, finished_is}
use Rattle.fq_linear.proofs.Places.{elems_range, range_place}
use Rattle.fq_linear.proofs.Basis.{basis_of}
use Rattle.fq_linear.proofs.Relations.{relation_on, row_in, row_past, kernel_spans}
use Rattle.linear_algebra.proofs.Gather.{leads}

cond_value : {E : Type 0} (r : RingOps E) (b : Bool) (x y : Element r) → (cond b x y).0 ≡ cond b x.0 y.0
cond_value r true x y = refl
cond_value r false x y = refl

pub not_both : {b : Bool} → b ≡ true → b ≡ false → ⊥
not_both e f = cc

pub reduced_as : {E : Type 0} (r : RingOps E) (n m w v : ℕ) (index d : List (Option ℕ)) (cells e target row : List E) → m ≡ n → v ≡ w → d ≡ index → e ≡ cells
    → IsReducedTarget r m v d e target row → IsReducedTarget r n w index cells target row
reduced_as r n m w v index d cells e target row en ew ei ec g =
    subst (λ x. IsReducedTarget r x w index cells target row) en
    (subst (λ x. IsReducedTarget r m x index cells target row) ew
    (subst (λ x. IsReducedTarget r m v x cells target row) ei (subst (λ x. IsReducedTarget r m v d x target row) ec g)))

module _ {E : Type 0} (r : RingOps E) (inv : E → Option E) (field : IsField r inv) where
  abbrev h : IsRing r
  h = field.ring

  abbrev R : RingOn (Element r)
  R = elements field.ring

  -- the augmented rows in the ring of elements
  augmented_value : (n : ℕ) (v : ℕ → ℕ → E) (vi : AllIn r v) (i k : ℕ) → (augmented_on R n (rows_of r v vi) i k).0 ≡ augmented r n v i k
  augmented_value n v vi i k =
      cond_value r (nat_lt k n) _ _ ∙ ap (λ x. cond (nat_lt k n) x (v i (k - n))) (cond_value r (nat_eq i k) _ _)

  -- with no unit matrix
  pub augmented_zero : (v : ℕ → ℕ → E) (i k : ℕ) → augmented r 0 v i k ≡ v i k
  augmented_zero v i k = let none : nat_lt k 0 ≡ false = not_below k in
      ap (λ b. cond b (unit_row r i k) (v i (k - 0))) none ∙ (let e : k - 0 ≡ k = omega arith in ap (v i) e)
    where
      not_below : (k : ℕ) → nat_lt k 0 ≡ false
      not_below k = le-ltb k 0 (omega arith)

  -- the combinations of the slots are those of the rows
  pub echelon_spans : (w : ℕ) (rows : List (List E)) (index : List (Option ℕ)) (cells : List E) → are_rows r w rows ≡ true
      → IsEliminated r (0 + w) (length rows) (augmented r 0 (entry r rows)) index cells
      → (x : List E) → is_row r w x ≡ true → IsCombination r rows x ↔ Combines r w (slot r w index cells) (coeff r x)
  echelon_spans w rows index cells ri t x xr =
      let e = subst (λ m. IsEliminated r m (length rows) (augmented r 0 (entry r rows)) index cells) (zero-add w) t in
      let z = h.closed.zero_in in
      let vi = rows_in r z w rows ri in
      let si = slot_in r h w index cells e.table.elems in
      let xi = elem_read r x z (row_elems r w x xr) in (
        λ s. combines_into r h (length rows) w (entry r rows) (slot r w index cells) (coeff r x) vi si xi
            (λ i l. combines_as r h w (slot r w index cells) (augmented r 0 (entry r rows) i) (entry r rows i) (λ k. sym (augmented_zero (entry r rows) i k)) (e.holds i l)) s,
        λ s. combines_into r h w (length rows) (slot r w index cells) (entry r rows) (coeff r x) si vi xi
            (λ j l. combines_rows r h (length rows) (augmented r 0 (entry r rows)) (entry r rows) _ (λ i _ k. augmented_zero (entry r rows) i k) (e.within j l)) s,
      )

  pub echelon_is : (w : ℕ) (rows : List (List E)) (index : List (Option ℕ)) (cells : List E) → are_rows r w rows ≡ true
      → IsEliminated r (0 + w) (length rows) (augmented r 0 (entry r rows)) index cells
      → (basis : List (List E))
      → ((finished : ℕ → ℕ → E) → AreFinished r w (is_lead index) (slot r w index cells) finished → basis ≡ map (λ j. first_values w (finished j)) (leads (is_lead index) w))
      → IsEchelonBasis r w (IsCombination r rows) basis
  echelon_is w rows index cells ri t basis b =
      let e = subst (λ m. IsEliminated r m (length rows) (augmented r 0 (entry r rows)) index cells) (zero-add w) t in
      let si = slot_in r h w index cells e.table.elems in
      let fin = finished_exist r inv field w (is_lead index) (slot r w index cells) si e.table.led in
      subst (IsEchelonBasis r w (IsCombination r rows)) (sym (b fin.0 fin.1))
      (basis_of r inv field w w (is_lead index) fin.0 fin.1.elems fin.1.reduced (λ j. first_values w (fin.0 j))
      (λ j m l. low_shape r w w (is_lead index) fin.0 fin.1.elems fin.1.reduced j) (λ j m l. low_same r w w (is_lead index) fin.0 fin.1.elems fin.1.reduced j l)
      (IsCombination r rows) (λ x xr.
      let xi = elem_read r x h.closed.zero_in (row_elems r w x xr) in
      let spans = echelon_spans w rows index cells ri t x xr in (
        λ s. combines_into r h w w (slot r w index cells) fin.0 (coeff r x) si fin.1.elems xi fin.1.into (spans.0 s),
        λ s. spans.1 (combines_into r h w w fin.0 (slot r w index cells) (coeff r x) fin.1.elems si xi fin.1.back s),
      )))

  module _ (w : ℕ) (rows : List (List E)) (index : List (Option ℕ)) (cells : List E) (ri : are_rows r w rows ≡ true)
      (t : IsEliminated r (length rows + w) (length rows) (augmented r (length rows) (entry r rows)) index cells) where
    abbrev n : ℕ
    n = length rows

    abbrev table : ℕ → ℕ → E
    table = slot r (n + w) index cells

    table_in : AllIn r table
    table_in = slot_in r h (n + w) index cells t.table.elems

    -- the reduced rows which those of the table give
    pub fin : (finished : ℕ → ℕ → E) × AreFinished r (n + w) (is_lead index) table finished
    fin = finished_exist r inv field (n + w) (is_lead index) table table_in t.table.led

    abbrev slots : ℕ → ℕ → E
    slots = fin.0

    vi : AllIn r (entry r rows)
    vi = rows_in r h.closed.zero_in w rows ri

    abbrev v : ℕ → ℕ → Element r
    v = rows_of r (entry r rows) vi

    si : AllIn r slots
    si = fin.1.elems

    ai : AllIn r (augmented r n (entry r rows))
    ai = augmented_in r h.closed.zero_in h.closed.one_in n (entry r rows) vi

    same_augmented : (i k : ℕ) → rows_of r (augmented r n (entry r rows)) ai i k ≡ augmented_on R n v i k
    same_augmented i k = same_element r _ _ (sym (augmented_value n (entry r rows) vi i k))

    eliminates : Eliminates R n w v (is_lead index) (rows_of r slots si)
    eliminates = record {
      reduced = to_reduced r h (n + w) (is_lead index) slots si fin.1.reduced;
      within = λ j l. span_rows R n _ _ _ (λ i _ k. same_augmented i k) (to_spans r h n (augmented r n (entry r rows)) ai (slots j) (si j)
          (combines_into r h (n + w) n table (augmented r n (entry r rows)) (slots j) table_in ai (si j) t.within (fin.1.back j l)));
      spans = λ x s. span_into R n (n + w) (augmented_on R n v) (rows_of r slots si) x
          (λ i l. span_as R (n + w) _ (row_of r (augmented r n (entry r rows) i) (ai i)) _ (λ k. sym (same_augmented i k))
          (to_spans r h (n + w) slots si (augmented r n (entry r rows) i) (ai i)
          (combines_into r h (n + w) (n + w) table slots (augmented r n (entry r rows) i) table_in si (ai i) fin.1.into (t.holds i l)))) s;
    }

    ne : R.one ≢ R.zero
    ne e = field.one_ne_zero (ap (λ x. x.0) e)

    pub kernel_is : (basis : List (List E))
        → ((finished : ℕ → ℕ → E) → AreFinished r (n + w) (is_lead index) table finished → basis ≡ map (λ j. first_values n (finished j)) (leads (is_lead index) n))
        → IsEchelonBasis r n (IsRelation r rows) basis
    unfolding vi
    kernel_is basis b =
        subst (IsEchelonBasis r n (IsRelation r rows)) (sym (b slots fin.1))
        (basis_of r inv field n (n + w) (is_lead index) slots si fin.1.reduced (λ j. first_values n (slots j))
        (λ j m l. low_shape r n (n + w) (is_lead index) slots si fin.1.reduced j) (λ j m l. low_same r n (n + w) (is_lead index) slots si fin.1.reduced j l)
        (IsRelation r rows) (kernel_spans r inv field w rows ri (is_lead index) slots si eliminates))

    pub dependent_lead : (k : ℕ) → k < n → IsDependent r rows k → is_lead index k ≡ true
    dependent_lead k l s =
        dependent_is_lead R ne n w v (is_lead index) (rows_of r slots si) eliminates k l (to_spans r h k (entry r rows) vi (entry r rows k) (vi k) s)

    -- no lead below `n`: the rows are independent
    pub independent : ((j : ℕ) → j < n → is_lead index j ≡ false) → IsIndependent r rows
    unfolding vi
    independent none c cr e i =
        ap (λ x. x.0)
        (no_relation R n w v (is_lead index) (rows_of r slots si) eliminates (row_of r (coeff r c) (row_in r inv field w rows ri c cr)) (relation_on r inv field w rows ri c (row_in r inv field w rows ri c cr) e) (row_past r inv field w rows ri c cr)
        (λ k l m. absurd (never k l m)) i)
      where
        never : (k : ℕ) → k < n → is_lead index k ≡ true → ⊥
        never k l m = let f = none k l in cc

    pub lead_row : (k : ℕ) → k < n → is_lead index k ≡ true → (j : ℕ) → entry r rows k j ≡ combined r k (λ i. r.neg (slots k i)) (entry r rows) j
    lead_row k l m j =
        ap (λ x. x.0) (lead_depends R ne n w v (is_lead index) (rows_of r slots si) eliminates k l m j)
        ∙ combine_value r h k (λ i. R.neg (slots k i, si k i)) v j

    -- the negatives of the first places of a row, as coefficients
    negatives_shape : (m : ℕ) (u : List E) → length u ≡ m → are_elems r u ≡ true → is_row r m (first_values (length u) (λ k. r.neg (coeff r u k))) ≡ true
    negatives_shape m u len e =
        and_from _ _ (eq-eqb _ m (length-first_values (length u) (λ k. r.neg (coeff r u k)) ∙ len))
        (elems-first_values r (length u) (λ k. r.neg (coeff r u k)) (λ i l. h.closed.neg_in _ (elem_read r u h.closed.zero_in e i)))

    combined_first : (m : ℕ) (c : ℕ → E) (u : List E) (j : ℕ) → ((i : ℕ) → i < m → c i ≡ coeff r u i) → combined r m c (entry r rows) j ≡ combined r m (coeff r u) (entry r rows) j
    combined_first zero c u j e = refl
    combined_first (suc m) c u j e =
        ap₂ r.add (combined_first m c u j (λ i l. e i (omega arith))) (ap (λ a. r.mul a (entry r rows m j)) (e m (omega arith)))

    pub first_dependence_is : (k : ℕ) (u : List E) → k < n → is_lead index k ≡ true → ((j : ℕ) → j < k → is_lead index j ≡ false)
        → length u ≡ k → are_elems r u ≡ true → ((i : ℕ) → i < k → coeff r u i ≡ slots k i)
        → IsFirstDependence r rows k (first_values (length u) (λ i. r.neg (coeff r u i)))
    first_dependence_is k u l m none len ue same = record {
      within = l;
      shape = negatives_shape k u len ue;
      is = λ j. lead_row k l m j ∙ combined_first k _ _ j (λ i b.
          ap r.neg (sym (same i b)) ∙ sym (at-first_values (length u) (λ i. r.neg (coeff r u i)) i r.zero (omega (arith, len, b))));
      least = λ i b s. let e = dependent_lead i (omega arith) s in let f = none i b in absurd (never e f);
    }
      where
        never : {b : Bool} → b ≡ true → b ≡ false → ⊥
        never e f = cc

    -- the row with the first lead is finished as it stands
    first_finished : (k : ℕ) → is_lead index k ≡ true → ((j : ℕ) → j < k → is_lead index j ≡ false) → (m : ℕ) → table k m ≡ slots k m
    first_finished k l none =
        finished_is r h (n + w) (is_lead index) table slots table_in t.table.led fin.1 k l (table k) (table_in k) (taken_none r h k table (table k) table_in (table_in k))
        (λ i b m. absurd (not_both m (none i b)))

    -- the same of the cells of the row with the first lead
    pub first_dependence_from : (k i : ℕ) → k < n → row_number index k ≡ Some i → ((j : ℕ) → j < k → is_lead index j ≡ false)
        → let u = slice_range cells (i * (n + w)) (i * (n + w) + k) in IsFirstDependence r rows k (first_values (length u) (λ m. r.neg (coeff r u m)))
    first_dependence_from k i l e none =
        let u = slice_range cells (i * (n + w)) (i * (n + w) + k) in
        first_dependence_is k u l (ap is_some e) none
        (cut_length (n + w) k cells (omega arith) i (t.table.stored.is k i e))
        (elems_range r h cells (i * (n + w)) (i * (n + w) + k) t.table.elems)
        (λ m b. range_place cells (i * (n + w)) (i * (n + w) + k) m r.zero (omega arith)
        ∙ sym (ap (λ o. coeff r (numbered_cells (n + w) (n + w) cells o) m) e ∙ range_place cells (i * (n + w)) (i * (n + w) + (n + w)) m r.zero (omega arith))
        ∙ first_finished k (ap is_some e) none m)

    module _ (target row : List E) (tr : is_row r w target ≡ true) (d : IsReducedTarget r n (n + w) index cells target row) where
      ti : AreIn r (coeff r target)
      ti = elem_read r target h.closed.zero_in (row_elems r w target tr)

      yi : AreIn r (coeff r row)
      yi = elem_read r row h.closed.zero_in d.elems

      beside_in : AreIn r (beside n (λ _. r.zero) (coeff r target))
      beside_in k = cond_both (nat_lt k n) r.zero (coeff r target (k - n)) (λ a. IsElem r a) (λ _. h.closed.zero_in) (λ _. ti (k - n))

      target_in : AreIn r (minus r (beside n (λ _. r.zero) (coeff r target)) (coeff r row))
      target_in k = h.closed.add_in _ _ (beside_in k) (h.closed.neg_in _ (yi k))

      abbrev t_on : ℕ → Element r
      t_on = row_of r (coeff r target) ti

      abbrev y_on : ℕ → Element r
      y_on = row_of r (coeff r row) yi

      taken_on : Spans R (n + w) (rows_of r slots si) (λ k. R.add (beside n (λ _. R.zero) t_on k) (R.neg (y_on k)))
      taken_on =
          span_as R (n + w) _ (row_of r (minus r (beside n (λ _. r.zero) (coeff r target)) (coeff r row)) target_in) _
          (λ k. same_element r _ _ (ap (λ a. r.add a (r.neg (coeff r row k))) (cond_value r (nat_lt k n) R.zero (t_on (k - n)))))
          (to_spans r h (n + w) slots si _ target_in (combines_into r h (n + w) (n + w) table slots _ table_in si target_in fin.1.into d.taken))

      clear_on : (k : ℕ) → is_lead index k ≡ true → y_on k ≡ R.zero
      clear_on k m = same_element r _ _ (d.clear k m)

      -- nothing is left of the target
      pub solved : ((k : ℕ) → n ≤ k → coeff r row k ≡ r.zero) → (u : List E) → length u ≡ n → are_elems r u ≡ true → ((i : ℕ) → i < n → coeff r u i ≡ coeff r row i)
          → IsSolution r rows target (first_values (length u) (λ i. r.neg (coeff r u i)))
      solved none u len ue same =
          let at = λ (i : ℕ) (b : i < n). at-first_values (length u) (λ i. r.neg (coeff r u i)) i r.zero (omega (arith, len, b)) ∙ ap r.neg (same i b) in
          record {
            shape = negatives_shape n u len ue;
            is = λ j.
                ap (λ x. x.0) (solution R n w v (is_lead index) (rows_of r slots si) eliminates t_on y_on taken_on clear_on (λ k l. same_element r _ _ (none k l)) j)
                ∙ combine_value r h n (λ i. R.neg (y_on i)) v j ∙ combined_first n _ _ j (λ i b. sym (at i b));
            zero = λ k l s. at k l ∙ ap r.neg (d.clear k (dependent_lead k l s)) ∙ ap (λ x. x.0) (neg_zero R);
          }

      -- something is left of the target
      pub unsolved : (((k : ℕ) → n ≤ k → coeff r row k ≡ r.zero) → ⊥) → IsCombination r rows target → ⊥
      unsolved never s =
          let on = to_spans r h n (entry r rows) vi (coeff r target) ti s in
          never (λ k l. ap (λ x. x.0) (nothing_left R n w v (is_lead index) (rows_of r slots si) eliminates t_on y_on taken_on clear_on on.by on.is k l))
