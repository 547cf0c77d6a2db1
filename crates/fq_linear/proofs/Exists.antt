-- Rows have reduced rows with the same combinations, and so there is an echelon basis of their relations. Nothing is
-- computed: the rows are inserted one after another, as functions of the place.
use Rattle.std.proofs.Common.{◌≡◌, ◌≢◌, ℕ, zero, suc, ◌+◌, ◌-◌, ◌<◌, ◌≤◌, ◌⊎◌, inl, inr, Option, Bool, true, false, cond, nat_eq, List, length, map, refl, sym, ◌∙◌, ap, arith, eq-eqb, ne_eqb}
use Rattle.ring_core.specs.Ring.{RingOps, IsRing}
use Rattle.ring_core.specs.Field.{IsField}
use Rattle.ring_core.specs.Coeffs.{first_values}
use Rattle.ring_core.proofs.Carrier.{RingOn, Element, elements, same_element, mul_zero}
use Rattle.ring_core.proofs.Coefficients.{coeff_past}
use Rattle.linear_algebra.specs.Linear.{row_at, entry, are_rows, IsRelation, IsEchelonBasis}
use Rattle.linear_algebra.specs.steps.Slots.{AreReducedSlots}
use Rattle.linear_algebra.proofs.Sums.{combine, unit, total_zero, total_single, by_bool, same_or_other}
use Rattle.linear_algebra.proofs.Spans.{Spans, minus_self, minus_plus, span_zero, span_add, span_scale, span_minus, span_row, span_into, span_as}
use Rattle.linear_algebra.proofs.Slots.{Reduced}
use Rattle.linear_algebra.proofs.Insert.{Joins, IsJoined, inserted_reduced, inserted_within, old_spanned, new_spanned}
use Rattle.linear_algebra.proofs.Augment.{augmented, Eliminates, beside_past}
use Rattle.linear_algebra.proofs.Gather.{leads}
use Rattle.linear_algebra.proofs.Lift.{AllIn, rows_of, from_reduced}
use Rattle.linear_algebra.proofs.RowLists.{row_len, rows_at, rows_in}
use Rattle.fq_linear.proofs.Gathered.{low_shape, low_same}
use Rattle.fq_linear.proofs.Basis.{basis_of}
use Rattle.fq_linear.proofs.Relations.{kernel_spans}
use Rattle.fq_linear.proofs.Solutions.{inverse}

-- Reduced rows of the width `w` with the combinations of the first `m` rows.
pub record HasReduced {M : Type 0} (R : RingOn M) (w m : ℕ) (v : ℕ → ℕ → M) : Type 0 where
  pub lead : ℕ → Bool
  pub slots : ℕ → ℕ → M
  pub reduced : Reduced R w lead slots
  pub within : (j : ℕ) → j < w → Spans R m v (slots j)
  pub holds : (i : ℕ) → i < m → Spans R w slots (v i)

-- The highest member that is not zero, with its inverse.
record HasTop {M : Type 0} (R : RingOn M) (n : ℕ) (y : ℕ → M) : Type 0 where
  at : ℕ
  within : at < n
  factor : M
  is : R.mul factor (y at) ≡ R.one
  above : (k : ℕ) → at < k → y k ≡ R.zero

module _ {M : Type 0} (R : RingOn M) (inverse : (a : M) → (a ≡ R.zero) ⊎ ((b : M) × (R.mul b a ≡ R.one))) where
  -- a row with zeros from `n` on is zero or has a highest member
  top : (n : ℕ) (y : ℕ → M) → ((k : ℕ) → n ≤ k → y k ≡ R.zero) → ((k : ℕ) → y k ≡ R.zero) ⊎ HasTop R n y
  top zero y past = inl (λ k. past k (omega arith))
  top (suc n) y past = elim (inverse (y n)) [
    | inl z ↦ elim (top n y (λ k l. elim (same_or_other k n) [
      | inl e ↦ ap y e ∙ z
      | inr d ↦ past k (omega (arith, l, d))
    ])) [
      | inl all ↦ inl all
      | inr t ↦ let low = t.within in inr (record { at = t.at; within = omega (arith, low); factor = t.factor; is = t.is; above = t.above })
    ]
    | inr s ↦ inr (record { at = n; within = omega arith; factor = s.0; is = s.1; above = λ k l. past k (omega (arith, l)) })
  ]

  module _ (comm : (a b : M) → R.mul a b ≡ R.mul b a) (distinct : R.one ≢ R.zero) (w : ℕ) (v : ℕ → ℕ → M) where
    none : HasReduced R w 0 v
    none = record {
      lead = λ j. false;
      slots = λ j k. R.zero;
      reduced = record {
        within = λ j e. absurd (never e);
        absent = λ j k e. refl;
        one = λ j e. absurd (never e);
        above = λ j k l. refl;
        apart = λ j k e d. refl;
      };
      within = λ j l. span_zero R 0 v (λ k. R.zero) (λ k. refl);
      holds = λ i l. absurd (omega arith);
    }
      where
        never : false ≡ true → ⊥
        never e = cc

    -- one more row is inserted: it is reduced by those before it, and what is left joins them
    module _ (m : ℕ) (h : HasReduced R w m v) (past : (k : ℕ) → w ≤ k → v m k ≡ R.zero) where
      abbrev before : ℕ → ℕ → M
      before = h.slots

      abbrev taken : ℕ → M
      taken = combine R w (v m) before

      abbrev left : ℕ → M
      left k = R.add (v m k) (R.neg (taken k))

      -- a combination has at a lead the coefficient of the row there
      taken_at : (k : ℕ) → h.lead k ≡ true → taken k ≡ v m k
      taken_at k l =
          total_single R w k _ (h.reduced.within k l) (λ i _ ne. ap (R.mul (v m i)) (h.reduced.apart i k l ne) ∙ mul_zero R (v m i))
          ∙ ap (R.mul (v m k)) (h.reduced.one k l) ∙ R.mul_one (v m k)

      left_clear : (k : ℕ) → h.lead k ≡ true → left k ≡ R.zero
      left_clear k l = minus_self R (v m k) (taken k) (sym (taken_at k l))

      left_past : (k : ℕ) → w ≤ k → left k ≡ R.zero
      left_past k l =
          minus_self R (v m k) (taken k)
          (past k l ∙ sym (total_zero R w _ (λ j b. ap (R.mul (v m j)) (h.reduced.above j k (omega (arith, b, l))) ∙ mul_zero R (v m j))))

      whole : (k : ℕ) → v m k ≡ R.add (left k) (taken k)
      whole k = sym (minus_plus R (v m k) (taken k))

      wider : (j : ℕ) → j < w → Spans R (suc m) v (before j)
      wider j l = span_into R m (suc m) v v (before j) (λ i b. span_row R (suc m) v i (omega (arith, b))) (h.within j l)

      taken_old : Spans R w before taken
      taken_old = record { by = v m; is = λ k. refl }

      -- nothing is left
      spanned : ((k : ℕ) → left k ≡ R.zero) → HasReduced R w (suc m) v
      spanned z = record {
        lead = h.lead;
        slots = before;
        reduced = h.reduced;
        within = wider;
        holds = λ i l. elim (same_or_other i m) [
          | inl e ↦ span_as R w before taken (v i) (λ k. ap (λ j. v j k) e ∙ whole k ∙ ap (λ a. R.add a (taken k)) (z k) ∙ R.zero_add (taken k)) taken_old
          | inr d ↦ h.holds i (omega (arith, l, d))
        ];
      }

      -- what is left has its highest member at `l`
      module _ (t : HasTop R w left) where
        abbrev l : ℕ
        l = t.at

        abbrev y : ℕ → M
        y k = R.mul t.factor (left k)

        abbrev mark : ℕ → Bool
        mark j = cond (nat_eq j l) true (h.lead j)

        abbrev after : ℕ → ℕ → M
        after j k = cond (nat_eq j l) (y k) (R.add (before j k) (R.neg (R.mul (before j l) (y k))))

        joins : Joins R w h.lead l y
        joins = record {
          within = t.within;
          one = t.is;
          above = λ k b. ap (R.mul t.factor) (t.above k b) ∙ mul_zero R t.factor;
          clear = λ k e. ap (R.mul t.factor) (left_clear k e) ∙ mul_zero R t.factor;
        }

        joined : IsJoined R h.lead l y before mark after
        joined = record {
          marked = ap (λ b. cond b true (h.lead l)) (eq-eqb l l refl);
          kept = λ j d. ap (λ b. cond b true (h.lead j)) (ne_eqb j l d);
          new = λ k. ap (λ b. cond b (y k) (R.add (before l k) (R.neg (R.mul (before l l) (y k))))) (eq-eqb l l refl);
          old = λ j k d. ap (λ b. cond b (y k) (R.add (before j k) (R.neg (R.mul (before j l) (y k))))) (ne_eqb j l d);
        }

        free : h.lead l ≡ false
        free = by_bool (h.lead l) (λ e. absurd (distinct (sym t.is ∙ joins.clear l e))) (λ e. e)

        kept : (x : ℕ → M) → Spans R w before x → Spans R w after x
        kept x s = span_into R w w before after x (old_spanned R w h.lead l y before mark after h.reduced joins joined free) s

        -- left = (left at l) y
        back : (k : ℕ) → left k ≡ R.mul (left l) (y k)
        back k = sym (sym (R.mul_assoc (left l) t.factor (left k)) ∙ ap (λ a. R.mul a (left k)) (comm (left l) t.factor ∙ t.is) ∙ R.one_mul (left k))

        inserted : HasReduced R w (suc m) v
        inserted = record {
          lead = mark;
          slots = after;
          reduced = inserted_reduced R w h.lead l y before mark after h.reduced joins joined;
          within = inserted_within R w h.lead l y before mark after h.reduced joins joined (suc m) v wider
              (span_scale R (suc m) v t.factor left
              (span_minus R (suc m) v (v m) taken (span_row R (suc m) v m (omega arith)) (span_into R w (suc m) before v taken wider taken_old)));
          holds = λ i b. elim (same_or_other i m) [
            | inl e ↦
                span_as R w after (λ k. R.add (R.mul (left l) (y k)) (taken k)) (v i)
                (λ k. ap (λ j. v j k) e ∙ whole k ∙ ap (λ a. R.add a (taken k)) (back k))
                (span_add R w after _ taken
                (span_scale R w after (left l) y (new_spanned R w h.lead l y before mark after h.reduced joins joined)) (kept taken taken_old))
            | inr d ↦ kept (v i) (h.holds i (omega (arith, b, d)))
          ];
        }

      more : HasReduced R w (suc m) v
      more = elim (top w left left_past) [
        | inl z ↦ spanned z
        | inr t ↦ inserted t
      ]

    -- the rows have reduced rows
    pub reduced_exist : (m : ℕ) → ((i k : ℕ) → i < m → w ≤ k → v i k ≡ R.zero) → HasReduced R w m v
    reduced_exist zero past = none
    reduced_exist (suc m) past = more m (reduced_exist m (λ i k l. past i k (omega (arith, l)))) (λ k. past m k (omega arith))

module _ {E : Type 0} (r : RingOps E) (inv : E → Option E) (field : IsField r inv) (w : ℕ) (rows : List (List E)) (ri : are_rows r w rows ≡ true) where
  abbrev h : IsRing r
  h = field.ring

  abbrev R : RingOn (Element r)
  R = elements h

  abbrev n : ℕ
  n = length rows

  abbrev v : ℕ → ℕ → Element r
  v = rows_of r (entry r rows) (rows_in r h.closed.zero_in w rows ri)

  past : (i k : ℕ) → i < n → n + w ≤ k → augmented R n v i k ≡ R.zero
  past i k l far =
      let len = row_len r w (row_at rows i) (rows_at r w rows ri i l) in
      beside_past n (unit R i) (v i) k (omega (arith, far)) ∙ same_element r _ _ (coeff_past r (row_at rows i) (k - n) (omega (arith, len, far)))

  -- the rows, with the unit matrix before them, have reduced rows
  eliminated : HasReduced R (n + w) n (augmented R n v)
  eliminated =
      reduced_exist R (inverse r inv field) (λ a b. same_element r _ _ (field.mul_comm a.0 b.0 a.1 b.1)) (λ e. field.one_ne_zero (ap (λ x. x.0) e))
      (n + w) (augmented R n v) n past

  abbrev slots : ℕ → ℕ → E
  slots j k = (eliminated.slots j k).0

  abbrev si : AllIn r slots
  si j k = (eliminated.slots j k).1

  eliminates : Eliminates R n w v eliminated.lead (rows_of r slots si)
  eliminates = record {
    reduced = eliminated.reduced;
    within = eliminated.within;
    spans = λ x s. span_into R n (n + w) (augmented R n v) eliminated.slots x eliminated.holds s;
  }

  -- the first members of a row of these
  abbrev low : ℕ → List E
  low j = first_values n (slots j)

  abbrev basis : List (List E)
  basis = map low (leads eliminated.lead n)

  is_reduced : AreReducedSlots r (n + w) eliminated.lead slots
  is_reduced = from_reduced r h (n + w) eliminated.lead slots si eliminated.reduced

  -- There is an echelon basis of the relations.
  pub relations_exist : (basis : List (List E)) × IsEchelonBasis r n (IsRelation r rows) basis
  relations_exist = (
    basis,
    basis_of r inv field n (n + w) eliminated.lead slots si is_reduced
        low (λ j m l. low_shape r n (n + w) eliminated.lead slots si is_reduced j) (λ j m l. low_same r n (n + w) eliminated.lead slots si is_reduced j l) (IsRelation r rows) (kernel_spans r inv field w rows ri eliminated.lead slots si eliminates),
  )
