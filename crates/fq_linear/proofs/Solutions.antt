-- What the definitions alone decide: echelon rows by their combinations, and solutions with zeros at the
-- dependent rows.
use Rattle.linear_algebra.proofs.RowLists.{row_len, row_elems, rows_in, same_row, rows_at}
use Rattle.std.proofs.Common.{◌≡◌, ◌≢◌, ℕ, zero, suc, ◌<◌, ◌≤◌, ◌↔◌, ◌⊎◌, inl, inr, Option, Some, None, MatchOption, true, List, [], length, sym, ◌∙◌, ap, subst, arith, eq-eqb, ext_get_or}
use Rattle.std.proofs.lemmas.Bool.{and_from, cases_lt}
use Rattle.ring_core.specs.Ring.{RingOps, IsElem, IsRing}
use Rattle.ring_core.specs.Field.{IsField}
use Rattle.ring_core.specs.Coeffs.{coeff, first_values}
use Rattle.ring_core.proofs.Carrier.{RingOn, Element, elements, same_element, minus_same}
use Rattle.ring_core.proofs.Coefficients.{elem_read, coeff_past, elems-first_values}
use Rattle.ring_core.proofs.FirstValues.{length-first_values, at-first_values}
use Rattle.linear_algebra.specs.Combines.{combined}
use Rattle.linear_algebra.specs.Linear.{row_at, entry, is_row, are_rows, lead, IsCombination, IsOnlyCombination, IsDependent, IsEchelon, IsFirstDependence, IsSolution}
use Rattle.linear_algebra.proofs.Sums.{combine, combine_add, combine_neg}
use Rattle.linear_algebra.proofs.Spans.{Spans, minus_self}
use Rattle.linear_algebra.proofs.Augment.{Depends, zero_from}
use Rattle.linear_algebra.proofs.Echelon.{Rising, one_combination, same_count_below, same_count_back, same_members}
use Rattle.linear_algebra.proofs.Lift.{AllIn, row_of, rows_of, to_spans, from_spans, combines_row, combine_value, combined_by}
use Rattle.fq_linear.proofs.Leads.{lead_above}

-- The inverse of each element that is not zero.
inverse_of : {E : Type 0} (r : RingOps E) (inv : E → Option E) (field : IsField r inv) (a : Element r) (o : Option E)
    → MatchOption o (a.0 ≡ r.zero) (λ b. IsElem r b × (r.mul a.0 b ≡ r.one))
    → (a ≡ (elements field.ring).zero) ⊎ ((b : Element r) × ((elements field.ring).mul b a ≡ (elements field.ring).one))
inverse_of r inv field a None m = inl (same_element r _ _ m)
inverse_of r inv field a (Some b) m = inr ((b, m.0), same_element r _ _ (field.mul_comm b a.0 m.0 a.1 ∙ m.1))

pub inverse : {E : Type 0} (r : RingOps E) (inv : E → Option E) (field : IsField r inv) (a : Element r)
    → (a ≡ (elements field.ring).zero) ⊎ ((b : Element r) × ((elements field.ring).mul b a ≡ (elements field.ring).one))
inverse r inv field a = inverse_of r inv field a (inv a.0) (field.inv_is a.0 a.1)

at_most : (n m : ℕ) → ((i : ℕ) → i < n → i < m) → n ≤ m
at_most zero m f = omega arith
at_most (suc n) m f = let l = f n (omega arith) in omega (arith, l)

-- echelon rows as rising rows
rising_rows : {E : Type 0} (r : RingOps E) (h : IsRing r) (w : ℕ) (a : List (List E)) (ai : are_rows r w a ≡ true) → IsEchelon r a
    → Rising (elements h) (length a) (λ i. lead r (row_at a i)) (rows_of r (entry r a) (rows_in r h.closed.zero_in w a ai))
rising_rows r h w a ai e = record {
  rising = e.rising;
  one = λ i l. same_element r _ _ (e.one i l);
  above = λ i k l b. same_element r _ _ (lead_above r h (row_at a i) k (row_elems r w (row_at a i) (rows_at r w a ai i l)) b);
  apart = λ i k l m d. same_element r _ _ (e.apart i k l m d);
}

-- each row of `a` is a combination of `b`
rows_into : {E : Type 0} (r : RingOps E) (h : IsRing r) (w : ℕ) (a b : List (List E)) (ai : are_rows r w a ≡ true) (bi : are_rows r w b ≡ true)
    → ((x : List E) → is_row r w x ≡ true → IsCombination r a x → IsCombination r b x) → (i : ℕ) → i < length a
    → Spans (elements h) (length b) (rows_of r (entry r b) (rows_in r h.closed.zero_in w b bi)) (rows_of r (entry r a) (rows_in r h.closed.zero_in w a ai) i)
rows_into r h w a b ai bi f i l =
    let az = rows_in r h.closed.zero_in w a ai in
    to_spans r h (length b) (entry r b) (rows_in r h.closed.zero_in w b bi) (entry r a i) (az i)
    (f (row_at a i) (rows_at r w a ai i l) (combines_row r h (length a) (entry r a) az i l))

pub same_basis : {E : Type 0} (r : RingOps E) (inv : E → Option E) (field : IsField r inv) (w : ℕ) (a b : List (List E)) → are_rows r w a ≡ true → are_rows r w b ≡ true
    → IsEchelon r a → IsEchelon r b → ((x : List E) → is_row r w x ≡ true → IsCombination r a x ↔ IsCombination r b x) → a ≡ b
same_basis {E} r inv field w a b ai bi ea eb f =
    let up = at_most (length a) (length b) (same_count_below R ne (length a) (length b) pa pb ra rb ha hb into back) in
    let down = at_most (length b) (length a) (same_count_back R ne (length a) (length b) pa pb ra rb ha hb into back) in
    ext_get_or [] a b (omega (arith, up, down)) (λ i l.
    same_row r w (row_at a i) (row_at b i) (rows_at r w a ai i l) (rows_at r w b bi i (omega (arith, up, l)))
    (λ k. ap (λ x. x.0) (same_members R ne (length a) (length b) pa pb ra rb ha hb into back i k l)))
  where
    h : IsRing r
    h = field.ring

    R : RingOn (Element r)
    R = elements h

    ne : R.one ≢ R.zero
    ne e = field.one_ne_zero (ap (λ x. x.0) e)

    pa : ℕ → ℕ
    pa i = lead r (row_at a i)

    pb : ℕ → ℕ
    pb i = lead r (row_at b i)

    ra : ℕ → ℕ → Element r
    ra = rows_of r (entry r a) (rows_in r h.closed.zero_in w a ai)

    rb : ℕ → ℕ → Element r
    rb = rows_of r (entry r b) (rows_in r h.closed.zero_in w b bi)

    ha : Rising R (length a) pa ra
    ha = rising_rows r h w a ai ea

    hb : Rising R (length b) pb rb
    hb = rising_rows r h w b bi eb

    into : (i : ℕ) → i < length a → Spans R (length b) rb (ra i)
    into = rows_into r h w a b ai bi (λ x xr s. (f x xr).0 s)

    back : (i : ℕ) → i < length b → Spans R (length a) ra (rb i)
    back = rows_into r h w b a bi ai (λ x xr s. (f x xr).1 s)

-- The one list of coefficients of a combination of echelon rows.
pub only_combination : {E : Type 0} (r : RingOps E) (h : IsRing r) (w : ℕ) (rows : List (List E)) (x : List E) → are_rows r w rows ≡ true → IsEchelon r rows
    → IsCombination r rows x → (c : List E) × IsOnlyCombination r rows x c
only_combination {E} r h w rows x ri e s = (
  list,
  record {
    shape = shape;
    is = is;
    only = λ d di sum. same_row r n d list di shape (λ k. ap (λ y. y.0) (same d di sum k));
  },
)
  where
    n : ℕ
    n = length rows

    list : List E
    list = first_values n s.by

    shape : is_row r n list ≡ true
    shape = and_from _ _ (eq-eqb _ n (length-first_values n s.by)) (elems-first_values r n s.by (λ i l. s.elems i))

    is : (j : ℕ) → coeff r x j ≡ combined r n (coeff r list) (entry r rows) j
    is j = s.is j ∙ combined_by r h n s.by (coeff r list) (entry r rows) j (λ i l. sym (at-first_values n s.by i r.zero l))

    members : ℕ → ℕ → Element r
    members = rows_of r (entry r rows) (rows_in r h.closed.zero_in w rows ri)

    coefficients : (d : List E) → is_row r n d ≡ true → ℕ → Element r
    coefficients d di = row_of r (coeff r d) (elem_read r d h.closed.zero_in (row_elems r n d di))

    gives : (d : List E) (di : is_row r n d ≡ true) → ((j : ℕ) → coeff r x j ≡ combined r n (coeff r d) (entry r rows) j)
        → (j : ℕ) → (combine (elements h) n (coefficients d di) members j).0 ≡ coeff r x j
    gives d di sum j = combine_value r h n (coefficients d di) members j ∙ sym (sum j)

    same : (d : List E) (di : is_row r n d ≡ true) → ((j : ℕ) → coeff r x j ≡ combined r n (coeff r d) (entry r rows) j)
        → (k : ℕ) → coefficients d di k ≡ coefficients list shape k
    same d di sum k = elim (cases_lt k n) [
      | inl l ↦
          one_combination (elements h) n (λ i. lead r (row_at rows i)) members (rising_rows r h w rows ri e) (coefficients d di) (coefficients list shape)
          (λ j. same_element r _ _ (gives d di sum j ∙ sym (gives list shape is j))) k l
      | inr l ↦
          same_element r _ _
          (coeff_past r d k (omega (arith, row_len r n d di, l)) ∙ sym (coeff_past r list k (omega (arith, row_len r n list shape, l))))
    ]

module _ {E : Type 0} (r : RingOps E) (inv : E → Option E) (field : IsField r inv) where
  abbrev R : RingOn (Element r)
  R = elements field.ring

  -- Coefficients with one combination are equal where they are at the rows that depend on the rows before them.
  same_coefficients : (n : ℕ) (v : ℕ → ℕ → Element r) (cs ds : ℕ → Element r) → ((j : ℕ) → combine R n cs v j ≡ combine R n ds v j)
      → ((k : ℕ) → k < n → Depends R v k → cs k ≡ ds k) → ((i : ℕ) → n ≤ i → cs i ≡ ds i) → (i : ℕ) → cs i ≡ ds i
  same_coefficients n v cs ds same at_dependent past i =
      minus_same R (cs i) (ds i)
      (zero_from R (inverse r inv field) n v (λ k. R.add (cs k) (R.neg (ds k)))
      (λ j.
      combine_add R n cs (λ k. R.neg (ds k)) v j ∙ ap (R.add (combine R n cs v j)) (combine_neg R n ds v j)
      ∙ minus_self R _ _ (same j))
      (λ k l s. minus_self R _ _ (at_dependent k l s)) n (omega arith) (λ k l. minus_self R _ _ (past k l)) i)

  module _ (w : ℕ) (rows : List (List E)) (rowsi : are_rows r w rows ≡ true) where
    abbrev v : ℕ → ℕ → Element r
    v = rows_of r (entry r rows) (rows_in r field.ring.closed.zero_in w rows rowsi)

    abbrev coefficients : (n : ℕ) (u : List E) → is_row r n u ≡ true → ℕ → Element r
    coefficients n u ui = row_of r (coeff r u) (elem_read r u field.ring.closed.zero_in (row_elems r n u ui))

    same_past : (n : ℕ) (c d : List E) → is_row r n c ≡ true → is_row r n d ≡ true → (i : ℕ) → n ≤ i → coeff r c i ≡ coeff r d i
    same_past n c d ci di i l =
        coeff_past r c i (omega (arith, row_len r n c ci, l)) ∙ sym (coeff_past r d i (omega (arith, row_len r n d di, l)))

    -- the lists `c` and `d` give `x` as combinations of the first `n` rows
    same_list : (n : ℕ) (x : ℕ → E) (c d : List E) (ci : is_row r n c ≡ true) (di : is_row r n d ≡ true)
        → ((j : ℕ) → x j ≡ combined r n (coeff r c) (entry r rows) j) → ((j : ℕ) → x j ≡ combined r n (coeff r d) (entry r rows) j)
        → ((k : ℕ) → k < n → IsDependent r rows k → coeff r c k ≡ coeff r d k) → c ≡ d
    same_list n x c d ci di sum_c sum_d at_dependent =
        same_row r n c d ci di (λ i.
        ap (λ y. y.0)
        (same_coefficients n v (coefficients n c ci) (coefficients n d di)
        (λ j. same_element r _ _ (gives c ci sum_c j ∙ sym (gives d di sum_d j)))
        (λ k l s. same_element r _ _ (at_dependent k l (from_spans r field.ring k (entry r rows) into (entry r rows k) (into k) s)))
        (λ k l. same_element r _ _ (same_past n c d ci di k l)) i))
      where
        into : AllIn r (entry r rows)
        into = rows_in r field.ring.closed.zero_in w rows rowsi

        gives : (u : List E) (ui : is_row r n u ≡ true) → ((j : ℕ) → x j ≡ combined r n (coeff r u) (entry r rows) j)
            → (j : ℕ) → (combine R n (coefficients n u ui) v j).0 ≡ x j
        gives u ui sum j = combine_value r field.ring n (coefficients n u ui) v j ∙ sym (sum j)

    pub same_solution : (target c d : List E) → IsSolution r rows target c → IsSolution r rows target d → c ≡ d
    same_solution target c d sc sd =
        same_list (length rows) (coeff r target) c d sc.shape sd.shape sc.is sd.is (λ k l s. sc.zero k l s ∙ sym (sd.zero k l s))

    -- the row of the first dependence is a combination of the rows before it
    dependent : (k : ℕ) (c : List E) → IsFirstDependence r rows k c → IsDependent r rows k
    dependent k c s = record {
      by = coeff r c;
      elems = elem_read r c field.ring.closed.zero_in (row_elems r k c s.shape);
      is = s.is;
    }

    same_place : (k l : ℕ) (c d : List E) → IsFirstDependence r rows k c → IsFirstDependence r rows l d → k ≡ l
    same_place k l c d sc sd = elim (cases_lt k l) [
      | inl low ↦ absurd (sd.least k low (dependent k c sc))
      | inr not_low ↦ elim (cases_lt l k) [
        | inl high ↦ absurd (sc.least l high (dependent l d sd))
        | inr not_high ↦ omega arith
      ]
    ]

    pub same_dependence : (k l : ℕ) (c d : List E) → IsFirstDependence r rows k c → IsFirstDependence r rows l d → (k ≡ l) × (c ≡ d)
    same_dependence k l c d sc sd =
        let e = same_place k l c d sc sd in
        (e, at_one (subst (λ m. IsFirstDependence r rows m d) (sym e) sd))
      where
        at_one : IsFirstDependence r rows k d → c ≡ d
        at_one s = same_list k (entry r rows k) c d sc.shape s.shape sc.is s.is (λ i l t. absurd (sc.least i l t))
