-- The relations of rows, by reduced rows with the span of the rows with the unit matrix before them.
use Rattle.std.proofs.Common.{◌≡◌, ℕ, ◌≤◌, ◌↔◌, Option, Bool, true, List, length, sym, ◌∙◌, ap, arith}
use Rattle.ring_core.specs.Ring.{RingOps, IsRing}
use Rattle.ring_core.specs.Field.{IsField}
use Rattle.ring_core.specs.Coeffs.{coeff}
use Rattle.ring_core.proofs.Carrier.{RingOn, Element, elements, same_element}
use Rattle.ring_core.proofs.Coefficients.{elem_read, coeff_past}
use Rattle.linear_algebra.specs.Combines.{Combines}
use Rattle.linear_algebra.specs.Linear.{entry, is_row, are_rows, IsRelation}
use Rattle.linear_algebra.proofs.Sums.{combine}
use Rattle.linear_algebra.proofs.Augment.{Eliminates, all_relations, relations_span}
use Rattle.linear_algebra.proofs.Lift.{AllIn, AreIn, row_of, rows_of, to_spans, from_spans, combine_value}
use Rattle.linear_algebra.proofs.RowLists.{row_len, row_elems, rows_in}

module _ {E : Type 0} (r : RingOps E) (inv : E → Option E) (field : IsField r inv) (w : ℕ) (rows : List (List E)) (ri : are_rows r w rows ≡ true) where
  abbrev h : IsRing r
  h = field.ring

  abbrev R : RingOn (Element r)
  R = elements h

  abbrev n : ℕ
  n = length rows

  abbrev v : ℕ → ℕ → Element r
  v = rows_of r (entry r rows) (rows_in r h.closed.zero_in w rows ri)

  -- relations in the ring of elements
  pub relation_on : (c : List E) (ci : AreIn r (coeff r c)) → IsRelation r rows c → (j : ℕ) → combine R n (row_of r (coeff r c) ci) v j ≡ R.zero
  relation_on c ci e j = same_element r _ _ (combine_value r h n (row_of r (coeff r c) ci) v j ∙ e j)

  pub row_in : (c : List E) → is_row r n c ≡ true → AreIn r (coeff r c)
  row_in c cr = elem_read r c h.closed.zero_in (row_elems r n c cr)

  pub row_past : (c : List E) (cr : is_row r n c ≡ true) (k : ℕ) → n ≤ k → row_of r (coeff r c) (row_in c cr) k ≡ R.zero
  row_past c cr k l = same_element r _ _ (coeff_past r c k (omega (arith, row_len r n c cr, l)))

  pub kernel_spans : (lead : ℕ → Bool) (slots : ℕ → ℕ → E) (si : AllIn r slots) → Eliminates R n w v lead (rows_of r slots si)
      → (c : List E) → is_row r n c ≡ true → IsRelation r rows c ↔ Combines r n slots (coeff r c)
  kernel_spans lead slots si e c cr =
      let ci = row_in c cr in (
        λ p. from_spans r h n slots si (coeff r c) ci
            (all_relations R n w v lead (rows_of r slots si) e (row_of r (coeff r c) ci) (relation_on c ci p) (row_past c cr)),
        λ s j. sym (combine_value r h n (row_of r (coeff r c) ci) v j)
            ∙ ap (λ x. x.0) (relations_span R n w v lead (rows_of r slots si) e (row_of r (coeff r c) ci) (to_spans r h n slots si (coeff r c) ci s) j),
      )
