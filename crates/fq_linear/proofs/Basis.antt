-- Reduced rows in the order of their leads are an echelon basis.
use Rattle.linear_algebra.proofs.RowLists.{row_elems, rows_by_places, rows_in}
use Rattle.std.proofs.Common.{◌≡◌, ℕ, ◌<◌, ◌↔◌, Option, Bool, true, List, [], length, map, nat_lt, sym, ◌∙◌, ap, subst, arith, ltb-true, ltb-false}
use Rattle.ring_core.specs.Ring.{RingOps}
use Rattle.ring_core.specs.Field.{IsField}
use Rattle.ring_core.specs.Coeffs.{coeff}
use Rattle.ring_core.proofs.Carrier.{elements, same_element}
use Rattle.ring_core.proofs.Coefficients.{elem_read}
use Rattle.linear_algebra.specs.Combines.{Combines}
use Rattle.linear_algebra.specs.steps.Slots.{AreReducedSlots}
use Rattle.linear_algebra.specs.Linear.{row_at, entry, is_row, are_rows, lead, IsEchelon, IsEchelonBasis}
use Rattle.linear_algebra.proofs.Sums.{by_bool}
use Rattle.linear_algebra.proofs.Gather.{leads, lead_number, AreLeads, are_leads, spans_leads}
use Rattle.linear_algebra.proofs.Lift.{AllIn, AreIn, row_of, rows_of, to_spans, from_spans, combines_into, combines_row, combines_as, combines_rows}
use Rattle.fq_linear.proofs.Leads.{at_map, length_map, lead_is}

module _ {E : Type 0} (r : RingOps E) (inv : E → Option E) (field : IsField r inv) (n w : ℕ) (mark : ℕ → Bool) (slots : ℕ → ℕ → E) (si : AllIn r slots)
    (g : AreReducedSlots r w mark slots) (f : ℕ → List E)
    (shape : (j : ℕ) → mark j ≡ true → j < n → is_row r n (f j) ≡ true)
    (same : (j : ℕ) → mark j ≡ true → j < n → (k : ℕ) → coeff r (f j) k ≡ slots j k) where
  abbrev basis : List (List E)
  basis = map f (leads mark n)

  abbrev place : ℕ → ℕ
  place i = lead_number mark n i

  al : AreLeads mark n (leads mark n)
  al = are_leads mark n

  len : length basis ≡ length (leads mark n)
  len = length_map f (leads mark n)

  row_is : (i : ℕ) → i < length (leads mark n) → row_at basis i ≡ f (place i)
  row_is i l = at_map f (leads mark n) i [] l

  entry_is : (i : ℕ) → i < length (leads mark n) → (k : ℕ) → entry r basis i k ≡ slots (place i) k
  entry_is i l k = ap (λ u. coeff r u k) (row_is i l) ∙ same (place i) (al.marked i l) (al.below i l) k

  lead_at : (i : ℕ) → i < length (leads mark n) → lead r (row_at basis i) ≡ place i
  lead_at i l =
      let m = al.marked i l in
      let b = al.below i l in
      ap (lead r) (row_is i l)
      ∙ lead_is r field.ring (f (place i)) (place i) (row_elems r n (f (place i)) (shape (place i) m b))
      (λ e. field.one_ne_zero (sym (same (place i) m b (place i) ∙ g.one (place i) m) ∙ e))
      (λ k t. same (place i) m b k ∙ g.above (place i) k t)

  inside : (i : ℕ) → i < length basis → i < length (leads mark n)
  inside i l = omega (arith, len, l)

  other : (i k : ℕ) → i < length (leads mark n) → k < length (leads mark n) → (i ≡ k → ⊥) → place i ≡ place k → ⊥
  other i k a b d e = by_bool (nat_lt i k)
      (λ t. let u = al.rising i k (ltb-true i k t) b in omega (arith, u, e))
      (λ t. let far : k < i = omega (arith, ltb-false i k t, d) in let u = al.rising k i far a in omega (arith, u, e))

  is_echelon : IsEchelon r basis
  is_echelon = record {
    rising = λ i k t l.
        let b = inside k l in
        let a : i < length (leads mark n) = omega (arith, b, t) in
        let u = al.rising i k t b in
        omega (arith, lead_at i a, lead_at k b, u);
    one = λ i l. let a = inside i l in ap (entry r basis i) (lead_at i a) ∙ entry_is i a (place i) ∙ g.one (place i) (al.marked i a);
    apart = λ i k l m d.
        let a = inside i l in
        let b = inside k m in
        ap (entry r basis i) (lead_at k b) ∙ entry_is i a (place k) ∙ g.apart (place i) (place k) (al.marked k b) (other i k a b d);
  }

  is_shape : are_rows r n basis ≡ true
  is_shape = rows_by_places r n basis (λ i l. let a = inside i l in ap (is_row r n) (row_is i a) ∙ shape (place i) (al.marked i a) (al.below i a))

  into_basis : (x : ℕ → E) → AreIn r x → Combines r n slots x → Combines r (length basis) (entry r basis) x
  into_basis x xi s =
      let h = field.ring in
      let at = λ (i : ℕ). slots (place i) in
      let ai = λ (i : ℕ). si (place i) in
      let t = from_spans r h (length (leads mark n)) at ai x xi
      (spans_leads (elements h) mark n (rows_of r slots si) (λ j k e. same_element r _ _ (g.absent j k e)) (row_of r x xi) (to_spans r h n slots si x xi s)) in
      subst (λ m. Combines r m (entry r basis) x) (sym len)
      (combines_rows r h (length (leads mark n)) at (entry r basis) x (λ i l k. sym (entry_is i l k)) t)

  from_basis : (x : ℕ → E) → AreIn r x → Combines r (length basis) (entry r basis) x → Combines r n slots x
  from_basis x xi s =
      let h = field.ring in
      combines_into r h (length basis) n (entry r basis) slots x (rows_in r h.closed.zero_in n basis is_shape) si xi
      (λ i l. let a = inside i l in combines_as r h n slots (slots (place i)) (entry r basis i) (entry_is i a) (combines_row r h n slots si (place i) (al.below i a))) s

  pub basis_of : (P : List E → Type 0) → ((x : List E) → is_row r n x ≡ true → P x ↔ Combines r n slots (coeff r x)) → IsEchelonBasis r n P basis
  basis_of P e = record {
    shape = is_shape;
    echelon = is_echelon;
    spans = λ x xr.
        let xi = elem_read r x field.ring.closed.zero_in (row_elems r n x xr) in
        (λ p. into_basis (coeff r x) xi ((e x xr).0 p), λ s. (e x xr).1 (from_basis (coeff r x) xi s));
  }
