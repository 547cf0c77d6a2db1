-- The shortest row above a bound, and rows over their tops.
use Rattle.std.proofs.Common.{◌≡◌, ◌≢◌, ℕ, ◌-◌, ◌<◌, ◌≤◌, inl, inr, true, Option, List, [], ◌∷◌, ◌++◌, length, nat_lt, refl, sym, ◌∙◌, ap, subst, arith, ltb-true, ltb-false}
use Rattle.std.proofs.lemmas.Bool.{and_parts}
use Rattle.std.proofs.lemmas.List.{length_push}
use Rattle.ring_core.specs.Ring.{RingOps, IsElem, IsRing}
use Rattle.ring_core.specs.Field.{IsField}
use Rattle.ring_core.specs.Coeffs.{coeff, is_canonical, are_elems, is_trimmed}
use Rattle.ring_core.proofs.Carrier.{elements, mul_zero}
use Rattle.ring_core.proofs.Coefficients.{coeff_past, elem_read}
use Rattle.linear_algebra.specs.Linear.{row_at}
use Rattle.linear_algebra.proofs.Sums.{by_bool, same_or_other}
use Rattle.popov_basis.specs.steps.Leading.{IsNext, IsMonicOf, IsFrom, IsLeading}
use Rattle.flat_reduce.proofs.RowSteps.{length_by_zeros}
use Rattle.flat_reduce.proofs.Pushed.{push_low, push_last}

-- the shortest of the first `n` rows that are longer than `above`
pub record IsBest {E : Type 0} (image : List (List E)) (above n i : ℕ) : Type 0 where
  pub within : i < n
  pub longer : above < length (row_at image i)
  pub least : (k : ℕ) → k < n → above < length (row_at image k) → length (row_at image i) ≤ length (row_at image k)

module _ {E : Type 0} (r : RingOps E) (inv : E → Option E) (field : IsField r inv) where
  abbrev ring : IsRing r
  ring = field.ring

  pub monic_is : (row m : List E) (top inverse : E) → is_canonical r row ≡ true → is_canonical r m ≡ true → 0 < length row → IsElem r inverse → top ≡ coeff r row (length row - 1) → r.mul top inverse ≡ r.one
      → ((t : ℕ) → coeff r m t ≡ r.mul inverse (coeff r row t)) → IsMonicOf r row m
  monic_is row m top inverse ri mi pos ii is_top e is =
      let read = elem_read r row ring.closed.zero_in (and_parts (are_elems r row) (is_trimmed r row) ri).0 in
      let ti : IsElem r top = ap r.is_elem is_top ∙ read (length row - 1) in
      let none : (a : E) → IsElem r a → r.mul a r.zero ≡ r.zero = λ a ai. ap (λ x. x.0) (mul_zero (elements ring) (a, ai)) in
      let back : (t : ℕ) → coeff r row t ≡ r.mul top (coeff r m t) = λ t.
      sym (ap (r.mul top) (is t) ∙ sym (ring.mul_assoc top inverse (coeff r row t) ti ii (read t)) ∙ ap (λ a. r.mul a (coeff r row t)) e ∙ ring.one_mul (coeff r row t) (read t)) in
      let few = length_by_zeros r inv field m (length row) mi (λ t l. is t ∙ ap (r.mul inverse) (coeff_past r row t l) ∙ none inverse ii) in
      let many = length_by_zeros r inv field row (length m) ri (λ t l. back t ∙ ap (r.mul top) (coeff_past r m t l) ∙ none top ti) in
      let len : length m ≡ length row = omega (arith, few, many) in
      record {
        same_len = len;
        one = ap (λ n. coeff r m (n - 1)) len ∙ is (length row - 1) ∙ ap (r.mul inverse) (sym is_top) ∙ field.mul_comm inverse top ii ti ∙ e;
        factor = inverse;
        elem = ii;
        is = is;
        top = top;
        top_elem = ti;
        back = back;
      }

module _ {E : Type 0} (r : RingOps E) (image : List (List E)) where
  pub leading_none : IsLeading r image 0 []
  leading_none = record {
    rising = λ j k l m. absurd (omega arith);
    full = λ j l. absurd (omega arith);
    low = λ j l. absurd (omega arith);
    source = λ j l. absurd (omega arith);
    listed = λ i l m. absurd (omega (arith, l, m));
  }

  pub leading_all : (above : ℕ) (list : List (List E)) → IsLeading r image above list → ((k : ℕ) → length (row_at image k) ≤ above)
      → (bound : ℕ) → ((k : ℕ) → length (row_at image k) ≤ bound) → IsLeading r image bound list
  leading_all above list h all bound less = record {
    rising = h.rising;
    full = h.full;
    low = λ j l. let s = h.source j l in let e = s.is.multiple.same_len in let u = less s.row in omega (arith, e, u);
    source = h.source;
    listed = λ i l _. h.listed i l (all i);
  }

  module _ (above : ℕ) (list : List (List E)) (h : IsLeading r image above list) (i : ℕ) (next : IsNext image above i) (m : List E) (monic : IsMonicOf r (row_at image i) m)
      (apart : (i k : ℕ) → i ≢ k → 0 < length (row_at image i) → length (row_at image i) ≢ length (row_at image k)) where
    abbrev more : List (List E)
    more = list ++ m ∷ []

    low_row : (j : ℕ) → j < length list → row_at more j ≡ row_at list j
    low_row j l = push_low list m j l

    last_row : (j : ℕ) → j ≡ length list → row_at more j ≡ m
    last_row j e = push_last list m j (sym e)

    kept : (k j : ℕ) → IsFrom r image list k j → IsFrom r image more k j
    kept k j s =
        let n = length_push list m in
        let l = s.listed in
        record {
          within = s.within;
          listed = omega (arith, n, l);
          multiple = subst (IsMonicOf r (row_at image k)) (sym (low_row j l)) s.multiple;
        }

    new : (k j : ℕ) → k ≡ i → j ≡ length list → IsFrom r image more k j
    new k j e q =
        let n = length_push list m in
        let l = next.within in
        record {
          within = omega (arith, e, l);
          listed = omega (arith, n, q);
          multiple = subst (λ u. IsMonicOf r u (row_at more j)) (ap (row_at image) (sym e)) (subst (IsMonicOf r (row_at image i)) (sym (last_row j q)) monic);
        }

    count : (j : ℕ) → j < length more → j ≢ length list → j < length list
    count j l ne = let n = length_push list m in omega (arith, n, l, ne)

    pub leading_more : IsLeading r image (length (row_at image i)) more
    leading_more =
        let len = monic.same_len in
        let longer = next.longer in
        record {
          rising = λ j k l b.
              let n = length_push list m in
              let lj : j < length list = omega (arith, l, b, n) in
              let ej = ap length (low_row j lj) in
              elim (same_or_other k (length list)) [
                | inl e ↦ let ek = ap length (last_row k e) in let u = h.low j lj in omega (arith, ej, ek, u, len, longer)
                | inr ne ↦ let lk = count k b ne in let ek = ap length (low_row k lk) in let u = h.rising j k l lk in omega (arith, ej, ek, u)
              ];
          full = λ j l. elim (same_or_other j (length list)) [
            | inl e ↦ let ej = ap length (last_row j e) in omega (arith, ej, len, longer)
            | inr ne ↦ let lj = count j l ne in let ej = ap length (low_row j lj) in let u = h.full j lj in omega (arith, ej, u)
          ];
          low = λ j l. elim (same_or_other j (length list)) [
            | inl e ↦ let ej = ap length (last_row j e) in omega (arith, ej, len)
            | inr ne ↦ let lj = count j l ne in let ej = ap length (low_row j lj) in let u = h.low j lj in omega (arith, ej, u, longer)
          ];
          source = λ j l. elim (same_or_other j (length list)) [
            | inl e ↦ record { row = i; is = new i j refl e }
            | inr ne ↦ let s = h.source j (count j l ne) in record { row = s.row; is = kept s.row j s.is }
          ];
          listed = λ k l b. by_bool (nat_lt above (length (row_at image k)))
              (λ v.
              let u = ltb-true above (length (row_at image k)) v in
              let least = next.least k u in
              elim (same_or_other k i) [
                | inl e ↦ record { row = length list; is = new k (length list) e refl }
                | inr ne ↦ absurd (apart k i ne l (omega (arith, least, b)))
              ])
              (λ v.
              let u : length (row_at image k) ≤ above = ltb-false above (length (row_at image k)) v in
              let s = h.listed k l u in record { row = s.row; is = kept k s.row s.is });
        }
