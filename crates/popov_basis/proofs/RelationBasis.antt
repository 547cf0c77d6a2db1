-- Combinations of relations are relations, so the standard basis of the kernel's module is that of the relations.
use Rattle.std.proofs.Common.{◌≡◌, ℕ, ◌+◌, ◌*◌, ◌/◌, ◌%◌, ◌<◌, ◌≤◌, true, List, [], ◌∷◌, length, nat_lt, refl, sym, ◌∙◌, ap, arith, ltb-true, ltb-false}
use Rattle.std.proofs.Math.Nat.{mul-le-mul_right, div-le_self}
use Rattle.std.proofs.lemmas.Bool.{and_from}
use Rattle.ring_core.specs.Ring.{RingOps, IsRing}
use Rattle.ring_core.specs.Coeffs.{coeff, is_canonical}
use Rattle.ring_core.proofs.Carrier.{RingOn, Element, elements, same_element, zero_mul, mul_zero}
use Rattle.ring_core.proofs.Coefficients.{coeff_past}
use Rattle.linear_algebra.specs.Linear.{row_at, entry}
use Rattle.linear_algebra.proofs.Sums.{combine, combine_same, total_zero, by_bool}
use Rattle.linear_algebra.proofs.Lift.{rows_of}
use Rattle.flat_modules.specs.Flat.{are_flat, IsBasis, IsStandardBasis, IsInModule, IsRelationOf}
use Rattle.flat_modules.proofs.Lists.{flat_at, flat_in, longest, to_reached}
use Rattle.flat_modules.proofs.Shift.{powers, shift_zero}
use Rattle.flat_modules.proofs.Product.{flat_assoc}
use Rattle.flat_modules.proofs.Module.{past_rows}
use Rattle.flat_reduce.proofs.KernelRows.{times_bound}
use Rattle.flat_reduce.proofs.Settling.{empty_row}

module _ {E : Type 0} (r : RingOps E) (h : IsRing r) (w : ℕ) where
  abbrev R : RingOn (Element r)
  R = elements h

  -- no rows have no relations
  pub no_relations : (m : List (List E)) → m ≡ [] → IsStandardBasis r (length m) (IsRelationOf r w m) []
  no_relations m e = record {
    basis = record {
      shape = refl;
      within = λ i l. absurd (omega arith);
      spans = λ x xc p. record {
        by = [];
        len = refl;
        polys = refl;
        is = λ t. ap (λ u. coeff r u t) (p.none e);
        only = λ other l _ _. empty_row other l;
      };
    };
    standard = record {
      rising = λ i k l b. absurd (omega arith);
      places = λ i k l b ne q. omega arith;
      one = λ i l. absurd (omega arith);
      clear = λ i k e l b ne. absurd (omega arith);
    };
  }

  module _ (m found new : List (List E)) (posn : 0 < length m) (mi : are_flat r m ≡ true) (basis : IsBasis r (length m) (IsRelationOf r w m) found) where
    abbrev n : ℕ
    n = length m

    abbrev rows : ℕ → ℕ → Element r
    rows = rows_of r (entry r m) (flat_in r h m mi)

    abbrev V : ℕ → ℕ → Element r
    V = rows_of r (entry r found) (flat_in r h found basis.shape)

    abbrev len : ℕ
    len = (longest r found).0

    ends : (j t : ℕ) → len ≤ t → V j t ≡ R.zero
    ends j t far = let l = (longest r found).1 j in same_element r _ _ (coeff_past r (row_at found j) t (omega (arith, l, far)))

    -- each row, and what is past them, gives zero over the rows
    gone : (j t : ℕ) → combine R len (V j) (powers R n w rows) t ≡ R.zero
    gone j t = by_bool (nat_lt j (length found))
        (λ b. same_element r _ _ (sym (times_bound r h n w len (row_at found j) (flat_in r h found basis.shape j) (ends j) (entry r m) (flat_in r h m mi) t) ∙ (basis.within j (ltb-true j (length found) b)).zero t))
        (λ b. total_zero R len _ (λ k _. ap (λ a. R.mul a (powers R n w rows k t)) (past_rows r h n found (flat_in r h found basis.shape) j k (ltb-false j (length found) b)) ∙ zero_mul R _))

    relation_of : (x : List E) → is_canonical r x ≡ true → IsInModule r n found x → IsRelationOf r w m x
    relation_of x xc s =
        let count = length found in
        let xi = flat_in r h (x ∷ []) (and_from _ _ xc refl) 0 in
        let y = to_reached r h n found s.by basis.shape s.polys x xi s.is in
        let big = y.bound * n + len + length x in
        let fits : (k : ℕ) → k < y.bound → k / count * n + len ≤ big = λ k b.
        let d = div-le_self k count in
        let m = mul-le-mul_right {m = k / count} {n = y.bound} n (omega (arith, d, b)) in
        omega (arith, m)
        in
        record {
          none = λ e. absurd (let v = ap length e in omega (arith, v, posn));
          zero = λ t.
              times_bound r h n w big x xi (λ k far. same_element r _ _ (coeff_past r x k (omega (arith, far)))) (entry r m) (flat_in r h m mi) t
              ∙ ap (λ a. a.0) (combine_same R big _ _ (powers R n w rows) t (λ k _. y.is k)
              ∙ flat_assoc R count n w len posn V rows (λ k t far. ends (k % count) t far) big y.bound y.by t fits
              ∙ total_zero R y.bound _ (λ k _. ap (R.mul (y.by k)) (shift_zero R (k / count * w) _ t (gone (k % count))) ∙ mul_zero R (y.by k)));
        }

    pub relations_basis : IsStandardBasis r n (IsInModule r n found) new → IsStandardBasis r n (IsRelationOf r w m) new
    relations_basis s = record {
      basis = record {
        shape = s.basis.shape;
        within = λ i l. relation_of (row_at new i) (flat_at r new s.basis.shape i) (s.basis.within i l);
        spans = λ x xc p. s.basis.spans x xc (let o = basis.spans x xc p in record { by = o.by; len = o.len; polys = o.polys; is = o.is });
      };
      standard = s.standard;
    }
