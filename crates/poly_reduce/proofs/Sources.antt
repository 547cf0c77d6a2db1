-- The rows of a kernel are those of some reduction's transform whose image is zero, in both views.
use Rattle.std.proofs.Common.{◌≡◌, ℕ, zero, suc, ◌+◌, ◌*◌, ◌/◌, ◌%◌, ◌<◌, ◌≤◌, true, false, Bool, Option, List, [], ◌∷◌, ◌++◌, length, cond, nat_eq, refl, sym, ◌∙◌, ap, subst, arith, eq-eqb, eqb-true}
use Rattle.std.proofs.lemmas.Bool.{and_parts, and_from}
use mathlib.Core.Bool.{true≢false}
use Rattle.ring_core.specs.Ring.{RingOps, IsRing}
use Rattle.ring_core.specs.Field.{IsField}
use Rattle.ring_core.specs.Coeffs.{coeff, are_elems, is_canonical, is_trimmed}
use Rattle.ring_core.proofs.Coefficients.{same_coeffs}
use Rattle.linear_algebra.specs.Linear.{row_at, is_row}
use Rattle.linear_algebra.proofs.RowLists.{row_len, row_elems, rows_at}
use Rattle.linear_algebra.proofs.Sums.{by_bool}
use Rattle.flat_modules.specs.Flat.{zero_rows, IsOfReduction}
use Rattle.flat_modules.proofs.Lists.{flat_at}
use Rattle.flat_reduce.proofs.RowSteps.{length_by_zeros}
use Rattle.flat_reduce.proofs.Settling.{empty_row}
use Rattle.poly_reduce.specs.Rows.{Rows}
use Rattle.poly_reduce.specs.Matrices.{member, StandFor, IsOfRowReduction, all_empty, rows_at_zeros}
use Rattle.poly_reduce.proofs.Views.{p, member_at, row_canonical, stand_at}
use Rattle.poly_reduce.proofs.Stands.{stand_same, stand_push, rows_exist}
use Rattle.poly_reduce.proofs.Bases.{reduced_from, reduced_none}

module _ {E : Type 0} where
  empty_in : (x : List (List E)) → ((j : ℕ) → j < length x → row_at x j ≡ []) → all_empty x ≡ true
  empty_in [] e = refl
  empty_in (y ∷ ys) e = and_from _ _ (eq-eqb (length y) 0 (ap length (e 0 (omega arith)))) (empty_in ys (λ j (l : j < length ys). e (suc j) (omega arith)))

  empty_at : (x : List (List E)) → all_empty x ≡ true → (j : ℕ) → row_at x j ≡ []
  empty_at [] e j = refl
  empty_at ([] ∷ ys) e zero = refl
  empty_at ((z ∷ zs) ∷ ys) e zero = absurd (let v = eqb-true (length (z ∷ zs)) 0 (and_parts _ _ e).0 in omega (arith, v))
  empty_at (y ∷ ys) e (suc j) = empty_at ys (and_parts _ _ e).1 j

module _ {E : Type 0} (r : RingOps E) (inv : E → Option E) (field : IsField r inv) where
  abbrev ring : IsRing r
  ring = field.ring

  -- a row is zero where its flat row is
  zero_same : (w : ℕ) (x : List (List E)) (u : List E) → is_row (p r) w x ≡ true → is_canonical r u ≡ true → ((t : ℕ) → coeff r u t ≡ member r w x t) → all_empty x ≡ nat_eq (length u) 0
  zero_same w x u xr ue is = by_bool (nat_eq (length u) 0)
      (λ b.
      let none = empty_row u (eqb-true (length u) 0 b) in
      let len = row_len (p r) w x xr in
      empty_in x (λ j l.
      let low : j < w = omega (arith, l, len) in
      same_coeffs r ring.closed.zero_in ring.equal (row_at x j) [] (and_parts (are_elems r (row_at x j)) (is_trimmed r (row_at x j)) (row_canonical r x (row_elems (p r) w x xr) j)).1 refl
      (λ k. sym (member_at r w j k x low) ∙ sym (is (k * w + j)) ∙ ap (λ v. coeff r v (k * w + j)) none))
      ∙ sym b)
      (λ b. by_bool (all_empty x)
      (λ a.
      let short = length_by_zeros r inv field u 0 ue (λ t _. is t ∙ ap (λ v. coeff r v (t / w)) (empty_at x a (t % w))) in
      absurd (true≢false (sym (eq-eqb (length u) 0 (omega (arith, short))) ∙ b)))
      (λ a. a ∙ sym b))

  zeros_stand : (n w : ℕ) → 0 < n → (left image : List (List (List E))) (flat_left flat_image : List (List E)) → StandFor r n left flat_left → StandFor r w image flat_image → length image ≡ length left
      → (k : ℕ) → k ≤ length left → StandFor r n (rows_at_zeros image left k) (zero_rows flat_image flat_left k)
  zeros_stand n w posn left image flat_left flat_image sl si same zero l = record { count = refl; shape = refl; flat = refl; is = λ i t l. absurd (omega (arith, l)) }
  zeros_stand n w posn left image flat_left flat_image sl si same (suc k) l =
      let before = zeros_stand n w posn left image flat_left flat_image sl si same k (omega (arith, l)) in
      let low : k < length left = omega (arith, l) in
      let is_zero = zero_same w (row_at image k) (row_at flat_image k) (rows_at (p r) w image si.shape k (omega (arith, low, same))) (flat_at r flat_image si.flat k) (stand_at r w image flat_image si k) in
      let A = rows_at_zeros image left k in
      let B = zero_rows flat_image flat_left k in
      let more = stand_push r ring n posn A B (row_at left k) (row_at flat_left k) before (rows_at (p r) n left sl.shape k low) (flat_at r flat_left sl.flat k) (stand_at r n left flat_left sl k) in
      subst (λ b. StandFor r n (cond b (A ++ row_at left k ∷ []) A) (zero_rows flat_image flat_left (suc k))) (sym is_zero) (picked A (A ++ row_at left k ∷ []) B (B ++ row_at flat_left k ∷ []) before more (nat_eq (length (row_at flat_image k)) 0))
    where
      picked : (a c : List (List (List E))) (b d : List (List E)) → StandFor r n a b → StandFor r n c d → (v : Bool) → StandFor r n (cond v c a) (cond v d b)
      picked a c b d low high true = high
      picked a c b d low high false = low

  pub source_from : (m : Rows (List (List E))) → 0 < m.width → (flat : List (List E)) → StandFor r m.width m.rows flat → 0 < length flat
      → (rows : List (List (List E))) (flats : List (List E)) → StandFor r (length flat) rows flats → IsOfReduction r m.width flat flats → IsOfRowReduction r m rows
  source_from m posw flat s posn rows flats sr h =
      let w = m.width in
      let n = length flat in
      let red = h.reduction in
      let left = rows_exist r ring n posn h.left red.left_flat in
      let back = rows_exist r ring n posn h.back red.back_flat in
      let image = rows_exist r ring w posw h.image red.image_flat in
      let li = red.image_len in
      let ll = red.left_len in
      let ci = image.1.count in
      let cl = left.1.count in
      let zeros = zeros_stand n w posn left.0 image.0 h.left h.image left.1 image.1 (omega (arith, li, ll, ci, cl)) n (omega (arith, ll, cl)) in
      record {
        left = record { width = n; rows = left.0 };
        back = record { width = n; rows = back.0 };
        image = record { width = w; rows = image.0 };
        reduction = reduced_from r inv field m posw flat s posn _ _ _ h.left h.back h.image refl refl refl left.1 back.1 image.1 red;
        picked = stand_same r ring n posn rows _ flats sr (subst (StandFor r n (rows_at_zeros image.0 left.0 n)) (sym h.picked) zeros) ∙ ap (rows_at_zeros image.0 left.0) s.count;
      }

  -- no rows
  pub source_none : (m : Rows (List (List E))) (rows : List (List (List E))) → m.rows ≡ [] → rows ≡ [] → IsOfRowReduction r m rows
  source_none m rows e z = record {
    left = record { width = 0; rows = [] };
    back = record { width = 0; rows = [] };
    image = record { width = m.width; rows = [] };
    reduction = reduced_none r inv field m _ _ _ e refl refl refl refl refl refl;
    picked = z ∙ sym (ap (λ v. rows_at_zeros [] [] (length v)) e);
  }
