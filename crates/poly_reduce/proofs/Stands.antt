-- Rows of polynomials are told by the flat rows that they stand for, and each list of flat rows has such rows.
use Rattle.std.proofs.Common.{◌≡◌, ℕ, zero, suc, inl, inr, ◌+◌, ◌*◌, ◌/◌, ◌%◌, ◌<◌, true, List, [], ◌∷◌, ◌++◌, length, refl, sym, ◌∙◌, ap, arith, ext_get_or, eq-eqb}
use Rattle.std.proofs.Math.Nat.{mod-lt, mul-le-mul_right}
use Rattle.std.proofs.lemmas.Bool.{and_parts, and_from}
use Rattle.std.proofs.lemmas.List.{length_push}
use Rattle.ring_core.specs.Ring.{RingOps, IsRing}
use Rattle.ring_core.specs.Coeffs.{coeff, are_elems, is_canonical, is_trimmed, first_values, list_of}
use Rattle.ring_core.proofs.Coefficients.{coeff_past, elem_read, same_coeffs, coeff-list_of, canonical-list_of, elems-first_values}
use Rattle.ring_core.proofs.FirstValues.{length-first_values, at-first_values}
use Rattle.linear_algebra.specs.Linear.{row_at, is_row, are_rows}
use Rattle.linear_algebra.proofs.RowLists.{row_len, row_elems, rows_at, rows_push}
use Rattle.linear_algebra.proofs.Sums.{same_or_other}
use Rattle.flat_modules.specs.Flat.{are_flat}
use Rattle.flat_reduce.proofs.Pushed.{push_low, push_last, flat_push}
use Rattle.poly_reduce.specs.Matrices.{member, StandFor}
use Rattle.poly_reduce.proofs.Views.{p, member_at, index_is, row_canonical, flat_exists}

-- as many members as a row has
pub row_from : {X : Type 0} (r : RingOps X) (w : ℕ) (x : List X) → length x ≡ w → are_elems r x ≡ true → is_row r w x ≡ true
row_from r w x len e = and_from _ _ (eq-eqb (length x) w len) e

module _ {E : Type 0} (r : RingOps E) (h : IsRing r) (w : ℕ) (posw : 0 < w) where
  -- rows with the same coefficients are the same
  pub row_same : (x y : List (List E)) → is_row (p r) w x ≡ true → is_row (p r) w y ≡ true → ((t : ℕ) → member r w x t ≡ member r w y t) → x ≡ y
  row_same x y xr yr e =
      let lx = row_len (p r) w x xr in
      let trimmed = λ (z : List (List E)) (zr : is_row (p r) w z ≡ true) (j : ℕ). (and_parts (are_elems r (row_at z j)) (is_trimmed r (row_at z j)) (row_canonical r z (row_elems (p r) w z zr) j)).1 in
      ext_get_or [] x y (lx ∙ sym (row_len (p r) w y yr)) (λ j l.
      let low : j < w = omega (arith, l, lx) in
      same_coeffs r h.closed.zero_in h.equal (row_at x j) (row_at y j) (trimmed x xr j) (trimmed y yr j)
      (λ k. sym (member_at r w j k x low) ∙ e (k * w + j) ∙ member_at r w j k y low))

  pub stand_same : (a b : List (List (List E))) (flats : List (List E)) → StandFor r w a flats → StandFor r w b flats → a ≡ b
  stand_same a b flats sa sb =
      let ca = sa.count in
      let cb = sb.count in
      ext_get_or [] a b (sym ca ∙ cb) (λ i l.
      let low : i < length b = omega (arith, l, ca, cb) in
      row_same (row_at a i) (row_at b i) (rows_at (p r) w a sa.shape i l) (rows_at (p r) w b sb.shape i low) (λ t. sym (sa.is i t l) ∙ sb.is i t low))

  pub stand_push : (rows : List (List (List E))) (flats : List (List E)) (x : List (List E)) (u : List E) → StandFor r w rows flats → is_row (p r) w x ≡ true → is_canonical r u ≡ true
      → ((t : ℕ) → coeff r u t ≡ member r w x t) → StandFor r w (rows ++ x ∷ []) (flats ++ u ∷ [])
  stand_push rows flats x u s xr ue e =
      let count = s.count in
      let more = length_push rows x in
      record {
        count = let one = length_push flats u in omega (arith, one, count, more);
        shape = rows_push (p r) w rows x s.shape xr;
        flat = flat_push r flats u s.flat ue;
        is = λ i t l. elim (same_or_other i (length rows)) [
          | inl here ↦
              ap (λ v. coeff r v t) (push_last flats u i (count ∙ sym here)) ∙ e t ∙ ap (λ v. member r w v t) (sym (push_last rows x i (sym here)))
          | inr ne ↦
              let low : i < length rows = omega (arith, l, ne, more) in
              ap (λ v. coeff r v t) (push_low flats u i (omega (arith, low, count))) ∙ s.is i t low ∙ ap (λ v. member r w v t) (sym (push_low rows x i low))
        ];
      }

  -- the row that stands for a flat row
  entry_for : List E → ℕ → List E
  entry_for u j = list_of r (length u) (λ e. coeff r u (e * w + j))

  pub row_for : List E → List (List E)
  row_for u = first_values w (entry_for u)

  module _ (u : List E) (ue : is_canonical r u ≡ true) where
    pub row_for_shape : is_row (p r) w (row_for u) ≡ true
    unfolding row_for entry_for
    row_for_shape = row_from (p r) w (row_for u) (length-first_values w (entry_for u))
        (elems-first_values (p r) w (entry_for u) (λ j _. canonical-list_of r (length u) _ (λ e _. elem_read r u h.closed.zero_in (and_parts (are_elems r u) (is_trimmed r u) ue).0 (e * w + j))))

    pub row_for_is : (t : ℕ) → coeff r u t ≡ member r w (row_for u) t
    unfolding row_for entry_for
    row_for_is t =
        let low = mod-lt t {m = w} posw in
        sym (ap (λ v. coeff r v (t / w)) (at-first_values w (entry_for u) (t % w) [] low)
        ∙ coeff-list_of r h.closed.zero_in h.equal (length u) (λ e. coeff r u (e * w + t % w)) (λ e. elem_read r u h.closed.zero_in (and_parts (are_elems r u) (is_trimmed r u) ue).0 (e * w + t % w))
        (λ e far. coeff_past r u (e * w + t % w) (let m = mul-le-mul_right {m = 1} {n = w} e posw in omega (arith, m, far))) (t / w)
        ∙ ap (coeff r u) (index_is r w t))

  abbrev rows_for : List (List E) → List (List (List E))
  rows_for [] = []
  rows_for (u ∷ us) = row_for u ∷ rows_for us

  stand_cons : (x : List (List E)) (u : List E) (rows : List (List (List E))) (flats : List (List E)) → is_row (p r) w x ≡ true → is_canonical r u ≡ true → ((t : ℕ) → coeff r u t ≡ member r w x t) → StandFor r w rows flats
      → StandFor r w (x ∷ rows) (u ∷ flats)
  stand_cons x u rows flats xr ue e s = record {
    count = ap suc s.count;
    shape = and_from _ _ xr s.shape;
    flat = and_from _ _ ue s.flat;
    is = here;
  }
    where
      here : (i t : ℕ) → i < suc (length rows) → coeff r (row_at (u ∷ flats) i) t ≡ member r w (row_at (x ∷ rows) i) t
      here zero t l = e t
      here (suc i) t l = s.is i t (omega arith)

  stand_none : StandFor r w [] []
  stand_none = record { count = refl; shape = refl; flat = refl; is = λ i t l. absurd (omega (arith, l)) }

  stands_for : (flats : List (List E)) → are_flat r flats ≡ true → StandFor r w (rows_for flats) flats
  stands_for [] e = stand_none
  stands_for (u ∷ us) e =
      let parts = and_parts _ _ e in
      stand_cons (row_for u) u (rows_for us) us (row_for_shape u parts.0) parts.0 (row_for_is u parts.0) (stands_for us parts.1)

  pub rows_exist : (flats : List (List E)) → are_flat r flats ≡ true → (rows : List (List (List E))) × StandFor r w rows flats
  rows_exist flats e = (rows_for flats, stands_for flats e)

  pub flats_exist : (rows : List (List (List E))) → are_rows (p r) w rows ≡ true → (flats : List (List E)) × StandFor r w rows flats
  flats_exist [] e = ([], stand_none)
  flats_exist (x ∷ xs) e =
      let parts = and_parts _ _ e in
      let u = flat_exists r h w posw x (row_elems (p r) w x parts.0) in
      let rest = flats_exist xs parts.1 in
      (u.0 ∷ rest.0, stand_cons x u.0 xs rest.0 parts.0 u.1 u.2 rest.1)
