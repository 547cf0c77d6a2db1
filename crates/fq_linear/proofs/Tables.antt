-- Rows in one list of cells.
use Rattle.linear_algebra.proofs.RowLists.{rows_at}
use Rattle.std.proofs.Common.{◌≡◌, ℕ, zero, suc, ◌+◌, ◌-◌, ◌*◌, ◌<◌, ◌≤◌, List, [], ◌∷◌, ◌++◌, length, get_or, take, drop, sym, ◌∙◌, ap, ap₂, ◌/◌, ◌%◌, mod-lt, div-add-mod', div-lt_iff_lt-mul, mul-zero, arith, true, length-drop, take_all, drop_of_length-le, add-one, mul-le-mul_right}
use Rattle.std.proofs.lemmas.List.{drop-append-le, length-take-le, take-append-le}
use Rattle.linear_algebra.specs.Linear.{row_at}
use Rattle.fq_linear.specs.Table.{row_cells, table_rows}
use Rattle.std.proofs.lemmas.Bool.{and_parts}
use Rattle.ring_core.specs.Ring.{RingOps, IsElem}
use Rattle.ring_core.specs.Coeffs.{coeff, are_elems}
use Rattle.ring_core.proofs.Coefficients.{elem_read}
use Rattle.ring_core.proofs.FirstValues.{length-first_values, values_pushed, values_same, at-first_values}
use Rattle.linear_algebra.specs.Linear.{are_rows}
use Rattle.ring_core.proofs.Written.{elems_by_places}
use Rattle.fq_linear.proofs.Places.{range_place, elem_as}

-- a row ends within the cells
pub row_end : (w n i : ℕ) → i < n → i * w + w ≤ n * w
row_end w n i l = let e : suc i ≤ n = omega arith in omega (arith, mul-le-mul_right w e)

pub length-range_within : {E : Type 0} (w i : ℕ) (cells : List E) → i * w + w ≤ length cells → length (row_cells w cells i) ≡ w
length-range_within w i cells end =
    let some : i * w + w - i * w ≡ w = omega arith in
    ap (λ m. length (take m (drop (i * w) cells))) some
    ∙ length-take-le w (drop (i * w) cells) (omega (arith, length-drop (i * w) cells))

pub length-row_cells : {E : Type 0} (w n : ℕ) (cells : List E) (i : ℕ) → i < n → n * w ≤ length cells → length (row_cells w cells i) ≡ w
length-row_cells w n cells i l e = let end = row_end w n i l in length-range_within w i cells (omega (arith, end, e))

pub row_place : {E : Type 0} (w : ℕ) (cells : List E) (i k : ℕ) (d : E) → k < w → get_or (row_cells w cells i) k d ≡ get_or cells (i * w + k) d
row_place w cells i k d l = range_place cells (i * w) (i * w + w) k d (omega arith)

pub row_at-table : {E : Type 0} (w n : ℕ) (cells : List E) (i : ℕ) → i < n → row_at (table_rows w n cells) i ≡ row_cells w cells i
row_at-table w n cells i l = at-first_values n (row_cells w cells) i [] l

pub length-table : {E : Type 0} (w n : ℕ) (cells : List E) → length (table_rows w n cells) ≡ n
length-table w n cells = length-first_values n (row_cells w cells)

row_before : {E : Type 0} (w n : ℕ) (cells row : List E) (i : ℕ) → i < n → length cells ≡ n * w → row_cells w (cells ++ row) i ≡ row_cells w cells i
row_before w n cells row i l e =
    let end = row_end w n i l in
    let some : i * w + w - i * w ≡ w = omega arith in
    ap (take (i * w + w - i * w)) (drop-append-le (i * w) cells row (omega arith))
    ∙ take-append-le (i * w + w - i * w) (drop (i * w) cells) row (omega (arith, length-drop (i * w) cells))

drop_all : {E : Type 0} (w n : ℕ) (cells : List E) → length cells ≡ n * w → drop (n * w) cells ≡ []
drop_all w n cells e = drop_of_length-le cells (omega arith)

row_new : {E : Type 0} (w n : ℕ) (cells row : List E) → length cells ≡ n * w → length row ≡ w → row_cells w (cells ++ row) n ≡ row
row_new w n cells row e f =
    let some : n * w + w - n * w ≡ w = omega arith in
    ap (take (n * w + w - n * w)) (drop-append-le (n * w) cells row (omega arith) ∙ ap (λ u. u ++ row) (drop_all w n cells e))
    ∙ take_all (n * w + w - n * w) row (omega arith)

-- one more row
pub rows_pushed : {E : Type 0} (w n : ℕ) (cells row : List E) → length cells ≡ n * w → length row ≡ w
    → table_rows w (n + 1) (cells ++ row) ≡ table_rows w n cells ++ row ∷ []
rows_pushed w n cells row e f =
    ap (λ m. table_rows w m (cells ++ row)) (add-one n)
    ∙ sym (values_pushed n (row_cells w (cells ++ row)))
    ∙ ap₂ (λ u x. u ++ x ∷ []) (values_same n _ _ (λ i l. row_before w n cells row i l e)) (row_new w n cells row e f)

-- the members of rows of elements are elements
positive : (w n p : ℕ) → p < n * w → 0 < w
positive zero n p l = let v = mul-zero n in absurd (omega (arith, v))
positive (suc w) n p l = omega arith

elem_of_rows : {E : Type 0} (r : RingOps E) (w n : ℕ) (cells : List E) → IsElem r r.zero → are_rows r w (table_rows w n cells) ≡ true → (p : ℕ) → p < n * w → IsElem r (coeff r cells p)
elem_of_rows r w n cells z e p l =
    let pos = positive w n p l in
    let i : p / w < n = (div-lt_iff_lt-mul pos).1 l in
    let k : p % w < w = mod-lt p pos in
    let same : p / w * w + p % w ≡ p = div-add-mod' p w in
    let some : p / w < length (table_rows w n cells) = omega (arith, length-table w n cells, i) in
    let row = rows_at r w (table_rows w n cells) e (p / w) some in
    elem_as r _ _ (ap (coeff r cells) (sym same) ∙ sym (row_place w cells (p / w) (p % w) r.zero k) ∙ ap (λ u. coeff r u (p % w)) (sym (row_at-table w n cells (p / w) i)))
    (elem_read r (row_at (table_rows w n cells) (p / w)) z (and_parts _ _ row).1 (p % w))

pub elems_of_rows : {E : Type 0} (r : RingOps E) (w n : ℕ) (cells : List E) → IsElem r r.zero → are_rows r w (table_rows w n cells) ≡ true → length cells ≡ n * w → are_elems r cells ≡ true
elems_of_rows r w n cells z e len = elems_by_places r cells (λ p l. elem_of_rows r w n cells z e p (omega (arith, len)))
