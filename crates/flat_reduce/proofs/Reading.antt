-- Rows that were read from a list of rows.
use Rattle.std.proofs.Common.{◌≡◌, ℕ, ◌<◌, true, List, [], length, get_or, ◌∙◌, ap}
use Rattle.std.proofs.lemmas.Bool.{and_parts}
use Rattle.std.proofs.lemmas.List.{get_or_default}
use Rattle.ring_core.specs.Ring.{RingOps}
use Rattle.ring_core.specs.Coeffs.{coeff, are_elems, is_trimmed}
use Rattle.linear_algebra.specs.Linear.{row_at, entry}
use Rattle.flat_modules.specs.Flat.{are_flat}
use Rattle.flat_modules.proofs.Lists.{flat_at}

-- the members of a row are elements
pub row_elems : {E : Type 0} (r : RingOps E) (rows : List (List E)) → are_flat r rows ≡ true → (i : ℕ) (u x : List E) → i < length rows → u ≡ x → x ≡ get_or rows i x → are_elems r u ≡ true
row_elems r rows e i u x l same read = ap (are_elems r) (same ∙ read ∙ get_or_default rows i x [] l) ∙ (and_parts (are_elems r (row_at rows i)) (is_trimmed r (row_at rows i)) (flat_at r rows e i)).0

pub read_elems : {E : Type 0} (r : RingOps E) (rows : List (List E)) → are_flat r rows ≡ true → (i : ℕ) (u x : List E) → i < length rows → u ≡ get_or rows i x → are_elems r u ≡ true
read_elems r rows e i u x l read = row_elems r rows e i u (get_or rows i x) l read (get_or_default rows i x (get_or rows i x) l)

-- the length of a row that was read
pub read_len : {E : Type 0} (rows : List (List E)) (i n : ℕ) (x : List E) → i < length rows → n ≡ length (get_or rows i x) → n ≡ length (row_at rows i)
read_len rows i n x l e = e ∙ ap length (get_or_default rows i x [] l)

pub read_coeff : {E : Type 0} (r : RingOps E) (rows : List (List E)) (i t : ℕ) (u x : List E) → i < length rows → u ≡ get_or rows i x → coeff r u t ≡ entry r rows i t
read_coeff r rows i t u x l e = ap (λ v. coeff r v t) (e ∙ get_or_default rows i x [] l)

-- a row that was read
pub read_row : {E : Type 0} (rows : List (List E)) (i : ℕ) (u x : List E) → i < length rows → u ≡ get_or rows i x → u ≡ row_at rows i
read_row rows i u x l e = e ∙ get_or_default rows i x [] l
