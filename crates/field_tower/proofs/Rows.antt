-- The product of residues row by row, as the loop goes: from the highest coefficient of the left factor down.
use Rattle.std.proofs.Common.{◌≡◌, ℕ, suc, ◌+◌, ◌-◌, ◌<◌, ◌≤◌, true, List, length, sym, ap, ap₂, ◌∙◌, arith}
use mathlib.Core.Path.{fun_ext}
use Rattle.ring_core.specs.Ring.{RingOps, IsRing, IsCommutative}
use Rattle.ring_core.specs.Coeffs.{coeff, are_elems}
use Rattle.ring_core.proofs.Coefficients.{elem_read}
use Rattle.residue_field.specs.Residue.{times_x, residue, product}
use Rattle.residue_field.proofs.Rows.{rows, product_by_rows}
use Rattle.field_tower.proofs.Writes.{times-x_same}

-- one more row below the rows from place i on, where n rows are there in all
pub next_row : {E : Type 0} (r : RingOps E) (d : ℕ) (f a b old : ℕ → E) (n i j : ℕ) {c : E} → n ≡ suc d → 0 < i → i ≤ n → j < n → c ≡ a (i - 1)
    → ((k : ℕ) → k < n → old k ≡ rows r d f (n - i) (λ m. a (i + m)) b k)
    → r.add (r.mul c (b j)) (times_x r d f old j) ≡ rows r d f (n - (i - 1)) (λ m. a (i - 1 + m)) b j
next_row {E} r d f a b old n i j {c} size pos low l e before =
    let lower : n - (i - 1) ≡ suc (n - i) = omega arith in
    let here : i - 1 ≡ i - 1 + 0 = omega arith in
    ap₂ (λ x y. r.add (r.mul x (b j)) y) (e ∙ ap a here)
    (times-x_same r d f old (rows r d f (n - i) (λ m. a (i - 1 + suc m)) b) j (omega arith)
    (λ k (m : k < suc d). before k (omega arith) ∙ ap (λ p. rows r d f (n - i) p b k) (fun_ext (λ m. ap a (place i m pos)))))
    ∙ ap (λ k. rows r d f k (λ m. a (i - 1 + m)) b j) (sym lower)
  where
    place : (i m : ℕ) → 0 < i → i + m ≡ i - 1 + suc m
    place i m pos = omega arith

-- all rows, over lists
pub all_rows : {E : Type 0} (r : RingOps E) (h : IsRing r) → IsCommutative r → (modulus a b : List E) → 2 ≤ length modulus
    → are_elems r modulus ≡ true → are_elems r a ≡ true → are_elems r b ≡ true
    → ((i : ℕ) → length modulus - 1 ≤ i → coeff r a i ≡ r.zero) → ((i : ℕ) → length modulus - 1 ≤ i → coeff r b i ≡ r.zero)
    → (n i j : ℕ) → n ≡ length modulus - 1 → i ≡ 0
    → let d = length modulus - 2 in
    rows r d (coeff r modulus) (n - i) (λ m. coeff r a (i + m)) (coeff r b) j
    ≡ residue r d (coeff r modulus) (d + 1 + (d + 1)) (product r (coeff r a) (coeff r b)) j
all_rows {E} r h commutes modulus a b degree m_in a_in b_in a_past b_past n i j size start =
    let d = length modulus - 2 in
    let count : n - i ≡ suc d = omega arith in
    let read = λ (u : List E) (e : are_elems r u ≡ true). elem_read r u h.closed.zero_in e in
    ap (λ k. rows r d (coeff r modulus) k (λ m. coeff r a (i + m)) (coeff r b) j) count
    ∙ ap (λ p. rows r d (coeff r modulus) (suc d) p (coeff r b) j) (fun_ext (λ m. ap (coeff r a) (place i m start)))
    ∙ product_by_rows r h commutes d (coeff r modulus) (coeff r a) (coeff r b) (read modulus m_in) (read a a_in) (read b b_in)
    (λ k (l : suc d ≤ k). a_past k (omega arith)) (λ k (l : suc d ≤ k). b_past k (omega arith)) j
  where
    place : (i m : ℕ) → i ≡ 0 → i + m ≡ m
    place i m e = omega arith
