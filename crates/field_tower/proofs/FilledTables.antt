-- A table that one loop fills, entry by entry.
use Rattle.std.proofs.Common.{◌≡◌, ℕ, suc, ◌+◌, ◌*◌, ◌/◌, ◌%◌, ◌<◌, ◌≤◌, List, length, slice_index, ap, ap₂, ◌∙◌, arith, mul-le-mul_right}
use Rattle.std.proofs.lemmas.Nat.{div-mul-add, mod-mul-add}
use Rattle.ring_core.specs.Coeffs.{first_values}
use Rattle.ring_core.proofs.FirstValues.{length-first_values, at-first_values}
use Rattle.field_tower.specs.steps.Tables.{IsRow, IsTable}

pub filled_row : (q : ℕ) (op : ℕ → ℕ) (row : List ℕ) → row ≡ first_values q op → IsRow q op row
filled_row q op row e = record {
  count = ap length e ∙ length-first_values q op;
  value = λ a l. ap (λ t. slice_index t a) e ∙ at-first_values q op a 0 l;
}

pub filled_at : (q n : ℕ) (op : ℕ → ℕ → ℕ) (table : List ℕ) (a b : ℕ) → table ≡ first_values n (λ m. op (m / q) (m % q)) → a * q + b < n → b < q → slice_index table (a * q + b) ≡ op a b
filled_at q n op table a b e inside low =
    ap (λ t. slice_index t (a * q + b)) e ∙ at-first_values n (λ k. op (k / q) (k % q)) (a * q + b) 0 inside
    ∙ ap₂ op (div-mul-add a q b low) (mod-mul-add a q b low)

-- a place of an earlier row
pub earlier : (q a b x y : ℕ) → x < a → y < q → x * q + y < a * q + b
earlier q a b x y l m =
    let row : suc x * q ≤ a * q = mul-le-mul_right q l in
    omega arith

pub filled : (q : ℕ) (op : ℕ → ℕ → ℕ) (table : List ℕ) → table ≡ first_values (q * q) (λ m. op (m / q) (m % q)) → IsTable q op table
filled q op table e = record {
  count = ap length e ∙ length-first_values (q * q) (λ m. op (m / q) (m % q));
  value = λ a b l m. filled_at q (q * q) op table a b e (let row : suc a * q ≤ q * q = mul-le-mul_right q l in omega arith) m;
}
