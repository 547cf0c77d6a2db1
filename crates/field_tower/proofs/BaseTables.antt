-- Reading the tables of a base field, and the data from which one is made.
use native.Mathlib.Nat.{pow-le-pow_right, pow-le-pow_left}
use Rattle.std.proofs.Common.{◌≡◌, inl, inr, ℕ, ◌+◌, ◌-◌, ◌*◌, ◌%◌, ◌^◌, ◌<◌, ◌≤◌, true, List, [], ◌∷◌, length, map, slice_index, get_or, sym, refl, ap, subst, ◌∙◌, arith, lt-ltb, mod-lt}
use Rattle.std.proofs.lemmas.Bool.{and_from, cases_lt}
use Rattle.std.proofs.lemmas.Nat.{mul-add-lt}
use Rattle.std.proofs.lemmas.List.{get_or_read}
use Rattle.ring_core.specs.Coeffs.{coeff, are_elems}
use Rattle.residue_field.specs.declared.TheConstants.{WIDTH}
use Rattle.field_tower.specs.declared.size.TheConstants.{CODES}
use Rattle.field_tower.specs.steps.Tables.{IsRow, IsTable}
use Rattle.residue_field.specs.Prime.{is_listed, prime_ops}
use Rattle.residue_field.proofs.Listed.{listed_large}
use Rattle.field_tower.specs.steps.Places.{IsModulus}

pub table_fits : (q : ℕ) (op : ℕ → ℕ → ℕ) (table : List ℕ) (a b : ℕ) → IsTable q op table → a < q → b < q → a * q + b < length table
table_fits q op table a b t l m = subst (λ n. a * q + b < n) (sym t.count) (mul-add-lt a q b q l m)

pub table-value : (q : ℕ) (op : ℕ → ℕ → ℕ) (table : List ℕ) (a b x : ℕ) → IsTable q op table → a < q → b < q → x ≡ get_or table (a * q + b) x → x ≡ op a b
table-value q op table a b x t l m e = get_or_read table (a * q + b) x (table_fits q op table a b t l m) e 0 ∙ t.value a b l m

pub row_fits : (q : ℕ) (op : ℕ → ℕ) (row : List ℕ) (a : ℕ) → IsRow q op row → a < q → a < length row
row_fits q op row a t l = subst (λ n. a < n) (sym t.count) l

pub row-value : (q : ℕ) (op : ℕ → ℕ) (row : List ℕ) (a x : ℕ) → IsRow q op row → a < q → x ≡ get_or row a x → x ≡ op a
row-value q op row a x t l e = get_or_read row a x (row_fits q op row a t l) e 0 ∙ t.value a l

-- what is known of a modulus under one name, under the other
pub moved : (F : ℕ → List ℕ → Type 0) (w u : List ℕ) (s : ℕ) → w ≡ u → length u ≡ s + 1 → F (length w - 2) w → F (s - 1) u
moved F w u s e len x =
    let degree : length u - 2 ≡ s - 1 = omega arith in
    subst (λ k. F k u) degree (subst (λ v. F (length v - 2) v) e x)

pub reduced_in : (p : ℕ) → 0 < p → (list : List ℕ) → are_elems (prime_ops p) (map (λ c. c % p) list) ≡ true
reduced_in p positive [] = refl
reduced_in p positive (c ∷ cs) = and_from _ _ (lt-ltb _ p (mod-lt c positive)) (reduced_in p positive cs)

-- the places suffice for the digits of a code
places_suffice : (p s : ℕ) → 1 < p → p ^ s ≤ CODES → s ≤ WIDTH
places_suffice p s large small =
    elim (cases_lt WIDTH s) [
      | inl past ↦
          let two : 0 < 2 = omega arith in
          let below : 2 ≤ p = large in
          absurd (omega (arith, pow-le-pow_left below s, pow-le-pow_right two past))
      | inr within ↦ within
    ]

pub modulus_of : (p s q : ℕ) (w modulus : List ℕ) → w ≡ modulus → is_listed p ≡ true → 0 < s → q ≡ p ^ s → q ≤ CODES → length modulus ≡ s + 1
    → are_elems (prime_ops p) modulus ≡ true → slice_index modulus s ≡ 1 → IsModulus (prime_ops p) w
modulus_of p s q w modulus is listed positive count small len elems top =
    let place : length modulus - 1 ≡ s = omega arith in
    subst (IsModulus (prime_ops p)) (sym is) (record {
      degree = omega arith;
      room = omega (arith, places_suffice p s (listed_large p listed) (subst (λ n. n ≤ CODES) count small));
      elems = elems;
      monic = ap (coeff (prime_ops p) modulus) place ∙ top;
    })

pub count_of : (p s q : ℕ) (w modulus : List ℕ) → w ≡ modulus → length modulus ≡ s + 1 → q ≡ p ^ s → q ≡ p ^ (length w - 1)
count_of p s q w modulus is len count =
    let place : s ≡ length modulus - 1 = omega arith in
    count ∙ ap (λ n. p ^ n) (place ∙ ap (λ u. length u - 1) (sym is))
