-- The inverse of a transform, given by its columns: a turn adds one column to another.
use Rattle.std.proofs.Common.{◌≡◌, ℕ, ◌+◌, ◌-◌, ◌*◌, ◌/◌, ◌%◌, ◌<◌, ◌≤◌, inl, inr, suc, cond, nat_eq, nat_lt, sym, ◌∙◌, ap, ap₂, arith, eq-eqb, ne_eqb, ltb-true, ltb-false, add-mul}
use Rattle.std.proofs.Math.Nat.{mod-lt, mul-le-mul_right}
use Rattle.std.proofs.lemmas.Nat.{div-add-mod', div-mul-add, mod-mul-add}
use Rattle.ring_core.proofs.Carrier.{RingOn, zero_mul, mul_zero}
use Rattle.ring_core.proofs.Series.{total}
use Rattle.linear_algebra.proofs.Sums.{combine, unit, unit_same, unit_other, total_same, total_zero, total_single, total_add, by_bool, same_or_other}
use Rattle.flat_modules.proofs.Shift.{shift, powers, shift_same, shift_low, shift_past, shift_sum, shift_unit}
use Rattle.flat_modules.proofs.Product.{combine_more}
use Rattle.flat_modules.proofs.Matrix.{row_added, operation, unit_power, times_unit}

-- Row `i` of the matrix with these `n` columns: its entry `j` at the power `s` stands in column `j` at `s n + i`.
abbrev pub across : {M : Type 0} → ℕ → (ℕ → ℕ → M) → ℕ → ℕ → M
across n columns i t = columns (t % n) (t / n * n + i)

module _ {M : Type 0} (R : RingOn M) (n : ℕ) (posn : 0 < n) where
  -- the identity has itself for columns
  pub unit_across : (i t : ℕ) → i < n → unit R (t % n) (t / n * n + i) ≡ unit R i t
  unit_across i t l =
      let whole = div-add-mod' t n in
      let low = mod-lt t {m = n} posn in
      elim (same_or_other (t / n) 0) [
        | inl z ↦
            let product = ap (λ a. a * n) z in
            let none : t / n * n ≡ 0 = omega (arith, product) in
            elim (same_or_other i t) [
              | inl e ↦ unit_same R (t % n) (t / n * n + i) (omega (arith, e, none, whole)) ∙ sym (unit_same R i t e)
              | inr ne ↦ unit_other R (t % n) (t / n * n + i) (λ q. ne (omega (arith, q, none, whole))) ∙ sym (unit_other R i t ne)
            ]
        | inr nz ↦
            let some = mul-le-mul_right {m = 1} {n = t / n} n (omega (arith, nz)) in
            unit_other R (t % n) (t / n * n + i) (λ q. omega (arith, q, some, low)) ∙ sym (unit_other R i t (λ q. omega (arith, q, some, whole, l)))
      ]

  module _ (p q e : ℕ) (lp : p < n) (lq : q < n) (b : M) where
    -- what the operation adds to row `k % n` of the identity, times the power `k / n`
    abbrev part : ℕ → ℕ → M
    part k t = R.mul (cond (nat_eq (k % n) p) b R.zero) (unit R (k / n * n + (e * n + q)) t)

    power_parts : (k t : ℕ) → powers R n n (operation R n p q e b) k t ≡ R.add (unit R k t) (part k t)
    power_parts k t =
        let x = cond (nat_eq (k % n) p) b R.zero in
        shift_sum R (k / n * n) x (unit R (k % n)) (shift R (e * n) (unit R q)) t
        ∙ ap₂ (λ u v. R.add u (R.mul x v)) (unit_power R n k t)
        (shift_same R (k / n * n) _ _ t (shift_unit R (e * n) q) ∙ shift_unit R (k / n * n) (e * n + q) t)

    module _ (comm : (x y : M) → R.mul x y ≡ R.mul y x) (len : ℕ) (columns : ℕ → ℕ → M) (x : ℕ → M) (i : ℕ) (li : i < n) (short : (k : ℕ) → len ≤ k → x k ≡ R.zero) (is : (k : ℕ) → x k ≡ across n columns i k) where
      -- what is added to the row
      abbrev added : ℕ → M
      added t = total R len (λ k. R.mul (x k) (part k t))

      split : (t : ℕ) → combine R len x (powers R n n (operation R n p q e b)) t ≡ R.add (x t) (added t)
      split t =
          total_same R len _ _ (λ k _. ap (R.mul (x k)) (power_parts k t) ∙ R.mul_add (x k) (unit R k t) (part k t))
          ∙ total_add R len (λ k. R.mul (x k) (unit R k t)) (λ k. R.mul (x k) (part k t))
          ∙ ap (λ v. R.add v (added t)) (sym (total_same R len _ _ (λ k _. ap (R.mul (x k)) (unit_power R n k t))) ∙ times_unit R n len x t short)

      part_zero : (k t : ℕ) → (k % n ≡ p → k / n * n + (e * n + q) ≡ t → ⊥) → R.mul (x k) (part k t) ≡ R.zero
      part_zero k t none = elim (same_or_other (k % n) p) [
        | inl v ↦ ap (R.mul (x k)) (ap (R.mul (cond (nat_eq (k % n) p) b R.zero)) (unit_other R _ t (none v)) ∙ mul_zero R _) ∙ mul_zero R (x k)
        | inr ne ↦ ap (λ u. R.mul (x k) (R.mul (cond u b R.zero) (unit R (k / n * n + (e * n + q)) t))) (ne_eqb (k % n) p ne) ∙ ap (R.mul (x k)) (zero_mul R _) ∙ mul_zero R (x k)
      ]

      -- where the shift is past the place, nothing is added
      none_added : (t : ℕ) → ((k : ℕ) → k * n + (e * n + q) ≡ t → ⊥) → added t ≡ R.zero
      none_added t far = total_zero R len _ (λ k _. part_zero k t (λ _. far (k / n)))

      -- else the member of column `p` at `s n + i` counts
      one_added : (s t : ℕ) → s * n + (e * n + q) ≡ t → added t ≡ R.mul b (columns p (s * n + i))
      one_added s t here =
          let at = s * n + p in
          let quotient = div-mul-add s n p lp in
          let rest = mod-mul-add s n p lp in
          let place : at / n * n + (e * n + q) ≡ t = ap (λ u. u * n + (e * n + q)) quotient ∙ here in
          sym (combine_more R len (len + suc at) x part t (omega arith) short)
          ∙ total_single R (len + suc at) at (λ k. R.mul (x k) (part k t)) (omega arith) (λ k _ ne. part_zero k t (λ v there.
          let whole = div-add-mod' k n in ne (omega (arith, whole, v, there, here))))
          ∙ ap₂ (λ u v. R.mul (x at) (R.mul (cond u b R.zero) v)) (eq-eqb (at % n) p rest) (unit_same R _ t place)
          ∙ ap (R.mul (x at)) (R.mul_one b) ∙ comm (x at) b
          ∙ ap (R.mul b) (is at ∙ ap₂ (λ a s. columns a (s * n + i)) rest quotient)

      added_is : (t : ℕ) → added t ≡ R.mul (cond (nat_eq (t % n) q) b R.zero) (shift R (e * n) (columns p) (t / n * n + i))
      added_is t = elim (same_or_other (t % n) q) [
        | inl place ↦
            let whole = div-add-mod' t n in
            by_bool (nat_lt (t / n) e)
            (λ v.
            let m = mul-le-mul_right {m = t / n + 1} {n = e} n (let l = ltb-true (t / n) e v in omega (arith, l)) in
            let parts = add-mul (t / n) 1 n in
            none_added t (λ k d. omega (arith, d, m, parts, whole, place, lq))
            ∙ sym (ap (R.mul b) (shift_low R (e * n) (columns p) (t / n * n + i) (omega (arith, m, parts, li))) ∙ mul_zero R b))
            (λ v.
            let l : e ≤ t / n = ltb-false (t / n) e v in
            let parts = add-mul (t / n - e) e n in
            let u = ap (λ a. a * n) (let v : t / n - e + e ≡ t / n = omega (arith, l) in v) in
            let d : (t / n - e) * n + i ≡ t / n * n + i - e * n = omega (arith, parts, u) in
            one_added (t / n - e) t (omega (arith, whole, place, parts, u))
            ∙ ap (R.mul b) (ap (columns p) d ∙ sym (shift_past R (e * n) (columns p) (t / n * n + i) (omega (arith, parts, u)))))
            ∙ sym (ap (λ v. R.mul (cond v b R.zero) (shift R (e * n) (columns p) (t / n * n + i))) (eq-eqb (t % n) q place))
        | inr other ↦
            none_added t (λ k d. let parts = add-mul k e n in other (ap (λ a. a % n) (let v : t ≡ (k + e) * n + q = omega (arith, d, parts) in v) ∙ mod-mul-add (k + e) n q lq))
            ∙ sym (ap (λ v. R.mul (cond v b R.zero) (shift R (e * n) (columns p) (t / n * n + i))) (ne_eqb (t % n) q other) ∙ zero_mul R _)
      ]

      -- the row times the operation, in the columns
      pub column_added : (t : ℕ) → combine R len x (powers R n n (operation R n p q e b)) t ≡ across n (row_added R q p b e n columns) i t
      column_added t = split t ∙ ap₂ R.add (is t) (added_is t)
