-- Products with one code as a row, steps in it as powers, and products by logarithms.
use Rattle.std.proofs.Common.{◌≡◌, inl, inr, ℕ, zero, suc, ◌+◌, ◌-◌, ◌*◌, ◌<◌, ◌≤◌, List, length, slice_index, nat_lt, sym, ap, ap₂, subst, ◌∙◌, arith, lt-ltb}
use Rattle.std.proofs.lemmas.Bool.{cases_eq, cond-true, cond-false, le-ltb}
use Rattle.ring_core.specs.Ring.{RingOps, IsElem, IsRing}
use Rattle.ring_core.specs.Coeffs.{first_values}
use Rattle.ring_core.specs.Powers.{power_of}
use Rattle.ring_core.proofs.Carrier.{elements, zero_mul, mul_zero}
use Rattle.ring_core.proofs.FirstValues.{length-first_values, at-first_values}
use Rattle.ring_core.proofs.PowerLaws.{power-add}
use Rattle.field_tower.specs.declared.codes.Codes.{Codes}
use Rattle.field_tower.specs.steps.Codes.{code_ops}
use Rattle.field_tower.specs.steps.Tables.{IsRow}
use Rattle.field_tower.specs.steps.Logs.{steps_from_one, steps_below, AreSteps, AreLogs, IsLogTable}
use Rattle.field_tower.proofs.BaseValues.{base-zero, base-one}
use Rattle.field_tower.proofs.CodeForms.{codes_large, codes_ring, code_in, code_below}

pub step_inside : (row : List ℕ) → AreSteps row → (i : ℕ) → steps_from_one row i < length row
step_inside row steps zero = steps.large
step_inside row steps (suc i) = steps.inside _ (step_inside row steps i)

module _ (k : Codes) where
  abbrev r : RingOps ℕ
  r = code_ops k

  abbrev q : ℕ
  q = k.q

  ring : IsRing r
  ring = codes_ring k

  pub sum_below : (u v : ℕ) → u < q → v < q → r.add u v < q
  sum_below u v l m = code_below k _ (ring.closed.add_in u v (code_in k u l) (code_in k v m))

  -- a sum by that of a part
  pub sum_split : (a u v b : ℕ) → u < q → v < q → b < q → r.add u v ≡ a → r.add u (r.add v b) ≡ r.add a b
  sum_split a u v b l m n whole = sym (ring.add_assoc u v b (code_in k u l) (code_in k v m) (code_in k b n)) ∙ ap (λ x. r.add x b) whole

  module _ (g : ℕ) (g_low : g < q) where
    g_in : IsElem r g
    g_in = code_in k g g_low

    -- products of the codes before a
    module _ (a : ℕ) (low : a < q) (row : List ℕ) (before : row ≡ first_values a (λ b. r.mul b g)) where
      pub row_read : (b : ℕ) → b < a → slice_index row b ≡ r.mul b g
      row_read b l = ap (λ t. slice_index t b) before ∙ at-first_values a (λ c. r.mul c g) b 0 l

      pub row_below : (b : ℕ) → b < a → slice_index row b < q
      row_below b l =
          let b_low : b < q = omega arith in
          subst (λ x. x < q) (sym (row_read b l)) (code_below k _ (ring.closed.mul_in b g (code_in k b b_low) g_in))

      pub row_sum : (u v : ℕ) → u < a → v < a → r.add u v ≡ a → r.add (slice_index row u) (slice_index row v) ≡ r.mul a g
      row_sum u v l m whole =
          let u_low : u < q = omega arith in
          let v_low : v < q = omega arith in
          ap₂ r.add (row_read u l) (row_read v m) ∙ sym (ring.add_mul u v g (code_in k u u_low) (code_in k v v_low) g_in) ∙ ap (λ x. r.mul x g) whole

    -- the whole row
    module _ (row : List ℕ) (is : IsRow q (λ a. r.mul a g) row) where
      pub row_steps : AreSteps row
      row_steps =
          let len = is.count in
          record {
            large = omega (arith, codes_large k);
            inside = λ a l.
                let low : a < q = omega arith in
                subst (λ x. x < length row) (sym (is.value a low)) (subst (λ x. r.mul a g < x) (sym len) (code_below k _ (ring.closed.mul_in a g (code_in k a low) g_in)));
          }

      step_power : (i : ℕ) → steps_from_one row i ≡ power_of r g i
      step_power zero = sym (base-one k.prime.p (length k.modulus.now - 2) k.modulus.now)
      step_power (suc i) =
          let inside : steps_from_one row i < q = subst (λ x. steps_from_one row i < x) is.count (step_inside row row_steps i) in
          is.value (steps_from_one row i) inside ∙ ap (λ x. r.mul x g) (step_power i)

      module _ (powers logs : List ℕ) (filled : powers ≡ first_values (4 * q) (steps_below (2 * q - 2) row)) (are : AreLogs q powers logs) where
        long : length powers ≡ 4 * q
        long = ap length filled ∙ length-first_values (4 * q) (steps_below (2 * q - 2) row)

        read_low : (i : ℕ) → i < 2 * q - 2 → slice_index powers i ≡ power_of r g i
        read_low i l =
            let inside : i < 4 * q = omega arith in
            ap (λ t. slice_index t i) filled ∙ at-first_values (4 * q) (steps_below (2 * q - 2) row) i 0 inside
            ∙ cond-true (nat_lt i (2 * q - 2)) (steps_from_one row i) 0 (lt-ltb i (2 * q - 2) l) ∙ step_power i

        read_high : (i : ℕ) → 2 * q - 2 ≤ i → i < 4 * q → slice_index powers i ≡ 0
        read_high i past inside =
            ap (λ t. slice_index t i) filled ∙ at-first_values (4 * q) (steps_below (2 * q - 2) row) i 0 inside
            ∙ cond-false (nat_lt i (2 * q - 2)) (steps_from_one row i) 0 (le-ltb i (2 * q - 2) past)

        log_most : (a : ℕ) → a < q → slice_index logs a ≤ 2 * q - 2
        log_most a l =
            elim (cases_eq a 0) [
              | inl none ↦ let at : slice_index logs a ≡ 2 * q - 2 = ap (slice_index logs) none ∙ are.at_zero in omega arith
              | inr other ↦ let low = are.low a (omega arith) l in omega arith
            ]

        fits : (a b : ℕ) → a < q → b < q → slice_index logs a + slice_index logs b < 4 * q
        fits a b l m =
            let x = log_most a l in
            let y = log_most b m in
            omega arith

        value : (a b : ℕ) → a < q → b < q → slice_index powers (slice_index logs a + slice_index logs b) ≡ r.mul a b
        value a b l m =
            let zero_is = base-zero k.prime.p (length k.modulus.now - 2) k.modulus.now in
            elim (cases_eq a 0) [
              | inl none ↦
                  let at : slice_index logs a ≡ 2 * q - 2 = ap (slice_index logs) none ∙ are.at_zero in
                  read_high _ (omega arith) (fits a b l m)
                  ∙ sym (ap (λ x. r.mul x b) (none ∙ sym zero_is) ∙ ap (λ x. x.0) (zero_mul (elements ring) (b, code_in k b m)) ∙ zero_is)
              | inr some ↦
                  elim (cases_eq b 0) [
                    | inl none ↦
                        let at : slice_index logs b ≡ 2 * q - 2 = ap (slice_index logs) none ∙ are.at_zero in
                        read_high _ (omega arith) (fits a b l m)
                        ∙ sym (ap (r.mul a) (none ∙ sym zero_is) ∙ ap (λ x. x.0) (mul_zero (elements ring) (a, code_in k a l)) ∙ zero_is)
                    | inr more ↦
                        let x : slice_index logs a < q - 1 = are.low a (omega arith) l in
                        let y : slice_index logs b < q - 1 = are.low b (omega arith) m in
                        read_low _ (omega arith) ∙ power-add r ring g (slice_index logs a) (slice_index logs b) g_in
                        ∙ ap₂ r.mul (sym (read_low _ (omega arith)) ∙ are.back a (omega arith) l) (sym (read_low _ (omega arith)) ∙ are.back b (omega arith) m)
                  ]
            ]

        pub log_table : IsLogTable q r.mul powers logs
        log_table = record {
          count = are.count;
          long = omega (arith, long);
          low = λ a some l. let x = are.low a some l in omega arith;
          fits = λ a b l m. subst (λ m. slice_index logs a + slice_index logs b < m) (sym long) (fits a b l m);
          value = value;
        }
