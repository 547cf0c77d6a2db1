-- Division with remainder: the combination and the rest keep their sum.
use Rattle.std.proofs.Common.{◌≡◌, ◌≢◌, ℕ, zero, suc, ◌+◌, ◌-◌, ◌*◌, ◌/◌, ◌%◌, ◌<◌, ◌≤◌, inl, inr, true, Option, Some, None, List, [], ◌∷◌, length, cond, nat_lt, refl, sym, ◌∙◌, ap, ap₂, arith, eq-eqb, ne_eqb, le-ltb, ltb-true, ltb-false}
use Rattle.std.proofs.lemmas.Bool.{cond_both}
use Rattle.std.proofs.lemmas.Nat.{div-add-mod', div-mul-add, mod-mul-add}
use Rattle.ring_core.specs.Ring.{RingOps, IsElem, IsRing}
use Rattle.ring_core.specs.Coeffs.{coeff, are_elems, is_canonical}
use Rattle.ring_core.proofs.Carrier.{RingOn, Element, elements, same_element, add_times_zero, neg_mul}
use Rattle.ring_core.proofs.Coefficients.{coeff_past, elem_read}
use Rattle.ring_core.proofs.Twist.{sum_of_zeros}
use Rattle.linear_algebra.specs.Linear.{row_at, entry}
use Rattle.linear_algebra.proofs.Sums.{combine, combine_same, combine_add, combine_scale, unit_combine, unit, unit_same, unit_other, by_bool, same_or_other}
use Rattle.linear_algebra.proofs.Lift.{rows_of}
use Rattle.flat_modules.specs.Flat.{are_flat, lead_at, shifted, times, combination, unit_at, IsStandard, IsNormal}
use Rattle.flat_modules.proofs.Lists.{flat_in, longest, listed, combination_room, combination_value, shift_value}
use Rattle.flat_modules.proofs.Shift.{shift, powers}
use Rattle.flat_modules.proofs.Rest.{power_row}
use Rattle.flat_reduce.specs.steps.Settled.{slot_of}
use Rattle.popov_basis.specs.steps.Leading.{IsNaming}
use Rattle.popov_basis.specs.steps.Division.{IsTermAdded, IsDividedAt, IsDividedFrom}
use Rattle.popov_basis.proofs.Clearing.{named_at}
use Rattle.flat_reduce.proofs.Settling.{some_same, none_not_some}
use Rattle.flat_reduce.proofs.RowSteps.{same_place, shift_added}

module _ {M : Type 0} (R : RingOn M) where
  -- coefficients to which `c` is added at `j`
  abbrev pub by_more : (ℕ → M) → M → ℕ → ℕ → M
  by_more by c j i = R.add (by i) (R.mul c (unit R j i))

  pub combine_more_at : (n : ℕ) (by : ℕ → M) (c : M) (j : ℕ) (rows : ℕ → ℕ → M) (t : ℕ) → j < n
      → combine R n (by_more by c j) rows t ≡ R.add (combine R n by rows t) (R.mul c (rows j t))
  combine_more_at n by c j rows t l =
      combine_add R n by (λ i. R.mul c (unit R j i)) rows t
      ∙ ap (R.add (combine R n by rows t)) (combine_scale R n c (unit R j) rows t ∙ ap (R.mul c) (unit_combine R n j rows t l))

-- (x + c s) + (y + (-c) s) = x + y
cancels : {M : Type 0} (R : RingOn M) (x y c s : M) → R.add (R.add x (R.mul c s)) (R.add y (R.mul (R.neg c) s)) ≡ R.add x y
cancels R x y c s =
    let m = R.mul c s in
    let n = R.mul (R.neg c) s in
    let none : R.add m n ≡ R.zero = ap (R.add m) (neg_mul R c s) ∙ R.add_neg m in
    R.add_assoc x m (R.add y n)
    ∙ ap (R.add x) (ap (R.add m) (R.add_comm y n) ∙ sym (R.add_assoc m n y) ∙ ap (λ a. R.add a y) none ∙ R.zero_add y)

module _ {E : Type 0} (r : RingOps E) (h : IsRing r) where
  abbrev S : RingOn (Element r)
  S = elements h

  -- a one behind `e` zeros
  pub one_at : (e s : ℕ) → shifted r e (coeff r (r.one ∷ [])) s ≡ unit_at r e s
  one_at e s = elim (same_or_other e s) [
    | inl q ↦
        let z : s - e ≡ 0 = omega (arith, q) in
        ap (λ v. cond v r.zero (coeff r (r.one ∷ []) (s - e))) (le-ltb s e (omega (arith, q))) ∙ ap (coeff r (r.one ∷ [])) z ∙ sym (ap (λ v. cond v r.one r.zero) (eq-eqb e s q))
    | inr ne ↦
        cond_both (nat_lt s e) r.zero (coeff r (r.one ∷ []) (s - e)) (λ a. a ≡ r.zero) (λ b. refl)
        (λ b. let l : e ≤ s = ltb-false s e b in coeff_past r (r.one ∷ []) (s - e) (omega (arith, l, ne))) ∙ sym (ap (λ v. cond v r.one r.zero) (ne_eqb e s ne))
  ]

  module _ (w : ℕ) (rows : List (List E)) (ri : are_flat r rows ≡ true) where
    abbrev n : ℕ
    n = length rows

    abbrev v : ℕ → ℕ → Element r
    v = rows_of r (entry r rows) (flat_in r h rows ri)

    abbrev family : ℕ → ℕ → Element r
    family = powers S n w v

    -- the combination is an element
    combination_in : (by : List (List E)) (bi : are_flat r by ≡ true) (t : ℕ) → IsElem r (combination r w rows by t)
    combination_in by bi t = ap r.is_elem (sym (combination_value r h w rows by ri bi t)) ∙ (combine S ((longest r by).0 * n) (listed r h w rows by ri bi) family t).1

    module _ (by new : List (List E)) (bi : are_flat r by ≡ true) (ni : are_flat r new ≡ true) (q e : ℕ) (c : E) (ci : IsElem r c) (lq : q < length rows) (added : IsTermAdded r q e c by new) where
      abbrev j : ℕ
      j = e * n + q

      same : (k : ℕ) → listed r h w rows new ri ni k ≡ by_more S (listed r h w rows by ri bi) (c, ci) j k
      same k =
          let x = listed r h w rows by ri bi k in
          elim (same_or_other j k) [
            | inl is ↦
                let row : k % n ≡ q = ap (λ a. a % n) (sym is) ∙ mod-mul-add e n q lq in
                let place : k / n ≡ e = ap (λ a. a / n) (sym is) ∙ div-mul-add e n q lq in
                same_element r _ _
                (ap₂ (entry r new) row place ∙ added.here e
                ∙ ap₂ (λ a b. r.add a (r.mul c b)) (sym (ap₂ (entry r by) row place))
                (ap (λ b. cond b r.one r.zero) (eq-eqb e e refl) ∙ ap (λ a. a.0) (sym (unit_same S j k is))))
            | inr ne ↦
                let nothing : (unit S j k).0 ≡ r.zero = ap (λ a. a.0) (unit_other S j k ne) in
                elim (same_or_other (k % n) q) [
                  | inl row ↦
                      let other : e ≢ k / n = λ z. ne (ap₂ (λ a b. a * n + b) z (sym row) ∙ div-add-mod' k n) in
                      same_element r _ _
                      (ap (λ a. entry r new a (k / n)) row ∙ added.here (k / n)
                      ∙ ap₂ (λ a b. r.add a (r.mul c b)) (ap (λ a. entry r by a (k / n)) (sym row)) (ap (λ b. cond b r.one r.zero) (ne_eqb e (k / n) other) ∙ sym nothing))
                  | inr apart ↦ same_element r _ _ (added.others (k % n) (k / n) apart ∙ sym (add_times_zero r h x.0 c (unit S j k).0 x.1 ci nothing))
                ]
          ]

      pub combination_more : (t : ℕ) → combination r w rows new t ≡ r.add (combination r w rows by t) (r.mul c (shifted r (e * w) (entry r rows q) t))
      combination_more t =
          let a = (longest r by).0 * n in
          let b = (longest r new).0 * n in
          let room = a + b + suc j in
          let pos : 0 < n = omega (arith, lq) in
          let L = listed r h w rows by ri bi in
          sym (combination_room r h w rows new ri ni pos room t (omega arith))
          ∙ ap (λ x. x.0)
          (combine_same S room _ (by_more S L (c, ci) j) family t (λ k _. same k) ∙ combine_more_at S room L (c, ci) j family t (omega arith)
          ∙ ap (λ x. S.add (combine S room L family t) (S.mul (c, ci) x)) (power_row S n w v q e t lq))
          ∙ ap₂ r.add (combination_room r h w rows by ri bi pos room t (omega arith)) (ap (r.mul c) (shift_value r h (e * w) (v q) t))

    -- one place of the walk
    module _ (posw : 0 < w) (slot : List (Option ℕ)) (naming : IsNaming w (length rows) slot rows) (by : List (List E)) (bi : are_flat r by ≡ true) (rest : List E) (xi : are_elems r rest ≡ true) (t : ℕ) where
      abbrev Same : Type 0
      Same = IsDividedAt r w t rows by by rest rest

      unchanged : ((j e : ℕ) → j < length rows → t ≡ lead_at rows j + e * w → coeff r rest t ≡ r.zero) → Same
      unchanged clear = record { len = refl; sum = λ s. refl; high = λ s l. refl; clear = clear }

      pub divide_zero : coeff r rest t ≡ r.zero → Same
      divide_zero z = unchanged (λ j e l is. z)

      pub divide_free : slot_of slot (t % w) ≡ None → Same
      divide_free free = unchanged (λ j e l is. absurd (none_not_some j (slot_of slot (t % w)) free (named_at w slot rows naming t j e l is)))

      module _ (q : ℕ) (named : slot_of slot (t % w) ≡ Some q) where
        pub divide_high : t < lead_at rows q → Same
        divide_high l = unchanged (λ j e lj is.
            let one_row = some_same q j (sym named ∙ named_at w slot rows naming t j e lj is) in
            let leads = ap (lead_at rows) one_row in
            absurd (omega (arith, l, leads, is)))

        module _ (c d : E) (ci : IsElem r c) (is : c ≡ coeff r rest t) (neg : d ≡ r.neg c) (new : List (List E)) (ni : are_flat r new ≡ true) (left : List E) (low : lead_at rows q ≤ t)
            (one : entry r rows q (lead_at rows q) ≡ r.one) (added : IsTermAdded r q ((t - lead_at rows q) / w) c by new)
            (below : (k : ℕ) → k < t - lead_at rows q → coeff r left k ≡ coeff r rest k)
            (taken : (k : ℕ) → coeff r left (t - lead_at rows q + k) ≡ r.add (coeff r rest (t - lead_at rows q + k)) (r.mul d (coeff r (row_at rows q) k))) where
          abbrev b : ℕ
          b = lead_at rows q

          di : IsElem r d
          di = ap r.is_elem neg ∙ h.closed.neg_in c ci

          yi : (s : ℕ) → IsElem r (coeff r rest s)
          yi = elem_read r rest h.closed.zero_in xi

          left_is : (s : ℕ) → coeff r left s ≡ r.add (coeff r rest s) (r.mul d (shifted r (t - b) (entry r rows q) s))
          left_is = shift_added r h (t - b) d (coeff r rest) (coeff r left) (entry r rows q) di yi below taken

          power : (t - b) / w * w ≡ t - b
          power = same_place w b t posw low (sym (naming.places (t % w) q named))

          shift_past : (s : ℕ) → t ≤ s → shifted r (t - b) (entry r rows q) s ≡ entry r rows q (s - (t - b))
          shift_past s l = let far : t - b ≤ s = omega (arith, l) in ap (λ v. cond v r.zero (entry r rows q (s - (t - b)))) (le-ltb s (t - b) far)

          pub divide_taken : IsDividedAt r w t rows by new rest left
          divide_taken = record {
            len = added.len;
            sum = λ s.
                let z = shift S (t - b) (v q) s in
                ap₂ r.add
                (combination_more by new bi ni q ((t - b) / w) c ci (naming.names (t % w) q named) added s ∙ ap (λ k. r.add (combination r w rows by s) (r.mul c (shifted r k (entry r rows q) s))) power
                ∙ ap (λ k. r.add (combination r w rows by s) (r.mul c k)) (sym (shift_value r h (t - b) (v q) s)))
                (left_is s ∙ ap₂ (λ a k. r.add (coeff r rest s) (r.mul a k)) neg (sym (shift_value r h (t - b) (v q) s)))
                ∙ ap (λ a. a.0) (cancels S (combination r w rows by s, combination_in by bi s) (coeff r rest s, yi s) (c, ci) z);
            high = λ s l.
                left_is s ∙ add_times_zero r h (coeff r rest s) d _ (yi s) di (shift_past s (omega (arith, l)) ∙ coeff_past r (row_at rows q) (s - (t - b)) (omega (arith, l, low)));
            clear = λ j e lj at.
                let back : t - (t - b) ≡ b = omega (arith, low) in
                left_is t ∙ ap (λ k. r.add (coeff r rest t) (r.mul d k)) (shift_past t (omega arith) ∙ ap (entry r rows q) back ∙ one)
                ∙ ap (r.add (coeff r rest t)) (h.mul_one d di ∙ neg ∙ ap r.neg is) ∙ h.add_neg (coeff r rest t) (yi t);
          }

  pub divide_start : (w : ℕ) (rows by : List (List E)) (rest : List E) → IsDividedFrom r w (length rest) rows by by rest rest
  divide_start w rows by rest = record { len = refl; sum = λ s. refl; clear = λ j e l far. coeff_past r rest (lead_at rows j + e * w) far }

  pub divide_more : (w t : ℕ) (rows by mid new : List (List E)) (rest half left : List E) → IsDividedFrom r w (t + 1) rows by mid rest half → IsDividedAt r w t rows mid new half left → IsDividedFrom r w t rows by new rest left
  divide_more w t rows by mid new rest half left before step = record {
    len = step.len ∙ before.len;
    sum = λ s. step.sum s ∙ before.sum s;
    clear = λ j e lj far. elim (same_or_other (lead_at rows j + e * w) t) [
      | inl is ↦ ap (coeff r left) is ∙ step.clear j e lj (sym is)
      | inr ne ↦ step.high (lead_at rows j + e * w) (omega (arith, far, ne)) ∙ before.clear j e lj (omega (arith, far, ne))
    ];
  }

  -- no polynomials: the combination is zero
  none_combined : (w : ℕ) (rows by : List (List E)) → ((i : ℕ) → row_at by i ≡ []) → (t : ℕ) → combination r w rows by t ≡ r.zero
  none_combined w rows by empty t = sum_of_zeros r h (length rows) _ (λ i l. ap (λ p. times r w p (coeff r (row_at rows i)) t) (empty i))

  pub is_normal : (w : ℕ) (rows by new : List (List E)) (x left rest : List E) → are_elems r x ≡ true → length by ≡ length rows → ((i : ℕ) → row_at by i ≡ []) → are_flat r new ≡ true → is_canonical r rest ≡ true
      → ((s : ℕ) → coeff r rest s ≡ coeff r left s) → IsDividedFrom r w 0 rows by new x left → IsNormal r w rows x new rest
  is_normal w rows by new x left rest xi count empty ni flat same d = record {
    len = d.len ∙ count;
    polys = ni;
    flat = flat;
    is = λ t.
        sym (ap (r.add (combination r w rows new t)) (same t) ∙ d.sum t ∙ ap (λ a. r.add a (coeff r x t)) (none_combined w rows by empty t) ∙ h.zero_add (coeff r x t) (elem_read r x h.closed.zero_in xi t));
    clear = λ i e l. same (lead_at rows i + e * w) ∙ d.clear i e l (omega arith);
  }

  -- rows of a standard basis aren't zero
  pub standard_full : r.one ≢ r.zero → (w : ℕ) (rows : List (List E)) → IsStandard r w rows → (k : ℕ) → k < length rows → 0 < length (row_at rows k)
  standard_full ne w rows s k l = by_bool (nat_lt 0 (length (row_at rows k)))
      (λ b. ltb-true 0 (length (row_at rows k)) b)
      (λ b. let u : length (row_at rows k) ≤ 0 = ltb-false 0 (length (row_at rows k)) b in absurd (ne (sym (s.one k l) ∙ coeff_past r (row_at rows k) (lead_at rows k) (omega (arith, u)))))
