-- A row is cleared by others, from its top down.
use Rattle.std.proofs.Common.{◌≡◌, ◌≢◌, ℕ, ◌+◌, ◌-◌, ◌*◌, ◌/◌, ◌%◌, ◌<◌, ◌≤◌, inl, inr, true, Option, Some, None, List, [], length, cond, nat_lt, refl, sym, ◌∙◌, ap, subst, arith, le-ltb, ltb-true, ltb-false}
use Rattle.std.proofs.Math.Nat.{add-mul-mod_self_right}
use Rattle.ring_core.specs.Ring.{RingOps, IsElem, IsRing}
use Rattle.ring_core.specs.Field.{IsField}
use Rattle.ring_core.specs.Coeffs.{coeff, is_canonical}
use Rattle.ring_core.proofs.Carrier.{add_times_zero}
use Rattle.ring_core.proofs.Coefficients.{coeff_past}
use Rattle.linear_algebra.specs.Linear.{row_at, entry}
use Rattle.linear_algebra.proofs.Sums.{by_bool, same_or_other}
use Rattle.flat_modules.specs.Flat.{are_flat, lead_at, shifted}
use Rattle.flat_modules.proofs.Lists.{flat_at, flat_in}
use Rattle.flat_reduce.specs.steps.Settled.{slot_of}
use Rattle.flat_reduce.specs.steps.Turns.{IsRowAdded, Turns, none, turn}
use Rattle.popov_basis.specs.steps.Leading.{IsNaming, IsClearedAt, IsClearedFrom, AreCleared}
use Rattle.flat_reduce.proofs.Settling.{some_same, none_not_some, rest_row, turns_more}
use Rattle.flat_reduce.proofs.RowSteps.{same_place, length_by_zeros}

-- The row that is named at the place of a lead plus a multiple of the width.
pub named_at : {E : Type 0} (w : ℕ) (slot : List (Option ℕ)) (rows : List (List E)) → IsNaming w (length rows) slot rows → (t j e : ℕ) → j < length rows → t ≡ lead_at rows j + e * w → slot_of slot (t % w) ≡ Some j
named_at w slot rows naming t j e l is = ap (slot_of slot) (ap (λ a. a % w) is ∙ add-mul-mod_self_right (lead_at rows j) e w) ∙ naming.all j l

module _ {E : Type 0} (r : RingOps E) (inv : E → Option E) (field : IsField r inv) where
  abbrev ring : IsRing r
  ring = field.ring

  -- nothing is added to no rows
  pub none_added : (p q s : ℕ) (c : E) → IsElem r c → IsRowAdded r p q s c [] []
  none_added p q s c ci = record {
    len = refl;
    here = λ t. sym (add_times_zero r ring r.zero c (shifted r s (entry r [] q) t) ring.closed.zero_in ci (empty s t));
    rest = λ i t ne. refl;
  }
    where
      empty : (s t : ℕ) → shifted r s (λ k. r.zero) t ≡ r.zero
      empty s t = by_bool (nat_lt t s) (λ b. ap (λ v. cond v r.zero r.zero) b) (λ b. ap (λ v. cond v r.zero r.zero) b)

  -- a row that is the same above `t`, which is below its lead, is as long
  pub same_len : (u v : List E) (t : ℕ) → is_canonical r u ≡ true → is_canonical r v ≡ true → t + 1 < length u → ((s : ℕ) → t < s → coeff r v s ≡ coeff r u s) → length v ≡ length u
  same_len u v t ui vi l high =
      let few = length_by_zeros r inv field v (length u) vi (λ s far. high s (omega (arith, far, l)) ∙ coeff_past r u s far) in
      by_bool (nat_lt t (length v))
      (λ b.
      let past = ltb-true t (length v) b in
      let many = length_by_zeros r inv field u (length v) ui (λ s far. sym (high s (omega (arith, far, past))) ∙ coeff_past r v s far) in
      omega (arith, few, many))
      (λ b.
      let past : length v ≤ t = ltb-false t (length v) b in
      let many = length_by_zeros r inv field u (t + 1) ui (λ s far. sym (high s (omega (arith, far))) ∙ coeff_past r v s (omega (arith, far, past))) in
      absurd (omega (arith, many, l)))

  module _ (w p : ℕ) (posw : 0 < w) (slot : List (Option ℕ)) where
    module _ (rows : List (List E)) (ri : are_flat r rows ≡ true) (naming : IsNaming w (length rows) slot rows) where
      abbrev Same : ℕ → Type 0
      Same t = IsClearedAt r w p t rows rows

      unchanged : (t : ℕ) → ((j e : ℕ) → j < length rows → t ≡ lead_at rows j + e * w → entry r rows p t ≡ r.zero) → Same t
      unchanged t clear = record { len = refl; others = λ k ne. refl; high = λ s l. refl; clear = clear; turned = none }

      pub clear_zero : (t : ℕ) → entry r rows p t ≡ r.zero → Same t
      clear_zero t z = unchanged t (λ j e l is. z)

      pub clear_free : (t : ℕ) → slot_of slot (t % w) ≡ None → Same t
      clear_free t free = unchanged t (λ j e l is. absurd (none_not_some j (slot_of slot (t % w)) free (named_at w slot rows naming t j e l is)))

      module _ (t q : ℕ) (named : slot_of slot (t % w) ≡ Some q) where
        pub clear_high : t < lead_at rows q → Same t
        clear_high l = unchanged t (λ j e lj is.
            let same = some_same q j (sym named ∙ named_at w slot rows naming t j e lj is) in
            let leads = ap (lead_at rows) same in
            absurd (omega (arith, l, leads, is)))

        pub clear_added : (c : E) (new : List (List E)) → are_flat r new ≡ true → p < length rows → lead_at rows q ≤ t → t < lead_at rows p → IsElem r c → c ≡ r.neg (entry r rows p t) → entry r rows q (lead_at rows q) ≡ r.one
            → IsRowAdded r p q (t - lead_at rows q) c rows new → IsClearedAt r w p t rows new
        clear_added c new ni lp low below ci is one added =
            let b = lead_at rows q in
            let x = entry r rows p in
            let xi = flat_in r ring rows ri p in
            let shift_past : (s : ℕ) → t ≤ s → shifted r (t - b) (entry r rows q) s ≡ entry r rows q (s - (t - b)) = λ s l.
            let far : t - b ≤ s = omega (arith, l) in
            ap (λ v. cond v r.zero (entry r rows q (s - (t - b)))) (le-ltb s (t - b) far) in
            let place = naming.places (t % w) q named in
            let power = same_place w b t posw low (sym place) in
            record {
              len = added.len;
              others = λ k ne. rest_row r ring p q (t - b) c rows new ri ni added k ne;
              high = λ s l. added.here s
                  ∙ add_times_zero r ring (x s) c _ (xi s) ci (shift_past s (omega (arith, l)) ∙ coeff_past r (row_at rows q) (s - (t - b)) (omega (arith, l, low)));
              clear = λ j e lj at.
                  let back : t - (t - b) ≡ b = omega (arith, low) in
                  added.here t ∙ ap (λ v. r.add (x t) (r.mul c v)) (shift_past t (omega arith) ∙ ap (entry r rows q) back ∙ one)
                  ∙ ap (r.add (x t)) (ring.mul_one c ci ∙ is) ∙ ring.add_neg (x t) (xi t);
              turned = turn p q rows [] [] new [] [] lp (naming.names (t % w) q named) (λ e. let u = ap (lead_at rows) e in omega (arith, u, low, below)) none (record {
                power = (t - b) / w;
                factor = c;
                elem = ci;
                images = subst (λ s. IsRowAdded r p q s c rows new) (sym power) added;
                lefts = none_added p q ((t - b) / w * length rows) c ci;
                inverse = none_added q p ((t - b) / w * length rows) (r.neg c) (ring.closed.neg_in c ci);
              });
            }

      pub clear_start : p < length rows → IsClearedFrom r w p (lead_at rows p) rows rows
      clear_start lp = record {
        len = refl;
        lens = λ k. refl;
        others = λ k ne. refl;
        one = refl;
        clear = λ j e lj ne far.
            let apart : lead_at rows j + e * w ≢ lead_at rows p = λ is.
            ne (some_same j p (sym (named_at w slot rows naming (lead_at rows p) j e lj (sym is)) ∙ naming.all p lp)) in
            coeff_past r (row_at rows p) (lead_at rows j + e * w) (omega (arith, far, apart));
        turned = none;
      }

    pub naming_same : (rows new : List (List E)) → length new ≡ length rows → ((k : ℕ) → length (row_at new k) ≡ length (row_at rows k)) → IsNaming w (length rows) slot rows → IsNaming w (length new) slot new
    naming_same rows new len lens h = record {
      len = h.len;
      names = λ j q e. let u = h.names j q e in omega (arith, u, len);
      places = λ j q e. ap (λ n. (n - 1) % w) (lens q) ∙ h.places j q e;
      all = λ k l. ap (λ n. slot_of slot ((n - 1) % w)) (lens k) ∙ h.all k (omega (arith, l, len));
    }

    module _ (rows mid new : List (List E)) (mi : are_flat r mid ≡ true) (ni : are_flat r new ≡ true) where
      pub clear_more : (t : ℕ) → t + 1 < length (row_at rows p) → IsClearedFrom r w p (t + 1) rows mid → IsClearedAt r w p t mid new → IsClearedFrom r w p t rows new
      clear_more t l before step =
          let lens : (k : ℕ) → length (row_at new k) ≡ length (row_at mid k) = λ k. elim (same_or_other k p) [
            | inl e ↦
                let here = before.lens p in
                ap (λ i. length (row_at new i)) e ∙ same_len (row_at mid p) (row_at new p) t (flat_at r mid mi p) (flat_at r new ni p) (omega (arith, l, here)) step.high ∙ ap (λ i. length (row_at mid i)) (sym e)
            | inr ne ↦ ap length (step.others k ne)
          ] in
          record {
            len = step.len ∙ before.len;
            lens = λ k. lens k ∙ before.lens k;
            others = λ k ne. step.others k ne ∙ before.others k ne;
            one = step.high (lead_at rows p) (omega (arith, l)) ∙ before.one;
            clear = λ j e lj ne far.
                let at = lead_at rows j + e * w in
                let lead = before.lens j in
                let count = before.len in
                elim (same_or_other at t) [
                  | inl is ↦ ap (entry r new p) is ∙ step.clear j e (omega (arith, lj, count)) (sym is ∙ ap (λ n. n - 1 + e * w) (sym lead))
                  | inr other ↦ step.high at (omega (arith, far, other)) ∙ before.clear j e lj ne (omega (arith, far, other))
                ];
            turned = turns_more r w (length rows) rows [] [] mid [] [] new [] [] before.turned (subst (λ n. Turns r w n mid [] [] new [] []) before.len step.turned);
          }

      pub rows_more : AreCleared r w p rows mid → IsClearedFrom r w p 0 mid new → AreCleared r w (p + 1) rows new
      rows_more before step = record {
        len = step.len ∙ before.len;
        lens = λ k. step.lens k ∙ before.lens k;
        one = λ k. elim (same_or_other k p) [
          | inl e ↦
              let lead = before.lens p in
              ap (λ i. entry r new i (lead_at rows i)) e ∙ ap (λ n. entry r new p (n - 1)) (sym lead) ∙ step.one ∙ ap (λ n. entry r mid p (n - 1)) lead
              ∙ before.one p ∙ ap (λ i. entry r rows i (lead_at rows i)) (sym e)
          | inr ne ↦ ap (λ u. coeff r u (lead_at rows k)) (step.others k ne) ∙ before.one k
        ];
        clear = λ k j e lk lj ne.
            let at = lead_at rows j + e * w in
            elim (same_or_other k p) [
              | inl is ↦
                  let count = before.len in
                  ap (λ i. entry r new i at) is ∙ ap (λ n. entry r new p (n - 1 + e * w)) (sym (before.lens j)) ∙ step.clear j e (omega (arith, lj, count)) (λ q. ne (q ∙ sym is)) (omega arith)
              | inr other ↦ ap (λ u. coeff r u at) (step.others k other) ∙ before.clear k j e (omega (arith, lk, other)) lj ne
            ];
        turned = turns_more r w (length rows) rows [] [] mid [] [] new [] [] before.turned (subst (λ n. Turns r w n mid [] [] new [] []) before.len step.turned);
      }

  pub rows_none : (w : ℕ) (rows : List (List E)) → AreCleared r w 0 rows rows
  rows_none w rows = record { len = refl; lens = λ k. refl; one = λ k. refl; clear = λ k j e l. absurd (omega (arith, l)); turned = none }
