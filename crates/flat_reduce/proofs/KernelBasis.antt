-- The kernel of the rows that were settled, and lists of rows that are pushed.
use Rattle.std.proofs.Common.{◌≡◌, map, ℕ, zero, suc, ◌<◌, ◌≤◌, inl, inr, true, Bool, not, Option, List, [], ◌∷◌, ◌++◌, length, cond, nat_lt, refl, sym, ◌∙◌, ap, arith, eq-eqb, ne_eqb, lt-ltb, le-ltb, ltb-false}
use Rattle.std.proofs.lemmas.Bool.{not-true}
use Rattle.std.proofs.lemmas.List.{map-append, length-map, get_or-map}
use Rattle.ring_core.specs.Ring.{RingOps, IsRing}
use Rattle.ring_core.specs.Field.{IsField}
use Rattle.ring_core.specs.Coeffs.{coeff}
use Rattle.ring_core.proofs.Carrier.{RingOn, Element, elements}
use Rattle.ring_core.proofs.Coefficients.{coeff_past}
use Rattle.linear_algebra.specs.Linear.{row_at, entry}
use Rattle.linear_algebra.proofs.Sums.{same_or_other}
use Rattle.linear_algebra.proofs.Lift.{AllIn}
use Rattle.linear_algebra.proofs.Gather.{leads, lead_number, leads_more, leads_same, are_leads}
use Rattle.flat_modules.specs.Flat.{are_flat, unit_at, times_rows, zero_rows, IsRelationOf, IsBasis}
use Rattle.flat_modules.proofs.Lists.{flat_at, flat_in}
use Rattle.flat_reduce.specs.steps.Turns.{Turns}
use Rattle.flat_reduce.specs.steps.Settled.{IsUnsettled}
use Rattle.flat_reduce.proofs.Reduced.{HasTransform, after_turns, start, live, inside, settled_places}
use Rattle.flat_reduce.proofs.Pushed.{flat_push}
use Rattle.flat_reduce.proofs.KernelRows.{times_bound, only_rows}

module _ {E : Type 0} where
  module _ (image left : List (List E)) where
    abbrev dead : ℕ → Bool
    dead k = not (nat_lt 0 (length (row_at image k)))

    -- the rows that are picked are those of `left` at the places marked
    picked_rows : (n : ℕ) → zero_rows image left n ≡ map (row_at left) (leads dead n)
    picked_rows zero = refl
    picked_rows (suc n) =
        let len = length (row_at image n) in
        let Z = zero_rows image left n in
        elim (same_or_other len 0) [
          | inl e ↦
              ap (λ b. cond b (Z ++ row_at left n ∷ []) Z) (eq-eqb len 0 e) ∙ ap (λ z. z ++ row_at left n ∷ []) (picked_rows n)
              ∙ sym (ap (map (row_at left)) (leads_more dead n (ap not (le-ltb 0 len (omega (arith, e))))) ∙ map-append (row_at left) (leads dead n) (n ∷ []))
          | inr ne ↦
              ap (λ b. cond b (Z ++ row_at left n ∷ []) Z) (ne_eqb len 0 ne) ∙ picked_rows n
              ∙ sym (ap (map (row_at left)) (leads_same dead n (ap not (lt-ltb 0 len (omega (arith, ne))))))
        ]

    pub picked_count : (n : ℕ) → length (zero_rows image left n) ≡ length (leads dead n)
    picked_count n = ap length (picked_rows n) ∙ length-map (leads dead n) (row_at left)

    pub picked_row : (n j : ℕ) → j < length (zero_rows image left n) → row_at (zero_rows image left n) j ≡ row_at left (lead_number dead n j)
    picked_row n j l = let e = picked_count n in ap (λ u. row_at u j) (picked_rows n) ∙ get_or-map (row_at left) (leads dead n) j 0 [] (omega (arith, l, e))

module _ {E : Type 0} (r : RingOps E) (inv : E → Option E) (field : IsField r inv) where
  abbrev ring : IsRing r
  ring = field.ring

  abbrev S : RingOn (Element r)
  S = elements ring

  pub kernel_basis : (w : ℕ) (m ids zeros image left columns : List (List E)) (slot : List (Option ℕ)) → 0 < w → are_flat r m ≡ true → are_flat r ids ≡ true → are_flat r image ≡ true → are_flat r left ≡ true
      → length ids ≡ length m → length image ≡ length m → ((i t : ℕ) → i < length m → entry r ids i t ≡ unit_at r i t)
      → IsUnsettled w (length m) (length m) slot image → Turns r w (length m) m ids zeros image left columns → IsBasis r (length m) (IsRelationOf r w m) (zero_rows image left (length m))
  kernel_basis w [] ids zeros image left columns slot posw mf df fi li dl il unit_is settled turned = record {
    shape = refl;
    within = λ i l. absurd (omega arith);
    spans = λ x xc p. record {
      by = [];
      len = refl;
      polys = refl;
      is = λ t. ap (λ u. coeff r u t) (p.none refl);
      only = λ other l _ _. no_rows other l;
    };
  }
    where
      no_rows : (u : List (List E)) → length u ≡ 0 → u ≡ []
      no_rows [] l = refl
      no_rows (y ∷ ys) l = absurd (omega arith)
  kernel_basis w (x ∷ xs) ids zeros image left columns slot posw mf df fi li dl il unit_is settled turned = record {
    shape = picked_flat n;
    within = λ i l. record { none = λ e. absurd (let v = ap length e in omega (arith, v)); zero = λ t. relation i t l };
    spans = λ c ce p. only_rows r inv field w m image left mi posn posw s (live r ring w n slot image fi s.image_in il settled) (inside r ring w n slot image fi s.image_in il settled)
        (settled_places r ring w n slot image fi s.image_in il settled) (zero_rows image left n) (picked_flat n) (picked_count image left n) (picked_row image left n) c ce p.zero;
  }
    where
      m : List (List E)
      m = x ∷ xs

      n : ℕ
      n = length m

      posn : 0 < length (x ∷ xs)
      posn = omega arith

      mi : AllIn r (entry r (x ∷ xs))
      mi = flat_in r ring (x ∷ xs) mf

      di : AllIn r (entry r ids)
      di = flat_in r ring ids df

      s : HasTransform r ring w (x ∷ xs) image left mi
      s = after_turns r ring w (x ∷ xs) mi posn (x ∷ xs) ids zeros image left columns (start r ring w (x ∷ xs) mi posn ids dl di unit_is) turned

      picked_flat : (k : ℕ) → are_flat r (zero_rows image left k) ≡ true
      picked_flat zero = refl
      picked_flat (suc k) = elim (same_or_other (length (row_at image k)) 0) [
        | inl e ↦
            ap (λ b. are_flat r (cond b (zero_rows image left k ++ row_at left k ∷ []) (zero_rows image left k))) (eq-eqb (length (row_at image k)) 0 e)
            ∙ flat_push r (zero_rows image left k) (row_at left k) (picked_flat k) (flat_at r left li k)
        | inr ne ↦ ap (λ b. are_flat r (cond b (zero_rows image left k ++ row_at left k ∷ []) (zero_rows image left k))) (ne_eqb (length (row_at image k)) 0 ne) ∙ picked_flat k
      ]

      relation : (i t : ℕ) → i < length (zero_rows image left n) → times_rows r n w (row_at (zero_rows image left n) i) (entry r m) t ≡ r.zero
      relation i t l =
          let mark = are_leads (dead image left) n in
          let count = picked_count image left n in
          let at = lead_number (dead image left) n i in
          let empty : length (row_at image at) ≤ 0 = ltb-false 0 (length (row_at image at)) (not-true _ (mark.marked i (omega (arith, l, count)))) in
          ap (λ v. times_rows r n w v (entry r m) t) (picked_row image left n i l)
          ∙ times_bound r ring n w s.len (row_at left at) (s.left_in at) (s.is.left_short at) (entry r m) mi t
          ∙ ap (λ a. a.0) (s.is.image_is at t (mark.below i (omega (arith, l, count))))
          ∙ coeff_past r (row_at image at) t (omega (arith, empty))
