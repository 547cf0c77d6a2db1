-- What came about by turns has an invertible transform; settled rows have different lead places.
use Rattle.std.proofs.Common.{◌≡◌, ◌≢◌, ℕ, ◌+◌, ◌*◌, ◌%◌, ◌<◌, ◌≤◌, inl, inr, true, Bool, Option, List, [], length, cond, nat_lt, refl, sym, ◌∙◌, ap, ap₂, arith, eq-eqb, ne_eqb, ltb-true, ltb-false}
use Rattle.std.proofs.lemmas.Bool.{and_parts}
use Rattle.ring_core.specs.Ring.{RingOps, IsElem, IsRing}
use Rattle.ring_core.specs.Coeffs.{coeff, are_elems, is_trimmed}
use Rattle.ring_core.proofs.Carrier.{RingOn, Element, elements, same_element, add_zero, zero_mul}
use Rattle.ring_core.proofs.Coefficients.{coeff_past}
use Rattle.ring_core.proofs.Degrees.{top_nonzero}
use Rattle.linear_algebra.specs.Linear.{row_at, entry}
use Rattle.linear_algebra.proofs.Sums.{unit, same_or_other, by_bool}
use Rattle.linear_algebra.proofs.Lift.{AllIn, rows_of}
use Rattle.flat_modules.specs.Flat.{are_flat, lead_at, unit_at}
use Rattle.flat_modules.proofs.Lists.{flat_at, row_past, shift_value}
use Rattle.flat_modules.proofs.Shift.{shift}
use Rattle.flat_modules.proofs.Places.{HasPlaces}
use Rattle.flat_modules.proofs.Matrix.{Transform, row_added, turn_transform, transform_same, start_transform}
use Rattle.flat_reduce.specs.steps.Turns.{IsRowAdded, IsTurn, Turns, none, turn}
use Rattle.flat_reduce.specs.steps.Settled.{IsUnsettled, slot_of}
use Rattle.flat_reduce.proofs.Settling.{some_same}

module _ {E : Type 0} (r : RingOps E) (h : IsRing r) where
  abbrev R : RingOn (Element r)
  R = elements h

  -- the rows after an addition are elements
  pub added_in : (p q s : ℕ) (c : E) (before after : List (List E)) → AllIn r (entry r before) → IsElem r c → IsRowAdded r p q s c before after → AllIn r (entry r after)
  added_in p q s c before after bi ci added i t = elim (same_or_other i p) [
    | inl e ↦
        ap r.is_elem (ap (λ k. entry r after k t) e ∙ added.here t)
        ∙ h.closed.add_in _ _ (bi p t) (h.closed.mul_in _ _ ci (ap r.is_elem (sym (shift_value r h s (rows_of r (entry r before) bi q) t)) ∙ (shift R s (rows_of r (entry r before) bi q) t).1))
    | inr ne ↦ ap r.is_elem (added.rest i t ne) ∙ bi i t
  ]

  pub added_is : (p q e w : ℕ) (c : E) (ci : IsElem r c) (before after : List (List E)) (bi : AllIn r (entry r before)) (ai : AllIn r (entry r after)) → IsRowAdded r p q (e * w) c before after
      → (i t : ℕ) → rows_of r (entry r after) ai i t ≡ row_added R p q (c, ci) e w (rows_of r (entry r before) bi) i t
  added_is p q e w c ci before after bi ai added i t =
      let rows = rows_of r (entry r before) bi in
      let part = shift R (e * w) (rows q) t in
      elim (same_or_other i p) [
        | inl is ↦
            same_element r _ _ (ap (λ k. entry r after k t) is ∙ added.here t ∙ ap₂ (λ k v. r.add (entry r before k t) (r.mul c v)) (sym is) (sym (shift_value r h (e * w) (rows q) t)))
            ∙ ap (λ b. R.add (rows i t) (R.mul (cond b (c, ci) R.zero) part)) (sym (eq-eqb i p is))
        | inr ne ↦
            same_element r _ _ (added.rest i t ne) ∙ sym (ap (R.add (rows i t)) (zero_mul R part) ∙ add_zero R (rows i t))
            ∙ ap (λ b. R.add (rows i t) (R.mul (cond b (c, ci) R.zero) part)) (sym (ne_eqb i p ne))
      ]

  pub unit_value : (i t : ℕ) → unit_at r i t ≡ (unit R i t).0
  unit_value i t = elim (same_or_other i t) [
    | inl e ↦ ap (λ b. cond b r.one r.zero) (eq-eqb i t e) ∙ sym (ap (λ a. a.0) (ap (λ b. cond b R.one R.zero) (eq-eqb i t e)))
    | inr ne ↦ ap (λ b. cond b r.one r.zero) (ne_eqb i t ne) ∙ sym (ap (λ a. a.0) (ap (λ b. cond b R.one R.zero) (ne_eqb i t ne)))
  ]

  -- some matrix undoes `left`
  pub record HasTransform (w : ℕ) (m image left : List (List E)) (mi : AllIn r (entry r m)) : Type 0 where
    pub image_in : AllIn r (entry r image)
    pub left_in : AllIn r (entry r left)
    pub len : ℕ
    pub back : ℕ → ℕ → Element r
    pub is : Transform R (length m) w len (rows_of r (entry r left) left_in) back (rows_of r (entry r m) mi) (rows_of r (entry r image) image_in)

  module _ (w : ℕ) (m : List (List E)) (mi : AllIn r (entry r m)) (pos : 0 < length m) where
    unfoldable pub after_turn : (p q : ℕ) (image left columns image2 left2 columns2 : List (List E)) → p < length m → q < length m → p ≢ q → HasTransform w m image left mi → IsTurn r w (length m) p q image left columns image2 left2 columns2
        → HasTransform w m image2 left2 mi
    after_turn p q image left columns image2 left2 columns2 lp lq ne s t =
        let n = length m in
        let a : Element r = (t.factor, t.elem) in
        let image_in = added_in p q _ t.factor image image2 s.image_in t.elem t.images in
        let left_in = added_in p q _ t.factor left left2 s.left_in t.elem t.lefts in
        let room = t.power * n + n + s.len in
        record {
          image_in = image_in;
          left_in = left_in;
          len = room + room;
          back = _;
          is = transform_same R n w (room + room) _ _ _ _ _ _ pos
              (turn_transform R n w s.len room (room + room) p q t.power pos a lp lq ne _ s.back _ _ s.is (omega arith) (omega arith))
              (added_is p q t.power n t.factor t.elem left left2 s.left_in left_in t.lefts)
              (added_is p q t.power w t.factor t.elem image image2 s.image_in image_in t.images);
        }

    pub after_turns : (image left columns image2 left2 columns2 : List (List E)) → HasTransform w m image left mi → Turns r w (length m) image left columns image2 left2 columns2 → HasTransform w m image2 left2 mi
    after_turns image left columns image2 left2 columns2 s none = s
    after_turns image left columns image2 left2 columns2 s (turn p q a b k c d l lp lq ne before last) =
        after_turn p q a b k c d l lp lq ne (after_turns image left columns a b k s before) last

    module _ (ids : List (List E)) (dl : length ids ≡ length m) (di : AllIn r (entry r ids)) (unit_is : (i t : ℕ) → i < length m → entry r ids i t ≡ unit_at r i t) where
      -- the identity is its own inverse
      unfoldable pub start : HasTransform w m m ids mi
      start = record {
        image_in = mi;
        left_in = di;
        len = length m;
        back = rows_of r (entry r ids) di;
        is = start_transform R (length m) w pos (rows_of r (entry r ids) di) (rows_of r (entry r m) mi) (rows_of r (entry r m) mi)
            (λ i t l. same_element r _ _ (unit_is i t l ∙ unit_value i t))
            (λ i t l. same_element r _ _ (ap (λ u. coeff r u t) (row_past r ids i (omega (arith, l, dl)))))
            (λ i t l. refl);
      }

-- rows that are settled have different lead places
module _ {E : Type 0} (r : RingOps E) (w n : ℕ) (slot : List (Option ℕ)) (image : List (List E)) (whole : length image ≡ n) (settled : IsUnsettled w n n slot image) where
  row_inside : (j : ℕ) → row_at image j ≢ [] → j < n
  row_inside j nz = by_bool (nat_lt j n) (λ b. ltb-true j n b) (λ b. let l : n ≤ j = ltb-false j n b in absurd (nz (row_past r image j (omega (arith, l, whole)))))

  pub different_places : (i k : ℕ) → row_at image i ≢ [] → row_at image k ≢ [] → i ≢ k → lead_at image i % w ≢ lead_at image k % w
  different_places i k ni nk ne e =
      let a = row_inside i ni in
      let b = row_inside k nk in
      ne (some_same i k (sym (settled.all i (omega (arith, a)) (λ u. omega (arith, u, a)) ni) ∙ ap (slot_of slot) e ∙ settled.all k (omega (arith, b)) (λ u. omega (arith, u, b)) nk))

module _ {E : Type 0} (r : RingOps E) (h : IsRing r) (w n : ℕ) (slot : List (Option ℕ)) (image : List (List E)) (fi : are_flat r image ≡ true) (ii : AllIn r (entry r image)) (whole : length image ≡ n)
    (settled : IsUnsettled w n n slot image) where
  abbrev pub live : ℕ → Bool
  live k = nat_lt 0 (length (row_at image k))

  full : (k : ℕ) → live k ≡ true → row_at image k ≢ []
  full k e z = let l = ltb-true 0 (length (row_at image k)) e in let v = ap length z in omega (arith, l, v)

  pub inside : (k : ℕ) → live k ≡ true → k < n
  inside k e = row_inside r w n slot image whole settled k (full k e)

  pub settled_places : HasPlaces (elements h) w live (lead_at image) (rows_of r (entry r image) ii)
  settled_places = record {
    absent = λ k t e. let l : length (row_at image k) ≤ 0 = ltb-false 0 (length (row_at image k)) e in same_element r _ _ (coeff_past r (row_at image k) t (omega (arith, l)));
    nonzero = λ k e z. top_nonzero r h.closed.zero_in h.equal (row_at image k) (and_parts (are_elems r (row_at image k)) (is_trimmed r (row_at image k)) (flat_at r image fi k)).1 (full k e) (ap (λ x. x.0) z);
    above = λ k t e l. same_element r _ _ (coeff_past r (row_at image k) t (omega (arith, l)));
    places = λ j k lj lk ne. different_places r w n slot image whole settled j k (full j lj) (full k lk) ne;
  }
