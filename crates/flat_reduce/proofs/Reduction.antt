-- A reduction as lists: the transform, its inverse and the image.
use Rattle.std.proofs.Common.{◌≡◌, ◌≢◌, ℕ, ◌+◌, ◌*◌, ◌/◌, ◌%◌, ◌<◌, true, Option, List, [], ◌∷◌, length, refl, sym, ◌∙◌, ap, arith}
use Rattle.std.proofs.Math.Nat.{mod-lt}
use Rattle.ring_core.specs.Ring.{RingOps, IsRing}
use Rattle.ring_core.specs.Field.{IsField}
use Rattle.ring_core.specs.Coeffs.{coeff, list_of, first_values}
use Rattle.ring_core.proofs.Carrier.{RingOn, Element, elements, same_element}
use Rattle.ring_core.proofs.Coefficients.{coeff-list_of, canonical-list_of}
use Rattle.ring_core.proofs.FirstValues.{length-first_values, at-first_values}
use Rattle.linear_algebra.specs.Linear.{row_at, entry}
use Rattle.linear_algebra.proofs.Sums.{combine_same}
use Rattle.linear_algebra.proofs.Lift.{AllIn, rows_of}
use Rattle.flat_modules.specs.Flat.{are_flat, unit_at, lead_at, zero_rows, IsReduction, IsOfReduction}
use Rattle.flat_modules.proofs.Lists.{flat_in, flat_first}
use Rattle.flat_modules.proofs.Shift.{powers}
use Rattle.flat_modules.proofs.Matrix.{times_same}
use Rattle.flat_modules.proofs.Columns.{across, column_added, unit_across}
use Rattle.flat_reduce.specs.steps.Turns.{IsTurn, Turns, none, turn}
use Rattle.flat_reduce.specs.steps.Settled.{IsUnsettled}
use Rattle.flat_reduce.proofs.Reduced.{HasTransform, different_places, added_in, added_is, after_turn, after_turns, start, unit_value}
use Rattle.flat_reduce.proofs.KernelRows.{times_bound}

module _ {E : Type 0} (r : RingOps E) (inv : E → Option E) (field : IsField r inv) where
  abbrev ring : IsRing r
  ring = field.ring

  abbrev S : RingOn (Element r)
  S = elements ring

  commutes : (x y : Element r) → S.mul x y ≡ S.mul y x
  commutes x y = same_element r _ _ (field.mul_comm x.0 y.0 x.1 y.1)

  module _ (w : ℕ) (m : List (List E)) (mi : AllIn r (entry r m)) (pos : 0 < length m) where
    abbrev n : ℕ
    n = length m

    -- the inverse has these columns
    pub record HasColumns (image left columns : List (List E)) : Type 0 where
      pub transform : HasTransform r ring w m image left mi
      pub columns_in : AllIn r (entry r columns)
      pub is : (i t : ℕ) → i < n → transform.back i t ≡ across n (rows_of r (entry r columns) columns_in) i t

    columns_turn : (p q : ℕ) (image left columns image2 left2 columns2 : List (List E)) → p < n → q < n → p ≢ q → HasColumns image left columns → IsTurn r w n p q image left columns image2 left2 columns2
        → HasColumns image2 left2 columns2
    unfolding after_turn
    columns_turn p q image left columns image2 left2 columns2 lp lq ne s t =
        let b : Element r = S.neg (t.factor, t.elem) in
        let before = s.transform in
        let columns_in = added_in r ring q p _ (r.neg t.factor) columns columns2 s.columns_in b.1 t.inverse in
        record {
          transform = after_turn r ring w m mi pos p q image left columns image2 left2 columns2 lp lq ne before t;
          columns_in = columns_in;
          is = λ i u l.
              column_added S n pos p q t.power lp lq b commutes before.len (rows_of r (entry r columns) s.columns_in) (before.back i) i l (before.is.back_short i) (λ k. s.is i k l) u
              ∙ sym (added_is r ring q p t.power n (r.neg t.factor) b.1 columns columns2 s.columns_in columns_in t.inverse (u % n) (u / n * n + i));
        }

    columns_turns : (image left columns image2 left2 columns2 : List (List E)) → HasColumns image left columns → Turns r w n image left columns image2 left2 columns2 → HasColumns image2 left2 columns2
    columns_turns image left columns image2 left2 columns2 s none = s
    columns_turns image left columns image2 left2 columns2 s (turn p q a b k c d l lp lq ne before last) =
        columns_turn p q a b k c d l lp lq ne (columns_turns image left columns a b k s before) last

    columns_start : (ids columns : List (List E)) → length ids ≡ n → (di : AllIn r (entry r ids)) (ci : AllIn r (entry r columns))
        → ((i t : ℕ) → i < n → entry r ids i t ≡ unit_at r i t) → ((i t : ℕ) → i < n → entry r columns i t ≡ unit_at r i t) → HasColumns m ids columns
    unfolding start
    columns_start ids columns dl di ci unit_is unit_columns = record {
      transform = start r ring w m mi pos ids dl di unit_is;
      columns_in = ci;
      is = λ i t l.
          same_element r _ _ (unit_is i t l ∙ unit_value r ring i t ∙ ap (λ a. a.0) (sym (unit_across S n pos i t l)) ∙ sym (unit_value r ring (t % n) (t / n * n + i))
          ∙ sym (unit_columns (t % n) (t / n * n + i) (mod-lt t {m = n} pos)));
    }

    -- a transform whose inverse is listed
    module _ (image left back : List (List E)) (s : HasTransform r ring w m image left mi) (image_flat : are_flat r image ≡ true) (left_flat : are_flat r left ≡ true) (back_flat : are_flat r back ≡ true)
        (image_len : length image ≡ n) (left_len : length left ≡ n) (back_len : length back ≡ n) (is : (i t : ℕ) → i < n → entry r back i t ≡ (s.back i t).0)
        (places : (i k : ℕ) → row_at image i ≢ [] → row_at image k ≢ [] → i ≢ k → lead_at image i % w ≢ lead_at image k % w) where
      bi : AllIn r (entry r back)
      bi = flat_in r ring back back_flat

      same : (i t : ℕ) → i < n → rows_of r (entry r back) bi i t ≡ s.back i t
      same i t l = same_element r _ _ (is i t l)

      pub reduction_of : IsReduction r w m left back image
      reduction_of = record {
        left_len = left_len;
        back_len = back_len;
        image_len = image_len;
        left_flat = left_flat;
        back_flat = back_flat;
        image_flat = image_flat;
        image_is = λ i t l. times_bound r ring n w s.len (row_at left i) (s.left_in i) (s.is.left_short i) (entry r m) mi t ∙ ap (λ a. a.0) (s.is.image_is i t l);
        left_back = λ i t l.
            times_bound r ring n n s.len (row_at left i) (s.left_in i) (s.is.left_short i) (entry r back) bi t
            ∙ ap (λ a. a.0) (times_same S n n s.len (rows_of r (entry r left) s.left_in i) (rows_of r (entry r back) bi) s.back t pos (λ j k lj. same j k lj) ∙ s.is.left_back i t l)
            ∙ sym (unit_value r ring i t);
        back_left = λ i t l.
            times_bound r ring n n s.len (row_at back i) (bi i) (λ k far. same i k l ∙ s.is.back_short i k far) (entry r left) s.left_in t
            ∙ ap (λ a. a.0) (combine_same S s.len (rows_of r (entry r back) bi i) (s.back i) (powers S n n (rows_of r (entry r left) s.left_in)) t (λ k _. same i k l) ∙ s.is.back_left i t l)
            ∙ sym (unit_value r ring i t);
        places = places;
      }

    -- the inverse, listed
    listed_back : (image left : List (List E)) → HasTransform r ring w m image left mi → List (List E)
    listed_back image left s = first_values n (λ i. list_of r s.len (λ k. (s.back i k).0))

    pub of_reduction : (image left : List (List E)) (s : HasTransform r ring w m image left mi) → are_flat r image ≡ true → are_flat r left ≡ true → length image ≡ n → length left ≡ n
        → ((i k : ℕ) → row_at image i ≢ [] → row_at image k ≢ [] → i ≢ k → lead_at image i % w ≢ lead_at image k % w) → IsOfReduction r w m (zero_rows image left n)
    unfolding listed_back
    of_reduction image left s fi fl il ll places =
        let row : ℕ → List E = λ i. list_of r s.len (λ k. (s.back i k).0) in
        record {
          left = left;
          back = listed_back image left s;
          image = image;
          reduction = reduction_of image left (listed_back image left s) s fi fl (flat_first r n row (λ i. canonical-list_of r s.len _ (λ j _. (s.back i j).1))) il ll (length-first_values n row)
              (λ i t l. ap (λ u. coeff r u t) (at-first_values n row i [] l)
              ∙ coeff-list_of r ring.closed.zero_in ring.equal s.len _ (λ j. (s.back i j).1) (λ j far. ap (λ x. x.0) (s.is.back_short i j far)) t)
              places;
          picked = refl;
        }

    -- settled rows, with the columns of the inverse
    pub settled_reduction : (ids columns image left after back : List (List E)) (slot : List (Option ℕ)) → are_flat r ids ≡ true → are_flat r columns ≡ true → length ids ≡ n
        → ((i t : ℕ) → i < n → entry r ids i t ≡ unit_at r i t) → ((i t : ℕ) → i < n → entry r columns i t ≡ unit_at r i t) → are_flat r image ≡ true → are_flat r left ≡ true → length image ≡ n → length left ≡ n
        → IsUnsettled w n n slot image → Turns r w n m ids columns image left after → are_flat r back ≡ true → length back ≡ n → ((i t : ℕ) → i < n → entry r back i t ≡ entry r after (t % n) (t / n * n + i))
        → IsReduction r w m left back image
    settled_reduction ids columns image left after back slot df cf dl unit_is unit_columns fi fl il ll settled turned fb bl is =
        let s = columns_turns m ids columns image left after (columns_start ids columns dl (flat_in r ring ids df) (flat_in r ring columns cf) unit_is unit_columns) turned in
        reduction_of image left back s.transform fi fl fb il ll bl (λ i t l. is i t l ∙ ap (λ a. a.0) (sym (s.is i t l))) (different_places r w n slot image il settled)

module _ {E : Type 0} (r : RingOps E) (inv : E → Option E) (field : IsField r inv) where
  no_rows : (w : ℕ) (left back image : List (List E)) (slot : List (Option ℕ)) → length left ≡ 0 → length back ≡ 0 → length image ≡ 0 → are_flat r left ≡ true → are_flat r back ≡ true → are_flat r image ≡ true
      → IsUnsettled w 0 0 slot image → IsReduction r w [] left back image
  no_rows w left back image slot ll bl il fl fb fi settled = record {
    left_len = ll;
    back_len = bl;
    image_len = il;
    left_flat = fl;
    back_flat = fb;
    image_flat = fi;
    image_is = λ i t l. absurd (omega arith);
    left_back = λ i t l. absurd (omega arith);
    back_left = λ i t l. absurd (omega arith);
    places = different_places r w 0 slot image il settled;
  }

  -- the same, where there may be no rows
  pub reduction_listed : (w : ℕ) (m : List (List E)) → are_flat r m ≡ true → (ids columns image left after back : List (List E)) (slot : List (Option ℕ)) → are_flat r ids ≡ true → are_flat r columns ≡ true → length ids ≡ length m
      → ((i t : ℕ) → i < length m → entry r ids i t ≡ unit_at r i t) → ((i t : ℕ) → i < length m → entry r columns i t ≡ unit_at r i t) → are_flat r image ≡ true → are_flat r left ≡ true → length image ≡ length m → length left ≡ length m
      → IsUnsettled w (length m) (length m) slot image → Turns r w (length m) m ids columns image left after → are_flat r back ≡ true → length back ≡ length m
      → ((i t : ℕ) → i < length m → entry r back i t ≡ entry r after (t % length m) (t / length m * length m + i)) → IsReduction r w m left back image
  reduction_listed w [] mf ids columns image left after back slot df cf dl unit_is unit_columns fi fl il ll settled turned fb bl is =
      no_rows w left back image slot ll bl il fl fb fi settled
  reduction_listed w (x ∷ xs) mf ids columns image left after back slot df cf dl unit_is unit_columns fi fl il ll settled turned fb bl is =
      settled_reduction r inv field w (x ∷ xs) (flat_in r field.ring (x ∷ xs) mf) (omega arith) ids columns image left after back slot df cf dl unit_is unit_columns fi fl il ll settled turned fb bl is

  -- rows of the transform at zero rows of the image
  pub picked_listed : (w : ℕ) (m : List (List E)) → are_flat r m ≡ true → (ids zeros image left columns : List (List E)) (slot : List (Option ℕ)) → are_flat r ids ≡ true → length ids ≡ length m
      → ((i t : ℕ) → i < length m → entry r ids i t ≡ unit_at r i t) → are_flat r image ≡ true → are_flat r left ≡ true → length image ≡ length m → length left ≡ length m
      → IsUnsettled w (length m) (length m) slot image → Turns r w (length m) m ids zeros image left columns → IsOfReduction r w m (zero_rows image left (length m))
  picked_listed w [] mf ids zeros image left columns slot df dl unit_is fi fl il ll settled turned =
      record { left = left; back = []; image = image; reduction = no_rows w left [] image slot ll refl il fl refl fi settled; picked = refl }
  picked_listed w (x ∷ xs) mf ids zeros image left columns slot df dl unit_is fi fl il ll settled turned =
      let mi = flat_in r field.ring (x ∷ xs) mf in
      let pos : 0 < length (x ∷ xs) = omega arith in
      of_reduction r inv field w (x ∷ xs) mi pos image left
      (after_turns r field.ring w (x ∷ xs) mi pos (x ∷ xs) ids zeros image left columns (start r field.ring w (x ∷ xs) mi pos ids dl (flat_in r field.ring ids df) unit_is) turned) fi fl il ll
      (different_places r w (length (x ∷ xs)) slot image il settled)
