-- Flat rows can be settled: rows exist that come about by turns and have different lead places.
use Rattle.std.proofs.Common.{◌≡◌, ◌≢◌, ℕ, zero, suc, ◌+◌, ◌-◌, ◌*◌, ◌/◌, ◌%◌, ◌<◌, ◌≤◌, ◌⊎◌, inl, inr, true, cond, nat_lt, Option, Some, None, List, [], length, replicate, set, refl, sym, ◌∙◌, ap, subst, arith, add-one, length-set, get_or-set_same, get_or-set_other, le-ltb, ltb-true, ltb-false}
use Rattle.std.proofs.Math.Nat.{mod-lt}
use Rattle.std.proofs.lemmas.Bool.{cond_both}
use Rattle.ring_core.specs.Ring.{RingOps, IsElem, IsRing}
use Rattle.ring_core.specs.Field.{IsField}
use Rattle.ring_core.specs.Coeffs.{coeff, list_of}
use Rattle.ring_core.proofs.Coefficients.{coeff_past, coeff-list_of, canonical-list_of}
use Rattle.ring_core.proofs.Terms.{times_zero}
use Rattle.linear_algebra.specs.Linear.{row_at, entry}
use Rattle.linear_algebra.proofs.Sums.{by_bool, same_or_other}
use Rattle.flat_modules.specs.Flat.{are_flat, lead_at, shifted}
use Rattle.flat_modules.proofs.Lists.{flat_in}
use Rattle.flat_reduce.specs.steps.Settled.{slot_of, total_len, IsNamed, IsUnsettled}
use Rattle.flat_reduce.specs.steps.Turns.{IsRowAdded, IsTurn, Turns, none, turn}
use Rattle.flat_reduce.proofs.Pushed.{unsettled_start}
use Rattle.flat_reduce.proofs.RowSteps.{flat_set, inverse_of, has_inverse, turn_of, shorter_of, not_empty_len}
use Rattle.flat_reduce.proofs.Settling.{rest_row, fewer_by_turn, unsettled_kept, unsettled_swapped, unsettled_placed, unsettled_done, unsettled_next, empty_row}

pub by_option : {A P : Type 0} (o : Option A) → (o ≡ None → P) → ((x : A) → o ≡ Some x → P) → P
by_option None f g = f refl
by_option (Some x) f g = g x refl

-- Rows with `c` times row `q`, behind `s` zeros, added to row `p`.
pub record HasAdded {E : Type 0} (r : RingOps E) (p q s : ℕ) (c : E) (rows : List (List E)) : Type 0 where
  pub new : List (List E)
  pub flat : are_flat r new ≡ true
  pub is : IsRowAdded r p q s c rows new

module _ {E : Type 0} (r : RingOps E) (h : IsRing r) (rows : List (List E)) (ri : are_flat r rows ≡ true) (p q s : ℕ) (c : E) (ci : IsElem r c) (lp : p < length rows) where
  abbrev sum : ℕ → E
  sum t = r.add (entry r rows p t) (r.mul c (shifted r s (entry r rows q) t))

  abbrev bound : ℕ
  bound = length (row_at rows p) + (s + length (row_at rows q))

  sum_in : (t : ℕ) → IsElem r (sum t)
  sum_in t =
      h.closed.add_in _ _ (flat_in r h rows ri p t)
      (h.closed.mul_in _ _ ci (cond_both (nat_lt t s) r.zero (entry r rows q (t - s)) (λ a. IsElem r a) (λ _. h.closed.zero_in) (λ _. flat_in r h rows ri q (t - s))))

  sum_past : (t : ℕ) → bound ≤ t → sum t ≡ r.zero
  sum_past t far =
      let shift_past : shifted r s (entry r rows q) t ≡ r.zero =
      ap (λ b. cond b r.zero (entry r rows q (t - s))) (le-ltb t s (omega (arith, far))) ∙ coeff_past r (row_at rows q) (t - s) (omega (arith, far)) in
      ap (λ a. r.add a (r.mul c (shifted r s (entry r rows q) t))) (coeff_past r (row_at rows p) t (omega (arith, far)))
      ∙ ap (r.add r.zero) (times_zero r h c _ ci shift_past) ∙ h.zero_add r.zero h.closed.zero_in

  abbrev row : List E
  row = list_of r bound sum

  pub added_exists : HasAdded r p q s c rows
  added_exists = record {
    new = set rows p row;
    flat = flat_set r rows p row ri (canonical-list_of r bound sum (λ t _. sum_in t));
    is = record {
      len = length-set rows p row;
      here = λ t. ap (λ u. coeff r u t) (get_or-set_same rows p row [] lp) ∙ coeff-list_of r h.closed.zero_in h.equal bound sum sum_in sum_past t;
      rest = λ i t ne. ap (λ u. coeff r u t) (get_or-set_other rows p i row [] ne);
    };
  }

module _ {E : Type 0} (r : RingOps E) (inv : E → Option E) (field : IsField r inv) where
  abbrev ring : IsRing r
  ring = field.ring

  -- the inverse of the top of a row
  pub record HasInverse (rows : List (List E)) (q : ℕ) : Type 0 where
    pub inverse : E
    pub found : inv (entry r rows q (lead_at rows q)) ≡ Some inverse

  pub top_inverse : (rows : List (List E)) (q : ℕ) → are_flat r rows ≡ true → row_at rows q ≢ [] → HasInverse rows q
  top_inverse rows q ri ne =
      let low = entry r rows q (lead_at rows q) in
      by_option (inv low)
      (λ e. absurd (has_inverse r inv field rows q (length (row_at rows q)) low ri ne refl refl (flat_in r ring rows ri q (lead_at rows q)) (λ x f. let g : None ≡ Some x = sym e ∙ f in cc)))
      (λ x e. record { inverse = x; found = e })

  module _ (w n : ℕ) (posw : 0 < w) where
    -- Three lists of `n` rows.
    pub record AreRows (image left columns : List (List E)) : Type 0 where
      pub images : are_flat r image ≡ true
      pub lefts : are_flat r left ≡ true
      pub inverses : are_flat r columns ≡ true
      pub image_len : length image ≡ n
      pub left_len : length left ≡ n
      pub columns_len : length columns ≡ n

    -- What a turn of row `p` by row `q` makes of them.
    record HasTurn (p q : ℕ) (image left columns : List (List E)) : Type 0 where
      image2 : List (List E)
      left2 : List (List E)
      columns2 : List (List E)
      rows : AreRows image2 left2 columns2
      is : IsTurn r w n p q image left columns image2 left2 columns2
      shorter : length (row_at image2 p) < length (row_at image p)

    turn_exists : (p q : ℕ) (image left columns : List (List E)) → AreRows image left columns → p < n → q < n → row_at image q ≢ [] → length (row_at image q) ≤ length (row_at image p)
        → lead_at image p % w ≡ lead_at image q % w → HasTurn p q image left columns
    turn_exists p q image left columns rows lp lq ne lower place =
        let a = length (row_at image p) in
        let b = length (row_at image q) in
        let s = a - b in
        let top = entry r image p (a - 1) in
        let low = entry r image q (b - 1) in
        let ti = flat_in r ring image rows.images p (a - 1) in
        let li = flat_in r ring image rows.images q (b - 1) in
        let inverse = top_inverse image q rows.images ne in
        let v = inverse_of r inv field low inverse.inverse li inverse.found in
        let c = r.neg (r.mul top inverse.inverse) in
        let ci : IsElem r c = ring.closed.neg_in _ (ring.closed.mul_in _ _ ti v.0) in
        let t = s / w * n in
        let one = added_exists r ring image rows.images p q s c ci (omega (arith, lp, rows.image_len)) in
        let two = added_exists r ring left rows.lefts p q t c ci (omega (arith, lp, rows.left_len)) in
        let three = added_exists r ring columns rows.inverses q p t (r.neg c) (ring.closed.neg_in _ ci) (omega (arith, lq, rows.columns_len)) in
        let pos = not_empty_len (row_at image q) ne in
        record {
          image2 = one.new;
          left2 = two.new;
          columns2 = three.new;
          rows = record {
            images = one.flat;
            lefts = two.flat;
            inverses = three.flat;
            image_len = one.is.len ∙ rows.image_len;
            left_len = two.is.len ∙ rows.left_len;
            columns_len = three.is.len ∙ rows.columns_len;
          };
          is = turn_of r inv field w n p q a b t c image left columns one.new two.new three.new posw refl refl pos lower place refl ci one.is two.is three.is;
          shorter = shorter_of r inv field w n p q a b t c image left columns one.new two.new three.new posw refl refl pos lower place rows.images one.flat top low inverse.inverse ti li refl refl inverse.found refl one.is;
        }

    module _ (m ids zeros : List (List E)) where
      -- Rows that came about by turns.
      pub record HasTurned : Type 0 where
        pub image : List (List E)
        pub left : List (List E)
        pub columns : List (List E)
        pub rows : AreRows image left columns
        pub turned : Turns r w n m ids zeros image left columns

      -- Such rows, of which all up to `i` but row `p` are settled.
      pub record HasRows (i p : ℕ) : Type 0 where
        pub slot : List (Option ℕ)
        pub made : HasTurned
        pub unsettled : IsUnsettled w i p slot made.image

      -- What a step with row `p` leads to: row `i` is settled, or another row is left and the rows are shorter.
      record HasShorter (i p : ℕ) (s : HasRows i p) : Type 0 where
        left_row : ℕ
        within : left_row ≤ i
        rows : HasRows i left_row
        fewer : total_len rows.made.image < total_len s.made.image

      module _ (i p : ℕ) (s : HasRows i p) (lp : p ≤ i) (li : i < n) where
        abbrev image : List (List E)
        image = s.made.image

        abbrev place : ℕ
        place = lead_at image p % w

        inside : place < length s.slot
        inside = let low = mod-lt (lead_at image p) posw in omega (arith, low, s.unsettled.len)

        module _ (d : row_at image p ≢ []) (q : ℕ) (e : slot_of s.slot place ≡ Some q) where
          named : IsNamed w i p image place q
          named = s.unsettled.names place q e

          -- the rows after a turn of row `a` by row `b`
          abbrev after : (a b : ℕ) → a < n → b < n → a ≢ b → HasTurn a b image s.made.left s.made.columns → HasTurned
          after a b la lb ne t = record {
            image = t.image2;
            left = t.left2;
            columns = t.columns2;
            rows = t.rows;
            turned = turn a b image s.made.left s.made.columns t.image2 t.left2 t.columns2 la lb ne s.made.turned t.is;
          }

          others : (a b : ℕ) (t : HasTurn a b image s.made.left s.made.columns) → (k : ℕ) → k ≢ a → row_at t.image2 k ≡ row_at image k
          others a b t k ne = rest_row r ring a b _ t.is.factor image t.image2 s.made.rows.images t.rows.images t.is.images k ne

          lessened : (a b : ℕ) (t : HasTurn a b image s.made.left s.made.columns) → a < n → total_len t.image2 < total_len image
          lessened a b t la = fewer_by_turn r ring w n a b image s.made.left s.made.columns t.image2 t.left2 t.columns2 s.made.rows.images t.rows.images (omega (arith, la, s.made.rows.image_len)) t.is t.shorter

          -- the shorter row is named, and the longer one is left
          swapped : length (row_at image p) < length (row_at image q) → HasShorter i p s
          swapped less =
              let lq = named.within in
              let a : q < n = omega (arith, lq, li) in
              let b : p < n = omega (arith, lp, li) in
              let t = turn_exists q p image s.made.left s.made.columns s.made.rows a b d (omega (arith, less)) named.place in
              record {
                left_row = q;
                within = lq;
                rows = record {
                  slot = set s.slot place (Some p);
                  made = after q p a b named.apart t;
                  unsettled = unsettled_swapped w i p s.slot image s.unsettled place inside lp d refl q t.image2 e (λ u. named.apart (sym u)) (others q p t);
                };
                fewer = lessened q p t a;
              }

          kept : length (row_at image q) ≤ length (row_at image p) → HasShorter i p s
          kept more =
              let lq = named.within in
              let a : p < n = omega (arith, lp, li) in
              let b : q < n = omega (arith, lq, li) in
              let t = turn_exists p q image s.made.left s.made.columns s.made.rows a b named.nonzero more (sym named.place) in
              record {
                left_row = p;
                within = lp;
                rows = record {
                  slot = s.slot;
                  made = after p q a b (λ u. named.apart (sym u)) t;
                  unsettled = unsettled_kept w i p s.slot image s.unsettled t.image2 (others p q t);
                };
                fewer = lessened p q t a;
              }

        step : HasRows i (i + 1) ⊎ HasShorter i p s
        step = elim (same_or_other (length (row_at image p)) 0) [
          | inl e ↦ inl (record { slot = s.slot; made = s.made; unsettled = unsettled_done w i p s.slot image s.unsettled (empty_row (row_at image p) e) })
          | inr d ↦
              let some : row_at image p ≢ [] = λ z. d (ap length z) in
              by_option (slot_of s.slot place)
              (λ e. inl (record { slot = set s.slot place (Some p); made = s.made; unsettled = unsettled_placed w i p s.slot image s.unsettled place inside lp some refl e }))
              (λ q e. by_bool (nat_lt (length (row_at image p)) (length (row_at image q)))
              (λ b. inr (swapped some q e (ltb-true _ _ b)))
              (λ b. inr (kept some q e (ltb-false _ _ b))))
        ]

      -- row `i` is settled by steps, each of which makes the rows shorter
      settled : (fuel i p : ℕ) (s : HasRows i p) → total_len s.made.image < fuel → p ≤ i → i < n → HasRows i (i + 1)
      settled zero i p s few lp li = absurd (omega (arith, few))
      settled (suc fuel) i p s few lp li = elim (step i p s lp li) [
        | inl done ↦ done
        | inr t ↦ let fewer = t.fewer in settled fuel i t.left_row t.rows (omega (arith, fewer, few)) t.within li
      ]

      -- all rows up to the last
      settled_to : AreRows m ids zeros → (i : ℕ) → i ≤ n → HasRows i i
      settled_to rows zero l =
          record { slot = replicate w None; made = record { image = m; left = ids; columns = zeros; rows = rows; turned = none }; unsettled = unsettled_start w (replicate w None) m refl }
      settled_to rows (suc i) l =
          let s = settled_to rows i (omega (arith, l)) in
          let t = settled (suc (total_len s.made.image)) i i s (omega arith) (omega arith) (omega (arith, l)) in
          subst (λ j. HasRows j j) (add-one i) (record { slot = t.slot; made = t.made; unsettled = unsettled_next w i t.slot t.made.image t.unsettled })

      pub settled_exist : AreRows m ids zeros → HasRows n n
      settled_exist rows = settled_to rows n (omega arith)
