-- Rows are settled: what one turn, and the end of them, does to the slots.
use Rattle.std.proofs.Common.{◌≡◌, ◌≢◌, ℕ, zero, suc, ◌+◌, ◌-◌, ◌%◌, ◌<◌, ◌≤◌, inl, inr, true, Option, Some, None, List, [], ◌∷◌, length, set, refl, sym, ◌∙◌, ap, arith, length-set}
use Rattle.std.proofs.lemmas.Bool.{and_parts}
use Rattle.std.proofs.lemmas.List.{get_or-set_same, get_or-set_other}
use Rattle.ring_core.specs.Ring.{RingOps, IsRing}
use Rattle.ring_core.specs.Coeffs.{are_elems, is_trimmed}
use Rattle.ring_core.proofs.Coefficients.{same_coeffs}
use Rattle.linear_algebra.specs.Linear.{row_at}
use Rattle.linear_algebra.proofs.Sums.{same_or_other}
use Rattle.flat_modules.specs.Flat.{are_flat, lead_at}
use Rattle.flat_modules.proofs.Lists.{flat_at}
use Rattle.flat_reduce.specs.steps.Settled.{slot_of}
use Rattle.flat_reduce.specs.steps.Turns.{IsRowAdded, IsTurn, Turns, none, turn}
use Rattle.flat_reduce.specs.steps.Settled.{total_len, IsNamed, IsUnsettled}

pub set_here : (slot : List (Option ℕ)) (j : ℕ) (x : Option ℕ) → j < length slot → slot_of (set slot j x) j ≡ x
set_here slot j x l = get_or-set_same slot j x None l

pub set_apart : (slot : List (Option ℕ)) (j k : ℕ) (x : Option ℕ) → j ≢ k → slot_of (set slot j x) k ≡ slot_of slot k
set_apart slot j k x ne = get_or-set_other slot j k x None (λ e. ne (sym e))

pub some_same : (a b : ℕ) → Some a ≡ Some b → a ≡ b
some_same a b e = cc

pub none_not_some : (a : ℕ) (o : Option ℕ) → o ≡ None → o ≡ Some a → ⊥
none_not_some a o e f = cc

-- shorter at one row, the same at the others
module _ {E : Type 0} where
  total_same : (a b : List (List E)) → length a ≡ length b → ((k : ℕ) → length (row_at a k) ≡ length (row_at b k)) → total_len a ≡ total_len b
  total_same [] [] l h = refl
  total_same [] (y ∷ ys) l h = absurd (omega arith)
  total_same (x ∷ xs) [] l h = absurd (omega arith)
  total_same (x ∷ xs) (y ∷ ys) l h = let u = h 0 in let v = total_same xs ys (omega arith) (λ k. h (suc k)) in omega (arith, u, v)

  pub total_less : (a b : List (List E)) (p : ℕ) → length a ≡ length b → p < length b → length (row_at a p) < length (row_at b p)
      → ((k : ℕ) → k ≢ p → length (row_at a k) ≡ length (row_at b k)) → total_len a < total_len b
  total_less [] [] p l q s h = absurd (omega arith)
  total_less [] (y ∷ ys) p l q s h = absurd (omega arith)
  total_less (x ∷ xs) [] p l q s h = absurd (omega arith)
  total_less (x ∷ xs) (y ∷ ys) zero l q s h = let v = total_same xs ys (omega arith) (λ k. h (suc k) (λ e. omega arith)) in omega (arith, s, v)
  total_less (x ∷ xs) (y ∷ ys) (suc p) l q s h =
      let u = h 0 (λ e. omega arith) in
      let v = total_less xs ys p (omega arith) (omega arith) s (λ k ne. h (suc k) (λ e. ne (omega (arith, e)))) in
      omega (arith, u, v)

  -- the other rows are the same lists
  pub rest_row : (r : RingOps E) → IsRing r → (p q s : ℕ) (c : E) (before after : List (List E)) → are_flat r before ≡ true → are_flat r after ≡ true → IsRowAdded r p q s c before after
      → (k : ℕ) → k ≢ p → row_at after k ≡ row_at before k
  rest_row r h p q s c before after bi ai added k ne =
      same_coeffs r h.closed.zero_in h.equal (row_at after k) (row_at before k)
      (and_parts (are_elems r (row_at after k)) (is_trimmed r (row_at after k)) (flat_at r after ai k)).1
      (and_parts (are_elems r (row_at before k)) (is_trimmed r (row_at before k)) (flat_at r before bi k)).1 (λ t. added.rest k t ne)

  pub fewer_by_turn : (r : RingOps E) → IsRing r → (w n p q : ℕ) (image left columns image2 left2 columns2 : List (List E)) → are_flat r image ≡ true → are_flat r image2 ≡ true → p < length image
      → IsTurn r w n p q image left columns image2 left2 columns2 → length (row_at image2 p) < length (row_at image p) → total_len image2 < total_len image
  fewer_by_turn r h w n p q image left columns image2 left2 columns2 bi ai l t shorter =
      total_less image2 image p t.images.len l shorter (λ k ne. ap length (rest_row r h p q _ t.factor image image2 bi ai t.images k ne))

  pub turns_more : (r : RingOps E) (w n : ℕ) (a b k c d l e f m : List (List E)) → Turns r w n a b k c d l → Turns r w n c d l e f m → Turns r w n a b k e f m
  turns_more r w n a b k c d l e f m s none = s
  turns_more r w n a b k c d l e f m s (turn p q x y z u v t lp lq ne before last) = turn p q x y z u v t lp lq ne (turns_more r w n a b k c d l x y z s before) last

  module _ (w i p : ℕ) (slot : List (Option ℕ)) (image : List (List E)) (h : IsUnsettled w i p slot image) where
    named_same : (image2 : List (List E)) (j q i2 p2 : ℕ) → IsNamed w i p image j q → i ≤ i2 → q ≢ p2 → row_at image2 q ≡ row_at image q → IsNamed w i2 p2 image2 j q
    named_same image2 j q i2 p2 s l ne same = record {
      within = let u = s.within in omega (arith, u, l);
      apart = ne;
      nonzero = λ z. s.nonzero (sym same ∙ z);
      place = ap (λ u. (length u - 1) % w) same ∙ s.place;
    }

    pub unsettled_kept : (image2 : List (List E)) → ((k : ℕ) → k ≢ p → row_at image2 k ≡ row_at image k) → IsUnsettled w i p slot image2
    unsettled_kept image2 same = record {
      len = h.len;
      names = λ j q e. let s = h.names j q e in named_same image2 j q i p s (omega arith) s.apart (same q s.apart);
      all = λ k l ne nz. ap (λ u. slot_of slot ((length u - 1) % w)) (same k ne) ∙ h.all k l ne (λ z. nz (same k ne ∙ z));
    }

    module _ (place : ℕ) (low : place < length slot) (within : p ≤ i) (nonzero : row_at image p ≢ []) (is_place : lead_at image p % w ≡ place) where
      -- the row is named, and the one that was named before takes its part
      pub unsettled_swapped : (q : ℕ) (image2 : List (List E)) → slot_of slot place ≡ Some q → p ≢ q → ((k : ℕ) → k ≢ q → row_at image2 k ≡ row_at image k)
          → IsUnsettled w i q (set slot place (Some p)) image2
      unsettled_swapped q image2 named ne same = record {
        len = length-set slot place (Some p) ∙ h.len;
        names = λ j k e. elim (same_or_other place j) [
          | inl here ↦
              let is : p ≡ k = some_same p k (sym (set_here slot place (Some p) low) ∙ ap (slot_of (set slot place (Some p))) here ∙ e) in
              record {
                within = omega (arith, is, within);
                apart = λ u. ne (is ∙ u);
                nonzero = λ z. nonzero (sym (same p ne) ∙ ap (row_at image2) is ∙ z);
                place = ap (λ m. lead_at image2 m % w) (sym is) ∙ ap (λ u. (length u - 1) % w) (same p ne) ∙ is_place ∙ here;
              }
          | inr other ↦
              let s = h.names j k (sym (set_apart slot place j (Some p) other) ∙ e) in
              let apart : k ≢ q = λ u. other (sym (h.names place q named).place ∙ ap (λ m. lead_at image m % w) (sym u) ∙ s.place) in
              named_same image2 j k i q s (omega arith) apart (same k apart)
        ];
        all = λ k l apart nz. elim (same_or_other k p) [
          | inl is ↦
              ap (λ u. slot_of (set slot place (Some p)) ((length u - 1) % w)) (same k apart) ∙ ap (λ m. slot_of (set slot place (Some p)) (lead_at image m % w)) is
              ∙ ap (slot_of (set slot place (Some p))) is_place ∙ set_here slot place (Some p) low ∙ ap Some (sym is)
          | inr d ↦
              let found = h.all k l d (λ z. nz (same k apart ∙ z)) in
              let away : place ≢ lead_at image k % w = λ u. apart (some_same k q (sym found ∙ ap (slot_of slot) (sym u) ∙ named)) in
              ap (λ u. slot_of (set slot place (Some p)) ((length u - 1) % w)) (same k apart) ∙ set_apart slot place _ (Some p) away ∙ found
        ];
      }

      -- the row is named at a free place: all are settled
      pub unsettled_placed : slot_of slot place ≡ None → IsUnsettled w i (i + 1) (set slot place (Some p)) image
      unsettled_placed free = record {
        len = length-set slot place (Some p) ∙ h.len;
        names = λ j k e. elim (same_or_other place j) [
          | inl here ↦
              let is : p ≡ k = some_same p k (sym (set_here slot place (Some p) low) ∙ ap (slot_of (set slot place (Some p))) here ∙ e) in
              record {
                within = omega (arith, is, within);
                apart = λ u. omega (arith, u, is, within);
                nonzero = λ z. nonzero (ap (row_at image) is ∙ z);
                place = ap (λ m. lead_at image m % w) (sym is) ∙ is_place ∙ here;
              }
          | inr other ↦
              let s = h.names j k (sym (set_apart slot place j (Some p) other) ∙ e) in
              let low = s.within in
              named_same image j k i (i + 1) s (omega arith) (λ u. omega (arith, u, low)) refl
        ];
        all = λ k l apart nz. elim (same_or_other k p) [
          | inl is ↦
              ap (λ m. slot_of (set slot place (Some p)) (lead_at image m % w)) is
              ∙ ap (slot_of (set slot place (Some p))) is_place ∙ set_here slot place (Some p) low ∙ ap Some (sym is)
          | inr d ↦
              let found = h.all k l d nz in
              let away : place ≢ lead_at image k % w = λ u. none_not_some k (slot_of slot place) free (ap (slot_of slot) u ∙ found) in
              set_apart slot place _ (Some p) away ∙ found
        ];
      }

    -- the row is zero: all are settled
    pub unsettled_done : row_at image p ≡ [] → IsUnsettled w i (i + 1) slot image
    unsettled_done z = record {
      len = h.len;
      names = λ j q e. let s = h.names j q e in let low = s.within in named_same image j q i (i + 1) s (omega arith) (λ u. omega (arith, u, low)) refl;
      all = λ k l _ nz. h.all k l (λ e. nz (ap (row_at image) e ∙ z)) nz;
    }

pub none_if : (o : Option ℕ) → ((q : ℕ) → o ≡ Some q → ⊥) → o ≡ None
none_if None h = refl
none_if (Some x) h = absurd (h x refl)

pub empty_row : {E : Type 0} (u : List E) → length u ≡ 0 → u ≡ []
empty_row [] l = refl
empty_row (x ∷ xs) l = absurd (omega arith)

-- the next row
pub unsettled_next : {E : Type 0} (w i : ℕ) (slot : List (Option ℕ)) (image : List (List E)) → IsUnsettled w i (i + 1) slot image → IsUnsettled w (i + 1) (i + 1) slot image
unsettled_next w i slot image h = record {
  len = h.len;
  names = λ j q e.
      let s = h.names j q e in
      let low = s.within in
      record { within = omega (arith, low); apart = s.apart; nonzero = s.nonzero; place = s.place };
  all = λ k l ne nz. h.all k (omega (arith, l, ne)) ne nz;
}
