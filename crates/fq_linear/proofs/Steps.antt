-- The steps of the elimination's loops.
use Rattle.std.proofs.Common.{◌≡◌, ℕ, ◌+◌, ◌-◌, ◌<◌, ◌≤◌, inl, inr, Bool, true, false, Option, None, is_some, cond, nat_lt, List, length, sym, ◌∙◌, ap, arith}
use Rattle.ring_core.specs.Ring.{RingOps, IsRing}
use Rattle.ring_core.specs.Coeffs.{coeff, are_elems}
use Rattle.ring_core.proofs.Carrier.{elements, add_times_zero}
use Rattle.linear_algebra.specs.Combines.{Combines}
use Rattle.linear_algebra.specs.steps.Slots.{minus, AreLedSlots}
use Rattle.linear_algebra.proofs.Sums.{same_or_other}
use Rattle.linear_algebra.proofs.Spans.{minus_cleared}
use Rattle.linear_algebra.proofs.Lift.{AllIn, AreIn, combines_into, combines_row, combines_add, combines_scale, combines_as, combines_zero, combines_more, combines_rows}
use Rattle.linear_algebra.specs.Linear.{entry, row_at}
use Rattle.fq_linear.specs.Table.{row_cells, table_rows}
use Rattle.fq_linear.proofs.Tables.{row_at-table}
use Rattle.fq_linear.specs.steps.Places.{cleared, unit_row}
use Rattle.fq_linear.specs.steps.Elimination.{row_number, is_lead, numbered_cells, slot, IsLedTable, IsInserted, IsEliminated, augmented}
use Rattle.fq_linear.proofs.Slots.{slot_in, none_is_not}

module _ {E : Type 0} (r : RingOps E) (h : IsRing r) where
  pub taken_none : (w : ℕ) (slots : ℕ → ℕ → E) (x : ℕ → E) → AllIn r slots → AreIn r x → Combines r w slots (minus r x x)
  taken_none w slots x si xi = combines_zero r h w slots (minus r x x) si (λ k. h.add_neg (x k) (xi k))

  pub taken_more : (w : ℕ) (slots : ℕ → ℕ → E) (j : ℕ) (x y z : ℕ → E) → AllIn r slots → j < w → AreIn r x → AreIn r y
      → ((k : ℕ) → z k ≡ cleared r j (slots j) y k) → Combines r w slots (minus r x y) → Combines r w slots (minus r x z)
  taken_more w slots j x y z si l xi yi e s =
      combines_as r h w slots (λ k. r.add (minus r x y k) (r.mul (y j) (slots j k))) (minus r x z)
      (λ k. ap (λ a. r.add (x k) (r.neg a)) (e k)
      ∙ ap (λ a. a.0) (minus_cleared (elements h) (x k, xi k) (y k, yi k) (y j, yi j) (slots j k, si j k)))
      (combines_add r h w slots (minus r x y) _ si
      (λ k. h.closed.add_in _ _ (xi k) (h.closed.neg_in _ (yi k))) (λ k. h.closed.mul_in _ _ (yi j) (si j k))
      s (combines_scale r h w slots (y j) (slots j) si (yi j) (si j) (combines_row r h w slots si j l)))

  -- clearing by the row with lead `j` leaves the places past it, and gives zero there
  module _ (w : ℕ) (lead : ℕ → Bool) (slots : ℕ → ℕ → E) (g : AreLedSlots r w lead slots) (j : ℕ) (y z : ℕ → E) (yi : AreIn r y)
      (e : (k : ℕ) → z k ≡ cleared r j (slots j) y k) where
    pub cleared_past : (k : ℕ) → j < k → z k ≡ y k
    cleared_past k l = e k ∙ add_times_zero r h (y k) _ (slots j k) (yi k) (h.closed.neg_in _ (yi j)) (g.above j k l)

    pub cleared_at : lead j ≡ true → z j ≡ r.zero
    cleared_at m =
        e j ∙ ap (λ a. r.add (y j) (r.mul (r.neg (y j)) a)) (g.one j m)
        ∙ ap (r.add (y j)) (h.mul_one _ (h.closed.neg_in _ (yi j))) ∙ h.add_neg _ (yi j)

    pub clear_more : (top : ℕ) → ((k : ℕ) → j < k → k < top → lead k ≡ true → y k ≡ r.zero) → (k : ℕ) → j ≤ k → k < top → lead k ≡ true → z k ≡ r.zero
    clear_more top old k a b m = elim (same_or_other j k) [
      | inl q ↦ ap z (sym q) ∙ cleared_at (ap lead q ∙ m)
      | inr d ↦ cleared_past k (omega (arith, a, d)) ∙ old k (omega (arith, a, d)) b m
    ]

    pub zero_more : z j ≡ r.zero → ((k : ℕ) → j < k → y k ≡ r.zero) → (k : ℕ) → j ≤ k → z k ≡ r.zero
    zero_more here old k a = elim (same_or_other j k) [
      | inl q ↦ ap z (sym q) ∙ here
      | inr d ↦ cleared_past k (omega (arith, a, d)) ∙ old k (omega (arith, a, d))
    ]

  -- an empty table
  pub empty_slot : (w : ℕ) (index : List (Option ℕ)) (cells : List E) → ((j : ℕ) → row_number index j ≡ None) → (j k : ℕ) → slot r w index cells j k ≡ r.zero
  empty_slot w index cells e j k = ap (λ o. coeff r (numbered_cells w w cells o) k) (e j)

  empty_lead : (index : List (Option ℕ)) (j : ℕ) → row_number index j ≡ None → is_lead index j ≡ true → ⊥
  empty_lead index j e l = let f : is_some (row_number index j) ≡ false = ap is_some e in cc

  pub empty_table : (w : ℕ) (index : List (Option ℕ)) (cells : List E) → length index ≡ w → are_elems r cells ≡ true → ((j : ℕ) → row_number index j ≡ None) → IsLedTable r w index cells
  empty_table w index cells len ci e = record {
    index_len = len;
    elems = ci;
    stored = record { is = λ j i q. let f = e j in absurd (none_is_not i (sym f ∙ q)) };
    led = record {
      within = λ j l. absurd (empty_lead index j (e j) l);
      absent = λ j k l. empty_slot w index cells e j k;
      one = λ j l. absurd (empty_lead index j (e j) l);
      above = λ j k l. empty_slot w index cells e j k;
    };
  }

  pub eliminated_none : (w : ℕ) (rows : ℕ → ℕ → E) (index : List (Option ℕ)) (cells : List E) → AllIn r rows → length index ≡ w → are_elems r cells ≡ true
      → ((j : ℕ) → row_number index j ≡ None) → IsEliminated r w 0 rows index cells
  eliminated_none w rows index cells ri len ci e = record {
    table = empty_table w index cells len ci e;
    within = λ j l. combines_zero r h 0 rows (slot r w index cells j) ri (empty_slot w index cells e j);
    holds = λ i l. absurd (omega arith);
  }

  -- one more row is inserted
  pub eliminated_more : (w n : ℕ) (rows : ℕ → ℕ → E) (index mark : List (Option ℕ)) (cells after : List E) (x : ℕ → E) → AllIn r rows
      → IsEliminated r w n rows index cells → IsLedTable r w mark after → ((k : ℕ) → x k ≡ rows n k)
      → IsInserted r w (slot r w index cells) (slot r w mark after) x → IsEliminated r w (n + 1) rows mark after
  eliminated_more w n rows index mark cells after x ri old t e g =
      let bi = slot_in r h w index cells old.table.elems in
      let ai = slot_in r h w mark after t.elems in
      record {
        table = t;
        within = g.adds (n + 1) rows ri (combines_as r h (n + 1) rows (rows n) x e (combines_row r h (n + 1) rows ri n (omega arith)))
            (λ j l. combines_more r h n (n + 1) rows _ ri (bi j) (omega arith) (old.within j l));
        holds = λ i l. elim (same_or_other i n) [
          | inl q ↦ combines_as r h w (slot r w mark after) x (rows i) (λ k. ap (λ m. rows m k) q ∙ sym (e k)) g.holds
          | inr d ↦ combines_into r h w w (slot r w index cells) (slot r w mark after) (rows i) bi ai (ri i) g.keeps (old.holds i (omega arith))
        ];
      }

  -- the rows told by their members
  pub eliminated_as : (w n : ℕ) (a b : ℕ → ℕ → E) (index : List (Option ℕ)) (cells : List E) → ((i : ℕ) → i < n → (k : ℕ) → a i k ≡ b i k)
      → IsEliminated r w n a index cells → IsEliminated r w n b index cells
  eliminated_as w n a b index cells e g = record {
    table = g.table;
    within = λ j l. combines_rows r h n a b _ e (g.within j l);
    holds = λ i l. combines_as r h w _ (a i) (b i) (λ k. sym (e i l k)) (g.holds i l);
  }

  -- the rows read from the cells that hold them
  pub eliminated_rows : (n w : ℕ) (source : List E) (rows : List (List E)) (index : List (Option ℕ)) (cells : List E) → table_rows w (length rows) source ≡ rows
      → IsEliminated r (n + w) (length rows) (augmented r n (λ i. coeff r (row_cells w source i))) index cells
      → IsEliminated r (n + w) (length rows) (augmented r n (entry r rows)) index cells
  eliminated_rows n w source rows index cells e g =
      eliminated_as (n + w) (length rows) (augmented r n (λ i. coeff r (row_cells w source i))) (augmented r n (entry r rows)) index cells
      (λ i l k. ap (λ x. cond (nat_lt k n) (unit_row r i k) x)
      (ap (λ u. coeff r u (k - n)) (sym (row_at-table w (length rows) source i l) ∙ ap (λ t. row_at t i) e))) g
