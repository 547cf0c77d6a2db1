-- A row joins the rows of a table.
use Rattle.std.proofs.Common.{◌≡◌, ℕ, ◌+◌, ◌*◌, ◌<◌, ◌≤◌, inl, inr, Bool, true, false, Option, Some, None, is_some, List, length, set, refl, sym, ◌∙◌, ap, subst, arith, nat_lt, ltb-true, ltb-false}
use Rattle.ring_core.specs.Ring.{RingOps, IsElem, IsRing}
use Rattle.ring_core.specs.Coeffs.{coeff}
use Rattle.ring_core.proofs.Carrier.{elements, add_zero}
use Rattle.ring_core.proofs.Coefficients.{coeff_past}
use Rattle.linear_algebra.specs.Combines.{Combines}
use Rattle.linear_algebra.specs.steps.Slots.{minus, AreLedSlots}
use Rattle.linear_algebra.proofs.Sums.{by_bool, same_or_other}
use Rattle.linear_algebra.proofs.Spans.{minus_plus, minus_minus}
use Rattle.linear_algebra.proofs.Lift.{AllIn, AreIn, combines_into, combines_row, combines_add, combines_minus, combines_scale, combines_as, combines_zero}
use Rattle.ring_core.specs.Written.{IsWritten}
use Rattle.fq_linear.specs.steps.Elimination.{row_number, is_lead, numbered_cells, slot, IsLedTable, IsBelow, CanJoin, IsInserted}
use Rattle.fq_linear.proofs.Tables.{row_place, row_end}
use Rattle.fq_linear.proofs.Slots.{numbered_past, number_new, number_old}

-- The slots after the row `y` with lead `l` has joined.
pub record JoinedTo {E : Type 0} (r : RingOps E) (lead : ℕ → Bool) (l : ℕ) (y : ℕ → E) (before : ℕ → ℕ → E) (mark : ℕ → Bool) (after : ℕ → ℕ → E) : Type 0 where
  pub marked : mark l ≡ true
  pub kept : (j : ℕ) → (j ≡ l → ⊥) → mark j ≡ lead j
  pub new : (k : ℕ) → after l k ≡ y k
  pub old : (j k : ℕ) → (j ≡ l → ⊥) → after j k ≡ before j k

module _ {E : Type 0} (r : RingOps E) (h : IsRing r) (w : ℕ) (index : List (Option ℕ)) (cells row : List E) (l : ℕ) (mark : ℕ → Bool) (after : ℕ → ℕ → E)
    (wide : length row ≡ w) (t : IsLedTable r w index cells) (g : CanJoin r index row l)
    (n : JoinedTo r (is_lead index) l (coeff r row) (slot r w index cells) mark after) (ai : AllIn r after) where
  narrow : l < w
  narrow = let b = g.within in omega (arith, b, wide)

  pub joined_led : AreLedSlots r w mark after
  joined_led = record {
    within = λ j m. elim (same_or_other j l) [
      | inl e ↦ subst (λ (i : ℕ). i < w) (sym e) narrow
      | inr d ↦ t.led.within j (sym (n.kept j d) ∙ m)
    ];
    absent = λ j k m. elim (same_or_other j l) [
      | inl e ↦ absurd (contra (sym n.marked ∙ ap mark (sym e) ∙ m))
      | inr d ↦ n.old j k d ∙ t.led.absent j k (sym (n.kept j d) ∙ m)
    ];
    one = λ j m. elim (same_or_other j l) [
      | inl e ↦ ap (λ i. after i i) e ∙ n.new l ∙ g.one
      | inr d ↦ n.old j j d ∙ t.led.one j (sym (n.kept j d) ∙ m)
    ];
    above = λ j k b. elim (same_or_other j l) [
      | inl e ↦ ap (λ i. after i k) e ∙ n.new k ∙ g.above k (subst (λ (i : ℕ). i < k) e b)
      | inr d ↦ n.old j k d ∙ t.led.above j k b
    ];
  }
    where
      contra : true ≡ false → ⊥
      contra e = cc

  pub joined_inserted : IsInserted r w (slot r w index cells) after (coeff r row)
  joined_inserted = record {
    keeps = λ j b. elim (same_or_other j l) [
      | inl e ↦ combines_zero r h w after (slot r w index cells j) ai (λ k. t.led.absent j k (ap (is_lead index) e ∙ g.free))
      | inr d ↦ combines_as r h w after (after j) (slot r w index cells j) (λ k. sym (n.old j k d)) (combines_row r h w after ai j b)
    ];
    holds = combines_as r h w after (after l) (coeff r row) (λ k. sym (n.new k)) (combines_row r h w after ai l narrow);
    adds = λ m rows rowsi s u j b. elim (same_or_other j l) [
      | inl e ↦ combines_as r h m rows (coeff r row) (after j) (λ k. ap (λ i. after i k) e ∙ n.new k) s
      | inr d ↦ combines_as r h m rows (slot r w index cells j) (after j) (λ k. n.old j k d) (u j b)
    ];
  }

-- The table once the row is written as number `count`.
module _ {E : Type 0} (r : RingOps E) (w count l : ℕ) (index : List (Option ℕ)) (cells after row : List E)
    (wide : length row ≡ w) (inside : l < length index) (below : IsBelow count index)
    (write : IsWritten r.zero (count * w) w (coeff r row) cells after) where
  new_slot : (o : Option ℕ) → o ≡ Some count → (k : ℕ) → coeff r (numbered_cells w w after o) k ≡ coeff r row k
  new_slot o e k = subst (λ o. coeff r (numbered_cells w w after o) k ≡ coeff r row k) (sym e) (by_bool (nat_lt k w)
      (λ t. let b : k < w = ltb-true k w t in row_place w after count k r.zero b ∙ write.inside k b)
      (λ t. let b : w ≤ k = ltb-false k w t in numbered_past r w after (Some count) k b ∙ sym (coeff_past r row k (omega (arith, wide, b)))))

  old_slot : (o : Option ℕ) → ((i : ℕ) → o ≡ Some i → i < count) → (k : ℕ) → coeff r (numbered_cells w w after o) k ≡ coeff r (numbered_cells w w cells o) k
  old_slot None small k = refl
  old_slot (Some i) small k = by_bool (nat_lt k w)
      (λ t.
      let b : k < w = ltb-true k w t in
      let end = row_end w count i (small i refl) in
      row_place w after i k r.zero b ∙ write.outside (i * w + k) (inl (omega (arith, end, b))) ∙ sym (row_place w cells i k r.zero b))
      (λ t. let b : w ≤ k = ltb-false k w t in numbered_past r w after (Some i) k b ∙ sym (numbered_past r w cells (Some i) k b))

  pub joined_to : JoinedTo r (is_lead index) l (coeff r row) (slot r w index cells) (is_lead (set index l (Some count))) (slot r w (set index l (Some count)) after)
  joined_to = record {
    marked = ap is_some (number_new index l count inside);
    kept = λ j d. ap is_some (number_old index l count j d);
    new = λ k. new_slot _ (number_new index l count inside) k;
    old = λ j k d. ap (λ o. coeff r (numbered_cells w w after o) k) (number_old index l count j d) ∙ old_slot (row_number index j) (below.is j) k;
  }

-- A row with the same span, modulo the slots, is inserted alike.
module _ {E : Type 0} (r : RingOps E) (h : IsRing r) (w : ℕ) (before after : ℕ → ℕ → E) (bi : AllIn r before) (ai : AllIn r after) (x z : ℕ → E) (xi : AreIn r x) (zi : AreIn r z)
    (taken : Combines r w before (minus r x z)) where
  ti : AreIn r (minus r x z)
  ti k = h.closed.add_in (x k) (r.neg (z k)) (xi k) (h.closed.neg_in (z k) (zi k))

  whole : (k : ℕ) → x k ≡ r.add (minus r x z k) (z k)
  whole k = sym (ap (λ a. a.0) (minus_plus (elements h) (x k, xi k) (z k, zi k)))

  -- x - (x - z) = z
  rest : (k : ℕ) → z k ≡ minus r x (minus r x z) k
  rest k = sym (ap (λ a. a.0) (minus_minus (elements h) (x k, xi k) (z k, zi k)))

  pub inserted_from : (y : ℕ → E) → AreIn r y → (u v : E) → IsElem r u → IsElem r v → ((k : ℕ) → y k ≡ r.mul u (z k)) → ((k : ℕ) → z k ≡ r.mul v (y k))
      → IsInserted r w before after y → IsInserted r w before after x
  inserted_from y yi u v ui vi yz zy g = record {
    keeps = g.keeps;
    holds =
        combines_as r h w after _ x whole
        (combines_add r h w after (minus r x z) z ai ti zi
        (combines_into r h w w before after (minus r x z) bi ai ti g.keeps taken)
        (combines_as r h w after _ z zy (combines_scale r h w after v y ai vi yi g.holds)));
    adds = λ n rows rowsi s t j b. g.adds n rows rowsi
        (combines_as r h n rows _ y yz (combines_scale r h n rows u z rowsi ui zi (left n rows rowsi s t))) t j b;
  }
    where
      left : (n : ℕ) (rows : ℕ → ℕ → E) (rowsi : AllIn r rows) → Combines r n rows x → ((j : ℕ) → j < w → Combines r n rows (before j)) → Combines r n rows z
      left n rows rowsi s t =
          combines_as r h n rows _ z rest
          (combines_minus r h n rows x (minus r x z) rowsi xi ti s
          (combines_into r h w n before rows (minus r x z) bi rowsi ti t taken))

  -- nothing is left of the row
  pub inserted_nothing : ((k : ℕ) → z k ≡ r.zero) → IsInserted r w before before x
  inserted_nothing none = record {
    keeps = λ j b. combines_row r h w before bi j b;
    holds = combines_as r h w before (minus r x z) x
        (λ k. whole k ∙ ap (r.add (minus r x z k)) (none k) ∙ ap (λ a. a.0) (add_zero (elements h) (minus r x z k, ti k))) taken;
    adds = λ n rows rowsi s t j b. t j b;
  }
