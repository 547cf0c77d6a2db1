-- From the elements of a `RingOps`, told by premises, to the ring of its elements and back.
use Rattle.std.proofs.Common.{◌≡◌, ℕ, zero, suc, ◌<◌, ◌≤◌, Bool, refl, sym, ◌∙◌, ap, ap₂, arith}
use Rattle.ring_core.specs.Ring.{RingOps, IsElem, IsRing}
use Rattle.ring_core.proofs.Carrier.{Element, same_element, elements}
use Rattle.ring_core.proofs.Twist.{total_is}
use Rattle.linear_algebra.specs.Combines.{combined, Combines}
use Rattle.linear_algebra.specs.steps.Slots.{minus, AreLedSlots, AreReducedSlots}
use Rattle.linear_algebra.proofs.Sums.{combine}
use Rattle.linear_algebra.proofs.Spans.{Spans, span_zero, span_add, span_minus, span_scale, span_row, span_into}
use Rattle.linear_algebra.proofs.Slots.{Reduced}
use Rattle.linear_algebra.proofs.Led.{Led}

-- A row, and rows, of elements.
abbrev pub AreIn : {E : Type 0} → RingOps E → (ℕ → E) → Type 0
AreIn r x = (k : ℕ) → IsElem r (x k)

abbrev pub AllIn : {E : Type 0} → RingOps E → (ℕ → ℕ → E) → Type 0
AllIn r rows = (i k : ℕ) → IsElem r (rows i k)

abbrev pub row_of : {E : Type 0} → (r : RingOps E) → (x : ℕ → E) → AreIn r x → ℕ → Element r
row_of r x xi k = (x k, xi k)

abbrev pub rows_of : {E : Type 0} → (r : RingOps E) → (rows : ℕ → ℕ → E) → AllIn r rows → ℕ → ℕ → Element r
rows_of r rows ri i k = (rows i k, ri i k)

module _ {E : Type 0} (r : RingOps E) (h : IsRing r) where
  pub combine_value : (n : ℕ) (c : ℕ → Element r) (rows : ℕ → ℕ → Element r) (j : ℕ)
      → (combine (elements h) n c rows j).0 ≡ combined r n (λ i. (c i).0) (λ i k. (rows i k).0) j
  combine_value n c rows j = total_is r h n _

  pub to_spans : (n : ℕ) (rows : ℕ → ℕ → E) (ri : AllIn r rows) (x : ℕ → E) (xi : AreIn r x)
      → Combines r n rows x → Spans (elements h) n (rows_of r rows ri) (row_of r x xi)
  to_spans n rows ri x xi s = record {
    by = row_of r s.by s.elems;
    is = λ j. same_element r _ _ (s.is j ∙ sym (combine_value n (row_of r s.by s.elems) (rows_of r rows ri) j));
  }

  pub from_spans : (n : ℕ) (rows : ℕ → ℕ → E) (ri : AllIn r rows) (x : ℕ → E) (xi : AreIn r x)
      → Spans (elements h) n (rows_of r rows ri) (row_of r x xi) → Combines r n rows x
  from_spans n rows ri x xi s = record {
    by = λ i. (s.by i).0;
    elems = λ i. (s.by i).1;
    is = λ j. ap (λ a. a.0) (s.is j) ∙ combine_value n s.by (rows_of r rows ri) j;
  }

  pub to_led : (w : ℕ) (lead : ℕ → Bool) (slots : ℕ → ℕ → E) (si : AllIn r slots)
      → AreLedSlots r w lead slots → Led (elements h) w lead (rows_of r slots si)
  to_led w lead slots si g = record {
    within = g.within;
    absent = λ j k l. same_element r _ _ (g.absent j k l);
    one = λ j l. same_element r _ _ (g.one j l);
    above = λ j k b. same_element r _ _ (g.above j k b);
  }

  pub to_reduced : (w : ℕ) (lead : ℕ → Bool) (slots : ℕ → ℕ → E) (si : AllIn r slots)
      → AreReducedSlots r w lead slots → Reduced (elements h) w lead (rows_of r slots si)
  to_reduced w lead slots si g = record {
    within = g.within;
    absent = λ j k l. same_element r _ _ (g.absent j k l);
    one = λ j l. same_element r _ _ (g.one j l);
    above = λ j k b. same_element r _ _ (g.above j k b);
    apart = λ j k l d. same_element r _ _ (g.apart j k l d);
  }

  pub from_reduced : (w : ℕ) (lead : ℕ → Bool) (slots : ℕ → ℕ → E) (si : AllIn r slots)
      → Reduced (elements h) w lead (rows_of r slots si) → AreReducedSlots r w lead slots
  from_reduced w lead slots si g = record {
    within = g.within;
    absent = λ j k l. ap (λ a. a.0) (g.absent j k l);
    one = λ j l. ap (λ a. a.0) (g.one j l);
    above = λ j k b. ap (λ a. a.0) (g.above j k b);
    apart = λ j k l d. ap (λ a. a.0) (g.apart j k l d);
  }

  -- what spans each of the rows of a combination spans it
  pub combines_into : (n m : ℕ) (a b : ℕ → ℕ → E) (x : ℕ → E) → AllIn r a → AllIn r b → AreIn r x
      → ((i : ℕ) → i < n → Combines r m b (a i)) → Combines r n a x → Combines r m b x
  combines_into n m a b x ai bi xi s t =
      from_spans m b bi x xi
      (span_into (elements h) n m (rows_of r a ai) (rows_of r b bi) (row_of r x xi)
      (λ i l. to_spans m b bi (a i) (ai i) (s i l)) (to_spans n a ai x xi t))

  pub combines_row : (n : ℕ) (rows : ℕ → ℕ → E) → AllIn r rows → (i : ℕ) → i < n → Combines r n rows (rows i)
  combines_row n rows ri i l = from_spans n rows ri (rows i) (ri i) (span_row (elements h) n (rows_of r rows ri) i l)

  pub combines_add : (n : ℕ) (rows : ℕ → ℕ → E) (x y : ℕ → E) → AllIn r rows → AreIn r x → AreIn r y
      → Combines r n rows x → Combines r n rows y → Combines r n rows (λ k. r.add (x k) (y k))
  combines_add n rows x y ri xi yi s t =
      from_spans n rows ri _ (λ k. h.closed.add_in (x k) (y k) (xi k) (yi k))
      (span_add (elements h) n (rows_of r rows ri) (row_of r x xi) (row_of r y yi) (to_spans n rows ri x xi s) (to_spans n rows ri y yi t))

  pub combines_scale : (n : ℕ) (rows : ℕ → ℕ → E) (a : E) (x : ℕ → E) → AllIn r rows → IsElem r a → AreIn r x
      → Combines r n rows x → Combines r n rows (λ k. r.mul a (x k))
  combines_scale n rows a x ri ai xi s =
      from_spans n rows ri _ (λ k. h.closed.mul_in a (x k) ai (xi k))
      (span_scale (elements h) n (rows_of r rows ri) (a, ai) (row_of r x xi) (to_spans n rows ri x xi s))

  pub combines_minus : (n : ℕ) (rows : ℕ → ℕ → E) (x y : ℕ → E) → AllIn r rows → AreIn r x → AreIn r y
      → Combines r n rows x → Combines r n rows y → Combines r n rows (minus r x y)
  combines_minus n rows x y ri xi yi s t =
      from_spans n rows ri _ (λ k. h.closed.add_in (x k) (r.neg (y k)) (xi k) (h.closed.neg_in (y k) (yi k)))
      (span_minus (elements h) n (rows_of r rows ri) (row_of r x xi) (row_of r y yi) (to_spans n rows ri x xi s) (to_spans n rows ri y yi t))

  pub combines_as : (n : ℕ) (rows : ℕ → ℕ → E) (x y : ℕ → E) → ((k : ℕ) → y k ≡ x k) → Combines r n rows x → Combines r n rows y
  combines_as n rows x y e s = record { by = s.by; elems = s.elems; is = λ j. e j ∙ s.is j }

  pub combines_zero : (n : ℕ) (rows : ℕ → ℕ → E) (x : ℕ → E) → AllIn r rows → ((k : ℕ) → x k ≡ r.zero) → Combines r n rows x
  combines_zero n rows x ri z =
      combines_as n rows (λ k. r.zero) x z
      (from_spans n rows ri (λ k. r.zero) (λ k. h.closed.zero_in) (span_zero (elements h) n (rows_of r rows ri) _ (λ j. refl)))

  -- the rows told by their members
  pub combined_rows : (n : ℕ) (c : ℕ → E) (a b : ℕ → ℕ → E) (j : ℕ) → ((i : ℕ) → i < n → a i j ≡ b i j) → combined r n c a j ≡ combined r n c b j
  combined_rows zero c a b j e = refl
  combined_rows (suc n) c a b j e =
      ap₂ r.add (combined_rows n c a b j (λ i l. e i (omega arith))) (ap (r.mul (c n)) (e n (omega arith)))

  -- the coefficients told by their values
  pub combined_by : (n : ℕ) (c d : ℕ → E) (rows : ℕ → ℕ → E) (j : ℕ) → ((i : ℕ) → i < n → c i ≡ d i) → combined r n c rows j ≡ combined r n d rows j
  combined_by zero c d rows j e = refl
  combined_by (suc n) c d rows j e =
      ap₂ r.add (combined_by n c d rows j (λ i l. e i (omega arith))) (ap (λ a. r.mul a (rows n j)) (e n (omega arith)))

  pub combines_rows : (n : ℕ) (a b : ℕ → ℕ → E) (x : ℕ → E) → ((i : ℕ) → i < n → (j : ℕ) → a i j ≡ b i j) → Combines r n a x → Combines r n b x
  combines_rows n a b x e s = record {
    by = s.by;
    elems = s.elems;
    is = λ j. s.is j ∙ combined_rows n s.by a b j (λ i l. e i l j);
  }

  -- more rows span no less
  pub combines_more : (n m : ℕ) (rows : ℕ → ℕ → E) (x : ℕ → E) → AllIn r rows → AreIn r x → n ≤ m → Combines r n rows x → Combines r m rows x
  combines_more n m rows x ri xi l s =
      combines_into n m rows rows x ri ri xi (λ i b. combines_row m rows ri i (omega arith)) s
