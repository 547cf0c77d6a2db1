-- The reduced rows that the rows of a table give, once each is cleared at the leads of the others.
use Rattle.std.proofs.Common.{◌≡◌, ◌≢◌, ℕ, ◌<◌, ◌⊎◌, Option, Bool, true, sym, ◌∙◌, ap, arith}
use Rattle.ring_core.specs.Ring.{RingOps, IsRing}
use Rattle.ring_core.specs.Field.{IsField}
use Rattle.ring_core.proofs.Carrier.{RingOn, Element, elements, same_element}
use Rattle.linear_algebra.specs.Combines.{Combines}
use Rattle.linear_algebra.specs.steps.Slots.{minus, AreLedSlots}
use Rattle.linear_algebra.proofs.Sums.{by_bool}
use Rattle.linear_algebra.proofs.Slots.{Reduced, top_is_lead}
use Rattle.linear_algebra.proofs.Led.{Led, led_top, cleared_is_reduced}
use Rattle.linear_algebra.proofs.Lift.{AllIn, AreIn, row_of, rows_of, to_spans, from_spans, to_led, to_reduced, from_reduced}
use Rattle.fq_linear.specs.steps.Elimination.{AreFinished}
use Rattle.fq_linear.proofs.Exists.{HasReduced, reduced_exist}
use Rattle.fq_linear.proofs.Solutions.{inverse}

module _ {M : Type 0} (R : RingOn M) (inverse : (a : M) → (a ≡ R.zero) ⊎ ((b : M) × (R.mul b a ≡ R.one))) (comm : (a b : M) → R.mul a b ≡ R.mul b a) (distinct : R.one ≢ R.zero)
    (w : ℕ) (lead : ℕ → Bool) (slots : ℕ → ℕ → M) (h : Led R w lead slots) where
  pub found : HasReduced R w w slots
  found = reduced_exist R inverse comm distinct w slots w (λ i k l far. h.above i k (omega (arith, l, far)))

  -- rows with leads and reduced rows with the same span have the same leads
  pub same_lead : (j : ℕ) → found.lead j ≡ lead j
  same_lead j = by_bool (lead j)
      (λ l. top_is_lead R w found.lead found.slots found.reduced (slots j) (found.holds j (h.within j l)) j (λ e. distinct (sym (h.one j l) ∙ e)) (λ k b. h.above j k b) ∙ sym l)
      (λ l. by_bool (found.lead j)
      (λ m. m ∙ sym (led_top R w lead slots h (found.slots j) (found.within j (found.reduced.within j m)) j (λ e. distinct (sym (found.reduced.one j m) ∙ e)) (λ k b. found.reduced.above j k b)))
      (λ m. m ∙ sym l))

  pub found_reduced : Reduced R w lead found.slots
  found_reduced = record {
    within = λ j l. found.reduced.within j (same_lead j ∙ l);
    absent = λ j k l. found.reduced.absent j k (same_lead j ∙ l);
    one = λ j l. found.reduced.one j (same_lead j ∙ l);
    above = found.reduced.above;
    apart = λ j k l d. found.reduced.apart j k (same_lead k ∙ l) d;
  }

module _ {E : Type 0} (r : RingOps E) (inv : E → Option E) (field : IsField r inv) (w : ℕ) (lead : ℕ → Bool) (slots : ℕ → ℕ → E) (si : AllIn r slots) (g : AreLedSlots r w lead slots) where
  abbrev h : IsRing r
  h = field.ring

  abbrev R : RingOn (Element r)
  R = elements h

  reduced_rows : HasReduced R w w (rows_of r slots si)
  reduced_rows =
      found R (inverse r inv field) (λ a b. same_element r _ _ (field.mul_comm a.0 b.0 a.1 b.1)) (λ e. field.one_ne_zero (ap (λ x. x.0) e))
      w lead (rows_of r slots si) (to_led r h w lead slots si g)

  are_reduced : Reduced R w lead reduced_rows.slots
  unfolding reduced_rows
  are_reduced =
      found_reduced R (inverse r inv field) (λ a b. same_element r _ _ (field.mul_comm a.0 b.0 a.1 b.1)) (λ e. field.one_ne_zero (ap (λ x. x.0) e))
      w lead (rows_of r slots si) (to_led r h w lead slots si g)

  pub finished_exist : (finished : ℕ → ℕ → E) × AreFinished r w lead slots finished
  finished_exist = (
    λ j k. (reduced_rows.slots j k).0,
    record {
      elems = λ j k. (reduced_rows.slots j k).1;
      reduced = from_reduced r h w lead (λ j k. (reduced_rows.slots j k).0) (λ j k. (reduced_rows.slots j k).1) are_reduced;
      into = λ j l. from_spans r h w (λ j k. (reduced_rows.slots j k).0) (λ j k. (reduced_rows.slots j k).1) (slots j) (si j) (reduced_rows.holds j l);
      back = λ j l. from_spans r h w slots si (λ k. (reduced_rows.slots j k).0) (λ k. (reduced_rows.slots j k).1) (reduced_rows.within j l);
    },
  )

-- A row cleared at the leads below its own is the finished one.
pub finished_is : {E : Type 0} (r : RingOps E) (h : IsRing r) (w : ℕ) (lead : ℕ → Bool) (slots finished : ℕ → ℕ → E) → AllIn r slots → AreLedSlots r w lead slots
    → AreFinished r w lead slots finished → (j : ℕ) → lead j ≡ true → (x : ℕ → E) → AreIn r x → Combines r j slots (minus r (slots j) x)
    → ((k : ℕ) → k < j → lead k ≡ true → x k ≡ r.zero) → (k : ℕ) → x k ≡ finished j k
finished_is r h w lead slots finished si g f j m x xi s z k =
    ap (λ a. a.0)
    (cleared_is_reduced (elements h) w lead (rows_of r slots si) (to_led r h w lead slots si g) (rows_of r finished f.elems) (to_reduced r h w lead finished f.elems f.reduced)
    (λ i l. to_spans r h w finished f.elems (slots i) (si i) (f.into i l)) j m (row_of r x xi)
    (to_spans r h j slots si (minus r (slots j) x) (λ k. h.closed.add_in _ _ (si j k) (h.closed.neg_in _ (xi k))) s)
    (λ k b l. same_element r _ _ (z k b l)) k)
