-- The leads below a bound, in order, and combinations of the rows there alone.
use Rattle.std.proofs.Common.{◌≡◌, ℕ, zero, suc, ◌<◌, inl, inr, Bool, true, false, cond, List, [], ◌∷◌, ◌++◌, length, get_or, refl, sym, ◌∙◌, ap, ap₂, subst, arith, add-one}
use Rattle.std.proofs.lemmas.List.{get_or_append_left, get_or_push, length_push}
use Rattle.ring_core.proofs.Carrier.{RingOn, add_zero, mul_zero}
use Rattle.ring_core.proofs.Series.{total}
use Rattle.linear_algebra.proofs.Sums.{total_same, by_bool, same_or_other}
use Rattle.linear_algebra.proofs.Spans.{Spans}

-- The leads below `n`, lowest first.
abbrev pub leads : (ℕ → Bool) → ℕ → List ℕ
leads lead zero = []
leads lead (suc n) = cond (lead n) (leads lead n ++ n ∷ []) (leads lead n)

-- Lead number `i` of those below `n`.
abbrev pub lead_number : (ℕ → Bool) → ℕ → ℕ → ℕ
lead_number lead n i = get_or (leads lead n) i 0

pub leads_more : (lead : ℕ → Bool) (n : ℕ) → lead n ≡ true → leads lead (suc n) ≡ leads lead n ++ n ∷ []
leads_more lead n e = ap (λ b. cond b (leads lead n ++ n ∷ []) (leads lead n)) e

pub leads_same : (lead : ℕ → Bool) (n : ℕ) → lead n ≡ false → leads lead (suc n) ≡ leads lead n
leads_same lead n e = ap (λ b. cond b (leads lead n ++ n ∷ []) (leads lead n)) e

-- What holds of each lead below `n` holds of those in the list.
pub record AreLeads (lead : ℕ → Bool) (n : ℕ) (list : List ℕ) : Type 0 where
  pub below : (i : ℕ) → i < length list → get_or list i 0 < n
  pub marked : (i : ℕ) → i < length list → lead (get_or list i 0) ≡ true
  pub rising : (i k : ℕ) → i < k → k < length list → get_or list i 0 < get_or list k 0

leads_push : (lead : ℕ → Bool) (n : ℕ) (list : List ℕ) → lead n ≡ true → AreLeads lead n list → AreLeads lead (suc n) (list ++ n ∷ [])
leads_push lead n list e h =
    let old = λ (i : ℕ) (l : i < length list). get_or_append_left list (n ∷ []) 0 i l in
    let new = λ (i : ℕ) (l : length list ≡ i). get_or_push list n 0 i l in
    let len = length_push list n in
    record {
      below = λ i l. elim (same_or_other i (length list)) [
        | inl q ↦ let v = new i (sym q) in omega (arith, v)
        | inr d ↦ let b : i < length list = omega (arith, len) in let v = old i b in let w = h.below i b in omega (arith, v, w)
      ];
      marked = λ i l. elim (same_or_other i (length list)) [
        | inl q ↦ ap lead (new i (sym q)) ∙ e
        | inr d ↦ let b : i < length list = omega (arith, len) in ap lead (old i b) ∙ h.marked i b
      ];
      rising = λ i k l m.
          let b : i < length list = omega (arith, len) in
          let u = old i b in
          let s = h.below i b in
          elim (same_or_other k (length list)) [
            | inl q ↦ let v = new k (sym q) in omega (arith, u, v, s)
            | inr d ↦
                let c : k < length list = omega (arith, len) in
                let v = old k c in
                let w = h.rising i k l c in
                omega (arith, u, v, w)
          ];
    }

leads_wider : (lead : ℕ → Bool) (n : ℕ) (list : List ℕ) → AreLeads lead n list → AreLeads lead (suc n) list
leads_wider lead n list h = record {
  below = λ i l. let w = h.below i l in omega (arith, w);
  marked = h.marked;
  rising = h.rising;
}

pub are_leads : (lead : ℕ → Bool) (n : ℕ) → AreLeads lead n (leads lead n)
are_leads lead zero = record { below = λ i l. absurd (omega arith); marked = λ i l. absurd (omega arith); rising = λ i k l m. absurd (omega arith) }
are_leads lead (suc n) = by_bool (lead n)
    (λ e. subst (AreLeads lead (suc n)) (sym (leads_more lead n e)) (leads_push lead n (leads lead n) e (are_leads lead n)))
    (λ e. subst (AreLeads lead (suc n)) (sym (leads_same lead n e)) (leads_wider lead n (leads lead n) (are_leads lead n)))

module _ {M : Type 0} (R : RingOn M) where
  total_push : (list : List ℕ) (n : ℕ) (f : ℕ → M)
      → total R (length (list ++ n ∷ [])) (λ i. f (get_or (list ++ n ∷ []) i 0)) ≡ R.add (total R (length list) (λ i. f (get_or list i 0))) (f n)
  total_push list n f =
      ap (λ m. total R m (λ i. f (get_or (list ++ n ∷ []) i 0))) (length_push list n ∙ add-one (length list))
      ∙ ap₂ R.add (total_same R (length list) _ _ (λ i l. ap f (get_or_append_left list (n ∷ []) 0 i l)))
      (ap f (get_or_push list n 0 (length list) refl))

  -- a sum with zeros away from the leads
  pub total_leads : (lead : ℕ → Bool) (n : ℕ) (f : ℕ → M) → ((j : ℕ) → lead j ≡ false → f j ≡ R.zero)
      → total R n f ≡ total R (length (leads lead n)) (λ i. f (lead_number lead n i))
  total_leads lead zero f z = refl
  total_leads lead (suc n) f z = by_bool (lead n)
      (λ e. ap (λ x. R.add x (f n)) (total_leads lead n f z) ∙ sym (total_push (leads lead n) n f)
      ∙ ap (λ list. total R (length list) (λ i. f (get_or list i 0))) (sym (leads_more lead n e)))
      (λ e. ap₂ R.add (total_leads lead n f z) (z n e) ∙ add_zero R _
      ∙ ap (λ list. total R (length list) (λ i. f (get_or list i 0))) (sym (leads_same lead n e)))

  module _ (lead : ℕ → Bool) (n : ℕ) (slots : ℕ → ℕ → M) (absent : (j k : ℕ) → lead j ≡ false → slots j k ≡ R.zero) where
    -- combinations of slots, and of the rows at the leads alone
    pub spans_leads : (x : ℕ → M) → Spans R n slots x → Spans R (length (leads lead n)) (λ i. slots (lead_number lead n i)) x
    spans_leads x s = record {
      by = λ i. s.by (lead_number lead n i);
      is = λ k. s.is k ∙ total_leads lead n (λ j. R.mul (s.by j) (slots j k)) (λ j e. ap (R.mul (s.by j)) (absent j k e) ∙ mul_zero R (s.by j));
    }
