-- Lists that are written in place, a place after the other.
use Rattle.std.proofs.Common.{◌≡◌, ◌≢◌, ℕ, suc, ◌+◌, ◌-◌, ◌<◌, ◌≤◌, ◌⊎◌, inl, inr, true, List, [], ◌∷◌, length, get_or, set, refl, sym, ◌∙◌, ap, ⊎_elim, arith, get_or-set_same, get_or-set_other}
use Rattle.std.proofs.lemmas.Bool.{and_from, cases_eq, cases_lt}
use Rattle.ring_core.specs.Ring.{RingOps, IsElem}
use Rattle.ring_core.specs.Coeffs.{coeff, are_elems}
use Rattle.ring_core.specs.Written.{IsWritten}
use Rattle.ring_core.proofs.Coefficients.{coeff_past, elem_read}

module _ {E : Type 0} (d : E) where
  -- one more place is written
  pub written_more : (at n p : ℕ) (f : ℕ → E) (before u : List E) (x : E) → IsWritten d at n f before u → p ≡ at + n → p < length u → x ≡ f n
      → IsWritten d at (n + 1) f before (set u p x)
  written_more at n p f before u x w s l e = record {
    inside = λ k (b : k < n + 1).
        ⊎_elim
        (λ (here : k ≡ n).
        let same : at + k ≡ p = omega arith in
        ap (λ i. get_or (set u p x) i d) same ∙ get_or-set_same u p x d l ∙ e ∙ ap f (sym here))
        (λ (other : k ≢ n).
        let apart : at + k ≢ p = omega arith in
        get_or-set_other u p (at + k) x d apart ∙ w.inside k (omega arith))
        (cases_eq k n);
    outside = λ i o.
        let apart : i ≢ p = λ z. elim o [ inl a ↦ omega arith | inr a ↦ omega arith ] in
        get_or-set_other u p i x d apart ∙ w.outside i (elim o [ inl a ↦ inl a | inr a ↦ inr (omega arith) ]);
  }

  -- the place that is written next is as it was
  pub next_place : (at n : ℕ) (f : ℕ → E) (before u : List E) → IsWritten d at n f before u → get_or u (at + n) d ≡ get_or before (at + n) d
  next_place at n f before u w = w.outside (at + n) (inr (omega arith))

module _ {E : Type 0} (r : RingOps E) where
  -- a list that is written from its start to its end
  pub written_all : (f : ℕ → E) (before out : List E) → IsWritten r.zero 0 (length before) f before out → ((k : ℕ) → length before ≤ k → f k ≡ r.zero) → (k : ℕ) → coeff r out k ≡ f k
  written_all f before out w past k =
      let place : k ≡ 0 + k = omega arith in
      ⊎_elim
      (λ (low : k < length before). ap (coeff r out) place ∙ w.inside k low)
      (λ (high : length before ≤ k). w.outside k (inr (omega arith)) ∙ coeff_past r before k high ∙ sym (past k high))
      (cases_lt k (length before))

  -- elements, told place by place
  pub elems_by_places : (u : List E) → ((i : ℕ) → i < length u → IsElem r (coeff r u i)) → are_elems r u ≡ true
  elems_by_places [] h = refl
  elems_by_places (x ∷ xs) h =
      and_from _ _ (h 0 (omega arith)) (elems_by_places xs (λ i (l : i < length xs). h (suc i) (omega arith)))

  pub elems_written : (z : IsElem r r.zero) (at n : ℕ) (f : ℕ → E) (before after : List E) → are_elems r before ≡ true
      → ((k : ℕ) → k < n → IsElem r (f k)) → IsWritten r.zero at n f before after → are_elems r after ≡ true
  elems_written z at n f before after e h w =
      let kept : (i : ℕ) → (i < at) ⊎ (at + n ≤ i) → IsElem r (coeff r after i) = λ i o. ap r.is_elem (w.outside i o) ∙ elem_read r before z e i in
      elems_by_places after
      (λ i l.
      ⊎_elim
      (λ (low : i < at). kept i (inl low))
      (λ (from : at ≤ i).
      ⊎_elim
      (λ (inside : i < at + n).
      let same : i ≡ at + (i - at) = omega arith in
      let k : i - at < n = omega arith in
      ap r.is_elem (ap (coeff r after) same ∙ w.inside (i - at) k) ∙ h (i - at) k)
      (λ (high : at + n ≤ i). kept i (inr high))
      (cases_lt i (at + n)))
      (cases_lt i at))
