-- The rows of a table in the order of their leads, each cleared at the leads of the others.
use Rattle.std.proofs.Common.{◌≡◌, ℕ, suc, ◌+◌, ◌-◌, ◌*◌, ◌<◌, ◌≤◌, inl, inr, Option, Bool, true, false, cond, List, [], ◌∷◌, ◌++◌, length, map, take, drop, sym, ◌∙◌, ap, subst, arith, append-nil, append_assoc, add-one, zero-add, length-drop, slice_range, eq-eqb, ext_get_or, get_or-take}
use Rattle.std.proofs.lemmas.Bool.{and_from, cases_lt}
use Rattle.std.proofs.lemmas.List.{map_push, length-take-le}
use Rattle.ring_core.specs.Ring.{RingOps}
use Rattle.ring_core.specs.Coeffs.{coeff, first_values}
use Rattle.ring_core.proofs.Coefficients.{coeff_past, coeff-first_values, elems-first_values}
use Rattle.ring_core.proofs.FirstValues.{length-first_values, at-first_values}
use Rattle.ring_core.specs.Written.{IsWritten}
use Rattle.linear_algebra.specs.Linear.{is_row}
use Rattle.linear_algebra.specs.steps.Slots.{AreReducedSlots}
use Rattle.linear_algebra.proofs.Sums.{by_bool}
use Rattle.linear_algebra.proofs.Lift.{AllIn}
use Rattle.linear_algebra.proofs.Gather.{leads, leads_more, leads_same}
use Rattle.fq_linear.specs.steps.Elimination.{is_lead, slot, AreFinished, cut_rows}

module _ {E : Type 0} (cut : ℕ) (lead : ℕ → Bool) (finished : ℕ → ℕ → E) where
  -- the finished rows at the leads below `j`
  abbrev pub rows_to : ℕ → List (List E)
  rows_to j = map (λ k. first_values cut (finished k)) (leads lead j)

  pub no_row : (j : ℕ) (u : List (List E)) → lead j ≡ false → u ≡ u ++ cut_rows cut lead finished j
  no_row j u e = sym (ap (λ b. u ++ cond b (first_values cut (finished j) ∷ []) []) e ∙ append-nil u)

  pub one_row : (j : ℕ) (u : List (List E)) → lead j ≡ true → u ++ first_values cut (finished j) ∷ [] ≡ u ++ cut_rows cut lead finished j
  one_row j u e = sym (ap (λ b. u ++ cond b (first_values cut (finished j) ∷ []) []) e)

  more : (j : ℕ) → rows_to j ++ cut_rows cut lead finished j ≡ rows_to (suc j)
  more j = by_bool (lead j)
      (λ e. sym (one_row j (rows_to j) e) ∙ sym (map_push (λ k. first_values cut (finished k)) (leads lead j) j)
      ∙ ap (map (λ k. first_values cut (finished k))) (sym (leads_more lead j e)))
      (λ e. sym (no_row j (rows_to j) e) ∙ ap (map (λ k. first_values cut (finished k))) (sym (leads_same lead j e)))

  -- one more place is passed
  pub gathered_more : (j : ℕ) (first u : List (List E)) → u ≡ first ++ rows_to j → u ++ cut_rows cut lead finished j ≡ first ++ rows_to (j + 1)
  gathered_more j first u h =
      ap (λ x. x ++ cut_rows cut lead finished j) h ∙ append_assoc first (rows_to j) (cut_rows cut lead finished j)
      ∙ ap (λ x. first ++ x) (more j) ∙ ap (λ n. first ++ rows_to n) (sym (add-one j))

-- the first members of a row, told by their values
pub first_members : {E : Type 0} (r : RingOps E) (cut : ℕ) (u : List E) (x : ℕ → E) → cut ≤ length u → ((k : ℕ) → coeff r u k ≡ x k) → take cut u ≡ first_values cut x
first_members r cut u x l e =
    let len = length-take-le cut u l in
    ext_get_or r.zero (take cut u) (first_values cut x) (len ∙ sym (length-first_values cut x))
    (λ k b. get_or-take cut u k r.zero (omega (arith, b, len)) ∙ e k ∙ sym (at-first_values cut x k r.zero (omega (arith, b, len))))

-- a row copied from its first place on
pub copied : {E : Type 0} (r : RingOps E) (part before after : List E) → length part ≡ length before → length after ≡ length before
    → IsWritten r.zero 0 (length part) (coeff r part) before after → (k : ℕ) → coeff r after k ≡ coeff r part k
copied r part before after ep ea s k = elim (cases_lt k (length part)) [
  | inl low ↦ ap (coeff r after) (sym (zero-add k)) ∙ s.inside k low
  | inr high ↦ coeff_past r after k (omega (arith, ep, ea, high)) ∙ sym (coeff_past r part k (omega (arith, high)))
]

pub cut_length : {E : Type 0} (w cut : ℕ) (cells : List E) → cut ≤ w → (i : ℕ) → i * w + w ≤ length cells → length (slice_range cells (i * w) (i * w + cut)) ≡ cut
cut_length w cut cells narrow i end =
    let some : i * w + cut - i * w ≡ cut = omega arith in
    ap (λ m. length (take m (drop (i * w) cells))) some
    ∙ length-take-le cut (drop (i * w) cells) (omega (arith, length-drop (i * w) cells))

module _ {E : Type 0} (r : RingOps E) (n w : ℕ) (lead : ℕ → Bool) (slots : ℕ → ℕ → E) (si : AllIn r slots) (g : AreReducedSlots r w lead slots) where
  -- the cut rows have the shape of rows of `n` elements
  pub low_shape : (j : ℕ) → is_row r n (first_values n (slots j)) ≡ true
  low_shape j = and_from _ _ (eq-eqb _ n (length-first_values n (slots j))) (elems-first_values r n (slots j) (λ k _. si j k))

  -- and the members of the slot, which has zeros past its lead
  pub low_same : (j : ℕ) → j < n → (k : ℕ) → coeff r (first_values n (slots j)) k ≡ slots j k
  low_same j l k = coeff-first_values r n (slots j) (λ i b. g.above j i (omega (arith, l, b))) k

-- What a gathered list is, with the values that it was made of put in.
abbrev pub Gathers : {E : Type 0} → RingOps E → ℕ → ℕ → List (Option ℕ) → List E → List (List E) → Type 0
Gathers {E} r w cut index cells basis = (finished : ℕ → ℕ → E) → AreFinished r w (is_lead index) (slot r w index cells) finished
    → basis ≡ map (λ j. first_values cut (finished j)) (leads (is_lead index) cut)

pub gathered_as : {E : Type 0} (r : RingOps E) (w cut : ℕ) (index : List (Option ℕ)) (cells : List E) (c : ℕ) (d : List (Option ℕ)) (e : List E) (basis : List (List E))
    → d ≡ index → e ≡ cells → c ≡ cut → length index ≡ w → Gathers r (length d) c d e basis → Gathers r w cut index cells basis
gathered_as r w cut index cells c d e basis p q s l h =
    subst (λ m. Gathers r m cut index cells basis) l
    (subst (λ n. Gathers r (length index) n index cells basis) s
    (subst (λ u. Gathers r (length index) c index u basis) q
    (subst (λ x. Gathers r (length x) c x e basis) p h)))
