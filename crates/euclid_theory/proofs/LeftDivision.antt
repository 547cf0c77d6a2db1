-- Division on the other side, by right multiples: it has one answer, too.
use Rattle.std.proofs.Common.{◌≡◌, ℕ, ◌+◌, ◌-◌, ◌<◌, ◌≤◌, sym, ◌∙◌, ap, ⊎_elim, arith}
use Rattle.std.proofs.lemmas.Bool.{cases_lt}
use Rattle.ring_core.proofs.Carrier.{RingOn, neg_add, add_cancel, minus_same, from_sum}
use Rattle.euclid_theory.proofs.Sizes.{HasSizes, minus, minus_mul, minus_small}

module _ {M : Type 0} (R : RingOn M) (len : M → ℕ) (h : HasSizes R len) where
  left_difference : (b c d s t : M) → R.add (R.mul b c) s ≡ R.add (R.mul b d) t → R.mul b (minus R c d) ≡ minus R t s
  left_difference b c d s t e =
      from_sum R (R.mul b (minus R c d)) s t
      (ap (λ y. R.add y s) (minus_mul R b c d ∙ R.add_comm _ _)
      ∙ R.add_assoc _ _ _ ∙ ap (R.add (R.neg (R.mul b d))) e ∙ sym (R.add_assoc _ _ _)
      ∙ ap (λ y. R.add y t) (neg_add R (R.mul b d)) ∙ R.zero_add t)

  no_right_multiple : (b x : M) → len (R.mul b x) < len b → x ≡ R.zero
  no_right_multiple b x l =
      ⊎_elim
      (λ (none : len x < 1). h.empty x (omega arith))
      (λ (some : 1 ≤ len x).
      let all : len (R.mul b x) + 1 ≡ len b + len x = h.product b x (omega arith) some in
      absurd (omega arith))
      (cases_lt (len x) 1)

  pub left_quotients_same : (b c d s t : M) → R.add (R.mul b c) s ≡ R.add (R.mul b d) t → len s < len b → len t < len b → (c ≡ d) × (s ≡ t)
  left_quotients_same b c d s t e l m =
      let small : len (minus R t s) ≤ len b - 1 = minus_small R len h t s (len b - 1) (omega arith) (omega arith) in
      let multiple : len (R.mul b (minus R c d)) ≡ len (minus R t s) = ap len (left_difference b c d s t e) in
      let same : c ≡ d = minus_same R c d (no_right_multiple b (minus R c d) (omega arith)) in
      (same, add_cancel R (R.mul b d) s t (ap (λ x. R.add (R.mul b x) s) (sym same) ∙ e))
