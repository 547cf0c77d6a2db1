-- The residue of a polynomial of more coefficients than the modulus has degree: its low coefficients, and each
-- further one times the residue of its power of the letter.
use Rattle.std.proofs.Common.{◌≡◌, ℕ, zero, suc, ◌+◌, ◌<◌, ◌≤◌, cond, nat_lt, sym, refl, ap, ap₂, subst, ◌∙◌, arith, lt-ltb, le-ltb}
use mathlib.Core.Path.{fun_ext}
use Rattle.std.proofs.lemmas.Bool.{cond-true, cond-false}
use Rattle.ring_core.specs.Ring.{RingOps, IsElem, IsRing, IsCommutative}
use Rattle.ring_core.specs.Coeffs.{sum_below}
use Rattle.ring_core.proofs.Carrier.{RingOn, Element, elements}
use Rattle.ring_core.proofs.Series.{total, total_first}
use Rattle.ring_core.proofs.Twist.{total_is}
use Rattle.finite_ring.proofs.FieldOf.{commute_on}
use Rattle.residue_field.specs.Residue.{times_x, residue}
use Rattle.residue_field.specs.steps.Stored.{IsMonic}
use Rattle.residue_field.proofs.Act.{x_act, act, act-x, act-one, constant}
use Rattle.residue_field.proofs.ResidueRing.{residue-value, times-x-value, constant-is}
use Rattle.field_tower.specs.steps.Lanes.{letter_residue}

-- v times the power j of the letter
steps : {M : Type 0} → RingOn M → ℕ → (ℕ → M) → ℕ → (ℕ → M) → ℕ → M
steps R n f zero v = v
steps R n f (suc j) v = steps R n f j (x_act R n f v)

module _ {M : Type 0} (R : RingOn M) where
  total_same : (n : ℕ) (g k : ℕ → M) → ((i : ℕ) → i < n → g i ≡ k i) → total R n g ≡ total R n k
  total_same zero g k e = refl
  total_same (suc n) g k e = ap₂ R.add (total_same n g k (λ i l. e i (omega arith))) (e n (omega arith))

  total_parts : (n m : ℕ) (g : ℕ → M) → total R (n + m) g ≡ R.add (total R n g) (total R m (λ t. g (n + t)))
  total_parts n zero g = ap (λ k. total R k g) (omega arith) ∙ sym (R.add_comm (total R n g) R.zero ∙ R.zero_add (total R n g))
  total_parts n (suc m) g =
      let count : n + suc m ≡ suc (n + m) = omega arith in
      ap (λ k. total R k g) count ∙ ap (λ x. R.add x (g (n + m))) (total_parts n m g) ∙ R.add_assoc _ _ _

module _ {M : Type 0} (R : RingOn M) (commutes : (a b : M) → R.mul a b ≡ R.mul b a) (n : ℕ) (f : ℕ → M) where
  steps-x : (j : ℕ) (v : ℕ → M) → steps R n f j (x_act R n f v) ≡ x_act R n f (steps R n f j v)
  unfolding steps
  steps-x zero v = refl
  steps-x (suc j) v = steps-x j (x_act R n f v)

  -- the action is the sum of its terms
  act-terms : (k : ℕ) (a v : ℕ → M) (i : ℕ) → act R n f k a v i ≡ total R k (λ j. R.mul (a j) (steps R n f j v i))
  unfolding steps
  act-terms zero a v i = refl
  act-terms (suc k) a v i =
      let rest = λ (j : ℕ). a (suc j) in
      ap (R.add (R.mul (a 0) (v i))) (sym (act-x R commutes n f k rest v i) ∙ act-terms k rest (x_act R n f v) i)
      ∙ sym (total_first R k (λ j. R.mul (a j) (steps R n f j v i)))

  low_part : (ℕ → M) → ℕ → M
  low_part a j = cond (nat_lt j (suc n)) (a j) R.zero

  low_is : (a : ℕ → M) (j : ℕ) → j < suc n → low_part a j ≡ a j
  unfolding low_part
  low_is a j l = cond-true (nat_lt j (suc n)) (a j) R.zero (lt-ltb j (suc n) l)

  low_past : (a : ℕ → M) (j : ℕ) → suc n ≤ j → low_part a j ≡ R.zero
  unfolding low_part
  low_past a j l = cond-false (nat_lt j (suc n)) (a j) R.zero (le-ltb j (suc n) l)

  act-parts : (m : ℕ) (a : ℕ → M) (i : ℕ) → i < suc n
      → act R n f (suc n + m) a (constant R R.one) i
      ≡ R.add (a i) (total R m (λ t. R.mul (a (suc n + t)) (steps R n f (suc n + t) (constant R R.one) i)))
  act-parts m a i l =
      let one = constant R R.one in
      act-terms (suc n + m) a one i
      ∙ total_parts R (suc n) m (λ j. R.mul (a j) (steps R n f j one i))
      ∙ ap (λ x. R.add x (total R m (λ t. R.mul (a (suc n + t)) (steps R n f (suc n + t) one i))))
      (total_same R (suc n) (λ j. R.mul (a j) (steps R n f j one i)) (λ j. R.mul (low_part a j) (steps R n f j one i))
      (λ j k. ap (λ x. R.mul x (steps R n f j one i)) (sym (low_is a j k)))
      ∙ sym (act-terms (suc n) (low_part a) one i)
      ∙ act-one R commutes n f (suc n) (low_part a) (omega arith) (low_past a) i ∙ low_is a i l)

module _ {E : Type 0} (r : RingOps E) (h : IsRing r) (commutes : IsCommutative r) (n : ℕ) (f : ℕ → E) (monic : IsMonic r n f) where
  f_on : ℕ → Element r
  f_on j = (f j, monic.coeff_in j)

  letter-value : (k i : ℕ) → letter_residue r n f k i ≡ (steps (elements h) n f_on k (constant (elements h) (elements h).one) i).0
  unfolding steps f_on
  letter-value zero i = constant-is r h (elements h).one i
  letter-value (suc k) i =
      let R = elements h in
      ap (λ v. times_x r n f v i) (fun_ext (letter-value k))
      ∙ times-x-value r h n f_on (steps R n f_on k (constant R R.one)) i
      ∙ ap (λ v. (v i).0) (sym (steps-x R (commute_on r h commutes) n f_on k (constant R R.one)))

  pub letter_in : (k i : ℕ) → IsElem r (letter_residue r n f k i)
  letter_in k i = subst (IsElem r) (sym (letter-value k i)) (steps (elements h) n f_on k (constant (elements h) (elements h).one) i).1

  -- the coefficients from n + 1 on, by the residues of the powers of the letter
  pub residue_parts : (m : ℕ) (a : ℕ → E) → ((i : ℕ) → IsElem r (a i)) → (i : ℕ) → i < suc n
      → residue r n f (suc n + m) a i ≡ r.add (a i) (sum_below r m (λ t. r.mul (a (suc n + t)) (letter_residue r n f (suc n + t) i)))
  unfolding f_on
  residue_parts m a a_in i l =
      let R = elements h in
      let u : ℕ → Element r = λ j. (a j, a_in j) in
      let one = constant R R.one in
      residue-value r h n f_on (suc n + m) u i
      ∙ ap (λ x. x.0) (act-parts R (commute_on r h commutes) n f_on m u i l)
      ∙ ap (r.add (a i))
      (total_is r h m (λ t. R.mul (u (suc n + t)) (steps R n f_on (suc n + t) one i))
      ∙ ap (sum_below r m) (fun_ext (λ t. ap (r.mul (a (suc n + t))) (sym (letter-value (suc n + t) i)))))
