-- The multiples that a division takes away, on either side.
use Rattle.std.proofs.Common.{◌≡◌, ◌≢◌, ℕ, ◌+◌, ◌≤◌, true, Option, List, length, take, refl, ◌∙◌, ap}
use Rattle.ring_core.specs.Ring.{RingOps, IsElem}
use Rattle.ring_core.specs.Field.{IsField, FrobOps, IsFrobField}
use Rattle.ring_core.specs.Coeffs.{coeff, are_elems}
use Rattle.ring_core.proofs.Carrier.{RingOn, mul_zero, zero_mul}
use Rattle.ring_core.proofs.Coefficients.{coeff_past, elem_read}
use Rattle.ring_core.proofs.Terms.{zero_times, times_zero}
use Rattle.ring_core.proofs.Twist.{frob_of_zero}
use Rattle.ore_divide.specs.declared.side.Side.{Side}
use Rattle.ore_divide.specs.declared.side.Side.TheVariants.{Right, Left}
use Rattle.ore_divide.specs.steps.Sides.{multiple_on, term_on}
use Rattle.euclid_theory.proofs.Sizes.{minus, mul_minus, minus_mul}
use Rattle.euclid_theory.proofs.OreSizes.{Ores, ores}
use Rattle.ore_divide.proofs.Cleared.{without_top}

module _ {M : Type 0} (R : RingOn M) where
  -- the multiple of `b` by `q`
  abbrev pub mul_on : Side → M → M → M
  mul_on Right q b = R.mul q b
  mul_on Left q b = R.mul b q

  pub minus_on : (s : Side) (q x b : M) → mul_on s (minus R q x) b ≡ minus R (mul_on s q b) (mul_on s x b)
  minus_on Right q x b = mul_minus R q x b
  minus_on Left q x b = minus_mul R b q x

  pub zero_on : (s : Side) (b : M) → mul_on s R.zero b ≡ R.zero
  zero_on Right b = zero_mul R b
  zero_on Left b = mul_zero R b

module _ {E B : Type 0} (r : RingOps E) (inv : E → Option E) (base : RingOps B) (f : FrobOps E B) (k : IsField r inv) (l : IsFrobField r base f) where
  pub multiple_is : (s : Side) (q b : Ores r inv base f k l) → (mul_on (ores r inv base f k l) s q b).0 ≡ multiple_on s r f.frob q.0 b.0
  multiple_is Right q b = refl
  multiple_is Left q b = refl

  module _ (c : E) (i : ℕ) (row : List E) (e : are_elems r row ≡ true) (p : IsElem r c) where
    -- past the row there is nothing
    pub term_past : (s : Side) (j : ℕ) → length row ≤ j → term_on s r f.frob c i row j ≡ r.zero
    term_past Right j past = times_zero r k.ring c _ p (ap (λ x. f.frob x i) (coeff_past r row j past) ∙ frob_of_zero r inv base f k l i)
    term_past Left j past = zero_times r k.ring (coeff r row j) _ (coeff_past r row j past) (l.frob_in c j p)

    -- and where the factor is zero
    pub term_none : (s : Side) (j : ℕ) → c ≡ r.zero → term_on s r f.frob c i row j ≡ r.zero
    term_none Right j none = zero_times r k.ring c _ none (l.frob_in _ i (elem_read r row k.ring.closed.zero_in e j))
    term_none Left j none =
        times_zero r k.ring (coeff r row j) _ (elem_read r row k.ring.closed.zero_in e j) (ap (λ x. f.frob x j) none ∙ frob_of_zero r inv base f k l j)

  -- the top of the row left out
  pub term_without : (s : Side) (c : E) (i : ℕ) (b : List E) (n j : ℕ) → length b ≡ n + 1 → j ≢ n → term_on s r f.frob c i (take n b) j ≡ term_on s r f.frob c i b j
  term_without Right c i b n j long other = ap (λ x. r.mul c (f.frob x i)) (without_top r b n j long other)
  term_without Left c i b n j long other = ap (λ x. r.mul x (f.frob c j)) (without_top r b n j long other)
