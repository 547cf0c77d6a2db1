-- Divisions of twisted polynomials by one that isn't zero exist, on either side.
use Rattle.std.proofs.Common.{◌≡◌, ℕ, zero, suc, ◌+◌, ◌-◌, ◌<◌, ◌≤◌, true, Option, List, length, sym, ◌∙◌, ap, ap₂, ⊎_elim, arith}
use Rattle.std.proofs.lemmas.Bool.{and_parts, cases_lt, cases_eq}
use Rattle.ring_core.specs.Ring.{RingOps}
use Rattle.ring_core.specs.Field.{IsField, FrobOps, IsFrobField}
use Rattle.ring_core.specs.Coeffs.{coeff, are_elems, is_canonical}
use Rattle.ring_core.specs.Monomial.{monomial}
use Rattle.ring_core.proofs.Carrier.{RingOn, elements, zero_mul, mul_zero, from_sum}
use Rattle.ring_core.proofs.Coefficients.{coeff_past, elem_read}
use Rattle.ring_core.proofs.Twist.{frob_twist}
use Rattle.ring_core.proofs.ListRing.{coeff-add, coeff-mul}
use Rattle.ring_core.proofs.Monomial.{monomial_in, product_monomial}
use Rattle.ring_core.proofs.Degrees.{length_below}
use Rattle.twist_theory.proofs.Onto.{frob_onto}
use Rattle.euclid_theory.proofs.Sizes.{minus, minus_mul, divide}
use Rattle.euclid_theory.proofs.Lengths.{top_inverse}
use Rattle.euclid_theory.proofs.OreSizes.{Ores, ores, size, ore_sizes}
use Rattle.ore_divide.specs.Division.{IsRightDivision, IsLeftDivision}
use Rattle.ore_divide.proofs.LeftPlaces.{top_cancelled_left}

module _ {E B : Type 0} (r : RingOps E) (inv : E → Option E) (base : RingOps B) (f : FrobOps E B) (k : IsField r inv) (l : IsFrobField r base f) where
  abbrev R : RingOn (Ores r inv base f k l)
  R = ores r inv base f k l

  abbrev len : Ores r inv base f k l → ℕ
  len = size r inv base f k l

  pub right_division_exists : (a b : List E) → is_canonical r a ≡ true → is_canonical r b ≡ true → 0 < length b → (c rest : List E) × IsRightDivision r f.frob a b c rest
  right_division_exists a b ca cb pos =
      let d = divide R len (ore_sizes r inv base f k l) (length a + 1) (a, ca) (b, cb) (omega arith) pos in
      (d.quotient.0, d.rest.0, record { quotient = d.quotient.1; remainder = d.rest.1; sum = ap (λ x. x.0) d.sum; lower = d.lower })

  -- a right multiple of b lowers the degree of a
  lowers_left : (a b : Ores r inv base f k l) → 0 < len b → len b ≤ len a → (x : Ores r inv base f k l) × (len (R.add a (R.mul b x)) < len a)
  lowers_left a b pos high =
      let z = k.ring.closed.zero_in in
      let twist = frob_twist r inv base f k l in
      let ea : are_elems r a.0 ≡ true = (and_parts _ _ a.1).0 in
      let eb : are_elems r b.0 ≡ true = (and_parts _ _ b.1).0 in
      let n = length a.0 - 1 in
      let d = length b.0 - 1 in
      let i = length a.0 - length b.0 in
      let top = coeff r a.0 n in
      let last = coeff r b.0 d in
      let top_in = elem_read r a.0 z ea n in
      let last_in = elem_read r b.0 z eb d in
      let inverse = top_inverse r inv k b.0 b.1 pos in
      let j = inverse.0 in
      let wanted = r.neg (r.mul j top) in
      let root = frob_onto r base f l wanted d (k.ring.closed.neg_in _ (k.ring.closed.mul_in _ _ inverse.1.0 top_in)) in
      let c = root.0 in
      let x : Ores r inv base f k l = (monomial r c i, monomial_in r k.ring c i root.1) in
      let ex : are_elems r x.0 ≡ true = (and_parts _ _ x.1).0 in
      let product = R.mul b x in
      let ep : are_elems r product.0 ≡ true = (and_parts _ _ product.1).0 in
      let sum = R.add a product in
      let terms : (m : ℕ) → i ≤ m → coeff r sum.0 m ≡ r.add (coeff r a.0 m) (r.mul (coeff r b.0 (m - i)) (f.frob c (m - i))) = λ m up.
      coeff-add r k.ring a.0 product.0 ea ep m
      ∙ ap (r.add (coeff r a.0 m)) (coeff-mul r k.ring f.frob twist b.0 x.0 eb ex m ∙ product_monomial r k.ring f.frob twist b.0 c i root.1 eb m up) in
      let zeros : (m : ℕ) → length a.0 ≤ m + 1 → coeff r sum.0 m ≡ r.zero = λ m past.
      let up : i ≤ m = omega arith in
      terms m up
      ∙ ⊎_elim
      (λ (here : m ≡ n).
      let place : m - i ≡ d = omega arith in
      ap₂ (λ s t. r.add (coeff r a.0 s) (r.mul (coeff r b.0 t) (f.frob c t))) here place
      ∙ top_cancelled_left r k.ring top j last (f.frob c d) top_in inverse.1.0 last_in inverse.1.1 root.2)
      (λ (other : m ≡ n → ⊥).
      let S = elements k.ring in
      ap₂ (λ s t. r.add s (r.mul t (f.frob c (m - i)))) (coeff_past r a.0 m (omega arith)) (coeff_past r b.0 (m - i) (omega arith))
      ∙ ap (λ y. y.0) (S.zero_add _ ∙ zero_mul S (f.frob c (m - i), l.frob_in c (m - i) root.1)))
      (cases_eq m n) in
      (x, length_below r k.ring sum.0 (length a.0) (omega arith) (and_parts _ _ sum.1).1 zeros)

  divides_left : (n : ℕ) (a b : Ores r inv base f k l) → len a < n → 0 < len b → (q rest : Ores r inv base f k l) × (a ≡ R.add (R.mul b q) rest) × (len rest < len b)
  divides_left zero a b l pos = absurd (omega arith)
  divides_left (suc n) a b less pos =
      ⊎_elim
      (λ (low : len a < len b).
      (R.zero, a, sym (ap (λ x. R.add x a) (mul_zero R b) ∙ R.zero_add a), low))
      (λ (high : len b ≤ len a).
      let step = lowers_left a b pos high in
      let x = step.0 in
      let lower : len (R.add a (R.mul b x)) < len a = step.1 in
      let d = divides_left n (R.add a (R.mul b x)) b (omega arith) pos in (
        minus R d.0 x,
        d.1,
        from_sum R a (R.mul b x) (R.add (R.mul b d.0) d.1) d.2
            ∙ R.add_assoc (R.mul b d.0) d.1 (R.neg (R.mul b x)) ∙ ap (R.add (R.mul b d.0)) (R.add_comm d.1 (R.neg (R.mul b x)))
            ∙ sym (R.add_assoc (R.mul b d.0) (R.neg (R.mul b x)) d.1)
            ∙ ap (λ t. R.add t d.1) (sym (minus_mul R b d.0 x)),
        d.3,
      ))
      (cases_lt (len a) (len b))

  pub left_division_exists : (a b : List E) → is_canonical r a ≡ true → is_canonical r b ≡ true → 0 < length b → (c rest : List E) × IsLeftDivision r f.frob a b c rest
  left_division_exists a b ca cb pos =
      let d = divides_left (length a + 1) (a, ca) (b, cb) (omega arith) pos in
      (d.0.0, d.1.0, record { quotient = d.0.1; remainder = d.1.1; sum = ap (λ x. x.0) d.2; lower = d.3 })
