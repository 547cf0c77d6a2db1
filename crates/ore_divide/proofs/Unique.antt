-- Each answer is the only one, over lists.
use Rattle.std.proofs.Common.{◌≡◌, ℕ, ◌+◌, ◌-◌, ◌<◌, ◌≤◌, ◌⊎◌, inl, inr, true, Option, List, [], ◌∷◌, length, refl, sym, ◌∙◌, ap, ap₂, ⊎_elim, arith}
use Rattle.std.proofs.lemmas.Bool.{and_parts, cases_lt, cases_eq}
use Rattle.ring_core.specs.Ring.{RingOps}
use Rattle.ring_core.specs.Field.{IsField, FrobOps, IsFrobField}
use Rattle.ring_core.specs.Coeffs.{coeff, are_elems, is_canonical}
use Rattle.ring_core.specs.Twisted.{twisted_ops, list_neg, list_mul}
use Rattle.ring_core.proofs.Carrier.{RingOn, same_element, zero_mul, mul_zero, add_zero}
use Rattle.ring_core.proofs.Coefficients.{coeff_past}
use Rattle.ring_core.proofs.ListRing.{coeff-add, coeff-neg}
use Rattle.ore_divide.specs.Division.{IsRightDivision}
use Rattle.ore_divide.specs.Divisor.{DividesRight, IsMonic, IsCommonRight}
use Rattle.ore_divide.specs.Multiple.{IsLeastMultiple}
use Rattle.euclid_theory.proofs.Sizes.{minus, no_multiple, quotients_same, cancel_right}
use Rattle.euclid_theory.proofs.Divisors.{Common, Multiple, divides_sum, divisor_same, cofactors_same, multiple_same, multiple_divides}
use Rattle.ring_core.proofs.Degrees.{not_empty, length_below}
use Rattle.euclid_theory.proofs.OreSizes.{Ores, ores, size, ore_sizes}

-- A list is empty or has members.
pub empty_or_not : {E : Type 0} (u : List E) → (u ≡ []) ⊎ (0 < length u)
empty_or_not [] = inl refl
empty_or_not (x ∷ xs) = inr (omega arith)

module _ {E B : Type 0} (r : RingOps E) (inv : E → Option E) (base : RingOps B) (f : FrobOps E B) (k : IsField r inv) (l : IsFrobField r base f) where
  abbrev R : RingOn (Ores r inv base f k l)
  R = ores r inv base f k l

  abbrev len : Ores r inv base f k l → ℕ
  len = size r inv base f k l

  abbrev pub Monic : Ores r inv base f k l → Type 0
  Monic x = IsMonic r x.0

  -- equal lists are equal twisted polynomials
  pub same : (x y : Ores r inv base f k l) → x.0 ≡ y.0 → x ≡ y
  same = same_element (twisted_ops r f.frob)

  -- zero is a multiple of every twisted polynomial
  pub zero_divided : (m n : List E) → is_canonical r m ≡ true → n ≡ [] → DividesRight r f.frob m n
  zero_divided m n cm none = record { factor = []; factor_in = R.zero.1; is = none ∙ sym (ap (λ x. x.0) (zero_mul R (m, cm))) }

  -- a multiple of zero adds nothing, on either side
  pub right_empty : (x y a b : Ores r inv base f k l) → b.0 ≡ [] → R.add (R.mul x a) (R.mul y b) ≡ R.mul x a
  right_empty x y a b none = ap (R.add (R.mul x a)) (ap (R.mul y) (same b R.zero none) ∙ mul_zero R y) ∙ add_zero R (R.mul x a)

  pub left_empty : (x y a b : Ores r inv base f k l) → a.0 ≡ [] → R.add (R.mul x a) (R.mul y b) ≡ R.mul y b
  left_empty x y a b none = R.add_comm (R.mul x a) (R.mul y b) ∙ right_empty y x b a none

  -- the tops of two monic polynomials of one degree cancel
  pub tops : (x y : Ores r inv base f k l) → Monic x → Monic y → len x ≡ len y → 0 < len x → len (minus R x y) < len x
  tops x y mx my same pos =
      let z = k.ring.closed.zero_in in
      let ey : are_elems r y.0 ≡ true = (and_parts _ _ y.1).0 in
      let en : are_elems r (list_neg r y.0) ≡ true = (and_parts _ _ (R.neg y).1).0 in
      let n = length x.0 - 1 in
      length_below r k.ring (minus R x y).0 (length x.0) pos (and_parts _ _ (minus R x y).1).1
      (λ m past.
      coeff-add r k.ring x.0 (list_neg r y.0) (and_parts _ _ x.1).0 en m ∙ ap (r.add (coeff r x.0 m)) (coeff-neg r k.ring y.0 ey m)
      ∙ ⊎_elim
      (λ (here : m ≡ n).
      ap₂ (λ i j. r.add (coeff r x.0 i) (r.neg (coeff r y.0 j))) here (here ∙ (omega arith))
      ∙ ap₂ (λ s t. r.add s (r.neg t)) mx my ∙ k.ring.add_neg r.one k.ring.closed.one_in)
      (λ (other : m ≡ n → ⊥).
      ap₂ (λ s t. r.add s (r.neg t)) (coeff_past r x.0 m (omega arith)) (coeff_past r y.0 m (omega arith)) ∙ k.ring.add_neg r.zero z)
      (cases_eq m n))

  pub right_division : (a b c d rest other : List E) → is_canonical r b ≡ true → IsRightDivision r f.frob a b c rest → IsRightDivision r f.frob a b d other → (c ≡ d) × (rest ≡ other)
  right_division a b c d rest other cb p q =
      let both = quotients_same R len (ore_sizes r inv base f k l) (b, cb) (c, p.quotient) (d, q.quotient) (rest, p.remainder) (other, q.remainder)
      (same _ _ (sym p.sum ∙ q.sum)) p.lower q.lower in
      (ap (λ x. x.0) both.0, ap (λ x. x.0) both.1)

  common_of : (a b d s w : List E) (ca : is_canonical r a ≡ true) (cb : is_canonical r b ≡ true) (p : IsCommonRight r f.frob a b d s w)
      → Common R len Monic (a, ca) (b, cb) (d, p.divisor) (s, p.left_in) (w, p.right_in)
  common_of a b d s w ca cb p = record {
    sum = same _ _ p.sum;
    x = (p.left.factor, p.left.factor_in);
    left = same _ _ p.left.is;
    y = (p.right.factor, p.right.factor_in);
    right = same _ _ p.right.is;
    monic = λ pos. p.monic (not_empty d pos);
  }

  -- a divisor of a polynomial that isn't zero is no longer
  divisor_short : (b d : List E) → is_canonical r d ≡ true → DividesRight r f.frob d b → 0 < length b → length d ≤ length b
  divisor_short b d cd p pos =
      let q : Ores r inv base f k l = (p.factor, p.factor_in) in
      let whole : length b ≡ len (R.mul q (d, cd)) = ap length p.is in
      ⊎_elim
      (λ (low : length b < length d).
      let none = no_multiple R len (ore_sizes r inv base f k l) q (d, cd) (omega arith) in
      let gone : length b ≡ 0 = whole ∙ ap len (ap (λ x. R.mul x (d, cd)) none ∙ zero_mul R (d, cd)) in
      absurd (omega arith))
      (λ (high : length d ≤ length b). high)
      (cases_lt (length b) (length d))

  cofactor_short : (a b d s w : List E) → 0 < length a → 0 < length b → IsCommonRight r f.frob a b d s w → length s + length d ≤ length b
  cofactor_short a b d [] w pa pb p = omega (arith, divisor_short b d p.divisor p.right pb)
  cofactor_short a b d (x ∷ s) w pa pb p = p.bound (not_empty a pa) (not_empty b pb) (λ e. cc)

  pub common_divisor : (a b d s w e t v : List E) → is_canonical r a ≡ true → is_canonical r b ≡ true → IsCommonRight r f.frob a b d s w → IsCommonRight r f.frob a b e t v → (d ≡ e) × (s ≡ t) × (w ≡ v)
  common_divisor a b d s w e t v ca cb p q =
      let h = ore_sizes r inv base f k l in
      let A : Ores r inv base f k l = (a, ca) in
      let B : Ores r inv base f k l = (b, cb) in
      let one = common_of a b d s w ca cb p in
      let two = common_of a b e t v ca cb q in
      let both = divisor_same R len h Monic tops _ _ _ _ _ _ _ _ one two in
      let sums = sym one.sum ∙ both ∙ two.sum in
      let equal : d ≡ e = ap (λ x. x.0) both in
      elim (empty_or_not a) [
        | inl none ↦
            let left = p.no_left none in
            let right = q.no_left none in
            elim (empty_or_not b) [
              | inl nothing ↦ (equal, left.0 ∙ sym right.0, left.2 nothing ∙ sym (right.2 nothing))
              | inr some ↦ (
                equal,
                left.0 ∙ sym right.0,
                ap (λ x. x.0) (cancel_right R len h _ _ B some (sym (left_empty _ _ A B none) ∙ sums ∙ left_empty _ _ A B none)),
              )
            ]
        | inr some ↦ elim (empty_or_not b) [
          | inl none ↦ (
            equal,
            ap (λ x. x.0) (cancel_right R len h _ _ A some (sym (right_empty _ _ A B none) ∙ sums ∙ right_empty _ _ A B none)),
            (p.no_right (not_empty a some) none).0 ∙ sym (q.no_right (not_empty a some) none).0,
          )
          | inr more ↦
              let cofactors =
              cofactors_same R len h Monic tops _ _ _ _ _ _ _ _ more one two (cofactor_short a b d s w some more p) (cofactor_short a b e t v some more q) in
              (equal, ap (λ x. x.0) cofactors.0, ap (λ x. x.0) cofactors.1)
        ]
      ]

  not_zero : (m : List E) → IsMonic r m → 0 < length m
  not_zero [] monic = absurd (k.one_ne_zero (sym monic))
  not_zero (x ∷ xs) monic = omega arith

  multiple_of : (a b m s w : List E) (ca : is_canonical r a ≡ true) (cb : is_canonical r b ≡ true) (pa : 0 < length a) (pb : 0 < length b) (p : IsLeastMultiple r f.frob a b m s w)
      → Multiple R len Monic (a, ca) (b, cb) (m, p.multiple) (s, p.left_in) (w, p.right_in)
  multiple_of a b m s w ca cb pa pb p =
      let na = not_empty a pa in
      let nb = not_empty b pb in
      record {
        left = same _ _ p.left;
        right = same _ _ p.right;
        monic = p.monic na nb;
        nonzero = not_zero m (p.monic na nb);
        least = λ n t v pos left right.
            p.least na nb n.0 n.1 (not_empty n.0 pos) (record { factor = t.0; factor_in = t.1; is = ap (λ x. x.0) left }) (record { factor = v.0; factor_in = v.1; is = ap (λ x. x.0) right });
      }

  pub least_multiple : (a b m s w n t v : List E) → is_canonical r a ≡ true → is_canonical r b ≡ true → IsLeastMultiple r f.frob a b m s w → IsLeastMultiple r f.frob a b n t v → (m ≡ n) × (s ≡ t) × (w ≡ v)
  least_multiple a b m s w n t v ca cb p q =
      let equal : (m ≡ []) × (s ≡ []) × (w ≡ []) → (n ≡ []) × (t ≡ []) × (v ≡ []) → (m ≡ n) × (s ≡ t) × (w ≡ v) = λ x y. (x.0 ∙ sym y.0, x.1 ∙ sym y.1, x.2 ∙ sym y.2) in
      elim (empty_or_not a) [
        | inl none ↦ equal (p.no_left none) (q.no_left none)
        | inr some ↦ elim (empty_or_not b) [
          | inl none ↦ equal (p.no_right none) (q.no_right none)
          | inr more ↦
              let all =
              multiple_same R len (ore_sizes r inv base f k l) Monic tops _ _ _ _ _ _ _ _ some more
              (multiple_of a b m s w ca cb some more p) (multiple_of a b n t v ca cb some more q) in
              (ap (λ x. x.0) all.0, ap (λ x. x.0) all.1, ap (λ x. x.0) all.2)
        ]
      ]

  -- every common divisor divides the greatest
  pub common_divisors : (a b d s w e : List E) → is_canonical r a ≡ true → is_canonical r b ≡ true → is_canonical r e ≡ true
      → IsCommonRight r f.frob a b d s w → DividesRight r f.frob e a → DividesRight r f.frob e b → DividesRight r f.frob e d
  common_divisors a b d s w e ca cb ce p left right =
      let x : Ores r inv base f k l = (left.factor, left.factor_in) in
      let y : Ores r inv base f k l = (right.factor, right.factor_in) in
      let S : Ores r inv base f k l = (s, p.left_in) in
      let W : Ores r inv base f k l = (w, p.right_in) in
      let q = R.add (R.mul S x) (R.mul W y) in
      record {
        factor = q.0;
        factor_in = q.1;
        is = p.sum ∙ ap (λ z. z.0) (divides_sum R len (ore_sizes r inv base f k l) (a, ca) (b, cb) (e, ce) x y S W (same _ _ left.is) (same _ _ right.is));
      }

  -- a multiple of zero is zero
  times_empty : (t a : List E) → is_canonical r t ≡ true → a ≡ [] → list_mul r f.frob t a ≡ []
  times_empty t a ct none = ap (list_mul r f.frob t) none ∙ ap (λ x. x.0) (mul_zero R (t, ct))

  -- every common multiple is a left multiple of the least
  pub common_multiples : (a b m s w n : List E) → is_canonical r a ≡ true → is_canonical r b ≡ true → is_canonical r n ≡ true
      → IsLeastMultiple r f.frob a b m s w → DividesRight r f.frob a n → DividesRight r f.frob b n → DividesRight r f.frob m n
  common_multiples a b m s w n ca cb cn p left right = elim (empty_or_not a) [
    | inl none ↦ zero_divided m n p.multiple (left.is ∙ times_empty left.factor a left.factor_in none)
    | inr some ↦ elim (empty_or_not b) [
      | inl none ↦ zero_divided m n p.multiple (right.is ∙ times_empty right.factor b right.factor_in none)
      | inr more ↦
          let q =
          multiple_divides R len (ore_sizes r inv base f k l) Monic tops _ _ _ _ _ (n, cn) (left.factor, left.factor_in) (right.factor, right.factor_in)
          (multiple_of a b m s w ca cb some more p) (same _ _ left.is) (same _ _ right.is) in
          record { factor = q.0.0; factor_in = q.0.1; is = ap (λ x. x.0) q.1 }
    ]
  ]
