-- Finite fields over finite fields, with the power `q` of the smaller one. The constants are given by a
-- one to one map of rings, so that all layers use the same facts.
use Rattle.std.proofs.Common.{◌≡◌, ◌≢◌, ℕ, zero, suc, ◌+◌, ◌-◌, ◌*◌, ◌^◌, ◌<◌, ◌≤◌, sym, ◌∙◌, ap, ap₂, pow-suc, mul-zero, mul-suc, arith}
use native.Mathlib.Nat.{pow-zero, pow-succ'}
use Rattle.std.proofs.lemmas.Nat.{pow-add}
use Rattle.ring_core.proofs.Carrier.{RingOn, add_zero, add_cancel, neg_only, mul_zero, minus_same}
use Rattle.finite_ring.proofs.Powers.{power, power-one, power-power, power-product}
use Rattle.finite_ring.proofs.Counted.{IsCounted, NoPair, cases_same, mul_cancel}
use Rattle.finite_ring.proofs.Fermat.{count_fixes, count_large, power_count}
use Rattle.finite_ring.proofs.Accept.{accepted_no_pair}
use Rattle.finite_ring.proofs.Roots.{minus, AreApart, fixed_falls, root_among}
use Rattle.finite_ring.proofs.Freshman.{HasFreshRow, ones, frob_sum}

pow-pow : (p s i : ℕ) → (p ^ s) ^ i ≡ p ^ (s * i)
pow-pow p s zero = pow-zero (p ^ s) ∙ sym (ap (λ n. p ^ n) (mul-zero s) ∙ pow-zero p)
pow-pow p s (suc i) =
    pow-suc (p ^ s) i ∙ ap (λ n. n * p ^ s) (pow-pow p s i) ∙ sym (pow-add p (s * i) s)
    ∙ sym (ap (λ n. p ^ n) (mul-suc s i))

-- A field of `q` elements: a counted commutative ring in which one is not zero and no two nonzero
-- elements multiply to zero. Its characteristic is the prime of which `q` is a power.
pub record IsFiniteField {M : Type 0} (R : RingOn M) (q : ℕ) : Type 0 where
  pub comm : (a b : M) → R.mul a b ≡ R.mul b a
  pub counted : IsCounted R q
  pub one_apart : R.one ≢ R.zero
  pub no_pair : NoPair R
  pub prime : ℕ
  pub positive : 0 < prime
  pub exponent : ℕ
  pub size : q ≡ prime ^ exponent
  pub fresh : HasFreshRow prime
  pub char : ones R prime ≡ R.zero

-- `up` is a one to one map of rings.
pub record IsRingMap {B M : Type 0} (K : RingOn B) (R : RingOn M) (up : B → M) : Type 0 where
  pub one : up K.one ≡ R.one
  pub add : (a b : B) → up (K.add a b) ≡ R.add (up a) (up b)
  pub mul : (a b : B) → up (K.mul a b) ≡ R.mul (up a) (up b)
  pub inj : (a b : B) → up a ≡ up b → a ≡ b

module _ {B M : Type 0} (K : RingOn B) (R : RingOn M) (up : B → M) (h : IsRingMap K R up) where
  pub up-zero : up K.zero ≡ R.zero
  up-zero =
      add_cancel R (up K.zero) (up K.zero) R.zero
      (sym (h.add K.zero K.zero) ∙ ap up (K.zero_add K.zero) ∙ sym (add_zero R (up K.zero)))

  pub up-neg : (a : B) → up (K.neg a) ≡ R.neg (up a)
  up-neg a = neg_only R (up a) (up (K.neg a)) (sym (h.add a (K.neg a)) ∙ ap up (K.add_neg a) ∙ up-zero)

  pub up-minus : (a b : B) → up (minus K a b) ≡ minus R (up a) (up b)
  up-minus a b = h.add a (K.neg b) ∙ ap (R.add (up a)) (up-neg b)

  pub up-power : (a : B) (k : ℕ) → up (power K a k) ≡ power R (up a) k
  up-power a zero = h.one
  up-power a (suc k) = h.mul (power K a k) a ∙ ap (λ x. R.mul x (up a)) (up-power a k)

  pub up-ones : (n : ℕ) → up (ones K n) ≡ ones R n
  up-ones zero = up-zero
  up-ones (suc n) = h.add (ones K n) K.one ∙ ap₂ R.add (up-ones n) h.one

-- Over a field of q elements, which need not itself be one.
module _ {B M : Type 0} (K : RingOn B) (R : RingOn M) (up : B → M) (h : IsRingMap K R up) (q : ℕ) (k : IsFiniteField K q)
    (comm : (a b : M) → R.mul a b ≡ R.mul b a) where
  pub large_base : 2 ≤ q
  large_base = count_large K k.comm q k.counted k.one_apart k.no_pair

  pub char_up : ones R k.prime ≡ R.zero
  char_up = sym (up-ones K R up h k.prime) ∙ ap up k.char ∙ up-zero K R up h

  pub one_apart_up : R.one ≢ R.zero
  one_apart_up e = k.one_apart (h.inj K.one K.zero (h.one ∙ e ∙ sym (up-zero K R up h)))

  -- the power q fixes each constant
  pub up_fixed : (b : B) → power R (up b) q ≡ up b
  up_fixed b = sym (up-power K R up h b q) ∙ ap up (count_fixes K k.comm q k.counted k.one_apart k.no_pair b)

  -- the constants in their order
  abbrev pub points : ℕ → M
  points i = up (k.counted.nth i)

  -- a nonzero constant can be cancelled
  pub up_cancel : (b : B) → b ≢ K.zero → (u : M) → R.mul (up b) u ≡ R.zero → u ≡ R.zero
  up_cancel b nb u e =
      let large : 2 ≤ q = large_base in
      let is : suc (q - 2) ≡ q - 1 = omega arith in
      let inverse : K.mul (power K b (q - 2)) b ≡ K.one =
      ap (power K b) is ∙ power_count K k.comm q k.counted k.one_apart k.no_pair b nb in
      sym (R.one_mul u) ∙ ap (λ x. R.mul x u) (sym h.one ∙ sym (ap up inverse) ∙ h.mul (power K b (q - 2)) b)
      ∙ R.mul_assoc (up (power K b (q - 2))) (up b) u ∙ ap (R.mul (up (power K b (q - 2)))) e
      ∙ mul_zero R (up (power K b (q - 2)))

  pub points_apart : AreApart R points q
  points_apart i j l m u e =
      up_cancel (minus K (k.counted.nth j) (k.counted.nth i))
      (λ d.
      let same : j ≡ i =
      sym (k.counted.index_nth j m) ∙ ap k.counted.index (minus_same K (k.counted.nth j) (k.counted.nth i) d)
      ∙ k.counted.index_nth i (omega arith) in
      absurd (omega arith))
      u (ap (λ x. R.mul x u) (up-minus K R up h (k.counted.nth j) (k.counted.nth i)) ∙ e)

  -- the powers q^i of sums
  pub frob_add : (i : ℕ) (x y : M) → power R (R.add x y) (q ^ i) ≡ R.add (power R x (q ^ i)) (power R y (q ^ i))
  frob_add i x y =
      let is : q ^ i ≡ k.prime ^ (k.exponent * i) = ap (λ n. n ^ i) k.size ∙ pow-pow k.prime k.exponent i in
      ap (power R (R.add x y)) is
      ∙ frob_sum R comm k.prime k.positive k.fresh char_up (k.exponent * i) x y
      ∙ sym (ap₂ R.add (ap (power R x) is) (ap (power R y) is))

  pub frob_zero : (x : M) → power R x (q ^ 0) ≡ x
  frob_zero x = ap (power R x) (pow-zero q) ∙ power-one R x

  pub frob_plus : (x : M) (i j : ℕ) → power R x (q ^ (i + j)) ≡ power R (power R x (q ^ i)) (q ^ j)
  frob_plus x i j = ap (power R x) (pow-add q i j) ∙ sym (power-power R x (q ^ i) (q ^ j))

  pub frob_step : (x : M) (i : ℕ) → power R x (q ^ suc i) ≡ power R (power R x (q ^ i)) q
  frob_step x i = ap (power R x) (pow-suc q i) ∙ sym (power-power R x (q ^ i) q)

  pub frob_mul : (i : ℕ) (x y : M) → power R (R.mul x y) (q ^ i) ≡ R.mul (power R x (q ^ i)) (power R y (q ^ i))
  frob_mul i x y = power-product R comm x y (q ^ i)

  pub frob_up : (b : B) (i : ℕ) → power R (up b) (q ^ i) ≡ up b
  frob_up b zero = frob_zero (up b)
  frob_up b (suc i) = frob_step (up b) i ∙ ap (λ x. power R x q) (frob_up b i) ∙ up_fixed b

  -- the power q of sums and of multiples by constants: a linear map over the constants
  pub power_add : (x y : M) → power R (R.add x y) q ≡ R.add (power R x q) (power R y q)
  power_add x y =
      ap (power R (R.add x y)) k.size ∙ frob_sum R comm k.prime k.positive k.fresh char_up k.exponent x y
      ∙ sym (ap₂ R.add (ap (power R x) k.size) (ap (power R y) k.size))

  pub power_scale : (b : B) (x : M) → power R (R.mul (up b) x) q ≡ R.mul (up b) (power R x q)
  power_scale b x = power-product R comm (up b) x q ∙ ap (λ y. R.mul y (power R x q)) (up_fixed b)

  -- The test by which a finite ring over the constants is accepted.
  pub accepted_over : (count : ℕ) → IsCounted R count → ((x : M) → power R x q ≡ R.zero → x ≡ R.zero)
      → ((x : M) → power R x q ≡ x → (b : B) × (x ≡ up b)) → NoPair R
  accepted_over count fin kernel fixed =
      accepted_no_pair R comm count fin q (λ x. (b : B) × (x ≡ up b))
      (record {
        large = large_base;
        kernel = kernel;
        fixed = fixed;
        const_one = λ c b same nc.
            let square : K.mul b.0 b.0 ≡ b.0 =
            h.inj (K.mul b.0 b.0) b.0 (h.mul b.0 b.0 ∙ sym (ap (λ z. R.mul z z) b.1) ∙ same ∙ b.1) in
            let nonzero : b.0 ≢ K.zero = λ z. nc (b.1 ∙ ap up z ∙ up-zero K R up h) in
            b.1 ∙ ap up (mul_cancel K q k.counted k.no_pair b.0 b.0 K.one nonzero (square ∙ sym (K.mul_one b.0))) ∙ h.one;
      })

-- Over a field of q elements, of degree `degree`, and itself a field.
module _ {B M : Type 0} (K : RingOn B) (R : RingOn M) (up : B → M) (h : IsRingMap K R up) (q : ℕ) (k : IsFiniteField K q)
    (comm : (a b : M) → R.mul a b ≡ R.mul b a) (degree : ℕ) (fin : IsCounted R (q ^ degree)) (no_pair : NoPair R) where
  pub field_over : IsFiniteField R (q ^ degree)
  field_over =
      record {
        comm = comm;
        counted = fin;
        one_apart = one_apart_up K R up h q k comm;
        no_pair = no_pair;
        prime = k.prime;
        positive = k.positive;
        exponent = k.exponent * degree;
        size = ap (λ n. n ^ degree) k.size ∙ pow-pow k.prime k.exponent degree;
        fresh = k.fresh;
        char = char_up K R up h q k comm;
      }

  -- the power q^degree fixes each element
  pub frob_degree : (x : M) → power R x (q ^ degree) ≡ x
  frob_degree = count_fixes R comm (q ^ degree) fin (one_apart_up K R up h q k comm) no_pair

  -- the power q fixes only the constants
  pub only_up : (x : M) → power R x q ≡ x → (b : B) × (x ≡ up b)
  only_up x e =
      let root =
      root_among R (λ y. cases_same R (q ^ degree) fin y R.zero) (one_apart_up K R up h q k comm) no_pair
      (points K R up h q k comm) q x
      (fixed_falls R comm q (large_base K R up h q k comm) (points K R up h q k comm) (points_apart K R up h q k comm)
      (λ j l. up_fixed K R up h q k comm (k.counted.nth j)) x e) in
      (k.counted.nth root.0, root.2)

  power_inj : 0 < degree → (x y : M) → power R x q ≡ power R y q → x ≡ y
  power_inj positive x y e =
      let d = degree - 1 in
      let is : degree ≡ suc (degree - 1) = omega arith in
      let first : (z : M) → z ≡ power R (power R z q) (q ^ (degree - 1)) = λ z.
      sym (frob_degree z) ∙ ap (λ n. power R z (q ^ n)) is ∙ ap (power R z) (pow-succ' q (degree - 1))
      ∙ sym (power-power R z q (q ^ (degree - 1))) in
      first x ∙ ap (λ z. power R z (q ^ (degree - 1))) e ∙ sym (first y)

  -- each power q^i is one to one
  pub frob_inj : 0 < degree → (i : ℕ) (x y : M) → power R x (q ^ i) ≡ power R y (q ^ i) → x ≡ y
  frob_inj positive zero x y e =
      sym (frob_zero K R up h q k comm x) ∙ e ∙ frob_zero K R up h q k comm y
  frob_inj positive (suc i) x y e =
      frob_inj positive i x y
      (power_inj positive (power R x (q ^ i)) (power R y (q ^ i))
      (sym (frob_step K R up h q k comm x i) ∙ e ∙ frob_step K R up h q k comm y i))
