-- Products of images under the Frobenius are powers, whose exponents are geometric sums.
use Rattle.std.proofs.Common.{◌≡◌, ◌≢◌, ℕ, zero, suc, ◌+◌, ◌-◌, ◌*◌, ◌/◌, ◌%◌, ◌^◌, ◌<◌, ◌≤◌, Option, List, refl, sym, ◌∙◌, ap, ap₂, arith}
use Rattle.std.proofs.lemmas.Bool.{and_parts}
use Rattle.std.proofs.Math.Nat.{one-le-pow, pow-zero, pow-suc, pow-le-pow_left, eq_of_mul-eq-mul_right, mul-mod_left}
use Rattle.std.proofs.Math.Pow.{pow_mono}
use Rattle.std.proofs.lemmas.Nat.{pow-add}
use Rattle.ring_core.specs.Ring.{RingOps, IsElem}
use Rattle.ring_core.specs.Field.{IsField, FrobOps, IsFrobField}
use Rattle.ring_core.specs.Coeffs.{coeff}
use Rattle.ring_core.specs.Powers.{power_of}
use Rattle.ring_core.proofs.Carrier.{Element, same_element, elements}
use Rattle.ring_core.proofs.Coefficients.{elem_read}
use Rattle.ring_core.proofs.Degrees.{no_zero_divisors}
use Rattle.ring_core.proofs.PowerLaws.{power_in, power-add}
use Rattle.finite_ring.proofs.Powers.{power, power_value, power-power}
use Rattle.drinfeld_mod.specs.Module.{IsModule, rank_of}
use Rattle.drinfeld_mod.specs.Invariant.{Divides, IsGreatestCommonDivisor, IsInvariant}
use Rattle.drinfeld_mod.specs.steps.FrobProduct.{frob_product}
use Rattle.drinfeld_mod.proofs.Modules.{top_of_module}
use Rattle.drinfeld_mod.proofs.Heights.{cancel}

-- The sum of `q^(e i)` over `i` below `n`.
abbrev pub geometric : ℕ → ℕ → ℕ → ℕ
geometric q e zero = 0
geometric q e (suc n) = geometric q e n + q ^ (e * n)

pub geometric_sum : (q e n : ℕ) → 1 ≤ q → geometric q e n * (q ^ e - 1) + 1 ≡ q ^ (e * n)
geometric_sum q e zero pos =
    (omega arith) ∙ sym (ap (λ m. q ^ m) (omega arith) ∙ pow-zero q)
geometric_sum q e (suc n) pos =
    step (geometric q e n) (q ^ (e * n)) (q ^ e) (one-le-pow e q pos) (geometric_sum q e n pos) ∙ sym (ap (λ m. q ^ m) (omega arith) ∙ pow-add q (e * n) e)
  where
    shifted : (g p w : ℕ) → g * w + 1 ≡ p → (g + p) * w + 1 ≡ p * (w + 1)
    shifted g p w e = omega arith

    step : (g p s : ℕ) → 1 ≤ s → g * (s - 1) + 1 ≡ p → (g + p) * (s - 1) + 1 ≡ p * s
    step g p s l e = shifted g p (s - 1) e ∙ ap (λ m. p * m) (omega arith)

pub exponent : (q e n m : ℕ) → 1 ≤ q → m ≡ e * n → geometric q e n * (q ^ e - 1) ≡ q ^ m - 1
exponent q e n m pos is =
    omega (arith, geometric_sum q e n pos, ap (λ x. q ^ x) is)

-- Divisors.
pub divides_one : (n : ℕ) → Divides 1 n
divides_one n = (n, omega arith)

pub divisor_least : (d n : ℕ) → 0 < n → Divides d n → d ≤ n
divisor_least d n pos (zero, is) = let none : 0 * d ≡ 0 = omega arith in absurd (omega (arith, is, none))
divisor_least d n pos (suc c, is) = let more : suc c * d ≡ c * d + d = omega arith in omega (arith, is, more)

pub divides_exactly : (e n : ℕ) → n % e ≡ 0 → Divides e n
divides_exactly e n none = (n / e, omega arith)

pub no_rest : (e n : ℕ) → Divides e n → n % e ≡ 0
no_rest e n (c, is) = ap (λ m. m % e) is ∙ mul-mod_left c e

pub quotient_is : (e n : ℕ) → Divides e n → n ≡ e * (n / e)
quotient_is e n d =
    let none : n % e ≡ 0 = no_rest e n d in
    omega arith

module _ {E B : Type 0} (r : RingOps E) (inv : E → Option E) (base : RingOps B) (f : FrobOps E B) (k : IsField r inv) (l : IsFrobField r base f) where
  -- powers of powers
  power_power : (c : E) (i j : ℕ) → IsElem r c → power_of r (power_of r c i) j ≡ power_of r c (i * j)
  power_power c i j p =
      let R = elements k.ring in
      let x : Element r = (c, p) in
      let inner : power R x i ≡ (power_of r c i, power_in r k.ring c i p) = same_element r _ _ (power_value r k.ring x i) in
      sym (ap (λ y. (power R y j).0) inner ∙ power_value r k.ring (power_of r c i, power_in r k.ring c i p) j)
      ∙ ap (λ y. y.0) (power-power R x i j) ∙ power_value r k.ring x (i * j)

  -- a power of an element that isn't zero
  pub power_nonzero : (c : E) (i : ℕ) → IsElem r c → c ≢ r.zero → power_of r c i ≢ r.zero
  power_nonzero c zero p nz = k.one_ne_zero
  power_nonzero c (suc i) p nz = no_zero_divisors r inv k (power_of r c i) c (power_in r k.ring c i p) p (power_nonzero c i p nz) nz

  -- where the Frobenius is the power by q
  module _ (q : ℕ) (h : (c : E) → IsElem r c → f.frob c 1 ≡ power_of r c q) where
    pub frob_is_power : (c : E) (i : ℕ) → IsElem r c → f.frob c i ≡ power_of r c (q ^ i)
    frob_is_power c zero p = l.frob_zero c p ∙ sym (ap (power_of r c) (pow-zero q) ∙ k.ring.one_mul c p)
    frob_is_power c (suc i) p =
        ap (f.frob c) (omega arith) ∙ l.frob_plus c i 1 p ∙ h (f.frob c i) (l.frob_in c i p) ∙ ap (λ y. power_of r y q) (frob_is_power c i p)
        ∙ power_power c (q ^ i) q p ∙ ap (power_of r c) (sym (pow-suc q i))

    pub product_is_power : (c : E) (e n : ℕ) → IsElem r c → frob_product r f.frob c e n ≡ power_of r c (geometric q e n)
    product_is_power c e zero p = refl
    product_is_power c e (suc n) p =
        ap₂ r.mul (product_is_power c e n p) (frob_is_power c (e * n) p) ∙ sym (power-add r k.ring c (geometric q e n) (q ^ (e * n)) p)

    -- a product of images of a coefficient of a module
    pub raised : (phi : List E) → IsModule r phi → (j e n : ℕ) (c product : E) → c ≡ coeff r phi j → product ≡ frob_product r f.frob c e n → product ≡ power_of r (coeff r phi j) (geometric q e n)
    raised phi m j e n c product is is_product =
        is_product ∙ ap (λ y. frob_product r f.frob y e n) is
        ∙ product_is_power (coeff r phi j) e n (elem_read r phi k.ring.closed.zero_in (and_parts _ _ m.canonical).0 j)

  -- the quotient of the two powers is the invariant
  pub invariant_is : (q : ℕ) → 1 ≤ q → (phi : List E) (i e : ℕ) (top bottom inverse : E) → IsGreatestCommonDivisor e i (rank_of phi)
      → top ≡ power_of r (coeff r phi i) (geometric q e (rank_of phi / e)) → bottom ≡ power_of r (coeff r phi (rank_of phi)) (geometric q e (i / e))
      → IsElem r top → IsElem r bottom → IsElem r inverse → r.mul bottom inverse ≡ r.one → IsInvariant r q phi i (r.mul top inverse)
  invariant_is q pos phi i e top bottom inverse d is_top is_bottom et eb ei inverts = record {
    e = e;
    divisor = d;
    a = geometric q e (rank_of phi / e);
    b = geometric q e (i / e);
    top = exponent q e (rank_of phi / e) (rank_of phi) pos (quotient_is e (rank_of phi) d.right);
    bottom = exponent q e (i / e) i pos (quotient_is e i d.left);
    elem = k.ring.closed.mul_in top inverse et ei;
    is =
        ap (r.mul (r.mul top inverse)) (sym is_bottom) ∙ k.ring.mul_assoc top inverse bottom et ei eb
        ∙ ap (r.mul top) (k.mul_comm inverse bottom ei eb ∙ inverts) ∙ k.ring.mul_one top et ∙ is_top;
  }

  -- At most one element is the invariant.
  pub same_invariant : (q : ℕ) → 2 ≤ q → (phi : List E) → IsModule r phi → (i : ℕ) (x y : E) → IsInvariant r q phi i x → IsInvariant r q phi i y → x ≡ y
  same_invariant q large phi m i x y a b =
      let same : a.e ≡ b.e = omega (arith, b.divisor.greatest a.e a.divisor.left a.divisor.right, a.divisor.greatest b.e b.divisor.left b.divisor.right) in
      let two : 2 ≤ 2 ^ a.e = pow_mono {i = 1} (a.divisor.greatest 1 (divides_one i) (divides_one (rank_of phi))) in
      let factor : 0 < q ^ a.e - 1 = omega (arith, two, pow-le-pow_left large a.e) in
      let tops : b.a ≡ a.a = eq_of_mul-eq-mul_right (q ^ a.e - 1) factor b.a a.a (ap (λ e. b.a * (q ^ e - 1)) same ∙ b.top ∙ sym a.top) in
      let bottoms : b.b ≡ a.b = eq_of_mul-eq-mul_right (q ^ a.e - 1) factor b.b a.b (ap (λ e. b.b * (q ^ e - 1)) same ∙ b.bottom ∙ sym a.bottom) in
      let g = coeff r phi (rank_of phi) in
      let high = top_of_module r k.ring.closed.zero_in k.ring.equal phi m in
      let divisor = power_of r g a.b in
      let inside = power_in r k.ring g a.b high.0 in
      cancel r inv k divisor x y inside a.elem b.elem (power_nonzero g a.b high.0 high.1)
      (k.mul_comm divisor x inside a.elem ∙ a.is ∙ ap (power_of r (coeff r phi i)) (sym tops) ∙ sym b.is ∙ ap (λ n. r.mul y (power_of r g n)) bottoms
      ∙ k.mul_comm y divisor b.elem inside)
