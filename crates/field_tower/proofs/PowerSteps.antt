-- Powers in the steps in which code computes them.
use native.Mathlib.Nat.{pow-le-pow_right, pow-zero}
use Rattle.std.proofs.Common.{◌≡◌, ℕ, suc, ◌+◌, ◌*◌, ◌^◌, ◌<◌, ◌≤◌, sym, ap, subst, ◌∙◌, arith, pow-suc}
use Rattle.ring_core.specs.Ring.{RingOps, IsElem, IsRing}
use Rattle.ring_core.specs.Powers.{power_of}
use Rattle.ring_core.proofs.Carrier.{Element, elements}
use Rattle.finite_ring.proofs.Powers.{power, power_value, power-power}

pub power_once : (n : ℕ) → n ^ 1 ≡ n
power_once n = pow-suc n 0 ∙ ap (λ m. m * n) (pow-zero n) ∙ omega arith

pub power_large : (n k : ℕ) → 0 < n → 1 ≤ k → n ≤ n ^ k
power_large n k positive some = subst (λ m. m ≤ n ^ k) (power_once n) (pow-le-pow_right positive some)

module _ {E : Type 0} (r : RingOps E) (h : IsRing r) (a : E) (p : IsElem r a) where
  pub power_times : (i j : ℕ) → power_of r (power_of r a i) j ≡ power_of r a (i * j)
  power_times i j =
      let x : Element r = (a, p) in
      let y : Element r = power (elements h) x i in
      ap (λ z. power_of r z j) (sym (power_value r h x i)) ∙ sym (power_value r h y j)
      ∙ ap (λ z. z.0) (power-power (elements h) x i j) ∙ power_value r h x (i * j)

  -- (a^(q^i))^q = a^(q^(i + 1))
  pub power_size : (q i : ℕ) → power_of r (power_of r a (q ^ i)) q ≡ power_of r a (q ^ (i + 1))
  power_size q i =
      let next : i + 1 ≡ suc i = omega arith in
      power_times (q ^ i) q ∙ ap (power_of r a) (sym (ap (λ k. q ^ k) next ∙ pow-suc q i))

  -- a^(q^0) = a
  pub power_none : (q : ℕ) → power_of r a (q ^ 0) ≡ a
  power_none q = ap (power_of r a) (pow-zero q) ∙ h.one_mul a p
