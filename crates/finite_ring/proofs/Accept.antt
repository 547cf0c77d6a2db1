-- A finite commutative ring over constants is accepted as a field where only zero has the power `q` zero,
-- and the power `q` fixes only constants. There each nonzero element has an inverse, so no two nonzero
-- elements multiply to zero.
use Rattle.std.proofs.Common.{◌≡◌, ◌≢◌, ℕ, zero, suc, ◌+◌, ◌-◌, ◌<◌, ◌≤◌, sym, ◌∙◌, ap, subst, arith}
use Rattle.ring_core.proofs.Carrier.{RingOn, zero_mul, mul_zero}
use Rattle.finite_ring.proofs.Powers.{power, power-one, power-two, power-add}
use Rattle.finite_ring.proofs.Counted.{IsCounted, NoPair, idempotent}

pub record IsAccepted {M : Type 0} (R : RingOn M) (q : ℕ) (IsConst : M → Type 0) : Type 0 where
  pub large : 2 ≤ q
  pub kernel : (x : M) → power R x q ≡ R.zero → x ≡ R.zero
  pub fixed : (x : M) → power R x q ≡ x → IsConst x
  -- the only constant idempotents are zero and one
  pub const_one : (c : M) → IsConst c → R.mul c c ≡ c → c ≢ R.zero → c ≡ R.one

module _ {M : Type 0} (R : RingOn M) where
  -- where only zero squares to zero, only zero has a power that is zero
  not_nilpotent : ((y : M) → R.mul y y ≡ R.zero → y ≡ R.zero) → (x : M) (k : ℕ) → power R x (suc k) ≡ R.zero → x ≡ R.zero
  not_nilpotent reduced x zero e = sym (power-one R x) ∙ e
  not_nilpotent reduced x (suc k) e =
      let split : suc k + suc k ≡ suc (suc k) + k = omega arith in
      not_nilpotent reduced x k
      (reduced (power R x (suc k))
      (sym (power-add R x (suc k) (suc k)) ∙ ap (power R x) split ∙ power-add R x (suc (suc k)) k
      ∙ ap (λ y. R.mul y (power R x k)) e ∙ zero_mul R (power R x k)))

  idempotent_fixed : (e : M) → R.mul e e ≡ e → (k : ℕ) → power R e (suc k) ≡ e
  idempotent_fixed e same zero = power-one R e
  idempotent_fixed e same (suc k) = ap (λ y. R.mul y e) (idempotent_fixed e same k) ∙ same

module _ {M : Type 0} (R : RingOn M) (comm : (a b : M) → R.mul a b ≡ R.mul b a) (count : ℕ) (fin : IsCounted R count)
    (q : ℕ) (IsConst : M → Type 0) (h : IsAccepted R q IsConst) where
  reduced : (y : M) → R.mul y y ≡ R.zero → y ≡ R.zero
  reduced y e =
      let large : 2 ≤ q = h.large in
      let split : q ≡ 2 + (q - 2) = omega arith in
      h.kernel y
      (ap (power R y) split ∙ power-add R y 2 (q - 2) ∙ ap (λ z. R.mul z (power R y (q - 2))) (power-two R y ∙ e)
      ∙ zero_mul R (power R y (q - 2)))

  -- Each nonzero element has an inverse, a power of it.
  pub accepted_inverse : (x : M) → x ≢ R.zero → (y : M) × (R.mul x y ≡ R.one)
  accepted_inverse x nx =
      let found = idempotent R count fin x in
      from_power (found.0 - 1)
      (let positive : 0 < found.0 = found.1 in
      let is : found.0 ≡ suc (found.0 - 1) = omega arith in
      subst (λ m. R.mul (power R x m) (power R x m) ≡ power R x m) is found.2)
    where
      from_power : (k : ℕ) → R.mul (power R x (suc k)) (power R x (suc k)) ≡ power R x (suc k) → (y : M) × (R.mul x y ≡ R.one)
      from_power k same =
          let e = power R x (suc k) in
          let large : 2 ≤ q = h.large in
          let is : q ≡ suc (q - 1) = omega arith in (
            power R x k,
            comm x (power R x k)
                ∙ h.const_one e (h.fixed e (ap (power R e) is ∙ idempotent_fixed R e same (q - 1))) same
                (λ z. nx (not_nilpotent R reduced x k z)),
          )

  pub accepted_no_pair : NoPair R
  accepted_no_pair a b na nb e =
      let inverse = accepted_inverse a na in
      nb (sym (R.one_mul b) ∙ ap (λ x. R.mul x b) (sym inverse.1 ∙ comm a inverse.0) ∙ R.mul_assoc inverse.0 a b
      ∙ ap (R.mul inverse.0) e ∙ mul_zero R inverse.0)
