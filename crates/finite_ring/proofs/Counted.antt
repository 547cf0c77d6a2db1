-- Rings whose elements are numbered. There, equality is decided, some power of each element is
-- idempotent, and where no two nonzero elements multiply to zero, factors cancel.
use Rattle.std.proofs.Common.{◌≡◌, ◌≢◌, ℕ, zero, suc, ◌+◌, ◌-◌, ◌*◌, ◌<◌, ◌≤◌, ◌⊎◌, inl, inr, Bool, true, false, refl, sym, ◌∙◌, ap, subst, arith}
use mathlib.Core.Bool.{Bool-set}
use Rattle.std.proofs.lemmas.Bool.{cases_eq}
use Rattle.ring_core.specs.Ring.{RingOps, IsElem, IsRing, IsNumbered}
use Rattle.ring_core.proofs.Carrier.{RingOn, elements, same_element, mul_neg, minus_same}
use Rattle.finite_ring.specs.Finite.{HasNoPair}
use Rattle.finite_ring.proofs.Pigeon.{pigeon}
use Rattle.finite_ring.proofs.Powers.{power, power-add}

-- The elements are numbered by the numbers below `count`, each number once, and zero has the number 0.
pub record IsCounted {M : Type 0} (R : RingOn M) (count : ℕ) : Type 0 where
  pub index : M → ℕ
  pub nth : ℕ → M
  pub below : (x : M) → index x < count
  pub nth_index : (x : M) → nth (index x) ≡ x
  pub index_nth : (i : ℕ) → i < count → index (nth i) ≡ i
  pub index_zero : index R.zero ≡ 0

pub counted_of : {E : Type 0} (r : RingOps E) (h : IsRing r) (count : ℕ) → IsNumbered r count → IsCounted (elements h) count
counted_of r h count n =
    record {
      index = λ x. n.index x.0;
      nth = λ i. (n.nth i, n.nth_in i);
      below = λ x. n.below x.0 x.1;
      nth_index = λ x. same_element r _ _ (n.nth_index x.0 x.1);
      index_nth = λ i l. n.index_nth i l;
      index_zero = n.index_zero;
    }

abbrev when : (b : Bool) → (b ≡ true → ℕ) → ℕ
when true f = f refl
when false f = 0

when_true : (b : Bool) (e : b ≡ true) (f : b ≡ true → ℕ) → when b f ≡ f e
when_true true e f = ap f (Bool-set _ _ refl e)
when_true false e f = cc

-- The same, told of the operations.
module _ {E : Type 0} (r : RingOps E) (h : IsRing r) (count : ℕ) (fin : IsCounted (elements h) count) where
  abbrev index : E → ℕ
  index a = when (r.is_elem a) (λ e. fin.index (a, e))

  index_is : (a : E) (e : IsElem r a) → index a ≡ fin.index (a, e)
  index_is a e = when_true (r.is_elem a) e (λ q. fin.index (a, q))

  pub numbered : IsNumbered r count
  numbered = record {
    index = index;
    nth = λ i. (fin.nth i).0;
    below = λ a e. subst (λ n. n < count) (sym (index_is a e)) (fin.below (a, e));
    nth_in = λ i. (fin.nth i).1;
    nth_index = λ a e. ap (λ n. (fin.nth n).0) (index_is a e) ∙ ap (λ x. x.0) (fin.nth_index (a, e));
    index_nth = λ i l. index_is (fin.nth i).0 (fin.nth i).1 ∙ fin.index_nth i l;
    index_zero = index_is r.zero h.closed.zero_in ∙ fin.index_zero;
  }

-- No two nonzero elements multiply to zero.
abbrev pub NoPair : {M : Type 0} → RingOn M → Type 0
NoPair {M} R = (a b : M) → a ≢ R.zero → b ≢ R.zero → R.mul a b ≢ R.zero

pub no_pair_on : {E : Type 0} (r : RingOps E) (h : IsRing r) → HasNoPair r → NoPair (elements h)
no_pair_on r h no_pair a b na nb e =
    no_pair a.0 b.0 a.1 b.1 (λ d. na (same_element r a (elements h).zero d)) (λ d. nb (same_element r b (elements h).zero d))
    (ap (λ x. x.0) e)

module _ {M : Type 0} (R : RingOn M) (count : ℕ) (fin : IsCounted R count) where
  pub same_index : (x y : M) → fin.index x ≡ fin.index y → x ≡ y
  same_index x y e = sym (fin.nth_index x) ∙ ap fin.nth e ∙ fin.nth_index y

  pub cases_same : (x y : M) → (x ≡ y) ⊎ (x ≢ y)
  cases_same x y =
      elim (cases_eq (fin.index x) (fin.index y)) [
        | inl e ↦ inl (same_index x y e)
        | inr ne ↦ inr (λ e. ne (ap fin.index e))
      ]

  -- a b = a c only where b = c, at a nonzero a
  pub mul_cancel : NoPair R → (a b c : M) → a ≢ R.zero → R.mul a b ≡ R.mul a c → b ≡ c
  mul_cancel no_pair a b c ne e =
      elim (cases_same (R.add b (R.neg c)) R.zero) [
        | inl d ↦ minus_same R b c d
        | inr nd ↦
            absurd (no_pair a (R.add b (R.neg c)) ne nd
            (R.mul_add a b (R.neg c) ∙ ap (λ x. R.add x (R.mul a (R.neg c))) e ∙ ap (R.add (R.mul a c)) (mul_neg R a c)
            ∙ R.add_neg (R.mul a c)))
      ]

  -- x^i = x^(i + d) holds at each larger power, so also for each multiple of d
  cycle_once : (x : M) (i d : ℕ) → power R x i ≡ power R x (i + d) → (n : ℕ) → i ≤ n → power R x (n + d) ≡ power R x n
  cycle_once x i d e n l =
      let split : n + d ≡ (n - i) + (i + d) = omega arith in
      let whole : (n - i) + i ≡ n = omega arith in
      ap (power R x) split ∙ power-add R x (n - i) (i + d) ∙ ap (R.mul (power R x (n - i))) (sym e)
      ∙ sym (power-add R x (n - i) i) ∙ ap (power R x) whole

  cycles : (x : M) (i d : ℕ) → power R x i ≡ power R x (i + d) → (n k : ℕ) → i ≤ n → power R x (n + k * d) ≡ power R x n
  cycles x i d e n zero l = let z : n + zero * d ≡ n = omega arith in ap (power R x) z
  cycles x i d e n (suc k) l =
      let s : n + suc k * d ≡ (n + k * d) + d = omega arith in
      let m : i ≤ n + k * d = omega arith in
      ap (power R x) s ∙ cycle_once x i d e (n + k * d) m ∙ cycles x i d e n k l

  -- Some power of each element is idempotent.
  pub idempotent : (x : M) → (m : ℕ) × (0 < m) × (R.mul (power R x m) (power R x m) ≡ power R x m)
  idempotent x =
      let found = pigeon count (λ k. fin.index (power R x k)) (λ k l. fin.below (power R x k)) in
      from_repeat found.first (found.second - suc found.first)
      (same_index (power R x found.first) (power R x found.second) found.same
      ∙ ap (power R x) (let order : found.first < found.second = found.order in let f : found.second ≡ found.first + suc (found.second - suc found.first) = omega arith in f))
    where
      from_repeat : (i c : ℕ) → power R x i ≡ power R x (i + suc c) → (m : ℕ) × (0 < m) × (R.mul (power R x m) (power R x m) ≡ power R x m)
      from_repeat i c e =
          let m = suc i * suc c in
          let large : i ≤ suc i * suc c = omega arith in
          let positive : 0 < suc i * suc c = omega arith in
          (m, positive, sym (power-add R x m m) ∙ cycles x i (suc c) e m (suc i) large)
