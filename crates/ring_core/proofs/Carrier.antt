-- A ring as a whole type: its operations with laws that have no premises. Algebra is proved over such
-- a ring once; the elements of a `RingOps` with its laws make one.
use Rattle.std.proofs.Common.{◌≡◌, sym, ◌∙◌, ap, ap₂}
use mathlib.Core.HLevel.{Σ_prop_path}
use mathlib.Core.Bool.{Bool-set}
use Rattle.ring_core.specs.Ring.{RingOps, IsElem, IsRing}

pub record RingOn (M : Type 0) : Type 0 where
  pub zero : M
  pub one : M
  pub add : M → M → M
  pub neg : M → M
  pub mul : M → M → M
  pub add_assoc : (a b c : M) → add (add a b) c ≡ add a (add b c)
  pub add_comm : (a b : M) → add a b ≡ add b a
  pub zero_add : (a : M) → add zero a ≡ a
  pub add_neg : (a : M) → add a (neg a) ≡ zero
  pub mul_assoc : (a b c : M) → mul (mul a b) c ≡ mul a (mul b c)
  pub one_mul : (a : M) → mul one a ≡ a
  pub mul_one : (a : M) → mul a one ≡ a
  pub mul_add : (a b c : M) → mul a (add b c) ≡ add (mul a b) (mul a c)
  pub add_mul : (a b c : M) → mul (add a b) c ≡ add (mul a c) (mul b c)

-- What follows from the laws alone.
module _ {M : Type 0} (R : RingOn M) where
  pub add_zero : (a : M) → R.add a R.zero ≡ a
  add_zero a = R.add_comm a R.zero ∙ R.zero_add a

  pub neg_add : (a : M) → R.add (R.neg a) a ≡ R.zero
  neg_add a = R.add_comm (R.neg a) a ∙ R.add_neg a

  -- a + b = a + c only where b = c
  pub add_cancel : (a b c : M) → R.add a b ≡ R.add a c → b ≡ c
  add_cancel a b c e =
      sym (R.zero_add b) ∙ ap (λ x. R.add x b) (sym (neg_add a)) ∙ R.add_assoc (R.neg a) a b
      ∙ ap (R.add (R.neg a)) e ∙ sym (R.add_assoc (R.neg a) a c) ∙ ap (λ x. R.add x c) (neg_add a) ∙ R.zero_add c

  pub zero_mul : (a : M) → R.mul R.zero a ≡ R.zero
  zero_mul a =
      add_cancel (R.mul R.zero a) (R.mul R.zero a) R.zero
      (sym (R.add_mul R.zero R.zero a) ∙ ap (λ x. R.mul x a) (R.zero_add R.zero) ∙ sym (add_zero (R.mul R.zero a)))

  pub mul_zero : (a : M) → R.mul a R.zero ≡ R.zero
  mul_zero a =
      add_cancel (R.mul a R.zero) (R.mul a R.zero) R.zero
      (sym (R.mul_add a R.zero R.zero) ∙ ap (R.mul a) (R.zero_add R.zero) ∙ sym (add_zero (R.mul a R.zero)))

  -- a + (b + c) = b + (a + c)
  pub add_swap : (a b c : M) → R.add a (R.add b c) ≡ R.add b (R.add a c)
  add_swap a b c =
      sym (R.add_assoc a b c) ∙ ap (λ x. R.add x c) (R.add_comm a b) ∙ R.add_assoc b a c

  -- (a + b) + (c + d) = (a + c) + (b + d)
  pub add_exchange : (a b c d : M) → R.add (R.add a b) (R.add c d) ≡ R.add (R.add a c) (R.add b d)
  add_exchange a b c d =
      R.add_assoc a b (R.add c d) ∙ ap (R.add a) (add_swap b c d) ∙ sym (R.add_assoc a c (R.add b d))

  -- the negative is the only element whose sum with a is zero
  pub neg_only : (a b : M) → R.add a b ≡ R.zero → b ≡ R.neg a
  neg_only a b e = add_cancel a b (R.neg a) (e ∙ sym (R.add_neg a))

  -- zero is the only element that is its own double
  pub zero_only : (a : M) → R.add a a ≡ a → a ≡ R.zero
  zero_only a e = add_cancel a a R.zero (e ∙ sym (add_zero a))

  pub neg_zero : R.neg R.zero ≡ R.zero
  neg_zero = sym (neg_only R.zero R.zero (R.zero_add R.zero))

  pub neg_neg : (a : M) → R.neg (R.neg a) ≡ a
  neg_neg a = sym (neg_only (R.neg a) a (neg_add a))

  pub neg_sum : (a b : M) → R.neg (R.add a b) ≡ R.add (R.neg a) (R.neg b)
  neg_sum a b =
      sym (neg_only (R.add a b) (R.add (R.neg a) (R.neg b))
      (add_exchange a b (R.neg a) (R.neg b) ∙ ap₂ R.add (R.add_neg a) (R.add_neg b) ∙ R.zero_add R.zero))

  -- a - b = 0 only where a = b
  pub minus_same : (a b : M) → R.add a (R.neg b) ≡ R.zero → a ≡ b
  minus_same a b e =
      add_cancel (R.neg b) a b (R.add_comm (R.neg b) a ∙ e ∙ sym (neg_add b))

  pub neg_mul : (a b : M) → R.mul (R.neg a) b ≡ R.neg (R.mul a b)
  neg_mul a b =
      neg_only (R.mul a b) (R.mul (R.neg a) b)
      (sym (R.add_mul a (R.neg a) b) ∙ ap (λ x. R.mul x b) (R.add_neg a) ∙ zero_mul b)

  pub mul_neg : (a b : M) → R.mul a (R.neg b) ≡ R.neg (R.mul a b)
  mul_neg a b =
      neg_only (R.mul a b) (R.mul a (R.neg b))
      (sym (R.mul_add a b (R.neg b)) ∙ ap (R.mul a) (R.add_neg b) ∙ mul_zero a)

  -- x = t - s where x + s = t
  pub from_sum : (x s t : M) → R.add x s ≡ t → x ≡ R.add t (R.neg s)
  from_sum x s t e =
      sym (add_zero x) ∙ ap (R.add x) (sym (R.add_neg s)) ∙ sym (R.add_assoc x s (R.neg s)) ∙ ap (λ y. R.add y (R.neg s)) e

  -- (c - d) b = t - s where c b + s = d b + t
  pub difference : (b c d s t : M) → R.add (R.mul c b) s ≡ R.add (R.mul d b) t → R.mul (R.add c (R.neg d)) b ≡ R.add t (R.neg s)
  difference b c d s t e =
      from_sum (R.mul (R.add c (R.neg d)) b) s t
      (ap (λ y. R.add y s) (R.add_mul c (R.neg d) b ∙ R.add_comm _ _ ∙ ap (λ y. R.add y (R.mul c b)) (neg_mul d b))
      ∙ R.add_assoc _ _ _ ∙ ap (R.add (R.neg (R.mul d b))) e ∙ sym (R.add_assoc _ _ _)
      ∙ ap (λ y. R.add y t) (neg_add (R.mul d b)) ∙ R.zero_add t)

-- The elements of a `RingOps`, each with the proof that it is one.
abbrev pub Element : {E : Type 0} → RingOps E → Type 0
Element {E} r = (a : E) × IsElem r a

pub same_element : {E : Type 0} (r : RingOps E) (x y : Element r) → x.0 ≡ y.0 → x ≡ y
same_element r x y e = Σ_prop_path (λ a. Bool-set _ _) e

abbrev pub elements : {E : Type 0} {r : RingOps E} → IsRing r → RingOn (Element r)
elements {E} {r} h = record {
  zero = (r.zero, h.closed.zero_in);
  one = (r.one, h.closed.one_in);
  add = λ x y. (r.add x.0 y.0, h.closed.add_in x.0 y.0 x.1 y.1);
  neg = λ x. (r.neg x.0, h.closed.neg_in x.0 x.1);
  mul = λ x y. (r.mul x.0 y.0, h.closed.mul_in x.0 y.0 x.1 y.1);
  add_assoc = λ x y z. same_element r _ _ (h.add_assoc x.0 y.0 z.0 x.1 y.1 z.1);
  add_comm = λ x y. same_element r _ _ (h.add_comm x.0 y.0 x.1 y.1);
  zero_add = λ x. same_element r _ _ (h.zero_add x.0 x.1);
  add_neg = λ x. same_element r _ _ (h.add_neg x.0 x.1);
  mul_assoc = λ x y z. same_element r _ _ (h.mul_assoc x.0 y.0 z.0 x.1 y.1 z.1);
  one_mul = λ x. same_element r _ _ (h.one_mul x.0 x.1);
  mul_one = λ x. same_element r _ _ (h.mul_one x.0 x.1);
  mul_add = λ x y z. same_element r _ _ (h.mul_add x.0 y.0 z.0 x.1 y.1 z.1);
  add_mul = λ x y z. same_element r _ _ (h.add_mul x.0 y.0 z.0 x.1 y.1 z.1);
}

module _ {E : Type 0} (r : RingOps E) (h : IsRing r) where
  -- a + c 0 = a
  pub add_times_zero : (a c z : E) → IsElem r a → IsElem r c → z ≡ r.zero → r.add a (r.mul c z) ≡ a
  add_times_zero a c z p q e =
      ap (r.add a) (ap (r.mul c) e ∙ ap (λ x. x.0) (mul_zero (elements h) (c, q)))
      ∙ ap (λ x. x.0) (add_zero (elements h) (a, p))
