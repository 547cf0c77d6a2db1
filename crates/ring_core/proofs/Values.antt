-- A ring whose elements are told apart by values in a ring has the laws of a ring.
use Rattle.std.proofs.Common.{◌≡◌, sym, ◌∙◌, ap, ap₂}
use Rattle.ring_core.specs.Ring.{RingOps, IsClosed, SameDecides, IsRing, IsCommutative}
use Rattle.ring_core.proofs.Carrier.{RingOn, Element}

-- The map `v` to the ring `R` keeps the operations, and only equal elements have equal values.
pub record HasValues {E N : Type 0} (r : RingOps E) (R : RingOn N) (v : Element r → N) : Type 0 where
  pub closed : IsClosed r
  pub equal : SameDecides r
  pub inj : (x y : Element r) → v x ≡ v y → x.0 ≡ y.0
  pub zero : v (r.zero, closed.zero_in) ≡ R.zero
  pub one : v (r.one, closed.one_in) ≡ R.one
  pub add : (x y : Element r) → v (r.add x.0 y.0, closed.add_in x.0 y.0 x.1 y.1) ≡ R.add (v x) (v y)
  pub neg : (x : Element r) → v (r.neg x.0, closed.neg_in x.0 x.1) ≡ R.neg (v x)
  pub mul : (x y : Element r) → v (r.mul x.0 y.0, closed.mul_in x.0 y.0 x.1 y.1) ≡ R.mul (v x) (v y)

module _ {E N : Type 0} (r : RingOps E) (R : RingOn N) (v : Element r → N) (h : HasValues r R v) where
  abbrev zero_of : Element r
  zero_of = (r.zero, h.closed.zero_in)

  abbrev one_of : Element r
  one_of = (r.one, h.closed.one_in)

  abbrev add_of : Element r → Element r → Element r
  add_of x y = (r.add x.0 y.0, h.closed.add_in x.0 y.0 x.1 y.1)

  abbrev neg_of : Element r → Element r
  neg_of x = (r.neg x.0, h.closed.neg_in x.0 x.1)

  abbrev mul_of : Element r → Element r → Element r
  mul_of x y = (r.mul x.0 y.0, h.closed.mul_in x.0 y.0 x.1 y.1)

  values_assoc : (op : Element r → Element r → Element r) (of : N → N → N) → ((x y : Element r) → v (op x y) ≡ of (v x) (v y)) → ((a b c : N) → of (of a b) c ≡ of a (of b c)) → (x y z : Element r) → (op (op x y) z).0 ≡ (op x (op y z)).0
  values_assoc op of e assoc x y z =
      h.inj (op (op x y) z) (op x (op y z))
      (e (op x y) z ∙ ap (λ t. of t (v z)) (e x y) ∙ assoc (v x) (v y) (v z)
      ∙ ap (of (v x)) (sym (e y z)) ∙ sym (e x (op y z)))

  values_mul_add : (x y z : Element r) → (mul_of x (add_of y z)).0 ≡ (add_of (mul_of x y) (mul_of x z)).0
  values_mul_add x y z =
      h.inj (mul_of x (add_of y z)) (add_of (mul_of x y) (mul_of x z))
      (h.mul x (add_of y z) ∙ ap (R.mul (v x)) (h.add y z) ∙ R.mul_add (v x) (v y) (v z)
      ∙ ap₂ R.add (sym (h.mul x y)) (sym (h.mul x z)) ∙ sym (h.add (mul_of x y) (mul_of x z)))

  values_add_mul : (x y z : Element r) → (mul_of (add_of x y) z).0 ≡ (add_of (mul_of x z) (mul_of y z)).0
  values_add_mul x y z =
      h.inj (mul_of (add_of x y) z) (add_of (mul_of x z) (mul_of y z))
      (h.mul (add_of x y) z ∙ ap (λ t. R.mul t (v z)) (h.add x y) ∙ R.add_mul (v x) (v y) (v z)
      ∙ ap₂ R.add (sym (h.mul x z)) (sym (h.mul y z)) ∙ sym (h.add (mul_of x z) (mul_of y z)))

  pub ring_from_values : IsRing r
  ring_from_values = record {
    closed = h.closed;
    equal = h.equal;
    add_assoc = λ a b c p q s. values_assoc add_of R.add h.add R.add_assoc (a, p) (b, q) (c, s);
    add_comm = λ a b p q.
        h.inj (add_of (a, p) (b, q)) (add_of (b, q) (a, p))
        (h.add (a, p) (b, q) ∙ R.add_comm (v (a, p)) (v (b, q)) ∙ sym (h.add (b, q) (a, p)));
    zero_add = λ a p.
        h.inj (add_of zero_of (a, p)) (a, p)
        (h.add zero_of (a, p) ∙ ap (λ t. R.add t (v (a, p))) h.zero ∙ R.zero_add (v (a, p)));
    add_neg = λ a p.
        h.inj (add_of (a, p) (neg_of (a, p))) zero_of
        (h.add (a, p) (neg_of (a, p)) ∙ ap (R.add (v (a, p))) (h.neg (a, p)) ∙ R.add_neg (v (a, p)) ∙ sym h.zero);
    mul_assoc = λ a b c p q s. values_assoc mul_of R.mul h.mul R.mul_assoc (a, p) (b, q) (c, s);
    one_mul = λ a p.
        h.inj (mul_of one_of (a, p)) (a, p)
        (h.mul one_of (a, p) ∙ ap (λ t. R.mul t (v (a, p))) h.one ∙ R.one_mul (v (a, p)));
    mul_one = λ a p.
        h.inj (mul_of (a, p) one_of) (a, p)
        (h.mul (a, p) one_of ∙ ap (R.mul (v (a, p))) h.one ∙ R.mul_one (v (a, p)));
    mul_add = λ a b c p q s. values_mul_add (a, p) (b, q) (c, s);
    add_mul = λ a b c p q s. values_add_mul (a, p) (b, q) (c, s);
  }

  -- Products commute where those of the values do.
  pub comm_from_values : ((a b : N) → R.mul a b ≡ R.mul b a) → IsCommutative r
  comm_from_values comm = λ a b p q.
      h.inj (mul_of (a, p) (b, q)) (mul_of (b, q) (a, p))
      (h.mul (a, p) (b, q) ∙ comm (v (a, p)) (v (b, q)) ∙ sym (h.mul (b, q) (a, p)))
