-- What holds over a finite field of constants, for the operations and elements of which contracts
-- speak: the laws of the Frobenius, and the test by which a ring over the constants is a field.
use Rattle.std.proofs.Common.{◌≡◌, ◌≢◌, ℕ, zero, suc, ◌+◌, ◌*◌, ◌^◌, ◌<◌, ◌≤◌, sym, ◌∙◌, ap, ap₂, refl, pow-suc, one-mul, arith}
use native.Mathlib.Nat.{pow-zero}
use Rattle.ring_core.specs.Ring.{RingOps, IsElem, IsRing, IsCommutative}
use Rattle.ring_core.specs.Powers.{power_of}
use Rattle.ring_core.proofs.Carrier.{Element, elements, same_element}
use Rattle.ring_core.proofs.PowerLaws.{power_in}
use Rattle.finite_ring.specs.Finite.{HasNoPair, root_product}
use Rattle.finite_ring.proofs.PowerMaps.{IsEmbedding, IsPowerFrob, IsPowerLinear}
use Rattle.finite_ring.proofs.Powers.{power, power_value}
use Rattle.finite_ring.proofs.Counted.{IsCounted, NoPair, no_pair_on}
use Rattle.finite_ring.proofs.FieldOf.{commute_on}
use Rattle.finite_ring.proofs.Roots.{falling, fixed_falls}
use Rattle.finite_ring.proofs.Freshman.{HasFreshRow, ones}
use Rattle.finite_ring.proofs.Frobenius.{IsFiniteField, IsRingMap, large_base, up_fixed, points, points_apart, frob_add, frob_zero, frob_plus, frob_mul, frob_up, power_add, power_scale, accepted_over, frob_degree, only_up, frob_inj, field_over}

-- The elements of a counted commutative ring without zero divisors, in which one is not zero and the
-- ones of a prime add up to zero.
pub field_of : {E : Type 0} (r : RingOps E) (h : IsRing r) → IsCommutative r → (q : ℕ) → IsCounted (elements h) q
    → r.one ≢ r.zero → HasNoPair r → (prime : ℕ) → 0 < prime → (exponent : ℕ) → q ≡ prime ^ exponent → HasFreshRow prime
    → ones (elements h) prime ≡ (elements h).zero → IsFiniteField (elements h) q
field_of r h commutes q fin ne no_pair prime positive exponent size fresh char =
    record {
      comm = commute_on r h commutes;
      counted = fin;
      one_apart = λ e. ne (ap (λ x. x.0) e);
      no_pair = no_pair_on r h no_pair;
      prime = prime;
      positive = positive;
      exponent = exponent;
      size = size;
      fresh = fresh;
      char = char;
    }

pub no_pair_of : {E : Type 0} (r : RingOps E) (h : IsRing r) → NoPair (elements h) → HasNoPair r
no_pair_of r h no_pair a b p s na nb e =
    no_pair (a, p) (b, s) (λ z. na (ap (λ x. x.0) z)) (λ z. nb (ap (λ x. x.0) z)) (same_element r _ _ e)

module _ {B E : Type 0} (base : RingOps B) (hb : IsRing base) (r : RingOps E) (h : IsRing r) (commutes : IsCommutative r)
    (embed : B → E) (m : IsEmbedding base r embed) (q : ℕ) (k : IsFiniteField (elements hb) q) where
  abbrev pub up_of : Element base → Element r
  up_of b = (embed b.0, m.embed_in b.0 b.1)

  pub ring_map : IsRingMap (elements hb) (elements h) up_of
  ring_map =
      record {
        one = same_element r _ _ m.embed_one;
        add = λ a b. same_element r _ _ (m.embed_add a.0 b.0 a.1 b.1);
        mul = λ a b. same_element r _ _ (m.embed_mul a.0 b.0 a.1 b.1);
        inj = λ a b e. same_element base a b (m.embed_inj a.0 b.0 a.1 b.1 (ap (λ x. x.0) e));
      }

  power_at : (x : Element r) (n : ℕ) (y : Element r) → power (elements h) x n ≡ y → power_of r x.0 n ≡ y.0
  power_at x n y e = sym (power_value r h x n) ∙ ap (λ z. z.0) e

  pub power_linear : IsPowerLinear base r embed q
  power_linear =
      let R = elements h in
      let comm = commute_on r h commutes in
      record {
        power_add = λ a b p s.
            let x : Element r = (a, p) in
            let y : Element r = (b, s) in
            power_at (R.add x y) q (R.add (power R x q) (power R y q)) (power_add (elements hb) R up_of ring_map q k comm x y)
            ∙ ap₂ r.add (power_value r h x q) (power_value r h y q);
        power_scale = λ b c p s.
            let d : Element base = (b, p) in
            let x : Element r = (c, s) in
            power_at (R.mul (up_of d) x) q (R.mul (up_of d) (power R x q)) (power_scale (elements hb) R up_of ring_map q k comm d x)
            ∙ ap (r.mul (embed b)) (power_value r h x q);
        power_embed = λ b p.
            let d : Element base = (b, p) in
            power_at (up_of d) q (up_of d) (up_fixed (elements hb) R up_of ring_map q k comm d);
      }

  -- The test by which a finite ring over the constants is a field.
  pub accepted_field : (count : ℕ) → IsCounted (elements h) count
      → ((x : E) → IsElem r x → power_of r x q ≡ r.zero → x ≡ r.zero)
      → ((x : E) → IsElem r x → power_of r x q ≡ x → (b : B) × IsElem base b × (x ≡ embed b)) → HasNoPair r
  accepted_field count fin kernel fixed =
      no_pair_of r h
      (accepted_over (elements hb) (elements h) up_of ring_map q k (commute_on r h commutes) count fin
      (λ x e. same_element r _ _ (kernel x.0 x.1 (power_at x q (elements h).zero e)))
      (λ x e.
      let c = fixed x.0 x.1 (power_at x q x e) in
      ((c.0, c.1), same_element r _ _ c.2)))

  -- the partial products over the constants in their order `c`
  product_falls : (c : ℕ → B) → ((i : ℕ) → i < q → c i ≡ (k.counted.nth i).0) → (x : Element r) (n : ℕ) → n ≤ q
      → root_product r (λ i. embed (c i)) n x.0
      ≡ (falling (elements h) (points (elements hb) (elements h) up_of ring_map q k (commute_on r h commutes)) n x).0
  product_falls c same x zero l = refl
  product_falls c same x (suc n) l =
      ap₂ r.mul (product_falls c same x n (omega arith)) (ap (λ b. r.add x.0 (r.neg (embed b))) (same n (omega arith)))

  -- An element that the power q fixes is a root of the product over all constants.
  pub fixed_product : (c : ℕ → B) → ((i : ℕ) → i < q → c i ≡ (k.counted.nth i).0) → (x : E) → IsElem r x
      → power_of r x q ≡ x → root_product r (λ i. embed (c i)) q x ≡ r.zero
  fixed_product c same x p e =
      let y : Element r = (x, p) in
      let R = elements h in
      let comm = commute_on r h commutes in
      let all : q ≤ q = omega arith in
      product_falls c same y q all
      ∙ ap (λ z. z.0)
      (fixed_falls R comm q (large_base (elements hb) R up_of ring_map q k comm)
      (points (elements hb) R up_of ring_map q k comm) (points_apart (elements hb) R up_of ring_map q k comm)
      (λ j l. up_fixed (elements hb) R up_of ring_map q k comm (k.counted.nth j)) y
      (same_element r _ _ (power_value r h y q ∙ e)))

  -- Where the ring is a field of q^degree elements.
  module _ (degree : ℕ) (positive : 0 < degree) (fin : IsCounted (elements h) (q ^ degree)) (no_pair : HasNoPair r) where
    pub field_above : IsFiniteField (elements h) (q ^ degree)
    field_above =
        field_over (elements hb) (elements h) up_of ring_map q k (commute_on r h commutes) degree fin (no_pair_on r h no_pair)

    pub power_frob : IsPowerFrob base r embed q degree
    power_frob =
        let K = elements hb in
        let R = elements h in
        let comm = commute_on r h commutes in
        let pairs = no_pair_on r h no_pair in
        record {
          frob_in = λ c i p. power_in r h c (q ^ i) p;
          frob_zero = λ c p.
              let x : Element r = (c, p) in
              power_at x (q ^ 0) x (frob_zero K R up_of ring_map q k comm x);
          frob_plus = λ c i j p.
              let x : Element r = (c, p) in
              let y = power R x (q ^ i) in
              power_at x (q ^ (i + j)) (power R y (q ^ j)) (frob_plus K R up_of ring_map q k comm x i j)
              ∙ power_value r h y (q ^ j) ∙ ap (λ z. power_of r z (q ^ j)) (power_value r h x (q ^ i));
          frob_add = λ a b i p s.
              let x : Element r = (a, p) in
              let y : Element r = (b, s) in
              power_at (R.add x y) (q ^ i) (R.add (power R x (q ^ i)) (power R y (q ^ i))) (frob_add K R up_of ring_map q k comm i x y)
              ∙ ap₂ r.add (power_value r h x (q ^ i)) (power_value r h y (q ^ i));
          frob_mul = λ a b i p s.
              let x : Element r = (a, p) in
              let y : Element r = (b, s) in
              power_at (R.mul x y) (q ^ i) (R.mul (power R x (q ^ i)) (power R y (q ^ i))) (frob_mul K R up_of ring_map q k comm i x y)
              ∙ ap₂ r.mul (power_value r h x (q ^ i)) (power_value r h y (q ^ i));
          frob_inj = λ a b i p s e.
              let x : Element r = (a, p) in
              let y : Element r = (b, s) in
              ap (λ z. z.0)
              (frob_inj K R up_of ring_map q k comm degree fin pairs positive i x y
              (same_element r _ _ (power_value r h x (q ^ i) ∙ e ∙ sym (power_value r h y (q ^ i)))));
          frob_embed = λ b i p.
              let d : Element base = (b, p) in
              power_at (up_of d) (q ^ i) (up_of d) (frob_up K R up_of ring_map q k comm d i);
          fixed = λ c p e.
              let x : Element r = (c, p) in
              let once : q ^ 1 ≡ q = pow-suc q 0 ∙ ap (λ n. n * q) (pow-zero q) ∙ one-mul q in
              let b =
              only_up K R up_of ring_map q k comm degree fin pairs x
              (same_element r _ _ (power_value r h x q ∙ ap (power_of r c) (sym once) ∙ e)) in
              (b.0.0, b.0.1, ap (λ z. z.0) b.1);
          frob_degree = λ c p.
              let x : Element r = (c, p) in
              power_at x (q ^ degree) x (frob_degree K R up_of ring_map q k comm degree fin pairs x);
        }
