-- Each power of the Frobenius is onto: the steps that are left to the next multiple of the degree undo it.
use native.Mathlib.Nat.{div-add-mod}
use Rattle.std.proofs.Common.{◌≡◌, ℕ, suc, ◌+◌, ◌-◌, ◌*◌, ◌/◌, ◌%◌, ◌<◌, refl, sym, ◌∙◌, ap, arith, mod-lt}
use Rattle.ring_core.specs.Ring.{RingOps, IsElem}
use Rattle.ring_core.specs.Field.{FrobOps, IsFrobField}
use Rattle.ring_core.proofs.Twist.{frob_round}

module _ {E B : Type 0} (r : RingOps E) (base : RingOps B) (f : FrobOps E B) (l : IsFrobField r base f) where
  -- what is left of `n` steps, the degree, undoes `i` of them
  pub frob_back : (c : E) (i n : ℕ) → IsElem r c → n ≡ f.degree → i % n < n → f.frob (f.frob c (n - i % n)) i ≡ c
  frob_back c i n p d less =
      let split : n * (i / n) + i % n ≡ i = div-add-mod i n in
      let next : n * suc (i / n) ≡ n * (i / n) + n = omega arith in
      let whole : n - i % n + i ≡ n * suc (i / n) = omega arith in
      sym (l.frob_plus c (n - i % n) i p) ∙ ap (f.frob c) (whole ∙ ap (λ m. m * suc (i / n)) d) ∙ frob_round r base f l c (suc (i / n)) p

  pub frob_onto : (c : E) (i : ℕ) → IsElem r c → (b : E) × IsElem r b × (f.frob b i ≡ c)
  frob_onto c i p =
      let pos : 0 < f.degree = omega (arith, l.degree_pos) in
      let b = f.frob c (f.degree - i % f.degree) in
      (b, l.frob_in c (f.degree - i % f.degree) p, frob_back c i f.degree p refl (mod-lt i pos))
