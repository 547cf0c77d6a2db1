-- The inverse from the norm, which is an element of the base.
use Rattle.std.proofs.Common.{◌≡◌, ◌≢◌, ℕ, zero, suc, ◌+◌, ◌/◌, ◌%◌, Option, Some, None, sym, ap, ◌∙◌, arith}
use Rattle.ring_core.specs.Ring.{RingOps, IsElem}
use Rattle.ring_core.specs.Field.{FrobOps, IsField, IsFrobField}
use Rattle.ring_core.proofs.Twist.{frob_of_zero, frob_of_one}
use Rattle.ring_core.proofs.Degrees.{no_zero_divisors}
use Rattle.field_tower.specs.steps.Norm.{conjugate_product}
use Rattle.field_tower.proofs.Inverses.{inverse_from, inverse_none}

module _ {E : Type 0} (r : RingOps E) (inv : E → Option E) (k : IsField r inv) where
  swapped : (u v w : E) → IsElem r u → IsElem r v → IsElem r w → r.mul (r.mul u v) w ≡ r.mul (r.mul u w) v
  swapped u v w p q s =
      k.ring.mul_assoc u v w p q s ∙ ap (r.mul u) (k.mul_comm v w q s) ∙ sym (k.ring.mul_assoc u w v p s q)

module _ {E B : Type 0} (r : RingOps E) (inv : E → Option E) (base : RingOps B) (f : FrobOps E B) (k : IsField r inv) (l : IsFrobField r base f) (a : E) (p : IsElem r a) where
  abbrev conj : ℕ → E
  conj = conjugate_product r f a

  pub conjugates_in : (i : ℕ) → IsElem r (conjugate_product r f a i)
  conjugates_in zero = k.ring.closed.one_in
  conjugates_in (suc i) = l.frob_in _ 1 (k.ring.closed.mul_in _ _ (conjugates_in i) p)

  -- each product is the one before it times the next conjugate
  conjugates_next : (i : ℕ) → conjugate_product r f a (suc i) ≡ r.mul (conjugate_product r f a i) (f.frob a (suc i))
  conjugates_next zero = ap (λ x. f.frob x 1) (k.ring.one_mul a p) ∙ sym (k.ring.one_mul _ (l.frob_in a 1 p))
  conjugates_next (suc i) =
      let before = conjugate_product r f a i in
      let here = conjugates_in i in
      let raised = l.frob_in a (suc i) p in
      let step : suc i + 1 ≡ suc (suc i) = omega arith in
      l.frob_mul (conjugate_product r f a (suc i)) a 1 (conjugates_in (suc i)) p
      ∙ ap (λ x. r.mul x (f.frob a 1))
      (ap (λ x. f.frob x 1) (conjugates_next i) ∙ l.frob_mul before (f.frob a (suc i)) 1 here raised
      ∙ ap (r.mul (f.frob before 1)) (sym (l.frob_plus a (suc i) 1 p) ∙ ap (f.frob a) step))
      ∙ swapped r inv k (f.frob before 1) (f.frob a (suc (suc i))) (f.frob a 1) (l.frob_in before 1 here) (l.frob_in a (suc (suc i)) p) (l.frob_in a 1 p)
      ∙ ap (λ x. r.mul x (f.frob a (suc (suc i)))) (sym (l.frob_mul before a 1 here p))

  pub conjugates_add : (i j : ℕ) → conjugate_product r f a (i + j) ≡ r.mul (conjugate_product r f a i) (f.frob (conjugate_product r f a j) i)
  conjugates_add i zero =
      let same : i + 0 ≡ i = omega arith in
      ap conj same ∙ sym (k.ring.mul_one _ (conjugates_in i))
      ∙ ap (r.mul (conjugate_product r f a i)) (sym (frob_of_one r inv base f k l i))
  conjugates_add i (suc j) =
      let first = conjugate_product r f a i in
      let second = conjugate_product r f a j in
      let first_in = conjugates_in i in
      let second_in = conjugates_in j in
      let next : i + suc j ≡ suc (i + j) = omega arith in
      let turned : suc (i + j) ≡ suc j + i = omega arith in
      ap conj next ∙ conjugates_next (i + j)
      ∙ ap (λ x. r.mul x (f.frob a (suc (i + j)))) (conjugates_add i j)
      ∙ k.ring.mul_assoc first (f.frob second i) (f.frob a (suc (i + j))) first_in (l.frob_in second i second_in) (l.frob_in a (suc (i + j)) p)
      ∙ ap (r.mul first)
      (ap (r.mul (f.frob second i)) (ap (f.frob a) turned ∙ l.frob_plus a (suc j) i p)
      ∙ sym (l.frob_mul second (f.frob a (suc j)) i second_in (l.frob_in a (suc j) p))
      ∙ ap (λ x. f.frob x i) (sym (conjugates_next j)))

  -- by halves
  pub conjugates_even : (m : ℕ) → m % 2 ≡ 0 → conjugate_product r f a m ≡ r.mul (conjugate_product r f a (m / 2)) (f.frob (conjugate_product r f a (m / 2)) (m / 2))
  conjugates_even m e =
      let halves : m ≡ m / 2 + m / 2 = omega arith in
      ap conj halves ∙ conjugates_add (m / 2) (m / 2)

  pub conjugates_odd : (m : ℕ) → m % 2 ≡ 1
      → conjugate_product r f a m ≡ f.frob (r.mul (r.mul (conjugate_product r f a (m / 2)) (f.frob (conjugate_product r f a (m / 2)) (m / 2))) a) 1
  conjugates_odd m e =
      let halves : m ≡ suc (m / 2 + m / 2) = omega arith in
      ap conj halves ∙ ap (λ x. f.frob (r.mul x a) 1) (conjugates_add (m / 2) (m / 2))

  conjugates_nonzero : a ≢ r.zero → (i : ℕ) → conjugate_product r f a i ≢ r.zero
  conjugates_nonzero ne zero = k.one_ne_zero
  conjugates_nonzero ne (suc i) = λ z.
      let closed = k.ring.closed in
      no_zero_divisors r inv k (conjugate_product r f a i) a (conjugates_in i) p (conjugates_nonzero ne i) ne
      (l.frob_inj _ r.zero 1 (closed.mul_in _ _ (conjugates_in i) p) closed.zero_in (z ∙ sym (frob_of_zero r inv base f k l 1)))

  -- the norm is an element of the base
  pub norm_is : (m : ℕ) → suc m ≡ f.degree → (b : B) × IsElem base b × (r.mul (conjugate_product r f a m) a ≡ f.embed b)
  norm_is m e =
      l.fixed _ (k.ring.closed.mul_in _ _ (conjugates_in m) p)
      (conjugates_next m ∙ ap (r.mul (conjugate_product r f a m)) (ap (f.frob a) e ∙ l.frob_degree a p))

  pub norm_none : (m : ℕ) → r.mul (conjugate_product r f a m) a ≡ r.zero → None ≡ inv a
  norm_none m z =
      inverse_none r inv k a p (λ ne. no_zero_divisors r inv k (conjugate_product r f a m) a (conjugates_in m) p (conjugates_nonzero ne m) ne z)

  pub norm_some : (m : ℕ) (d e : B) → f.embed base.one ≡ r.one → IsElem base d → IsElem base e → r.mul (conjugate_product r f a m) a ≡ f.embed d → base.mul d e ≡ base.one
      → Some (r.mul (conjugate_product r f a m) (f.embed e)) ≡ inv a
  norm_some m d e one q s norm is =
      let b = conjugate_product r f a m in
      let c = f.embed e in
      let b_in = conjugates_in m in
      let c_in = l.embed_in e s in
      inverse_from r inv k a (r.mul b c) p (k.ring.closed.mul_in b c b_in c_in)
      (k.mul_comm a (r.mul b c) p (k.ring.closed.mul_in b c b_in c_in) ∙ swapped r inv k b c a b_in c_in p
      ∙ ap (λ x. r.mul x c) norm ∙ sym (l.embed_mul d e q s) ∙ ap f.embed is ∙ one)
