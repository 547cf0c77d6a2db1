-- Residues are remainders: a polynomial is a multiple of the modulus and its residue.
use Rattle.std.proofs.Common.{◌≡◌, ℕ, zero, suc, ◌+◌, ◌≤◌, sym, refl, ap, ap₂, subst, ◌∙◌, arith}
use mathlib.Core.Path.{fun_ext}
use Rattle.ring_core.specs.Ring.{RingOps, IsElem, IsRing, IsCommutative}
use Rattle.ring_core.proofs.Carrier.{RingOn, Element, elements, same_element, add_swap, add_exchange}
use Rattle.ring_core.proofs.Series.{zero_conv}
use Rattle.finite_ring.proofs.FieldOf.{commute_on}
use Rattle.residue_field.specs.Residue.{residue, IsRemainder}
use Rattle.residue_field.specs.steps.Stored.{IsMonic}
use Rattle.residue_field.proofs.Act.{shift, shift-add, x-eq, act, constant, first-and-rest, act-one, act-zero, act-longer, act-add_left}
use Rattle.residue_field.proofs.Reduce.{HasTop, IsBelow, convolve, convolve-step, act-product, act-below}
use Rattle.residue_field.proofs.ResidueRing.{product-value, residue-value}

-- the tops that were cleared
abbrev pub quotient : {M : Type 0} → RingOn M → ℕ → (ℕ → M) → ℕ → (ℕ → M) → ℕ → M
quotient R n f zero a i = R.zero
quotient R n f (suc k) a zero = act R n f k (λ j. a (suc j)) (constant R R.one) n
quotient R n f (suc k) a (suc i) = quotient R n f k (λ j. a (suc j)) i

module _ {M : Type 0} (R : RingOn M) (n : ℕ) (f : ℕ → M) where
  quotient-below : (k : ℕ) (a : ℕ → M) → IsBelow R k (quotient R n f k a)
  quotient-below zero a i l = refl
  quotient-below (suc k) a zero l = absurd (omega arith)
  quotient-below (suc k) a (suc i) l = quotient-below k (λ j. a (suc j)) i (omega arith)

  -- (t + s) + (a + (v - t)) = a + (s + v)
  cancelled : (t s a v : M) → R.add (R.add t s) (R.add a (R.add v (R.neg t))) ≡ R.add a (R.add s v)
  cancelled t s a v =
      add_swap R (R.add t s) a (R.add v (R.neg t))
      ∙ ap (R.add a)
      (ap (R.add (R.add t s)) (R.add_comm v (R.neg t)) ∙ add_exchange R t s (R.neg t) v
      ∙ ap (λ x. R.add x (R.add s v)) (R.add_neg t) ∙ R.zero_add (R.add s v))

  quotient-residue : (k : ℕ) (a : ℕ → M) → IsBelow R k a → (i : ℕ)
      → R.add (convolve R (quotient R n f k a) f i) (act R n f k a (constant R R.one) i) ≡ a i
  quotient-residue zero a below i =
      ap (λ x. R.add x R.zero) (zero_conv R (λ x. x) i f) ∙ R.zero_add R.zero ∙ sym (below i (omega arith))
  quotient-residue (suc k) a below i =
      let rest = λ (j : ℕ). a (suc j) in
      let v = act R n f k rest (constant R R.one) in
      let upper = convolve R (quotient R n f k rest) f in
      ap (λ x. R.add x (act R n f (suc k) a (constant R R.one) i)) (convolve-step R (quotient R n f (suc k) a) f i)
      ∙ cancelled (R.mul (v n) (f i)) (shift R upper i) (R.mul (a 0) (constant R R.one i)) (shift R v i)
      ∙ ap (R.add (R.mul (a 0) (constant R R.one i)))
      (sym (shift-add R upper v i)
      ∙ ap (λ w. shift R w i) (fun_ext {g = rest} (quotient-residue k rest (λ j l. below (suc j) (omega arith)))))
      ∙ first-and-rest R a i

module _ {M : Type 0} (R : RingOn M) (commutes : (a b : M) → R.mul a b ≡ R.mul b a) (n : ℕ) (f : ℕ → M) (h : HasTop R n f) where
  -- the modulus acts as zero
  modulus-acts : (i : ℕ) → act R n f (suc (suc n)) f (constant R R.one) i ≡ R.zero
  modulus-acts i =
      let rest = λ (j : ℕ). f (suc j) in
      ap (R.add (R.mul (f 0) (constant R R.one i)))
      (x-eq R commutes n f _ rest (act-one R commutes n f (suc n) rest (omega arith) (λ j l. h.past (suc j) (omega arith))) i
      ∙ ap (λ t. R.add (shift R rest i) (R.neg t)) (ap (λ x. R.mul x (f i)) h.top ∙ R.one_mul (f i)))
      ∙ sym (R.add_assoc _ _ _) ∙ ap (λ x. R.add x (R.neg (f i))) (first-and-rest R f i) ∙ R.add_neg (f i)

  -- the remainder is what a makes of one
  remainder-only : (count k : ℕ) (q v a : ℕ → M) → IsBelow R count q → IsBelow R (suc n) v → IsBelow R k a
      → ((i : ℕ) → a i ≡ R.add (convolve R q f i) (v i)) → (i : ℕ) → v i ≡ act R n f k a (constant R R.one) i
  remainder-only count k q v a q_below v_below a_below e i =
      let one = constant R R.one in
      let more = count + k in
      let whole = more + suc (suc n) in
      let by_a : whole ≡ k + (count + suc (suc n)) = omega arith in
      let by_v : whole ≡ suc n + suc more = omega arith in
      sym (
      sym (act-longer R commutes n f (count + suc (suc n)) k a one a_below i)
      ∙ sym (ap (λ l. act R n f l a one i) by_a)
      ∙ ap (λ b. act R n f whole b one i) (fun_ext e)
      ∙ act-add_left R commutes n f whole (convolve R q f) v one i
      ∙ ap₂ R.add
      (act-product R commutes n f more (suc (suc n)) q f one (λ j l. q_below j (omega arith)) (λ j l. h.past j (omega arith)) i
      ∙ ap (λ w. act R n f more q w i) (fun_ext {g = λ j. R.zero} modulus-acts) ∙ act-zero R commutes n f more q i)
      (ap (λ l. act R n f l v one i) by_v ∙ act-longer R commutes n f (suc more) (suc n) v one v_below i
      ∙ act-one R commutes n f (suc n) v (omega arith) v_below i)
      ∙ R.zero_add (v i))

module _ {E : Type 0} (r : RingOps E) (h : IsRing r) (commutes : IsCommutative r) (n : ℕ) (f : ℕ → E) (m : IsMonic r n f) (k : ℕ) (a : ℕ → E)
    (a_in : (i : ℕ) → IsElem r (a i)) (past : (i : ℕ) → k ≤ i → a i ≡ r.zero) where
  pub residue_remainder : IsRemainder r n f a (residue r n f k a)
  residue_remainder =
      let R = elements h in
      let fs : ℕ → Element r = λ j. (f j, m.coeff_in j) in
      let u : ℕ → Element r = λ j. (a j, a_in j) in
      let top : HasTop R n fs = record { top = same_element r _ _ m.top; past = λ i l. same_element r _ _ (m.past i l) } in
      record {
        quotient = λ i. (quotient R n fs k u i).0;
        count = k;
        quotient_in = λ i. (quotient R n fs k u i).1;
        quotient_past = λ i l. ap (λ x. x.0) (quotient-below R n fs k u i l);
        value_in = λ i.
            subst (IsElem r) (sym (residue-value r h n fs k u i)) (act R n fs k u (constant R R.one) i).1;
        sum = λ i.
            ap (λ x. x.0) (sym (quotient-residue R n fs k u (λ j l. same_element r _ _ (past j l)) i))
            ∙ sym (ap₂ r.add (product-value r h (quotient R n fs k u) fs i) (residue-value r h n fs k u i));
        past = λ i l.
            residue-value r h n fs k u i
            ∙ ap (λ x. x.0) (act-below R (commute_on r h commutes) n fs top k u (constant R R.one) (one-below R n) i l);
      }
    where
      one-below : {M : Type 0} (R : RingOn M) (n : ℕ) → IsBelow R (suc n) (constant R R.one)
      one-below R n zero l = absurd (omega arith)
      one-below R n (suc i) l = refl

  -- there is no other remainder
  pub residue_only : (v : ℕ → E) → IsRemainder r n f a v → (i : ℕ) → v i ≡ residue r n f k a i
  residue_only v s i =
      let R = elements h in
      let fs : ℕ → Element r = λ j. (f j, m.coeff_in j) in
      let u : ℕ → Element r = λ j. (a j, a_in j) in
      let w : ℕ → Element r = λ j. (v j, s.value_in j) in
      let q : ℕ → Element r = λ j. (s.quotient j, s.quotient_in j) in
      let top : HasTop R n fs = record { top = same_element r _ _ m.top; past = λ i l. same_element r _ _ (m.past i l) } in
      ap (λ x. x.0)
      (remainder-only R (commute_on r h commutes) n fs top s.count k q w u
      (λ j l. same_element r _ _ (s.quotient_past j l)) (λ j l. same_element r _ _ (s.past j l)) (λ j l. same_element r _ _ (past j l))
      (λ j. same_element r _ _ (s.sum j ∙ ap (λ x. r.add x (v j)) (product-value r h q fs j))) i)
      ∙ sym (residue-value r h n fs k u i)
