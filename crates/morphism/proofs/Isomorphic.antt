-- A constant that is an isomorphism leaves the invariants as they are.
use Rattle.std.proofs.Common.{◌≡◌, ◌≢◌, ℕ, ◌+◌, ◌-◌, ◌*◌, ◌^◌, ◌<◌, ◌≤◌, true, Option, List, [], length, sym, ◌∙◌, ap, subst, ⊎_elim, arith}
use Rattle.std.proofs.Math.Nat.{one-le-pow}
use Rattle.std.proofs.lemmas.Bool.{and_parts, cases_eq}
use Rattle.ring_core.specs.Ring.{RingOps, IsElem}
use Rattle.ring_core.specs.Field.{IsField, FrobOps, IsFrobField}
use Rattle.ring_core.specs.Coeffs.{coeff, are_elems, is_canonical}
use Rattle.ring_core.specs.Powers.{power_of}
use Rattle.ring_core.specs.Twisted.{IsTwist, list_mul}
use Rattle.ring_core.specs.Monomial.{constant}
use Rattle.ring_core.proofs.Carrier.{RingOn, Element, same_element, elements}
use Rattle.ring_core.proofs.Coefficients.{coeff_past, elem_read, same_coeffs}
use Rattle.ring_core.proofs.Degrees.{top_nonzero}
use Rattle.ring_core.proofs.ListRing.{value, coeff-mul}
use Rattle.ring_core.proofs.Monomial.{monomial_in, coeff-monomial_same, coeff-monomial_other, monomial_product, product_monomial}
use Rattle.ring_core.proofs.Twist.{frob_twist}
use Rattle.finite_ring.proofs.Powers.{power, power_value, power-add, power-power, power-product}
use Rattle.drinfeld_mod.specs.Module.{IsModule, rank_of}
use Rattle.drinfeld_mod.specs.Invariant.{IsGreatestCommonDivisor, IsInvariant}
use Rattle.drinfeld_mod.proofs.Heights.{cancel}
use Rattle.drinfeld_mod.proofs.Norms.{power_nonzero, frob_is_power}
use Rattle.morphism.specs.Homomorphism.{IsHomomorphism}
use Rattle.morphism.proofs.Homomorphisms.{ranks_same}

module _ {M : Type 0} (R : RingOn M) (comm : (a b : M) → R.mul a b ≡ R.mul b a) where
  -- `c` takes g to h: h_k c^K = c g_k and h_r c^Q = c g_r; then both have the same quotient of powers
  moved : (c gk gr hk hr x : M) (K Q A B : ℕ) → ((a b : M) → R.mul a (power R c (K * A + B)) ≡ R.mul b (power R c (K * A + B)) → a ≡ b)
      → R.mul hk (power R c K) ≡ R.mul c gk → R.mul hr (power R c Q) ≡ R.mul c gr → K * A + B ≡ Q * B + A
      → R.mul x (power R gr B) ≡ power R gk A → R.mul x (power R hr B) ≡ power R hk A
  moved c gk gr hk hr x K Q A B cancels ek er exponents is =
      cancels (R.mul x (power R hr B)) (power R hk A)
      (ap (λ n. R.mul (R.mul x (power R hr B)) (power R c n)) exponents
      ∙ ap (R.mul (R.mul x (power R hr B))) (power-add R c (Q * B) A ∙ ap (λ y. R.mul y (power R c A)) (sym (power-power R c Q B)))
      ∙ sym (R.mul_assoc _ _ _)
      ∙ ap (λ y. R.mul y (power R c A))
      (R.mul_assoc x _ _
      ∙ ap (R.mul x) (sym (power-product R comm hr (power R c Q) B) ∙ ap (λ y. power R y B) er ∙ power-product R comm c gr B))
      ∙ ap (λ y. R.mul y (power R c A))
      (sym (R.mul_assoc x _ _) ∙ ap (λ y. R.mul y (power R gr B)) (comm x _) ∙ R.mul_assoc (power R c B) x _ ∙ ap (R.mul (power R c B)) is)
      ∙ comm _ _ ∙ sym (R.mul_assoc (power R c A) (power R c B) (power R gk A))
      ∙ ap (λ y. R.mul y (power R gk A)) (comm (power R c A) (power R c B)) ∙ R.mul_assoc (power R c B) (power R c A) (power R gk A)
      ∙ ap (R.mul (power R c B))
      (sym (power-product R comm c gk A) ∙ ap (λ y. power R y A) (sym ek) ∙ power-product R comm hk (power R c K) A ∙ comm _ _)
      ∙ sym (R.mul_assoc _ _ _) ∙ comm _ _
      ∙ ap (R.mul (power R hk A)) (comm _ _ ∙ ap (λ y. R.mul y (power R c B)) (power-power R c K A) ∙ sym (power-add R c (K * A) B)))

-- A (p - 1) = Q - 1 and B (p - 1) = K - 1 give K A + B = Q B + A
exponents_meet : (p K Q A B : ℕ) → 1 ≤ K → 1 ≤ Q → A * (p - 1) ≡ Q - 1 → B * (p - 1) ≡ K - 1 → K * A + B ≡ Q * B + A
exponents_meet p K Q A B pk pq ea eb =
    let k : K ≡ B * (p - 1) + 1 = omega arith in
    let q : Q ≡ A * (p - 1) + 1 = omega arith in
    ap (λ n. n * A + B) k ∙ balanced (p - 1) A B ∙ sym (ap (λ n. n * B + A) q)
  where
    balanced : (m A B : ℕ) → (B * m + 1) * A + B ≡ (A * m + 1) * B + A
    balanced m A B = omega arith

module _ {E B : Type 0} {r : RingOps E} {inv : E → Option E} {base : RingOps B} {base_inv : B → Option B} {f : FrobOps E B} (k : IsField r inv) (kb : IsField base base_inv) (l : IsFrobField r base f) where
  t : IsTwist r f.frob
  t = frob_twist r inv base f k l

  -- a polynomial with one coefficient is a constant
  is_constant : (u : List E) → is_canonical r u ≡ true → length u ≡ 1 → u ≡ constant r (coeff r u 0)
  is_constant u cu one =
      let z = k.ring.closed.zero_in in
      let parts = and_parts (are_elems r u) _ cu in
      let c = coeff r u 0 in
      let pc = elem_read r u z parts.0 0 in
      same_coeffs r z k.ring.equal u (constant r c) parts.1 (and_parts _ _ (monomial_in r k.ring c 0 pc)).1
      (λ i.
      ⊎_elim
      (λ (here : i ≡ 0). ap (coeff r u) here ∙ sym (ap (coeff r (constant r c)) here ∙ coeff-monomial_same r k.ring c 0 pc))
      (λ (other : i ≢ 0). coeff_past r u i (omega arith) ∙ sym (coeff-monomial_other r k.ring c 0 i pc other))
      (cases_eq i 0))

  -- what a constant does to the coefficients
  coefficients_moved : (phi psi u : List E) → is_canonical r phi ≡ true → is_canonical r psi ≡ true → IsHomomorphism r f.frob phi psi u → length u ≡ 1 → (j : ℕ)
      → r.mul (coeff r psi j) (f.frob (coeff r u 0) j) ≡ r.mul (coeff r u 0) (coeff r phi j)
  coefficients_moved phi psi u cp cs hu one j =
      let z = k.ring.closed.zero_in in
      let c = coeff r u 0 in
      let pc = elem_read r u z (and_parts _ _ hu.canonical).0 0 in
      let ep : are_elems r phi ≡ true = (and_parts _ _ cp).0 in
      let es : are_elems r psi ≡ true = (and_parts _ _ cs).0 in
      let eu : are_elems r (constant r c) ≡ true = (and_parts _ _ (monomial_in r k.ring c 0 pc)).0 in
      let is = is_constant u hu.canonical one in
      let place : j - 0 ≡ j = omega arith in
      let equal : list_mul r f.frob (constant r c) phi ≡ list_mul r f.frob psi (constant r c) =
      ap (λ v. list_mul r f.frob v phi) (sym is) ∙ hu.commutes ∙ ap (list_mul r f.frob psi) is in
      sym
      (ap (r.mul c) (ap (coeff r phi) (sym place) ∙ sym (l.frob_zero (coeff r phi (j - 0)) (elem_read r phi z ep (j - 0))))
      ∙ sym (monomial_product r k.ring f.frob t c 0 phi pc ep j (omega arith)) ∙ sym (coeff-mul r k.ring f.frob t (constant r c) phi eu ep j)
      ∙ ap (λ v. coeff r v j) equal ∙ coeff-mul r k.ring f.frob t psi (constant r c) es eu j ∙ product_monomial r k.ring f.frob t psi c 0 pc es j (omega arith)
      ∙ ap (λ n. r.mul (coeff r psi n) (f.frob c n)) place)

  pub invariants_same : (q : ℕ) (phi psi u : List E) (i : ℕ) (x : E) → 2 ≤ q → ((c : E) → IsElem r c → f.frob c 1 ≡ power_of r c q) → IsModule r phi → IsModule r psi → IsHomomorphism r f.frob phi psi u
      → length u ≡ 1 → 0 < i → i < rank_of phi → IsInvariant r q phi i x → IsInvariant r q psi i x
  invariants_same q phi psi u i x large h mp ms hu one _ _ v =
      let z = k.ring.closed.zero_in in
      let R : RingOn (Element r) = elements k.ring in
      let comm : (a b : Element r) → R.mul a b ≡ R.mul b a = λ a b. same_element r _ _ (k.mul_comm a.0 b.0 a.1 b.1) in
      let parts = and_parts (are_elems r u) _ hu.canonical in
      let ep : are_elems r phi ≡ true = (and_parts _ _ mp.canonical).0 in
      let es : are_elems r psi ≡ true = (and_parts _ _ ms.canonical).0 in
      let some : u ≢ [] = λ e. let none : length u ≡ 0 = ap length e in absurd (omega (arith, none, one)) in
      let n = rank_of phi in
      let rank : rank_of psi ≡ n = sym (ranks_same k kb l phi psi u mp ms hu some) in
      let c = coeff r u 0 in
      let top : length u - 1 ≡ 0 = omega (arith, one) in
      let pc = elem_read r u z parts.0 0 in
      let nonzero : c ≢ r.zero = λ e. top_nonzero r z k.ring.equal u parts.1 some (ap (coeff r u) top ∙ e) in
      let C : Element r = (c, pc) in
      let own = λ (w : List E) (ew : are_elems r w ≡ true) (j : ℕ). value r k.ring w ew j in
      let power_is : (j : ℕ) → f.frob c j ≡ (power R C (q ^ j)).0 = λ j.
      frob_is_power r inv base f k l q h c j pc ∙ sym (power_value r k.ring C (q ^ j)) in
      let carried : (j : ℕ) → R.mul (own psi es j) (power R C (q ^ j)) ≡ R.mul C (own phi ep j) = λ j.
      same_element r _ _ (ap (r.mul (coeff r psi j)) (sym (power_is j)) ∙ coefficients_moved phi psi u mp.canonical ms.canonical hu one j) in
      let positive : 1 ≤ q = omega (arith, large) in
      let exponents = exponents_meet (q ^ v.e) (q ^ i) (q ^ n) v.a v.b (one-le-pow i q positive) (one-le-pow n q positive) v.top v.bottom in
      let N = q ^ i * v.a + v.b in
      let cancels : (a b : Element r) → R.mul a (power R C N) ≡ R.mul b (power R C N) → a ≡ b = λ a b e.
      same_element r a b
      (cancel r inv k (power R C N).0 a.0 b.0 (power R C N).1 a.1 b.1 (λ none. power_nonzero r inv base f k l c N pc nonzero (sym (power_value r k.ring C N) ∙ none))
      (k.mul_comm (power R C N).0 a.0 (power R C N).1 a.1 ∙ ap (λ y. y.0) e ∙ k.mul_comm b.0 (power R C N).0 b.1 (power R C N).1)) in
      let X : Element r = (x, v.elem) in
      let before : R.mul X (power R (own phi ep n) v.b) ≡ power R (own phi ep i) v.a =
      same_element r _ _ (ap (r.mul x) (power_value r k.ring (own phi ep n) v.b) ∙ v.is ∙ sym (power_value r k.ring (own phi ep i) v.a)) in
      let after = moved R comm C (own phi ep i) (own phi ep n) (own psi es i) (own psi es n) X (q ^ i) (q ^ n) v.a v.b cancels (carried i) (carried n) exponents before in
      record {
        e = v.e;
        divisor = subst (IsGreatestCommonDivisor v.e i) (sym rank) v.divisor;
        a = v.a;
        b = v.b;
        top = v.top ∙ ap (λ m. q ^ m - 1) (sym rank);
        bottom = v.bottom;
        elem = v.elem;
        is =
            ap (λ m. r.mul x (power_of r (coeff r psi m) v.b)) rank ∙ ap (r.mul x) (sym (power_value r k.ring (own psi es n) v.b)) ∙ ap (λ y. y.0) after
            ∙ power_value r k.ring (own psi es i) v.a;
      }
