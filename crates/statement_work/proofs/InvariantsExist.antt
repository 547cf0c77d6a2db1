-- The invariants of a Drinfeld module exist.
use Rattle.std.proofs.Common.{◌≡◌, ◌≢◌, ℕ, zero, suc, ◌/◌, ◌%◌, ◌<◌, ◌≤◌, Option, Some, None, List, [], length, MatchOption, ◌∙◌, ap, subst, ⊎_elim, arith}
use Rattle.std.proofs.lemmas.Bool.{and_parts, cases_lt, cases_eq}
use Rattle.ring_core.specs.Ring.{RingOps, IsElem}
use Rattle.ring_core.specs.Field.{IsField, FrobOps, IsFrobField}
use Rattle.ring_core.specs.Coeffs.{coeff, are_elems}
use Rattle.ring_core.specs.Powers.{power_of}
use Rattle.ring_core.proofs.Coefficients.{elem_read}
use Rattle.ring_core.proofs.Degrees.{top_nonzero}
use Rattle.ring_core.proofs.PowerLaws.{power_in}
use Rattle.drinfeld_mod.specs.Module.{IsModule, rank_of}
use Rattle.drinfeld_mod.specs.Invariant.{Divides, IsGreatestCommonDivisor, IsInvariant}
use Rattle.drinfeld_mod.proofs.Norms.{geometric, exponent, divides_one, divisor_least, divides_exactly, no_rest, quotient_is, power_nonzero}

module _ (k n : ℕ) (pos : 0 < k) where
  -- no number above m divides both
  abbrev NoneAbove : ℕ → Type 0
  NoneAbove m = (d : ℕ) → m < d → Divides d k → Divides d n → ⊥

  largest : (m : ℕ) → NoneAbove m → (e : ℕ) × IsGreatestCommonDivisor e k n
  largest zero none = absurd (none 1 (omega arith) (divides_one k) (divides_one n))
  largest (suc m) none =
      let below : (Divides (suc m) k → Divides (suc m) n → ⊥) → NoneAbove m = λ not d more left right.
      ⊎_elim
      (λ (here : d ≡ suc m). not (subst (λ x. Divides x k) here left) (subst (λ x. Divides x n) here right))
      (λ (other : d ≡ suc m → ⊥). none d (omega (arith, more, other)) left right)
      (cases_eq d (suc m)) in
      ⊎_elim
      (λ (left : k % suc m ≡ 0).
      ⊎_elim
      (λ (right : n % suc m ≡ 0). (
        suc m,
        record {
          left = divides_exactly (suc m) k left;
          right = divides_exactly (suc m) n right;
          greatest = λ d p q. ⊎_elim (λ (more : suc m < d). absurd (none d more p q)) (λ (most : d ≤ suc m). most) (cases_lt (suc m) d);
        },
      ))
      (λ (other : n % suc m ≡ 0 → ⊥). largest m (below (λ p q. other (no_rest (suc m) n q))))
      (cases_eq (n % suc m) 0))
      (λ (other : k % suc m ≡ 0 → ⊥). largest m (below (λ p q. other (no_rest (suc m) k p))))
      (cases_eq (k % suc m) 0)

  divisor_exists : (e : ℕ) × IsGreatestCommonDivisor e k n
  divisor_exists = largest k (λ d more left right. let most = divisor_least d k pos left in omega (arith, most, more))

inverse_by : {E : Type 0} (r : RingOps E) (a : E) (o : Option E) → a ≢ r.zero → MatchOption o (a ≡ r.zero) (λ b. IsElem r b × (r.mul a b ≡ r.one)) → (b : E) × (IsElem r b × (r.mul a b ≡ r.one))
inverse_by r a None some is = absurd (some is)
inverse_by r a (Some b) some is = (b, is)

module _ {E B : Type 0} (r : RingOps E) (inv : E → Option E) (base : RingOps B) (f : FrobOps E B) (k : IsField r inv) (l : IsFrobField r base f) where
  pub invariant_exists : (q : ℕ) → 1 ≤ q → (phi : List E) → IsModule r phi → (i : ℕ) → 0 < i → (x : E) × IsInvariant r q phi i x
  invariant_exists q large phi m i pos =
      let parts = and_parts (are_elems r phi) _ m.canonical in
      let z = k.ring.closed.zero_in in
      let rank = rank_of phi in
      let d = divisor_exists i rank pos in
      let e = d.0 in
      let high = coeff r phi rank in
      let low = coeff r phi i in
      let high_in = elem_read r phi z parts.0 rank in
      let some : phi ≢ [] = λ empty. let short : length phi ≡ 0 = ap length empty in let long = m.rank_pos in absurd (omega (arith, short, long)) in
      let top = power_of r low (geometric q e (rank / e)) in
      let bottom = power_of r high (geometric q e (i / e)) in
      let top_in = power_in r k.ring low (geometric q e (rank / e)) (elem_read r phi z parts.0 i) in
      let bottom_in = power_in r k.ring high (geometric q e (i / e)) high_in in
      let nonzero = power_nonzero r inv base f k l high (geometric q e (i / e)) high_in (top_nonzero r z k.ring.equal phi parts.1 some) in
      let inverse = inverse_by r bottom (inv bottom) nonzero (k.inv_is bottom bottom_in) in (
        r.mul top inverse.0,
        record {
          e = e;
          divisor = d.1;
          a = geometric q e (rank / e);
          b = geometric q e (i / e);
          top = exponent q e (rank / e) rank large (quotient_is e rank d.1.right);
          bottom = exponent q e (i / e) i large (quotient_is e i d.1.left);
          elem = k.ring.closed.mul_in top inverse.0 top_in inverse.1.0;
          is =
              k.ring.mul_assoc top inverse.0 bottom top_in inverse.1.0 bottom_in
              ∙ ap (r.mul top) (k.mul_comm inverse.0 bottom inverse.1.0 bottom_in ∙ inverse.1.1) ∙ k.ring.mul_one top top_in;
        },
      )
