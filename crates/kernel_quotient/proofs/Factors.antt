-- The other factor of `u phi_T`, where `u` divides it on the right.
use Rattle.std.proofs.Common.{◌≡◌, ◌≢◌, ℕ, ◌+◌, ◌<◌, ◌≤◌, true, Option, List, [], length, sym, ◌∙◌, ap, ⊎_elim, arith}
use Rattle.std.proofs.lemmas.Bool.{cases_lt}
use Rattle.ring_core.specs.Ring.{RingOps}
use Rattle.ring_core.specs.Field.{IsField, FrobOps, IsFrobField}
use Rattle.ring_core.specs.Coeffs.{is_canonical}
use Rattle.ring_core.specs.Twisted.{twisted_ops, list_add, list_mul}
use Rattle.ring_core.proofs.Carrier.{RingOn, same_element, add_zero, zero_mul}
use Rattle.ring_core.proofs.Degrees.{has_members, not_empty}
use Rattle.euclid_theory.proofs.Sizes.{HasSizes, quotients_same, cancel_right}
use Rattle.euclid_theory.proofs.OreSizes.{Ores, ores, size, ore_sizes}
use Rattle.drinfeld_mod.specs.Module.{IsModule, constant_of}
use Rattle.kernel_quotient.specs.Quotient.{IsOtherFactor, IsQuotient}

module _ {M : Type 0} (R : RingOn M) (len : M → ℕ) (h : HasSizes R len) (u p : M) (nonzero : 0 < len u) (module_p : 0 < len p) where
  -- its degree
  factor_degree : (c : M) → R.mul u p ≡ R.mul c u → len c ≡ len p
  factor_degree c e =
      let same : len (R.mul u p) ≡ len (R.mul c u) = ap len e in
      ⊎_elim
      (λ (none : len c < 1).
      let gone : len (R.mul c u) ≡ 0 = ap len (ap (λ x. R.mul x u) (h.empty c (omega arith)) ∙ zero_mul R u) ∙ h.none in
      absurd (omega arith))
      (λ (some : 1 ≤ len c).
      let all : len (R.mul c u) + 1 ≡ len c + len u = h.product c u some nonzero in
      omega arith)
      (cases_lt (len c) 1)

  -- where some s serves, the division leaves no rest and gives s
  factor_only : (s c rest : M) → R.mul u p ≡ R.mul s u → R.mul u p ≡ R.add (R.mul c u) rest → len rest < len u → (c ≡ s) × (rest ≡ R.zero)
  factor_only s c rest hom division lower =
      quotients_same R len h u c s rest R.zero (sym division ∙ hom ∙ sym (add_zero R (R.mul s u))) lower (omega (arith, h.none))

module _ {E B : Type 0} (r : RingOps E) (inv : E → Option E) (base : RingOps B) (f : FrobOps E B) (k : IsField r inv) (l : IsFrobField r base f) (phi : List E) (m : IsModule r phi) where
  abbrev S : RingOn (Ores r inv base f k l)
  S = ores r inv base f k l

  abbrev ops : RingOps (List E)
  ops = twisted_ops r f.frob

  abbrev P : Ores r inv base f k l
  P = (phi, m.canonical)

  long : 0 < length phi
  long = omega (arith, m.rank_pos)

  -- without a rest and with the constant of the module, the other factor is the quotient
  pub quotient_found : (u c rest : List E) → is_canonical r u ≡ true → 0 < length u → IsOtherFactor r f.frob phi u c rest → rest ≡ [] → constant_of r c ≡ constant_of r phi → IsQuotient r f.frob phi u c
  quotient_found u c rest cu some d none constant =
      let U : Ores r inv base f k l = (u, cu) in
      let C : Ores r inv base f k l = (c, d.quotient) in
      let equation : S.mul U P ≡ S.mul C U =
      same_element ops (S.mul U P) (S.mul C U) (d.sum ∙ ap (list_add r (list_mul r f.frob c u)) none ∙ ap (λ x. x.0) (add_zero S (S.mul C U))) in
      let degree : length c ≡ length phi = factor_degree S (size r inv base f k l) (ore_sizes r inv base f k l) U P some long C equation in
      record {
        nonzero = not_empty u some;
        target = record { canonical = d.quotient; rank_pos = rw degree m.rank_pos; rank_small = rw degree m.rank_small };
        constant = constant;
        hom = record { canonical = cu; commutes = ap (λ x. x.0) equation };
      }

  -- where there is a quotient, the division leaves no rest and gives it
  pub quotient_given : (u c rest psi : List E) → IsOtherFactor r f.frob phi u c rest → IsQuotient r f.frob phi u psi → (c ≡ psi) × (rest ≡ [])
  quotient_given u c rest psi d q =
      let U : Ores r inv base f k l = (u, q.hom.canonical) in
      let C : Ores r inv base f k l = (c, d.quotient) in
      let T : Ores r inv base f k l = (rest, d.remainder) in
      let Q : Ores r inv base f k l = (psi, q.target.canonical) in
      let only =
      factor_only S (size r inv base f k l) (ore_sizes r inv base f k l) U P (has_members u q.nonzero) long Q C T (same_element ops (S.mul U P) (S.mul Q U) q.hom.commutes)
      (same_element ops (S.mul U P) (S.add (S.mul C U) T) d.sum) d.lower in
      (ap (λ x. x.0) only.0, ap (λ x. x.0) only.1)

  pub no_quotient_rest : (u c rest : List E) → IsOtherFactor r f.frob phi u c rest → rest ≢ [] → (psi : List E) → IsQuotient r f.frob phi u psi → ⊥
  no_quotient_rest u c rest d some psi q = some (quotient_given u c rest psi d q).1

  pub no_quotient_constant : (u c rest : List E) → IsOtherFactor r f.frob phi u c rest → constant_of r c ≢ constant_of r phi → (psi : List E) → IsQuotient r f.frob phi u psi → ⊥
  no_quotient_constant u c rest d other psi q = other (ap (constant_of r) (quotient_given u c rest psi d q).0 ∙ q.constant)

  pub one_quotient : (u psi chi : List E) → IsQuotient r f.frob phi u psi → IsQuotient r f.frob phi u chi → psi ≡ chi
  one_quotient u psi chi a b =
      let U : Ores r inv base f k l = (u, a.hom.canonical) in
      let Q : Ores r inv base f k l = (psi, a.target.canonical) in
      let X : Ores r inv base f k l = (chi, b.target.canonical) in
      ap (λ x. x.0)
      (cancel_right S (size r inv base f k l) (ore_sizes r inv base f k l) Q X U (has_members u a.nonzero)
      (same_element ops (S.mul Q U) (S.mul X U) (sym a.hom.commutes ∙ b.hom.commutes)))
