-- Sums and products of homomorphisms.
use Rattle.std.proofs.Common.{◌≡◌, ◌≢◌, ℕ, zero, suc, ◌+◌, ◌<◌, ◌≤◌, true, Option, List, [], length, refl, sym, ◌∙◌, ap, ap₂, arith}
use Rattle.std.proofs.lemmas.Bool.{and_parts}
use Rattle.ring_core.specs.Ring.{RingOps}
use Rattle.ring_core.specs.Field.{IsField, FrobOps, IsFrobField}
use Rattle.ring_core.specs.Coeffs.{are_elems, is_canonical}
use Rattle.ring_core.specs.Twisted.{twisted_ops, list_add, list_mul}
use Rattle.ring_core.specs.Monomial.{tau_power}
use Rattle.ring_core.proofs.Carrier.{RingOn, same_element, zero_mul, mul_zero}
use Rattle.ring_core.proofs.Central.{tau_degree_central, base_central}
use Rattle.ring_core.proofs.Degrees.{has_members}
use Rattle.ring_core.proofs.Monomial.{monomial_in}
use Rattle.ring_core.proofs.Series.{total}
use Rattle.finite_ring.proofs.Powers.{power}
use Rattle.euclid_theory.proofs.OreSizes.{Ores, ores, ore_sizes}
use Rattle.drinfeld_mod.specs.Module.{IsModule, rank_of}
use Rattle.drinfeld_mod.specs.Image.{image}
use Rattle.drinfeld_mod.proofs.Actions.{up, coeffs, image_is, image_in}
use Rattle.morphism.specs.Homomorphism.{IsHomomorphism}
use Rattle.morphism.specs.Arrow.{arrow}

module _ {M : Type 0} (R : RingOn M) where
  commute_sum : (p s u v : M) → R.mul u p ≡ R.mul s u → R.mul v p ≡ R.mul s v → R.mul (R.add u v) p ≡ R.mul s (R.add u v)
  commute_sum p s u v eu ev = R.add_mul u v p ∙ ap₂ R.add eu ev ∙ sym (R.mul_add s u v)

  commute_product : (p q s u v : M) → R.mul u p ≡ R.mul q u → R.mul v q ≡ R.mul s v → R.mul (R.mul v u) p ≡ R.mul s (R.mul v u)
  commute_product p q s u v eu ev =
      R.mul_assoc v u p ∙ ap (R.mul v) eu ∙ sym (R.mul_assoc v q u) ∙ ap (λ x. R.mul x u) ev ∙ R.mul_assoc s v u

  -- what commutes with the coefficients and the point commutes with the value
  commute_power : (y x : M) → R.mul x y ≡ R.mul y x → (n : ℕ) → R.mul (power R x n) y ≡ R.mul y (power R x n)
  commute_power y x e zero = R.one_mul y ∙ sym (R.mul_one y)
  commute_power y x e (suc n) = commute_product y y y x (power R x n) e (commute_power y x e n)

  commute_value : (y x : M) (c : ℕ → M) → R.mul x y ≡ R.mul y x → ((i : ℕ) → R.mul (c i) y ≡ R.mul y (c i)) → (n : ℕ)
      → R.mul (total R n (λ i. R.mul (c i) (power R x i))) y ≡ R.mul y (total R n (λ i. R.mul (c i) (power R x i)))
  commute_value y x c e each zero = zero_mul R y ∙ sym (mul_zero R y)
  commute_value y x c e each (suc n) = commute_sum y y _ _ (commute_value y x c e each n) (commute_product y y y (power R x n) (c n) (commute_power y x e n) (each n))

module _ {E B : Type 0} {r : RingOps E} {inv : E → Option E} {base : RingOps B} {base_inv : B → Option B} {f : FrobOps E B} (k : IsField r inv) (kb : IsField base base_inv) (l : IsFrobField r base f) where
  abbrev S : RingOn (Ores r inv base f k l)
  S = ores r inv base f k l

  abbrev ops : RingOps (List E)
  ops = twisted_ops r f.frob

  pub hom_sum : (phi psi u v : List E) → IsModule r phi → IsModule r psi → IsHomomorphism r f.frob phi psi u → IsHomomorphism r f.frob phi psi v
      → IsHomomorphism r f.frob phi psi (list_add r u v)
  hom_sum phi psi u v mp ms hu hv = record {
    canonical = (S.add (u, hu.canonical) (v, hv.canonical)).1;
    commutes =
        ap (λ x. x.0)
        (commute_sum S (phi, mp.canonical) (psi, ms.canonical) (u, hu.canonical) (v, hv.canonical) (same_element ops _ _ hu.commutes) (same_element ops _ _ hv.commutes));
  }

  pub hom_product : (phi psi chi u v : List E) → IsModule r phi → IsModule r psi → IsModule r chi → IsHomomorphism r f.frob phi psi u → IsHomomorphism r f.frob psi chi v
      → IsHomomorphism r f.frob phi chi (list_mul r f.frob v u)
  hom_product phi psi chi u v mp ms mc hu hv = record {
    canonical = (S.mul (v, hv.canonical) (u, hu.canonical)).1;
    commutes =
        ap (λ x. x.0)
        (commute_product S (phi, mp.canonical) (psi, ms.canonical) (chi, mc.canonical) (u, hu.canonical) (v, hv.canonical) (same_element ops _ _ hu.commutes)
        (same_element ops _ _ hv.commutes));
  }

  -- The image of a polynomial at what commutes with the image of T is an endomorphism.
  hom_value : (phi x : Ores r inv base f k l) → S.mul x phi ≡ S.mul phi x → (a : List B) → is_canonical base a ≡ true → IsHomomorphism r f.frob phi.0 phi.0 (image r base f x.0 a)
  hom_value phi x commutes a ca =
      let ea : are_elems base a ≡ true = (and_parts _ _ ca).0 in
      let own = coeffs r inv base base_inv f k kb l x.0 x.1 a ea in
      let is = image_is r inv base base_inv f k kb l x.0 x.1 a ea in
      record {
        canonical = image_in r inv base base_inv f k kb l x.0 x.1 a ea;
        commutes = ap (λ y. list_mul r f.frob y phi.0) (sym is)
            ∙ ap (λ y. y.0)
            (commute_value S phi x (λ i. up r inv base base_inv f k kb l (own i)) commutes
            (λ i. same_element ops _ _ (base_central r inv base f k l (own i).0 phi.0 (own i).1 (and_parts _ _ phi.1).0)) (length a))
            ∙ ap (list_mul r f.frob phi.0) is;
      }

  pub hom_image : (phi psi u : List E) (a : List B) → IsModule r phi → IsModule r psi → is_canonical base a ≡ true → IsHomomorphism r f.frob phi psi u
      → IsHomomorphism r f.frob phi psi (list_mul r f.frob u (image r base f phi a))
  hom_image phi psi u a mp ms ca hu = hom_product phi phi psi (image r base f phi a) u mp mp ms (hom_value (phi, mp.canonical) (phi, mp.canonical) refl a ca) hu

  -- so is a polynomial in the power of tau by the degree of the field, of every module
  pub hom_central : (phi psi u : List E) (c : List B) → IsModule r phi → IsModule r psi → is_canonical base c ≡ true → IsHomomorphism r f.frob phi psi u
      → IsHomomorphism r f.frob phi psi (list_mul r f.frob (image r base f (tau_power r f.degree) c) u)
  hom_central phi psi u c mp ms cc hu =
      let tau : Ores r inv base f k l = (tau_power r f.degree, monomial_in r k.ring r.one f.degree k.ring.closed.one_in) in
      let central = same_element ops (S.mul tau (psi, ms.canonical)) (S.mul (psi, ms.canonical) tau) (tau_degree_central r inv base f k l psi (and_parts _ _ ms.canonical).0) in
      hom_product phi psi psi u (image r base f tau.0 c) mp ms ms hu (hom_value (psi, ms.canonical) tau central c cc)

  -- equal ranks
  pub ranks_same : (phi psi u : List E) → IsModule r phi → IsModule r psi → IsHomomorphism r f.frob phi psi u → u ≢ [] → rank_of phi ≡ rank_of psi
  ranks_same phi psi u mp ms hu some =
      let h = ore_sizes r inv base f k l in
      let U : Ores r inv base f k l = (u, hu.canonical) in
      let P : Ores r inv base f k l = (phi, mp.canonical) in
      let Q : Ores r inv base f k l = (psi, ms.canonical) in
      let pos : 0 < length u = has_members u some in
      let long : 1 ≤ rank_of phi = mp.rank_pos in
      let wide : 1 ≤ rank_of psi = ms.rank_pos in
      let left : length (list_mul r f.frob u phi) + 1 ≡ length u + length phi = h.product U P pos (omega (arith, long)) in
      let right : length (list_mul r f.frob psi u) + 1 ≡ length psi + length u = h.product Q U (omega (arith, wide)) pos in
      let same : length (list_mul r f.frob u phi) ≡ length (list_mul r f.frob psi u) = ap length hu.commutes in
      omega (arith, left, right, same)

pub arrow_by_parts : {E : Type 0} (u v phi chi psi rho : List E) → u ≡ v → phi ≡ chi → psi ≡ rho → arrow u phi psi ≡ arrow v chi rho
arrow_by_parts u v phi chi psi rho a b c = ap (λ x. arrow x phi psi) a ∙ ap (λ x. arrow v x psi) b ∙ ap (arrow v chi) c
