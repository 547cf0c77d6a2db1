-- What commutes with every twisted polynomial: the power of tau by the degree of the field, and the
-- constants of the base.
use Rattle.std.proofs.Common.{◌≡◌, ℕ, ◌-◌, ◌<◌, ◌≤◌, true, Option, List, sym, ◌∙◌, ap, ⊎_elim, arith}
use Rattle.std.proofs.lemmas.Bool.{and_parts, cases_lt}
use Rattle.ring_core.specs.Ring.{RingOps, IsElem}
use Rattle.ring_core.specs.Field.{IsField, FrobOps, IsFrobField}
use Rattle.ring_core.specs.Coeffs.{coeff, are_elems}
use Rattle.ring_core.specs.Twisted.{product_at, list_mul}
use Rattle.ring_core.specs.Monomial.{constant, tau_power}
use Rattle.ring_core.proofs.Coefficients.{elem_read}
use Rattle.ring_core.proofs.Twist.{IsTwist, frob_twist}
use Rattle.ring_core.proofs.Monomial.{monomial_in, monomial_product, monomial_product_below, product_monomial, product_monomial_below, same_products}

module _ {E B : Type 0} (r : RingOps E) (inv : E → Option E) (base : RingOps B) (f : FrobOps E B) (k : IsField r inv) (l : IsFrobField r base f) where
  twist_is : IsTwist r f.frob
  twist_is = frob_twist r inv base f k l

  central_coeff : (u : List E) → are_elems r u ≡ true → (j : ℕ) → product_at r f.frob (tau_power r f.degree) u j ≡ product_at r f.frob u (tau_power r f.degree) j
  central_coeff u e j =
      let ring = k.ring in
      let one = ring.closed.one_in in
      let read = elem_read r u ring.closed.zero_in e in
      let n = f.degree in
      ⊎_elim
      (λ (low : j < n).
      monomial_product_below r ring f.frob twist_is r.one n u one e j low
      ∙ sym (product_monomial_below r ring f.frob twist_is u r.one n one e j low))
      (λ (high : n ≤ j).
      monomial_product r ring f.frob twist_is r.one n u one e j high
      ∙ ring.one_mul _ (l.frob_in _ n (read (j - n))) ∙ l.frob_degree _ (read (j - n))
      ∙ sym (product_monomial r ring f.frob twist_is u r.one n one e j high
      ∙ ap (r.mul (coeff r u (j - n))) (twist_is.twist_one (j - n)) ∙ ring.mul_one _ (read (j - n))))
      (cases_lt j n)

  -- tau^n u = u tau^n
  pub tau_degree_central : (u : List E) → are_elems r u ≡ true → list_mul r f.frob (tau_power r f.degree) u ≡ list_mul r f.frob u (tau_power r f.degree)
  tau_degree_central u e =
      let powers = (and_parts _ _ (monomial_in r k.ring r.one f.degree k.ring.closed.one_in)).0 in
      same_products r k.ring f.frob twist_is _ u u _ powers e e powers (central_coeff u e)

  base_coeff : (b : B) (u : List E) → IsElem base b → are_elems r u ≡ true → (j : ℕ) → product_at r f.frob (constant r (f.embed b)) u j ≡ product_at r f.frob u (constant r (f.embed b)) j
  base_coeff b u p e j =
      let ring = k.ring in
      let c = f.embed b in
      let inside = l.embed_in b p in
      let read = elem_read r u ring.closed.zero_in e in
      let low : 0 ≤ j = omega arith in
      monomial_product r ring f.frob twist_is c 0 u inside e j low
      ∙ ap (r.mul c) (l.frob_zero _ (read (j - 0))) ∙ k.mul_comm c _ inside (read (j - 0))
      ∙ sym (product_monomial r ring f.frob twist_is u c 0 inside e j low ∙ ap (r.mul (coeff r u (j - 0))) (l.frob_embed b (j - 0) p))

  -- b u = u b
  pub base_central : (b : B) (u : List E) → IsElem base b → are_elems r u ≡ true → list_mul r f.frob (constant r (f.embed b)) u ≡ list_mul r f.frob u (constant r (f.embed b))
  base_central b u p e =
      let elems = (and_parts _ _ (monomial_in r k.ring (f.embed b) 0 (l.embed_in b p))).0 in
      same_products r k.ring f.frob twist_is _ u u _ elems e e elems (base_coeff b u p e)
