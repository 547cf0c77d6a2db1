-- What acceptance finds of an algebra: zero and constants by their coordinates, and pairs.
use Rattle.std.proofs.Common.{◌≡◌, ◌≢◌, ℕ, zero, suc, ◌<◌, ◌≤◌, sym, refl, ap, subst, ◌∙◌, arith}
use Rattle.ring_core.specs.Ring.{RingOps, IsElem}
use Rattle.ring_core.specs.Powers.{power_of}
use Rattle.ring_core.proofs.Carrier.{Element, elements, same_element, minus_same}
use Rattle.ring_core.proofs.PowerLaws.{power_in}
use Rattle.finite_ring.specs.Finite.{HasNoPair, root_product}
use Rattle.residue_field.specs.Residue.{constant_at}
use Rattle.residue_field.specs.Algebra.{Coordinates, IsAlgebra}
use Rattle.residue_field.proofs.AlgebraLaws.{algebra_accepted, algebra_roots}
use Rattle.field_tower.specs.Constants.{IsFieldOfCodes}
use Rattle.field_tower.specs.declared.accept.LinearMap.TheVariants.{Power, Difference}
use Rattle.field_tower.specs.steps.Kernel.{IsLow, HasLowKernel}

module _ {T : Type 0} (r : RingOps ℕ) (q : ℕ) (codes : IsFieldOfCodes r q) (t : RingOps T) (c : Coordinates ℕ T) (a : IsAlgebra r t c) where
  pub one_nonzero : t.one ≢ t.zero
  one_nonzero e =
      codes.finite.one_apart (same_element r _ _
      (sym (a.coord_embed r.one 0 codes.ring.closed.one_in a.positive) ∙ ap (λ x. c.coord x 0) (a.embed_one ∙ e)
      ∙ a.coordinates.coord_zero 0 a.positive))

  -- zero and constants are told by their coordinates
  low_zero : (x : T) → IsElem t x → IsLow r c 0 x → x ≡ t.zero
  low_zero x e low =
      a.coordinates.coord_inj x _ e a.ring.closed.zero_in (λ i l. low i (omega arith) l ∙ sym (a.coordinates.coord_zero i l))

  pub zero_is_low : (x : T) → x ≡ t.zero → IsLow r c 0 x
  zero_is_low x e i l m = ap (λ y. c.coord y i) e ∙ a.coordinates.coord_zero i m

  constant_from : (x : T) → IsLow r c 1 x → (i : ℕ) → i < c.dimension → c.coord x i ≡ constant_at r (c.coord x 0) i
  constant_from x low zero m = refl
  constant_from x low (suc i) m = low (suc i) (omega arith) m

  low_constant : (x : T) → IsElem t x → IsLow r c 1 x → x ≡ c.embed (c.coord x 0)
  low_constant x e low =
      let b = c.coord x 0 in
      let inside = a.coordinates.coord_in x 0 e in
      a.coordinates.coord_inj x _ e (a.embed_in b inside) (λ i l. constant_from x low i l ∙ sym (a.coord_embed b i inside l))

  constant_high : (b i : ℕ) → 1 ≤ i → constant_at r b i ≡ r.zero
  constant_high b zero l = absurd (omega arith)
  constant_high b (suc i) l = refl

  constant_low : (b : ℕ) → IsElem r b → IsLow r c 1 (c.embed b)
  constant_low b e i l m = a.coord_embed b i e m ∙ constant_high b i l

  -- an element that is no constant has no factor zero
  pub factor_nonzero : (x : T) (b : ℕ) → IsElem t x → (IsLow r c 1 x → ⊥) → IsElem r b → t.add x (t.neg (c.embed b)) ≢ t.zero
  factor_nonzero x b e high m none =
      let u : Element t = (x, e) in
      let v : Element t = (c.embed b, a.embed_in b m) in
      let same : x ≡ v.0 = ap (λ z. z.0) (minus_same (elements a.ring) u v (same_element t _ _ none)) in
      high (subst (IsLow r c 1) (sym same) (constant_low b m))

  -- the power q less x is zero exactly where the power q is x
  moved_zero : (x : T) → power_of t x q ≡ x → IsElem t x → t.add (power_of t x q) (t.neg x) ≡ t.zero
  moved_zero x e inside = ap (λ y. t.add y (t.neg x)) e ∙ a.ring.add_neg x inside

  pub fixed_from : (x : T) → IsElem t x → t.add (power_of t x q) (t.neg x) ≡ t.zero → power_of t x q ≡ x
  fixed_from x e none =
      let u : Element t = (power_of t x q, power_in t a.ring x q e) in
      let v : Element t = (x, e) in
      ap (λ z. z.0) (minus_same (elements a.ring) u v (same_element t _ _ none))

  -- where only zero has the power zero, and only constants are fixed, no two nonzero elements multiply to zero
  pub accepted : HasLowKernel r t c q Power → HasLowKernel r t c q Difference → HasNoPair t
  accepted kernel fixed =
      algebra_accepted r codes.ring t c a q codes.finite
      (λ x e zero. low_zero x e (kernel x e zero))
      (λ x e same. (
        c.coord x 0,
        a.coordinates.coord_in x 0 e,
        low_constant x e (fixed x e (moved_zero x same e)),
      ))

  -- the product over all constants
  pub all_factors : (x : T) → IsElem t x → power_of t x q ≡ x → root_product t c.embed q x ≡ t.zero
  all_factors = algebra_roots r codes.ring t c a q codes.finite (λ i. i) (λ i l. sym (codes.nth i l))
