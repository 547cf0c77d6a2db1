-- The constants within their residues by coefficients: products with a constant scale each coefficient, and
-- sums go by coefficients.
use Rattle.std.proofs.Common.{◌≡◌, ℕ, suc, ◌+◌, ◌<◌, true, ap, ◌∙◌}
use Rattle.ring_core.specs.Ring.{RingOps, IsElem, IsRing, IsCommutative}
use Rattle.ring_core.proofs.Carrier.{RingOn, Element, elements, add_zero}
use Rattle.finite_ring.proofs.FieldOf.{commute_on}
use Rattle.residue_field.specs.Residue.{constant_at, residue, product, Places, residue_ops}
use Rattle.residue_field.specs.steps.Stored.{IsMonic, IsPlaces}
use Rattle.residue_field.proofs.Act.{act, constant, x-eq, x-zero, act-none}
use Rattle.residue_field.proofs.Reduce.{Residue, constant_residue}
use Rattle.residue_field.proofs.ResidueRing.{elements_set, modulus_on, has_top, value_on, constant-is, constant-in, value-pack, product-is, product-in}

-- a constant acts by scaling
constant-act : {M : Type 0} (R : RingOn M) (commutes : (a b : M) → R.mul a b ≡ R.mul b a) (n : ℕ) (f : ℕ → M) (k : ℕ) (b : M) (v : ℕ → M) (i : ℕ)
    → act R n f (suc k) (constant R b) v i ≡ R.mul b (v i)
constant-act R commutes n f k b v i =
    ap (R.add (R.mul b (v i))) (x-eq R commutes n f _ (λ j. R.zero) (act-none R commutes n f k v) i ∙ x-zero R commutes n f i)
    ∙ add_zero R (R.mul b (v i))

module _ {E T : Type 0} (r : RingOps E) (h : IsRing r) (commutes : IsCommutative r) (n : ℕ) (f : ℕ → E) (m : IsMonic r n f) (c : Places E T) (p : IsPlaces r n c) where
  abbrev pub embed_on : E → T
  embed_on b = c.pack (constant_at r b)

  pub embed-in : (b : E) → IsElem r b → c.is_elem (embed_on b) ≡ true
  embed-in b e = p.pack_in _ (constant-in r h commutes n f m c p b e)

  -- the coefficients of a constant
  pub place-embed : (b : E) → IsElem r b → (i : ℕ) → i < suc n → c.place (embed_on b) i ≡ constant_at r b i
  place-embed b e i l = p.place_pack (constant_at r b) i (constant-in r h commutes n f m c p b e) l

  -- a product with a constant scales each coefficient
  pub scale-is : (b : Element r) (x : Element (residue_ops r n f c)) (i : ℕ)
      → residue r n f (n + 1 + (n + 1)) (product r (c.place (embed_on b.0)) (c.place x.0)) i ≡ r.mul b.0 (c.place x.0 i)
  scale-is b x i =
      let R = elements h in
      let comm = commute_on r h commutes in
      let fs = modulus_on r h commutes n f m c p in
      let v = (value_on r h commutes n f m c p x).0 in
      product-is r h commutes n f m c p (embed_on b.0, embed-in b.0 b.1) x i
      ∙ ap (λ (u : Residue R n). (act R n fs (suc n) u.0 v i).0)
      (value-pack r h commutes n f m c p (constant_at r b.0) (constant-in r h commutes n f m c p b.0 b.1) (embed-in b.0 b.1)
      (constant_residue R (elements_set r h) comm n fs (has_top r h commutes n f m c p) b) (λ j l. constant-is r h b j))
      ∙ ap (λ y. y.0) (constant-act R comm n fs n b v i)

  pub place-scale : (b : E) (x : T) (i : ℕ) → IsElem r b → c.is_elem x ≡ true → i < suc n
      → c.place ((residue_ops r n f c).mul (embed_on b) x) i ≡ r.mul b (c.place x i)
  place-scale b x i e s l =
      p.place_pack _ i (product-in r h commutes n f m c p (embed_on b, embed-in b e) (x, s)) l ∙ scale-is (b, e) (x, s) i

  pub place-add : (x y : T) (i : ℕ) → c.is_elem x ≡ true → c.is_elem y ≡ true → i < suc n
      → c.place ((residue_ops r n f c).add x y) i ≡ r.add (c.place x i) (c.place y i)
  place-add x y i s t l = p.place_pack _ i (λ j. h.closed.add_in _ _ (p.place_in x j s) (p.place_in y j t)) l
