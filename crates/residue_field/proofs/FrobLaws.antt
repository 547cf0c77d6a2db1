-- The laws of the embedding of the constants, of the Frobenius and of the coordinates, for residues
-- without two nonzero ones that multiply to zero over any finite field of constants, in any storage.
use Rattle.std.proofs.Common.{◌≡◌, ℕ, suc, ◌*◌, ◌^◌, ◌<◌, ◌≤◌, refl, sym, ◌∙◌, ap, subst, pow-suc, one-mul, arith}
use native.Mathlib.Nat.{pow-zero}
use Rattle.ring_core.specs.Ring.{RingOps, IsRing, IsCommutative}
use Rattle.ring_core.specs.Field.{FrobOps, IsFrobField}
use Rattle.ring_core.specs.Coeffs.{coeff}
use Rattle.ring_core.specs.Powers.{power_of}
use Rattle.ring_core.proofs.Carrier.{elements}
use Rattle.ring_core.proofs.Twist.{image_of_zero}
use Rattle.ring_core.proofs.Coefficients.{elem_read}
use Rattle.finite_ring.specs.Finite.{HasNoPair}
use Rattle.finite_ring.proofs.PowerMaps.{IsPowerFrob}
use Rattle.finite_ring.proofs.Counted.{IsCounted, numbered}
use Rattle.finite_ring.proofs.Fermat.{count_large}
use Rattle.finite_ring.proofs.Frobenius.{IsFiniteField}
use Rattle.finite_ring.proofs.Embedding.{power_frob, field_above}
use Rattle.residue_field.specs.Residue.{constant_at, Places, residue_ops, HasFieldPowers}
use Rattle.residue_field.specs.steps.Stored.{IsMonic, IsPlaces}
use Rattle.residue_field.proofs.ResidueRing.{residue_ring, residue_commutes}
use Rattle.residue_field.proofs.Counted.{residue_counted}
use Rattle.residue_field.proofs.Embedded.{embed_on, place-add, place-scale}
use Rattle.residue_field.proofs.ResidueAlgebra.{residue_embedding}

-- What the residues have beside their operations, over q constants.
abbrev pub residue_frob : {E T : Type 0} → RingOps E → ℕ → (ℕ → E) → Places E T → ℕ → ℕ → FrobOps T E
residue_frob r n f c q degree = record {
  degree = degree;
  base_size = q;
  embed = λ b. c.pack (constant_at r b);
  frob = λ x i. power_of (residue_ops r n f c) x (q ^ i);
  coord = c.place;
  of_coords = λ list. c.pack (coeff r list);
}

module _ {E T : Type 0} (r : RingOps E) (h : IsRing r) (commutes : IsCommutative r) (n : ℕ) (f : ℕ → E) (m : IsMonic r n f) (c : Places E T) (p : IsPlaces r n c)
    (q : ℕ) (k : IsFiniteField (elements h) q) (degree : ℕ) (is : degree ≡ suc n) (no_pair : HasNoPair (residue_ops r n f c)) where
  counted_by_degree : (ring : IsRing (residue_ops r n f c)) → IsCounted (elements ring) (q ^ degree)
  counted_by_degree ring =
      subst (λ d. IsCounted (elements ring) (q ^ d)) (sym is) (residue_counted r h n f c p q k.counted ring)

  positive : 0 < degree
  positive = omega (arith, is)

  -- the residues are a finite field of their own
  pub residue_finite : (ring : IsRing (residue_ops r n f c)) → IsFiniteField (elements ring) (q ^ degree)
  residue_finite ring =
      field_above r h (residue_ops r n f c) ring (residue_commutes r h commutes n f m c p)
      (embed_on r h commutes n f m c p) (residue_embedding r h commutes n f m c p) q k degree positive (counted_by_degree ring) no_pair

  -- the laws of the power q and its repetitions
  power_laws : IsPowerFrob r (residue_ops r n f c) (embed_on r h commutes n f m c p) q degree
  power_laws =
      let ring = residue_ring r h commutes n f m c p in
      power_frob r h (residue_ops r n f c) ring (residue_commutes r h commutes n f m c p)
      (embed_on r h commutes n f m c p) (residue_embedding r h commutes n f m c p) q k degree positive (counted_by_degree ring) no_pair

  -- only zero has the power q zero, and only constants have the power q that they are
  pub residue_powers : HasFieldPowers r (residue_ops r n f c) (embed_on r h commutes n f m c p) q
  residue_powers =
      let t = residue_ops r n f c in
      let ring = residue_ring r h commutes n f m c p in
      let zero_in = ring.closed.zero_in in
      let w = power_laws in
      let once : q ^ 1 ≡ q = pow-suc q 0 ∙ ap (λ d. d * q) (pow-zero q) ∙ one-mul q in
      record {
        kernel = λ x e s.
            w.frob_inj x t.zero 1 e zero_in
            (ap (power_of t x) once ∙ s
            ∙ sym (image_of_zero t ring (λ y. power_of t y (q ^ 1)) (λ y d. w.frob_in y 1 d) (λ y z d g. w.frob_add y z 1 d g)));
        fixed = λ x e s. w.fixed x e (ap (power_of t x) once ∙ s);
      }

  pub residue_frob_field : degree ≤ 16 → IsFrobField (residue_ops r n f c) r (residue_frob r n f c q degree)
  residue_frob_field small =
      let e = residue_embedding r h commutes n f m c p in
      let w = power_laws in
      let low = λ (j : ℕ) (l : j < degree). subst (λ d. j < d) is l in
      record {
        degree_pos = positive;
        degree_small = small;
        base_size_min = count_large (elements h) k.comm q k.counted k.one_apart k.no_pair;
        base_numbered = numbered r h q k.counted;
        embed_in = e.embed_in;
        embed_add = e.embed_add;
        embed_mul = e.embed_mul;
        embed_inj = e.embed_inj;
        frob_power = λ x i e. refl;
        frob_in = w.frob_in;
        frob_zero = w.frob_zero;
        frob_plus = w.frob_plus;
        frob_add = w.frob_add;
        frob_mul = w.frob_mul;
        frob_inj = w.frob_inj;
        frob_embed = w.frob_embed;
        fixed = w.fixed;
        frob_degree = w.frob_degree;
        coord_in = λ x j s l. p.place_in x j s;
        coord_add = λ x y j s t l. place-add r h commutes n f m c p x y j s t (low j l);
        coord_scale = λ b x j s t l. place-scale r h commutes n f m c p b x j s t (low j l);
        coord_inj = λ x y s t same. p.place_inj x y s t (λ i l. same i (subst (λ d. i < d) (sym is) l));
        of_coords_in = λ list s l. p.pack_in _ (elem_read r list h.closed.zero_in s);
        of_coords_is = λ list j s l t. p.place_pack _ j (elem_read r list h.closed.zero_in s) (low j t);
      }
