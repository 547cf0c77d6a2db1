-- The residues modulo a monic polynomial are an algebra over the constants: their coordinates are the
-- coefficients.
use Rattle.std.proofs.Common.{◌≡◌, ℕ, suc, ◌+◌, ◌-◌, ◌<◌, ◌≤◌, true, cond, nat_eq, List, length, refl, ap, ◌∙◌, arith}
use Rattle.ring_core.specs.Ring.{RingOps, IsElem, IsRing, IsCommutative}
use Rattle.ring_core.specs.Coeffs.{coeff, are_elems}
use Rattle.ring_core.specs.Powers.{power_of}
use Rattle.ring_core.proofs.Carrier.{elements}
use Rattle.ring_core.proofs.Coefficients.{elem_read, coeff_past}
use Rattle.finite_ring.specs.Finite.{HasNoPair}
use Rattle.finite_ring.proofs.Frobenius.{IsFiniteField}
use Rattle.finite_ring.proofs.PowerMaps.{IsEmbedding}
use Rattle.residue_field.specs.declared.TheConstants.{WIDTH}
use Rattle.residue_field.specs.Residue.{constant_at, Places, residue_ops}
use Rattle.residue_field.specs.Algebra.{IsAlgebra, residue_coords}
use Rattle.residue_field.specs.TopElem.{top_places}
use Rattle.residue_field.specs.steps.Stored.{residue_unit, IsMonic, IsPlaces}
use Rattle.residue_field.proofs.ResidueRing.{residue_ring, residue_commutes}
use Rattle.residue_field.proofs.Embedded.{embed_on, embed-in, place-embed, place-add, place-scale}
use Rattle.residue_field.proofs.Counted.{residue_coordinates}
use Rattle.residue_field.proofs.AlgebraLaws.{unit_in, coord_unit, algebra_embedding, algebra_accepted}
use Rattle.residue_field.proofs.TopPlaces.{top_stores}

module _ {E T : Type 0} (r : RingOps E) (h : IsRing r) (commutes : IsCommutative r) (n : ℕ) (f : ℕ → E) (m : IsMonic r n f) (c : Places E T) (p : IsPlaces r n c) where
  pub residue_algebra : IsAlgebra r (residue_ops r n f c) (residue_coords r n c)
  residue_algebra = record {
    ring = residue_ring r h commutes n f m c p;
    commutes = residue_commutes r h commutes n f m c p;
    positive = omega arith;
    coordinates = residue_coordinates r h n f c p;
    coord_add = place-add r h commutes n f m c p;
    coord_scale = place-scale r h commutes n f m c p;
    embed_in = embed-in r h commutes n f m c p;
    embed_one = refl;
    coord_embed = λ b i e l. place-embed r h commutes n f m c p b e i l;
  }

  pub unit-in : (j : ℕ) → c.is_elem (residue_unit r c j) ≡ true
  unit-in = unit_in r h (residue_ops r n f c) (residue_coords r n c) residue_algebra

  pub place-unit : (j i : ℕ) → i < suc n → c.place (residue_unit r c j) i ≡ cond (nat_eq j i) r.one r.zero
  place-unit = coord_unit r h (residue_ops r n f c) (residue_coords r n c) residue_algebra

  -- the constants within their residues: a one to one map of rings
  pub residue_embedding : IsEmbedding r (residue_ops r n f c) (embed_on r h commutes n f m c p)
  residue_embedding = algebra_embedding r h (residue_ops r n f c) (residue_coords r n c) residue_algebra

  -- Where only zero has the power q zero, and the power q fixes only constants, no two nonzero residues
  -- multiply to zero.
  pub residue_accepted : (q : ℕ) → IsFiniteField (elements h) q
      → ((x : T) → c.is_elem x ≡ true → power_of (residue_ops r n f c) x q ≡ (residue_ops r n f c).zero → x ≡ (residue_ops r n f c).zero)
      → ((x : T) → c.is_elem x ≡ true → power_of (residue_ops r n f c) x q ≡ x → (b : E) × IsElem r b × (x ≡ c.pack (constant_at r b)))
      → HasNoPair (residue_ops r n f c)
  residue_accepted q k = algebra_accepted r h (residue_ops r n f c) (residue_coords r n c) residue_algebra q k

-- A list of coefficients as the modulus.
module _ (r : RingOps ℕ) (h : IsRing r) (commutes : IsCommutative r) (modulus : List ℕ) (degree : 2 ≤ length modulus) (room : length modulus ≤ WIDTH + 1)
    (elems : are_elems r modulus ≡ true) (top : coeff r modulus (length modulus - 1) ≡ r.one) where
  monic : IsMonic r (length modulus - 2) (coeff r modulus)
  monic =
      let place : suc (length modulus - 2) ≡ length modulus - 1 = omega arith in
      record {
        coeff_in = elem_read r modulus h.closed.zero_in elems;
        top = ap (coeff r modulus) place ∙ top;
        past = λ i (l : suc (length modulus - 2) < i). coeff_past r modulus i (omega arith);
      }

  pub modulo_algebra : IsAlgebra r (residue_ops r (length modulus - 2) (coeff r modulus) (top_places r (length modulus - 2))) (residue_coords r (length modulus - 2) (top_places r (length modulus - 2)))
  modulo_algebra =
      residue_algebra r h commutes (length modulus - 2) (coeff r modulus) monic (top_places r (length modulus - 2))
      (top_stores r h (length modulus - 2) (omega arith))
