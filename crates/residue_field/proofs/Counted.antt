-- Over q constants there are q^(n + 1) residues, so without two nonzero ones that multiply to zero they
-- are a field.
use Rattle.std.proofs.Common.{◌≢◌, ℕ, suc, ◌^◌}
use Rattle.ring_core.specs.Ring.{RingOps, IsRing, IsCommutative}
use Rattle.ring_core.specs.Field.{IsField}
use Rattle.ring_core.proofs.Carrier.{elements}
use Rattle.finite_ring.specs.Finite.{HasNoPair, inverse_by_power}
use Rattle.finite_ring.proofs.Counted.{IsCounted}
use Rattle.finite_ring.proofs.FieldOf.{finite_field}
use Rattle.residue_field.specs.Residue.{Places, residue_ops}
use Rattle.residue_field.specs.Algebra.{AreCoordinates, residue_coords}
use Rattle.residue_field.specs.steps.Stored.{IsMonic, IsPlaces}
use Rattle.residue_field.proofs.ResidueRing.{residue_ring, residue_commutes, residue_one}
use Rattle.residue_field.proofs.AlgebraLaws.{algebra_counted}

module _ {E T : Type 0} (r : RingOps E) (h : IsRing r) (n : ℕ) (f : ℕ → E) (c : Places E T) (p : IsPlaces r n c) where
  -- residues are told by their coefficients
  pub residue_coordinates : AreCoordinates r (residue_ops r n f c) (residue_coords r n c)
  residue_coordinates = record {
    coord_in = p.place_in;
    of_coords_in = p.pack_in;
    coord_of_coords = p.place_pack;
    coord_zero = λ i l. p.place_pack (λ j. r.zero) i (λ j. h.closed.zero_in) l;
    coord_inj = p.place_inj;
  }

  pub residue_counted : (q : ℕ) → IsCounted (elements h) q → (ring : IsRing (residue_ops r n f c)) → IsCounted (elements ring) (q ^ suc n)
  residue_counted q fin = algebra_counted r h (residue_ops r n f c) (residue_coords r n c) residue_coordinates q fin

module _ {E T : Type 0} (r : RingOps E) (h : IsRing r) (commutes : IsCommutative r) (n : ℕ) (f : ℕ → E) (m : IsMonic r n f) (c : Places E T) (p : IsPlaces r n c)
    (q : ℕ) (fin : IsCounted (elements h) q) (ne : r.one ≢ r.zero) where
  pub residue_field : HasNoPair (residue_ops r n f c) → IsField (residue_ops r n f c) (inverse_by_power (residue_ops r n f c) (q ^ suc n))
  residue_field no_pair =
      let ring = residue_ring r h commutes n f m c p in
      finite_field (residue_ops r n f c) ring (residue_commutes r h commutes n f m c p) (q ^ suc n)
      (residue_counted r h n f c p q fin ring) (residue_one r h commutes n f m c p ne) no_pair
