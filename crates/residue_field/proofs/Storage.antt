-- Residues of the same constants and modulus in two storages: where the one has two nonzero residues that
-- multiply to zero, so does the other.
use Rattle.std.proofs.Common.{◌≡◌, ◌≢◌, inl, inr, ℕ, suc, ◌+◌, ◌<◌, true, sym, ap, ap₂, ◌∙◌}
use Rattle.std.proofs.lemmas.Bool.{cases_lt}
use mathlib.Core.Path.{fun_ext}
use Rattle.ring_core.specs.Ring.{RingOps, IsElem, IsRing, IsCommutative}
use Rattle.finite_ring.specs.Finite.{HasNoPair}
use Rattle.residue_field.specs.Residue.{residue, product, Places, residue_ops}
use Rattle.residue_field.specs.steps.Stored.{IsMonic, IsPlaces}
use Rattle.residue_field.proofs.ResidueRing.{product-in}

-- what is stored as zero
module _ {E T : Type 0} (r : RingOps E) (z : IsElem r r.zero) (n : ℕ) (c : Places E T) (p : IsPlaces r n c) (g : ℕ → E) (g_in : (i : ℕ) → IsElem r (g i)) where
  pub zeros_stored : ((i : ℕ) → i < suc n → g i ≡ r.zero) → c.pack g ≡ c.pack (λ i. r.zero)
  zeros_stored e =
      p.place_inj _ _ (p.pack_in g g_in) (p.pack_in _ (λ i. z)) (λ i l.
      p.place_pack g i g_in l ∙ e i l ∙ sym (p.place_pack (λ j. r.zero) i (λ j. z) l))

  pub stored_zeros : c.pack g ≡ c.pack (λ i. r.zero) → (i : ℕ) → i < suc n → g i ≡ r.zero
  stored_zeros e i l =
      sym (p.place_pack g i g_in l) ∙ ap (λ t. c.place t i) e ∙ p.place_pack (λ j. r.zero) i (λ j. z) l

module _ {E T U : Type 0} (r : RingOps E) (h : IsRing r) (commutes : IsCommutative r) (n : ℕ) (f : ℕ → E) (m : IsMonic r n f)
    (c : Places E T) (p : IsPlaces r n c) (d : Places E U) (s : IsPlaces r n d) where
  -- a residue in the other storage
  abbrev pub moved : T → U
  moved t = d.pack (c.place t)

  pub moved_in : (t : T) → c.is_elem t ≡ true → d.is_elem (moved t) ≡ true
  moved_in t e = s.pack_in (c.place t) (λ i. p.place_in t i e)

  moved_place : (t : T) → c.is_elem t ≡ true → (i : ℕ) → d.place (moved t) i ≡ c.place t i
  moved_place t e i =
      elim (cases_lt i (suc n)) [
        | inl l ↦ s.place_pack (c.place t) i (λ j. p.place_in t j e) l
        | inr l ↦ s.place_past (moved t) i (moved_in t e) l ∙ sym (p.place_past t i e l)
      ]

  pub moved_nonzero : (t : T) → c.is_elem t ≡ true → t ≢ (residue_ops r n f c).zero → moved t ≢ (residue_ops r n f d).zero
  moved_nonzero t e ne same =
      let z = h.closed.zero_in in
      ne (p.place_inj t _ e (p.pack_in _ (λ i. z)) (λ i l.
      stored_zeros r z n d s (c.place t) (λ j. p.place_in t j e) same i l ∙ sym (p.place_pack (λ j. r.zero) i (λ j. z) l)))

  pub moved_product : (a b : T) → c.is_elem a ≡ true → c.is_elem b ≡ true → (residue_ops r n f c).mul a b ≡ (residue_ops r n f c).zero
      → (residue_ops r n f d).mul (moved a) (moved b) ≡ (residue_ops r n f d).zero
  moved_product a b e k zero =
      let z = h.closed.zero_in in
      let g = residue r n f (n + 1 + (n + 1)) (product r (c.place a) (c.place b)) in
      let g_in = product-in r h commutes n f m c p (a, e) (b, k) in
      ap₂ (λ u v. d.pack (residue r n f (n + 1 + (n + 1)) (product r u v))) (fun_ext (moved_place a e)) (fun_ext (moved_place b k))
      ∙ zeros_stored r z n d s g g_in (stored_zeros r z n c p g g_in zero)

-- no pair in the one storage, none in the other
pub no_pair_moved : {E T U : Type 0} (r : RingOps E) (h : IsRing r) → IsCommutative r → (n : ℕ) (f : ℕ → E) → IsMonic r n f
    → (c : Places E T) → IsPlaces r n c → (d : Places E U) → IsPlaces r n d → HasNoPair (residue_ops r n f c) → HasNoPair (residue_ops r n f d)
no_pair_moved r h commutes n f m c p d s none a b e k na nb zero =
    none (moved r h commutes n f m d s c p a) (moved r h commutes n f m d s c p b) (moved_in r h commutes n f m d s c p a e) (moved_in r h commutes n f m d s c p b k)
    (moved_nonzero r h commutes n f m d s c p a e na) (moved_nonzero r h commutes n f m d s c p b k nb) (moved_product r h commutes n f m d s c p a b e k zero)
