-- The norm of an element of a top field, and the inverse from it.
use Rattle.std.proofs.Common.{◌≡◌, ℕ, suc, ◌+◌, ◌-◌, ◌≤◌, inl, inr, Some, None, MatchOption, List, length, slice_index_or, sym, ap, subst, ◌∙◌, arith, eqb-true}
use Rattle.std.proofs.lemmas.Bool.{and_parts, cases_lt}
use Rattle.ring_core.specs.Ring.{IsElem}
use Rattle.ring_core.specs.Coeffs.{coeff}
use Rattle.ring_core.proofs.Carrier.{elements, mul_zero}
use Rattle.residue_field.specs.declared.TopElem.{TopElem}
use Rattle.residue_field.specs.declared.TheConstants.{WIDTH}
use Rattle.residue_field.specs.Residue.{constant_at}
use Rattle.residue_field.specs.Base.{ops_of, inverse_of}
use Rattle.residue_field.specs.Top.{Top, ops_of_top, inverse_of_top, embed_of, frob_of_top}
use Rattle.residue_field.proofs.BaseLaws.{base_ring, base_field}
use Rattle.residue_field.proofs.TopLaws.{top_field, top_stored, top_shape_of, top_degree}
use Rattle.residue_field.proofs.TopFrob.{top_frob_field}
use Rattle.residue_field.proofs.TopPlaces.{same_by_coeff}
use Rattle.field_tower.specs.steps.Norm.{conjugate_product}
use Rattle.field_tower.proofs.BaseValues.{base-zero}
use Rattle.field_tower.proofs.Shifts.{constant_at_in}
use Rattle.field_tower.proofs.Stored.{top_elem}
use Rattle.field_tower.proofs.TopValues.{top-embed, top-one, top-zero, top-is_elem}
use Rattle.field_tower.proofs.Norm.{norm_is, norm_none, norm_some}

module _ (t : Top) where
  embed_place : (b : ℕ) → IsElem (ops_of t.base) b → coeff (ops_of t.base) (embed_of t b).0 0 ≡ b
  unfolding embed_of
  embed_place b e =
      (top_stored t.base (t.n - 1) t.modulus (top_shape_of t)).place_pack (constant_at (ops_of t.base) b) 0 (constant_at_in (ops_of t.base) (base_ring t.base) b e) (omega arith)

  embed_one : embed_of t (ops_of t.base).one ≡ (ops_of_top t).one
  embed_one = sym (top-embed t (ops_of t.base).one) ∙ top-one t

  embed_zero : embed_of t (ops_of t.base).zero ≡ (ops_of_top t).zero
  embed_zero = sym (top-embed t (ops_of t.base).zero) ∙ top-zero t

  -- the coefficient at 0, as code reads it
  pub place_none : (x : TopElem) → slice_index_or x.0 0 0 ≡ coeff (ops_of t.base) x.0 0
  place_none x = ap (slice_index_or x.0 0) (sym (base-zero t.base.p (t.base.s - 1) t.base.modulus))

  -- a product by a constant, place by place
  pub scaled_is : (a : TopElem) (d : ℕ) → IsElem (ops_of_top t) a → IsElem (ops_of t.base) d → (before after : List ℕ) → length after ≡ WIDTH
      → ((i : ℕ) → coeff (ops_of t.base) before i ≡ (ops_of t.base).zero)
      → ((i : ℕ) → coeff (ops_of t.base) after (0 + i) ≡ (ops_of t.base).add (coeff (ops_of t.base) before (0 + i)) ((ops_of t.base).mul d (coeff (ops_of t.base) a.0 i)))
      → top_elem after ≡ (ops_of_top t).mul a (embed_of t d)
  scaled_is a d p q before after len none added =
      let r = ops_of t.base in
      let ring = base_ring t.base in
      let laws = top_frob_field t in
      let field = top_field t in
      let places = top_stored t.base (t.n - 1) t.modulus (top_shape_of t) in
      let c_in = laws.embed_in d q in
      let x = (ops_of_top t).mul a (embed_of t d) in
      let a_stored = top-is_elem t a ∙ p in
      let x_stored = top-is_elem t x ∙ field.ring.closed.mul_in a (embed_of t d) p c_in in
      let at : (i : ℕ) → coeff r after i ≡ r.mul d (coeff r a.0 i) =
      λ i.
      let same : i ≡ 0 + i = omega arith in
      ap (coeff r after) same ∙ added i ∙ ap (λ y. r.add y (r.mul d (coeff r a.0 i))) (none (0 + i))
      ∙ ring.zero_add _ (ring.closed.mul_in d _ q (places.place_in a i a_stored)) in
      ap top_elem (same_by_coeff r after x.0 (len ∙ sym (eqb-true _ _ (and_parts _ _ x_stored).0)) (λ i. elim (cases_lt i t.n) [
        | inl l ↦ at i ∙ sym (laws.coord_scale d a i q p l) ∙ ap (λ y. coeff r y.0 i) (field.mul_comm (embed_of t d) a c_in p)
        | inr l ↦
            let past : suc (t.n - 1) ≤ i = omega (arith, top_degree t) in
            at i ∙ ap (r.mul d) (places.place_past a i a_stored past)
            ∙ ap (λ y. y.0) (mul_zero (elements ring) (d, q)) ∙ sym (places.place_past x i x_stored past)
      ]))

  module _ (a : TopElem) (p : IsElem (ops_of_top t) a) where
    -- the product of the other conjugates and the norm, as code makes them
    module _ (n : ℕ) (degree : n ≡ t.n) (others x : TopElem) (are : others ≡ conjugate_product (ops_of_top t) (frob_of_top t) a (n - 1)) (is : x ≡ (ops_of_top t).mul others a) where
      others_are : others ≡ conjugate_product (ops_of_top t) (frob_of_top t) a (t.n - 1)
      others_are = are ∙ ap (λ k. conjugate_product (ops_of_top t) (frob_of_top t) a (k - 1)) degree

      norm : x ≡ (ops_of_top t).mul (conjugate_product (ops_of_top t) (frob_of_top t) a (t.n - 1)) a
      norm = is ∙ ap (λ y. (ops_of_top t).mul y a) others_are

      norm_parts : (d : ℕ) → d ≡ coeff (ops_of t.base) x.0 0 → IsElem (ops_of t.base) d × (x ≡ embed_of t d)
      norm_parts d e =
          let constant = norm_is (ops_of_top t) (inverse_of_top t) (ops_of t.base) (frob_of_top t) (top_field t) (top_frob_field t) a p (t.n - 1) (top_degree t) in
          let same : constant.0 ≡ d = sym (embed_place constant.0 constant.1) ∙ ap (λ y. coeff (ops_of t.base) y.0 0) (sym (norm ∙ constant.2)) ∙ sym e in
          (subst (IsElem (ops_of t.base)) same constant.1, norm ∙ constant.2 ∙ ap (embed_of t) same)

      pub norm_in : (d : ℕ) → d ≡ coeff (ops_of t.base) x.0 0 → IsElem (ops_of t.base) d
      norm_in d e = (norm_parts d e).0

      pub inverse_of_zero : (d : ℕ) → d ≡ coeff (ops_of t.base) x.0 0 → inverse_of t.base d ≡ None → None ≡ inverse_of_top t a
      inverse_of_zero d e none =
          let parts = norm_parts d e in
          let zero : d ≡ (ops_of t.base).zero =
          subst (λ o. MatchOption o (d ≡ (ops_of t.base).zero) (λ b. IsElem (ops_of t.base) b × ((ops_of t.base).mul d b ≡ (ops_of t.base).one))) none
          ((base_field t.base).inv_is d parts.0) in
          norm_none (ops_of_top t) (inverse_of_top t) (ops_of t.base) (frob_of_top t) (top_field t) (top_frob_field t) a p (t.n - 1)
          (sym norm ∙ parts.1 ∙ ap (embed_of t) zero ∙ embed_zero)

      base_inverse : (d b : ℕ) → d ≡ coeff (ops_of t.base) x.0 0 → inverse_of t.base d ≡ Some b → IsElem (ops_of t.base) b × ((ops_of t.base).mul d b ≡ (ops_of t.base).one)
      base_inverse d b e some =
          subst (λ o. MatchOption o (d ≡ (ops_of t.base).zero) (λ b. IsElem (ops_of t.base) b × ((ops_of t.base).mul d b ≡ (ops_of t.base).one))) some
          ((base_field t.base).inv_is d (norm_parts d e).0)

      pub inverse_in : (d b : ℕ) → d ≡ coeff (ops_of t.base) x.0 0 → inverse_of t.base d ≡ Some b → IsElem (ops_of t.base) b
      inverse_in d b e some = (base_inverse d b e some).0

      pub inverse_by_norm : (d b : ℕ) → d ≡ coeff (ops_of t.base) x.0 0 → inverse_of t.base d ≡ Some b
          → Some ((ops_of_top t).mul others (embed_of t b)) ≡ inverse_of_top t a
      inverse_by_norm d b e some =
          let parts = norm_parts d e in
          let inverse = base_inverse d b e some in
          ap (λ y. Some ((ops_of_top t).mul y (embed_of t b))) others_are
          ∙ norm_some (ops_of_top t) (inverse_of_top t) (ops_of t.base) (frob_of_top t) (top_field t) (top_frob_field t) a p (t.n - 1) d b
          embed_one parts.0 inverse.0 (sym norm ∙ parts.1) inverse.1
