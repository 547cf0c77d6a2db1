-- Top fields with their Frobenius.
use Rattle.std.proofs.Common.{◌≡◌, ◌↔◌, ℕ, suc, ◌-◌, ◌<◌, ◌≤◌, List, sym, refl, ap, subst, ◌∙◌, arith}
use Rattle.ring_core.specs.Ring.{IsElem}
use Rattle.ring_core.specs.Field.{IsFrobField}
use Rattle.ring_core.specs.Coeffs.{coeff, sum_below}
use Rattle.residue_field.specs.declared.TopElem.{TopElem}
use Rattle.residue_field.specs.Sizes.{most_places}
use Rattle.finite_ring.specs.Finite.{HasNoPair}
use Rattle.residue_field.specs.Residue.{constant_at, HasFieldPowers}
use Rattle.residue_field.specs.Algebra.{residue_coords}
use Rattle.residue_field.specs.steps.Stored.{residue_unit}
use Rattle.residue_field.specs.Base.{Base, ops_of, size_of}
use Rattle.residue_field.specs.TopElem.{top_places}
use Rattle.residue_field.specs.Top.{Top, top_ops, ops_of_top, embed_of, from_coords, frob_of_top}
use Rattle.residue_field.proofs.BaseLaws.{base_ring, base_commutes}
use Rattle.residue_field.proofs.BaseFinite.{base_finite}
use Rattle.residue_field.proofs.TopLaws.{IsTopShape, top_monic, top_stored, top_degree, top_shape_of}
use Rattle.residue_field.proofs.AlgebraLaws.{linear_coords}
use Rattle.residue_field.proofs.ResidueAlgebra.{residue_algebra, residue_accepted}
use Rattle.residue_field.proofs.FrobLaws.{residue_frob_field, residue_powers}

pub top_frob_field : (t : Top) → IsFrobField (ops_of_top t) (ops_of t.base) (frob_of_top t)
unfolding top_ops embed_of from_coords
top_frob_field t =
    let shape = top_shape_of t in
    let n = t.n - 1 in
    let fits : t.n ≤ most_places = t.is_top.fits in
    residue_frob_field (ops_of t.base) (base_ring t.base) (base_commutes t.base) n _ (top_monic t.base n t.modulus shape)
    (top_places (ops_of t.base) n) (top_stored t.base n t.modulus shape) (size_of t.base) (base_finite t.base (base_ring t.base))
    t.n (sym (top_degree t)) t.is_top.no_pair (omega arith)

-- Residues are a field exactly where the powers by the number of constants are as in one.
pub top_accepted : (base : Base) (n : ℕ) (modulus : List ℕ) → IsTopShape base n modulus
    → HasNoPair (top_ops base n modulus)
    ↔ HasFieldPowers (ops_of base) (top_ops base n modulus) (λ b. (top_places (ops_of base) n).pack (constant_at (ops_of base) b)) (size_of base)
unfolding top_ops
top_accepted base n modulus shape =
    let r = ops_of base in
    let ring = base_ring base in
    let comm = base_commutes base in
    let monic = top_monic base n modulus shape in
    let stored = top_stored base n modulus shape in
    let constants = base_finite base ring in (
      (λ no_pair. residue_powers r ring comm n _ monic (top_places r n) stored (size_of base) constants (suc n) refl no_pair),
      (λ w. residue_accepted r ring comm n _ monic (top_places r n) stored (size_of base) constants w.kernel w.fixed),
    )

-- The Frobenius by coefficients: that of x is the combination of those of the powers of the letter.
pub frob_places : (t : Top) (x : TopElem) (i l : ℕ) → IsElem (ops_of_top t) x → l < t.n
    → coeff (ops_of t.base) ((frob_of_top t).frob x i).0 l
    ≡ sum_below (ops_of t.base) t.n (λ j. (ops_of t.base).mul (coeff (ops_of t.base) x.0 j)
    (coeff (ops_of t.base) ((frob_of_top t).frob (residue_unit (ops_of t.base) (top_places (ops_of t.base) (t.n - 1)) j) i).0 l))
unfolding top_ops embed_of from_coords
frob_places t x i l e low =
    let shape = top_shape_of t in
    let n = t.n - 1 in
    let laws = top_frob_field t in
    let frob = (frob_of_top t).frob in
    let r = ops_of t.base in
    let law = residue_algebra r (base_ring t.base) (base_commutes t.base) n (coeff r t.modulus) (top_monic t.base n t.modulus shape) (top_places r n) (top_stored t.base n t.modulus shape) in
    linear_coords r (base_ring t.base) _ (residue_coords r n (top_places r n)) law (λ y. frob y i)
    (record {
      map_in = λ y d. laws.frob_in y i d;
      map_add = λ y z d g. laws.frob_add y z i d g;
      map_scale = λ b y d g.
          laws.frob_mul (embed_of t b) y i (laws.embed_in b d) g
          ∙ ap (λ z. (ops_of_top t).mul z (frob y i)) (laws.frob_embed b i d);
    })
    x l e (subst (λ d. l < d) (sym (top_degree t)) low)
    ∙ ap (λ d. sum_below (ops_of t.base) d (λ j. (ops_of t.base).mul (coeff (ops_of t.base) x.0 j) (coeff (ops_of t.base) (frob (residue_unit (ops_of t.base) (top_places (ops_of t.base) n) j) i).0 l))) (top_degree t)
