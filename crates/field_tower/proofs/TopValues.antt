-- The elements of a top field as stored residues.
use Rattle.std.proofs.Common.{◌≡◌, ℕ, suc, ◌+◌, ◌-◌, ◌≤◌, true, List, length, refl, ap, ◌∙◌, arith}
use Rattle.ring_core.specs.Ring.{IsElem}
use Rattle.ring_core.specs.Coeffs.{coeff, are_elems, same_lists}
use Rattle.residue_field.specs.declared.TopElem.{TopElem}
use Rattle.residue_field.specs.declared.TheConstants.{WIDTH}
use Rattle.residue_field.specs.Residue.{constant_at, residue_ops, residue_letter}
use Rattle.residue_field.specs.TopElem.{top_places}
use Rattle.residue_field.specs.Base.{Base, ops_of}
use Rattle.residue_field.specs.Top.{Top, top_ops, ops_of_top, embed_of, from_coords, letter_of}
use Rattle.residue_field.proofs.BaseLaws.{base_ring}
use Rattle.residue_field.proofs.TopPlaces.{elems_of}
use Rattle.residue_field.proofs.TopLaws.{IsTopShape, top_shape_of}
use Rattle.field_tower.specs.steps.Places.{IsModulus, stored, stored_ops}
use Rattle.field_tower.proofs.Stored.{none_is}

-- What the operations of a top field are, as code computes them.
module _ (t : Top) where
  pub top-zero : stored (ops_of t.base) (t.n - 1) (constant_at (ops_of t.base) (ops_of t.base).zero) ≡ (ops_of_top t).zero
  unfolding top_ops stored
  top-zero = none_is (ops_of t.base) (t.n - 1)

  pub top-one : stored (ops_of t.base) (t.n - 1) (constant_at (ops_of t.base) (ops_of t.base).one) ≡ (ops_of_top t).one
  unfolding top_ops stored
  top-one = refl

  pub top-same : (a b : TopElem) → same_lists (ops_of t.base) a.0 b.0 ≡ (ops_of_top t).same a b
  unfolding top_ops
  top-same a b = refl

  pub top-is_elem : (a : TopElem) → (top_places (ops_of t.base) (t.n - 1)).is_elem a ≡ (ops_of_top t).is_elem a
  unfolding top_ops
  top-is_elem a = refl

  pub top-embed : (b : ℕ) → stored (ops_of t.base) (t.n - 1) (constant_at (ops_of t.base) b) ≡ embed_of t b
  unfolding embed_of stored
  top-embed b = refl

  pub top-coords : (list : List ℕ) → length list ≡ t.n → stored (ops_of t.base) (length list - 1) (coeff (ops_of t.base) list) ≡ from_coords t list
  unfolding from_coords stored
  top-coords list e = ap (λ n. stored (ops_of t.base) (n - 1) (coeff (ops_of t.base) list)) e

  pub top_elems : (a : TopElem) → IsElem (ops_of_top t) a → are_elems (ops_of t.base) a.0 ≡ true
  top_elems a e =
      elems_of (ops_of t.base) (base_ring t.base) (t.n - 1) (top_shape_of t).fits a (top-is_elem a ∙ e)

module _ (base : Base) (n : ℕ) (modulus : List ℕ) (len : length modulus ≡ n + 1) where
  -- the ring of stored residues is that of the top field
  pub stored-top : stored_ops (ops_of base) modulus ≡ top_ops base (n - 1) modulus
  unfolding stored_ops top_ops
  stored-top =
      let degree : length modulus - 2 ≡ n - 1 = omega arith in
      ap (λ d. residue_ops (ops_of base) d (coeff (ops_of base) modulus) (top_places (ops_of base) d)) degree

  pub letter-top : residue_letter (ops_of base) (length modulus - 2) (coeff (ops_of base) modulus) (top_places (ops_of base) (length modulus - 2))
      ≡ residue_letter (ops_of base) (n - 1) (coeff (ops_of base) modulus) (top_places (ops_of base) (n - 1))
  letter-top =
      let degree : length modulus - 2 ≡ n - 1 = omega arith in
      ap (λ d. residue_letter (ops_of base) d (coeff (ops_of base) modulus) (top_places (ops_of base) d)) degree

  pub shape_from : IsModulus (ops_of base) modulus → IsTopShape base (n - 1) modulus
  shape_from m =
      let large : 2 ≤ length modulus = m.degree in
      let small : length modulus ≤ WIDTH + 1 = m.room in
      let place : suc (n - 1) ≡ length modulus - 1 = omega arith in
      record {
        fits = omega arith;
        elems = m.elems;
        count = omega arith;
        top = ap (coeff (ops_of base) modulus) place ∙ m.monic;
      }

pub letter-of : (t : Top) → residue_letter (ops_of t.base) (t.n - 1) (coeff (ops_of t.base) t.modulus) (top_places (ops_of t.base) (t.n - 1)) ≡ letter_of t
unfolding letter_of
letter-of t = refl

-- from the fields of a value to the value
pub ops-inside : (s t : Top) → s ≡ t → (w : List ℕ) → w ≡ s.modulus → stored_ops (ops_of s.base) w ≡ ops_of_top t
ops-inside s t e w is =
    ap (stored_ops (ops_of s.base)) is ∙ stored-top s.base s.n s.modulus s.is_top.count ∙ ap ops_of_top e

pub letter-inside : (s t : Top) → s ≡ t → (w : List ℕ) → w ≡ s.modulus
    → residue_letter (ops_of s.base) (length w - 2) (coeff (ops_of s.base) w) (top_places (ops_of s.base) (length w - 2)) ≡ letter_of t
letter-inside s t e w is =
    ap (λ u. residue_letter (ops_of s.base) (length u - 2) (coeff (ops_of s.base) u) (top_places (ops_of s.base) (length u - 2))) is
    ∙ letter-top s.base s.n s.modulus s.is_top.count ∙ letter-of s ∙ ap letter_of e
