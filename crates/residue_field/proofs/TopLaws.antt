-- Top fields are fields. The laws of the ring hold for every monic modulus; that no two nonzero residues
-- multiply to zero gives the field.
use Rattle.std.proofs.Common.{◌≡◌, ℕ, suc, ◌+◌, ◌-◌, ◌^◌, ◌<◌, ◌≤◌, List, length, true, sym, ap, subst, ◌∙◌, arith}
use Rattle.ring_core.specs.Ring.{IsRing, IsNumbered}
use Rattle.ring_core.specs.Field.{IsField}
use Rattle.ring_core.specs.Coeffs.{coeff, are_elems}
use Rattle.ring_core.proofs.Carrier.{elements}
use Rattle.ring_core.proofs.Coefficients.{elem_read, coeff_past}
use Rattle.finite_ring.specs.Finite.{HasNoPair, inverse_by_power}
use Rattle.finite_ring.proofs.Counted.{IsCounted, numbered}
use Rattle.residue_field.specs.Sizes.{most_places}
use Rattle.residue_field.specs.steps.Stored.{IsMonic, IsPlaces}
use Rattle.residue_field.specs.Base.{Base, ops_of, size_of}
use Rattle.residue_field.specs.TopElem.{top_places}
use Rattle.residue_field.specs.Top.{Top, top_ops, ops_of_top, inverse_of_top}
use Rattle.residue_field.proofs.TopPlaces.{top_stores}
use Rattle.residue_field.proofs.ResidueRing.{residue_ring}
use Rattle.residue_field.proofs.Counted.{residue_counted, residue_field}
use Rattle.residue_field.proofs.BaseLaws.{base_ring, base_commutes, base_one, base_counted}

-- The data of a top field of degree n + 1, before it is known that no two nonzero residues multiply to zero.
pub record IsTopShape (base : Base) (n : ℕ) (modulus : List ℕ) : Type 0 where
  pub fits : suc n ≤ most_places
  pub elems : are_elems (ops_of base) modulus ≡ true
  pub count : length modulus ≡ suc n + 1
  pub top : coeff (ops_of base) modulus (suc n) ≡ (ops_of base).one

module _ (base : Base) (n : ℕ) (modulus : List ℕ) (shape : IsTopShape base n modulus) where
  pub top_monic : IsMonic (ops_of base) n (coeff (ops_of base) modulus)
  top_monic = record {
    coeff_in = elem_read (ops_of base) modulus (base_ring base).closed.zero_in shape.elems;
    top = shape.top;
    past = λ i l.
        let count : length modulus ≡ suc n + 1 = shape.count in
        coeff_past (ops_of base) modulus i (omega arith);
  }

  pub top_stored : IsPlaces (ops_of base) n (top_places (ops_of base) n)
  top_stored = top_stores (ops_of base) (base_ring base) n shape.fits

  pub top_shape_ring : IsRing (top_ops base n modulus)
  unfolding top_ops
  top_shape_ring = residue_ring (ops_of base) (base_ring base) (base_commutes base) n _ top_monic (top_places (ops_of base) n) top_stored

  pub top_shape_counted : (ring : IsRing (top_ops base n modulus)) → IsCounted (elements ring) (size_of base ^ suc n)
  unfolding top_ops
  top_shape_counted =
      residue_counted (ops_of base) (base_ring base) n _ (top_places (ops_of base) n) top_stored (size_of base) (base_counted base (base_ring base))

  pub top_shape_field : HasNoPair (top_ops base n modulus) → IsField (top_ops base n modulus) (inverse_by_power (top_ops base n modulus) (size_of base ^ suc n))
  unfolding top_ops
  top_shape_field =
      residue_field (ops_of base) (base_ring base) (base_commutes base) n _ top_monic (top_places (ops_of base) n) top_stored
      (size_of base) (base_counted base (base_ring base)) (base_one base)

pub top_degree : (t : Top) → suc (t.n - 1) ≡ t.n
top_degree t = let positive : 0 < t.n = t.is_top.positive in omega arith

pub top_shape_of : (t : Top) → IsTopShape t.base (t.n - 1) t.modulus
top_shape_of t = record {
  fits = subst (λ m. m ≤ most_places) (sym (top_degree t)) t.is_top.fits;
  elems = t.is_top.elems;
  count = t.is_top.count ∙ ap (λ m. m + 1) (sym (top_degree t));
  top = ap (coeff (ops_of t.base) t.modulus) (top_degree t) ∙ t.is_top.top;
}

pub top_ring : (t : Top) → IsRing (ops_of_top t)
top_ring t = top_shape_ring t.base (t.n - 1) t.modulus (top_shape_of t)

pub top_numbered : (t : Top) → IsNumbered (ops_of_top t) (size_of t.base ^ t.n)
top_numbered t =
    subst (λ m. IsNumbered (ops_of_top t) (size_of t.base ^ m)) (top_degree t)
    (numbered (ops_of_top t) (top_ring t) (size_of t.base ^ suc (t.n - 1))
    (top_shape_counted t.base (t.n - 1) t.modulus (top_shape_of t) (top_ring t)))

pub top_field : (t : Top) → IsField (ops_of_top t) (inverse_of_top t)
top_field t =
    subst (λ m. IsField (ops_of_top t) (inverse_by_power (ops_of_top t) (size_of t.base ^ m))) (top_degree t)
    (top_shape_field t.base (t.n - 1) t.modulus (top_shape_of t) t.is_top.no_pair)
