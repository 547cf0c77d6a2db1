-- The least relation of Frobenius, from a basis of the relations between the coordinates of its powers.
use Rattle.std.proofs.Common.{◌≡◌, ℕ, suc, ◌-◌, ◌*◌, ◌<◌, ◌≤◌, Option, true, List, length, refl, sym, ◌∙◌, ap, arith}
use Rattle.ring_core.specs.Ring.{RingOps, IsRing}
use Rattle.ring_core.specs.Field.{IsField, FrobOps, IsFrobField}
use Rattle.ring_core.specs.Coeffs.{coeff}
use Rattle.ring_core.specs.Twisted.{twisted_ops}
use Rattle.ring_core.proofs.Carrier.{RingOn, Element, same_element}
use Rattle.ring_core.proofs.Coefficients.{coeff_past, elem_read}
use Rattle.ring_core.proofs.ListRing.{poly_ring}
use Rattle.linear_algebra.specs.Linear.{row_at, entry, is_row, are_rows}
use Rattle.linear_algebra.proofs.Sums.{combine}
use Rattle.relation_theory.proofs.FirstDependence.{too_many}
use Rattle.linear_algebra.proofs.RowLists.{rows_at, row_len, row_elems}
use Rattle.poly_reduce.specs.Matrices.{IsRelationRow, IsRowBasis}
use Rattle.frobenius_rel.proofs.Values.{value_is}
use Rattle.relation_theory.proofs.Relations.{IsRel}
use Rattle.relation_theory.proofs.PolyEuclid.{polys, poly_euclidean}
use Rattle.relation_theory.proofs.Euclid.{domain, unit_size}
use Rattle.relation_theory.proofs.Least.{IsLeast, least_is_monic}
use Rattle.relation_theory.proofs.Bases.{IsBasisOfRelations, least_of_basis}
use Rattle.frobenius_rel.proofs.ListBases.{basis_rows, is_basis_for}
use Rattle.finite_ring.proofs.Powers.{power}
use Rattle.relation_theory.proofs.PowerRelations.{power_sum, IsCoordinates, power_rows, power_rows_is, power_rows_past, moves, value_zero, least_long, least_none}
use Rattle.frobenius_rel.specs.steps.FirstRelation.{IsFirstRelation}
use Rattle.motive_coords.proofs.Ores.{twisted}
use Rattle.motive_coords.proofs.OverT.{acting, coordinate_row, frob_of, coordinates}

module _ {E B : Type 0} (r : RingOps E) (inv : E → Option E) (base : RingOps B) (binv : B → Option B) (f : FrobOps E B)
    (k : IsField r inv) (kb : IsField base binv) (l : IsFrobField r base f)
    (b : Element (twisted_ops r f.frob)) (d : ℕ) (degree : length b.0 ≡ suc d) (pos : 1 ≤ d) where
  abbrev pub S : RingOn (Element (twisted_ops r f.frob))
  S = twisted r inv base f k l

  abbrev pub A : RingOn (Element (twisted_ops base (λ c i. c)))
  A = polys base binv kb

  abbrev pub acts : Element (twisted_ops base (λ c i. c)) → Element (twisted_ops r f.frob)
  acts = acting r inv base binv f k kb l b d degree pos

  abbrev pub x : Element (twisted_ops r f.frob)
  x = frob_of r inv base binv f k kb l b d degree pos

  abbrev pub rows : Element (twisted_ops r f.frob) → ℕ → Element (twisted_ops base (λ c i. c))
  rows = coordinate_row r inv base binv f k kb l b d degree pos

  abbrev pub are_coordinates : IsCoordinates S A acts x (d * f.degree) rows
  are_coordinates = coordinates r inv base binv f k kb l b d degree pos

  -- the coordinates of the first `n` powers of Frobenius, as a list of rows
  pub record ArePowerRows (n : ℕ) (list : List (List (List B))) : Type 0 where
    pub count : length list ≡ n
    pub is : (i : ℕ) → i < n → (j : ℕ) → entry (twisted_ops base (λ c i. c)) list i j ≡ (power_rows S A acts x (d * f.degree) rows are_coordinates i j).0

  pub row_is : (n i j : ℕ) → i ≡ n → (rows (power S x n) j).0 ≡ (power_rows S A acts x (d * f.degree) rows are_coordinates i j).0
  row_is n i j e =
      ap (λ (t : Element (twisted_ops base (λ c i. c))). t.0) (sym (power_rows_is S A acts x (d * f.degree) rows are_coordinates n j))
      ∙ ap (λ m. (power_rows S A acts x (d * f.degree) rows are_coordinates m j).0) (sym e)

  -- only zero is a relation of the first `n` powers
  abbrev pub HasNone : ℕ → Type 0
  HasNone n = (c : ℕ → Element (twisted_ops base (λ c i. c))) → IsRel A (power_rows S A acts x (d * f.degree) rows are_coordinates) n c → (i : ℕ) → c i ≡ A.zero

  -- the number of coordinates bounds the number of powers without a relation
  pub none_ends : HasNone (suc (d * f.degree)) → ⊥
  none_ends =
      too_many A (domain A (λ t. length t.0) (poly_euclidean base binv kb)) (d * f.degree) (power_rows S A acts x (d * f.degree) rows are_coordinates)
      (power_rows_past S A acts x (d * f.degree) rows are_coordinates)

  abbrev p : RingOps (List B)
  p = twisted_ops base (λ c i. c)

  abbrev ring : IsRing (twisted_ops base (λ c i. c))
  ring = poly_ring base kb.ring kb.one_ne_zero

  abbrev v : ℕ → ℕ → Element (twisted_ops base (λ c i. c))
  v = power_rows S A acts x (d * f.degree) rows are_coordinates

  -- a list of the members of a least relation of the coordinates
  module _ (n : ℕ) (g : ℕ → Element (twisted_ops base (λ c i. c))) (least : IsLeast A (power_rows S A acts x (d * f.degree) rows are_coordinates) n g)
      (a : List (List B)) (shape : is_row (twisted_ops base (λ c i. c)) (suc n) a ≡ true) (at : (i : ℕ) → i < suc n → (g i).0 ≡ coeff (twisted_ops base (λ c i. c)) a i) where
    len : length a ≡ suc n
    len = row_len p (suc n) a shape

    pub top_unit : (u : Element (twisted_ops base (λ c i. c))) × (A.mul (g n) u ≡ A.one)
    top_unit =
        least_is_monic A (λ t. length t.0) (poly_euclidean base binv kb) v (moves S A acts x (d * f.degree) rows are_coordinates) n g least
        (d * f.degree) (power_rows_past S A acts x (d * f.degree) rows are_coordinates)

    pub first_is : IsFirstRelation r base f b.0 a
    first_is = record {
      elems = row_elems p (suc n) a shape;
      long = omega (arith, len, least_long S A acts x (d * f.degree) rows are_coordinates (λ t. length t.0) (poly_euclidean base binv kb) n g least);
      top =
          let place : length a - 1 ≡ n = omega (arith, len) in
          ap (λ i. length (coeff p a i)) place ∙ ap length (sym (at n (omega arith))) ∙ unit_size A (λ t. length t.0) (poly_euclidean base binv kb) (g n) top_unit.0 top_unit.1;
      is =
          sym (value_is r inv base binv f k kb l b d degree pos a g (λ i m. at i (omega (arith, m, len))))
          ∙ ap (λ t. (power_sum S acts x t g).0) len
          ∙ ap (λ t. t.0) (value_zero S A acts x (d * f.degree) rows are_coordinates (suc n) g least.relation.is);
      least = λ c ci short zero i.
          ap (λ t. t.0) (least_none S A acts x (d * f.degree) rows are_coordinates (λ t. length t.0) (poly_euclidean base binv kb) n g least (length c)
          (λ j. (coeff p c j, elem_read p c refl ci j)) (omega (arith, short, len)) (λ j m. same_element p _ _ (coeff_past p c j m))
          (same_element (twisted_ops r f.frob) _ _ (value_is r inv base binv f k kb l b d degree pos c (λ j. (coeff p c j, elem_read p c refl ci j)) (λ j m. refl) ∙ zero)) i);
    }

  module _ (n : ℕ) (none : HasNone n) (more basis : List (List (List B))) (rows_are : ArePowerRows (suc n) more)
      (inside : are_rows (twisted_ops base (λ c i. c)) (d * f.degree) more ≡ true)
      (found : IsRowBasis (twisted_ops base (λ c i. c)) (length more) (IsRelationRow (twisted_ops base (λ c i. c)) (d * f.degree) more) basis) where
    more_same : (i : ℕ) → i < length more → (j : ℕ) → entry p more i j ≡ (v i j).0
    more_same i m j = rows_are.is i (omega (arith, rows_are.count, m)) j

    -- The members of the basis.
    abbrev members : ℕ → ℕ → Element (twisted_ops base (λ c i. c))
    members = basis_rows p ring (d * f.degree) more basis inside found v more_same

    basis_is : IsBasisOfRelations A v (suc n) (length basis) members
    basis_is = is_basis_for p ring (d * f.degree) more basis inside found v more_same (suc n) rows_are.count

    -- an empty basis: none of one more
    pub none_more : length basis ≡ 0 → HasNone (suc n)
    none_more e c t i = (basis_is.spans c t).is i ∙ ap (λ m. combine A m (basis_is.spans c t).by members i) e

    -- The first member of the basis is the first relation.
    pub first_relation : 0 < length basis → IsFirstRelation r base f b.0 (row_at basis 0)
    first_relation some =
        first_is n (members 0) (least_of_basis A (domain A (λ t. length t.0) (poly_euclidean base binv kb)) v n none (length basis) members basis_is some)
        (row_at basis 0) (ap (λ m. is_row p m (row_at basis 0)) (sym rows_are.count) ∙ rows_at p (length more) basis found.shape 0 some)
        (λ i _. refl)
