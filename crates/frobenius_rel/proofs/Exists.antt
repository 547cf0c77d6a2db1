-- Each module has a least relation of Frobenius.
use Rattle.std.proofs.Common.{◌≡◌, ℕ, suc, ◌-◌, ◌*◌, ◌<◌, ◌≤◌, Option, true, List, length, sym, ◌∙◌, ap, arith}
use Rattle.ring_core.specs.Ring.{RingOps, IsRing}
use Rattle.ring_core.specs.Field.{IsField, FrobOps, IsFrobField}
use Rattle.ring_core.specs.Coeffs.{coeff}
use Rattle.ring_core.specs.Twisted.{twisted_ops}
use Rattle.ring_core.proofs.Carrier.{RingOn, Element, same_element}
use Rattle.ring_core.proofs.ListRing.{poly_ring}
use Rattle.linear_algebra.specs.Linear.{is_row}
use Rattle.linear_algebra.proofs.RowLists.{row_len, row_elems}
use Rattle.relation_theory.proofs.PolyEuclid.{poly_euclidean}
use Rattle.relation_theory.proofs.PowerRelations.{power_rows, power_rows_past}
use Rattle.relation_theory.proofs.FirstDependence.{LeastOfRows, least_of_rows}
use Rattle.frobenius_rel.specs.Relation.{IsLeastRelation}
use Rattle.frobenius_rel.proofs.ListBases.{values, values_shape, values_at}
use Rattle.frobenius_rel.specs.steps.FirstRelation.{IsFirstRelation}
use Rattle.frobenius_rel.proofs.Scaled.{member, scaled_least}
use Rattle.frobenius_rel.proofs.Relations.{S, A, acts, x, rows, are_coordinates, top_unit, first_is}

module _ {E B : Type 0} (r : RingOps E) (inv : E → Option E) (base : RingOps B) (binv : B → Option B) (f : FrobOps E B)
    (k : IsField r inv) (kb : IsField base binv) (l : IsFrobField r base f)
    (b : Element (twisted_ops r f.frob)) (d : ℕ) (degree : length b.0 ≡ suc d) (pos : 1 ≤ d) where
  abbrev p : RingOps (List B)
  p = twisted_ops base (λ c i. c)

  abbrev ring : IsRing (twisted_ops base (λ c i. c))
  ring = poly_ring base kb.ring kb.one_ne_zero

  abbrev P : RingOn (Element (twisted_ops base (λ c i. c)))
  P = A r inv base binv f k kb l b d degree pos

  abbrev v : ℕ → ℕ → Element (twisted_ops base (λ c i. c))
  v =
      power_rows (S r inv base binv f k kb l b d degree pos) P (acts r inv base binv f k kb l b d degree pos) (x r inv base binv f k kb l b d degree pos) (d * f.degree)
      (rows r inv base binv f k kb l b d degree pos) (are_coordinates r inv base binv f k kb l b d degree pos)

  found : LeastOfRows P v
  found =
      least_of_rows P (λ t. length t.0) (poly_euclidean base binv kb) (d * f.degree) v
      (power_rows_past (S r inv base binv f k kb l b d degree pos) P (acts r inv base binv f k kb l b d degree pos) (x r inv base binv f k kb l b d degree pos) (d * f.degree)
      (rows r inv base binv f k kb l b d degree pos) (are_coordinates r inv base binv f k kb l b d degree pos))

  abbrev first : List (List B)
  first = values p ring (suc found.degree) found.relation

  at : (i : ℕ) → i < suc found.degree → (found.relation i).0 ≡ coeff (twisted_ops base (λ c i. c)) first i
  at i m = sym (values_at p ring (suc found.degree) found.relation i m)

  shape : is_row (twisted_ops base (λ c i. c)) (suc found.degree) first ≡ true
  shape = values_shape p ring (suc found.degree) found.relation

  -- There is a least relation: the first one, times the inverse of its top.
  pub least_exists : (a : List (List B)) × IsLeastRelation r base f b.0 a
  least_exists = (
    list,
    scaled_least r inv base binv f k kb l b d degree pos first list first_relation u.0 (row_elems p (suc n) list (values_shape p ring (suc n) scaled))
        (row_len p (suc n) list (values_shape p ring (suc n) scaled) ∙ sym len)
        (λ i m. values_at p ring (suc n) scaled i (omega (arith, m, len)) ∙ ap (λ (t : Element p). (P.mul u.0 t).0) (same i (omega (arith, m, len))))
        (ap (λ (t : Element p). t.0)
        (ap (P.mul u.0) (ap (member r inv base binv f k kb l b d degree pos first first_relation.elems) place ∙ sym (same n (omega arith)))
        ∙ (poly_euclidean base binv kb).mul_comm u.0 (found.relation n) ∙ u.1)),
  )
    where
      n : ℕ
      n = found.degree

      first_relation : IsFirstRelation r base f b.0 first
      first_relation = first_is r inv base binv f k kb l b d degree pos n found.relation found.is first shape at

      u : (u : Element (twisted_ops base (λ c i. c))) × (P.mul (found.relation n) u ≡ P.one)
      u = top_unit r inv base binv f k kb l b d degree pos n found.relation found.is first shape at

      scaled : ℕ → Element (twisted_ops base (λ c i. c))
      scaled i = P.mul u.0 (found.relation i)

      list : List (List B)
      list = values p ring (suc n) scaled

      len : length first ≡ suc n
      len = row_len p (suc n) first shape

      place : length first - 1 ≡ n
      place = omega (arith, len)

      same : (i : ℕ) → i < suc n → found.relation i ≡ member r inv base binv f k kb l b d degree pos first first_relation.elems i
      same i m = same_element p _ _ (at i m)
