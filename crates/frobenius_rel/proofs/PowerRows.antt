-- The search for the first relation: what its loop keeps.
use Rattle.std.proofs.Common.{◌≡◌, ℕ, suc, ◌+◌, ◌-◌, ◌*◌, ◌/◌, ◌%◌, ◌<◌, ◌≤◌, inl, inr, Option, true, List, [], ◌∷◌, ◌++◌, length, refl, sym, ◌∙◌, ap, arith, subst, eq-eqb, mod-lt}
use Rattle.std.proofs.lemmas.Bool.{and_parts, and_from, cases_eq}
use Rattle.std.proofs.lemmas.List.{length-append, get_or_append_left, get_or-append_right}
use Rattle.ring_core.specs.Ring.{RingOps, IsElem}
use Rattle.ring_core.specs.Field.{IsField, FrobOps, IsFrobField}
use Rattle.ring_core.specs.Coeffs.{coeff, are_elems}
use Rattle.ring_core.specs.Powers.{power_of}
use Rattle.ring_core.specs.Twisted.{twisted_ops, list_mul}
use Rattle.ring_core.specs.Monomial.{tau_power}
use Rattle.ring_core.proofs.Carrier.{Element}
use Rattle.ring_core.proofs.Coefficients.{elem_read, elems-first_values, canonical-list_of}
use Rattle.ring_core.proofs.FirstValues.{length-first_values}
use Rattle.ring_core.proofs.Central.{tau_degree_central}
use Rattle.linear_algebra.specs.Linear.{row_at, is_row, are_rows}
use Rattle.linear_algebra.proofs.RowLists.{rows_push, row_len}
use Rattle.finite_ring.proofs.Powers.{power}
use Rattle.poly_reduce.specs.Matrices.{IsRelationRow, IsRowBasis, row_times}
use Rattle.drinfeld_mod.specs.Module.{IsModule, rank_of}
use Rattle.motive_coords.specs.Motive.{IsMotive}
use Rattle.motive_coords.specs.OverT.{IsOverT, base_parts}
use Rattle.frobenius_rel.specs.Relation.{frobenius}
use Rattle.frobenius_rel.specs.steps.FirstRelation.{IsFirstRelation}
use Rattle.frobenius_rel.specs.steps.FrobeniusRows.{AreFrobeniusRows}
use Rattle.frobenius_rel.proofs.FrobeniusTimes.{times_motive}
use Rattle.motive_coords.proofs.Ores.{twisted}
use Rattle.motive_coords.proofs.MotiveValue.{power_is}
use Rattle.motive_coords.proofs.OverT.{frob_of, over_t_is}
use Rattle.frobenius_rel.proofs.Relations.{row_is, ArePowerRows, HasNone, none_ends, none_more, first_relation}

module _ {E B : Type 0} (r : RingOps E) (inv : E → Option E) (base : RingOps B) (binv : B → Option B) (f : FrobOps E B)
    (k : IsField r inv) (kb : IsField base binv) (l : IsFrobField r base f)
    (phi : List E) (module_is : IsModule r phi) where
  abbrev p : RingOps (List B)
  p = twisted_ops base (λ c i. c)

  abbrev b : Element (twisted_ops r f.frob)
  b = (phi, module_is.canonical)

  abbrev d : ℕ
  d = length phi - 1

  pub degree : length phi ≡ suc d
  degree = let p = module_is.rank_pos in omega (arith, p)

  abbrev pub pos : 1 ≤ length phi - 1
  pos = module_is.rank_pos

  -- The coordinates of the first `n` powers of Frobenius, which have no relation, and the motive coordinates of
  -- the next power.
  pub record IsSearch (n : ℕ) (list : List (List (List B))) (u : List (List E)) : Type 0 where
    pub rows_are : ArePowerRows r inv base binv f k kb l b d degree pos n list
    pub shape : are_rows (twisted_ops base (λ c i. c)) (d * f.degree) list ≡ true
    pub none : HasNone r inv base binv f k kb l b d degree pos n
    pub next : IsMotive r f.frob phi (power_of (twisted_ops r f.frob) (frobenius r f) n) u

  -- the coordinates of the next power
  search_row : (n : ℕ) (list : List (List (List B))) (u : List (List E)) (v : List (List B)) → IsSearch n list u → v ≡ base_parts r base f u
      → IsOverT r base f phi (power_of (twisted_ops r f.frob) (frobenius r f) n) v
  search_row n list u v s e = record { motive = u; is_motive = s.next; is = e }

  over_t_row : (u : List E) (v : List (List B)) → IsOverT r base f phi u v → is_row (twisted_ops base (λ c i. c)) (d * f.degree) v ≡ true
  over_t_row u v s =
      let count : length s.motive ≡ d = let e = s.is_motive.count in omega (arith, e) in
      ap (is_row p (d * f.degree)) s.is
      ∙ and_from _ _ (eq-eqb _ _ (length-first_values _ _ ∙ ap (λ t. t * f.degree) count))
      (elems-first_values p (length s.motive * f.degree) _ (λ q _. canonical-list_of base (length (coeff (twisted_ops r (λ c i. c)) s.motive (q / f.degree))) (λ e. f.coord (coeff r (coeff (twisted_ops r (λ c i. c)) s.motive (q / f.degree)) e) (q % f.degree)) (λ e _. l.coord_in _ (q % f.degree) (member_in s.motive s.is_motive.elems (q / f.degree) e) (mod-lt q (let z = l.degree_pos in omega (arith, z))))))
    where
      member_in : (list : List (List E)) → are_elems (twisted_ops r (λ c i. c)) list ≡ true → (i e : ℕ) → IsElem r (coeff r (coeff (twisted_ops r (λ c i. c)) list i) e)
      member_in list inside i e = elem_read r _ k.ring.closed.zero_in (and_parts _ _ (elem_read (twisted_ops r (λ c i. c)) list refl inside i)).0 e

  pub search_width : (n : ℕ) (list : List (List (List B))) (u : List (List E)) (v : List (List B)) → IsSearch n list u → v ≡ base_parts r base f u → length v ≡ rank_of phi * f.degree
  search_width n list u v s e =
      row_len p (d * f.degree) v (over_t_row (power_of (twisted_ops r f.frob) (frobenius r f) n) v (search_row n list u v s e))

  -- power `n` of Frobenius
  abbrev raised : ℕ → Element (twisted_ops r f.frob)
  raised n = power (twisted r inv base f k l) (frob_of r inv base binv f k kb l b d degree pos) n

  raised_is : (n : ℕ) → (raised n).0 ≡ power_of (twisted_ops r f.frob) (frobenius r f) n
  raised_is n = power_is r inv base f k l (frob_of r inv base binv f k kb l b d degree pos) n

  module _ (n : ℕ) (list : List (List (List B))) (u : List (List E)) (v : List (List B)) (s : IsSearch n list u) (row : v ≡ base_parts r base f u) where
    over : IsOverT r base f phi (power_of (twisted_ops r f.frob) (frobenius r f) n) v
    over = search_row n list u v s row

    rows_more : ArePowerRows r inv base binv f k kb l b d degree pos (suc n) (list ++ v ∷ [])
    rows_more = record {
      count = length-append list (v ∷ []) ∙ (let e = s.rows_are.count in omega (arith, e));
      is = λ i m j. elim (cases_eq i n) [
        | inl e ↦
            ap (λ t. coeff p t j) (get_or-append_right list (v ∷ []) n i [] s.rows_are.count (omega (arith, e)) ∙ ap (row_at (v ∷ [])) (let z : i - n ≡ 0 = omega (arith, e) in z))
            ∙ over_t_is r inv base binv f k kb l b d degree pos (raised n) v (subst (λ t. IsOverT r base f phi t v) (sym (raised_is n)) over) j
            ∙ row_is r inv base binv f k kb l b d degree pos n i j e
        | inr ne ↦
            ap (λ t. coeff p t j) (get_or_append_left list (v ∷ []) [] i (let c = s.rows_are.count in omega (arith, m, ne, c)))
            ∙ s.rows_are.is i (omega (arith, m, ne)) j
      ];
    }

    module _ (more : List (List (List B))) (pushed : more ≡ list ++ v ∷ []) where
      grown : ArePowerRows r inv base binv f k kb l b d degree pos (suc n) more
      grown = subst (ArePowerRows r inv base binv f k kb l b d degree pos (suc n)) (sym pushed) rows_more

      pub search_shape : are_rows (twisted_ops base (λ c i. c)) ((length phi - 1) * f.degree) more ≡ true
      search_shape = ap (are_rows p (d * f.degree)) pushed ∙ rows_push p (d * f.degree) list v s.shape (over_t_row (power_of (twisted_ops r f.frob) (frobenius r f) n) v over)

      module _ (basis : List (List (List B))) (found : IsRowBasis (twisted_ops base (λ c i. c)) (length more) (IsRelationRow (twisted_ops base (λ c i. c)) (d * f.degree) more) basis) where
        -- where the rows have no relation, the next power
        pub search_more : length basis ≡ 0 → (matrix : List (List (List E))) → AreFrobeniusRows r f phi matrix → (w : List (List E)) → w ≡ row_times (twisted_ops r (λ c i. c)) d u matrix → IsSearch (n + 1) more w
        search_more empty matrix t w step = record {
          rows_are = subst (λ t. ArePowerRows r inv base binv f k kb l b d degree pos t more) one_more grown;
          shape = search_shape;
          none = subst (HasNone r inv base binv f k kb l b d degree pos) one_more (none_more r inv base binv f k kb l b d degree pos n s.none more basis grown search_shape found empty);
          next =
              subst (λ y. IsMotive r f.frob phi y w)
              (tau_degree_central r inv base f k l (raised n).0 (and_parts _ _ (raised n).1).0
              ∙ ap (λ y. list_mul r f.frob y (tau_power r f.degree)) (raised_is n) ∙ ap (power_of (twisted_ops r f.frob) (frobenius r f)) one_more)
              (subst (IsMotive r f.frob phi (list_mul r f.frob (tau_power r f.degree) (raised n).0)) (sym step)
              (times_motive r inv base f k l b d degree pos (raised n) u (subst (λ y. IsMotive r f.frob phi y u) (sym (raised_is n)) s.next) matrix t.count t.shape t.each));
        }
          where
            one_more : suc n ≡ n + 1
            one_more = omega arith

        pub search_found : 0 < length basis → IsFirstRelation r base f phi (row_at basis 0)
        search_found some = first_relation r inv base binv f k kb l b d degree pos n s.none more basis grown search_shape found some

  pub search_ends : (n : ℕ) (list : List (List (List B))) (u : List (List E)) → IsSearch n list u → n ≡ (length phi - 1) * f.degree + 1 → ⊥
  search_ends n list u s e =
      none_ends r inv base binv f k kb l b d degree pos
      (subst (HasNone r inv base binv f k kb l b d degree pos) (e ∙ (let z : d * f.degree + 1 ≡ suc (d * f.degree) = omega arith in z)) s.none)
