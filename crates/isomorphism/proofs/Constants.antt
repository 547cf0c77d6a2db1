-- The members of the bounded list for the degree 0 are constants.
use Rattle.std.proofs.Common.{◌≡◌, ℕ, ◌+◌, ◌-◌, ◌/◌, ◌%◌, ◌<◌, ◌≤◌, List, [], ◌∷◌, length, ◌∙◌, ap, subst, ⊎_elim, arith}
use Rattle.std.proofs.lemmas.Bool.{and_parts, cases_lt}
use Rattle.std.proofs.lemmas.List.{nil_from_length}
use Rattle.ring_core.specs.Ring.{RingOps}
use Rattle.ring_core.specs.Field.{FrobOps}
use Rattle.ring_core.specs.Coeffs.{coeff, sum_below, are_elems}
use Rattle.ring_core.specs.Twisted.{twisted_ops, list_mul}
use Rattle.ring_core.specs.Monomial.{constant}
use Rattle.ring_core.proofs.Coefficients.{elem_read}
use Rattle.ring_core.proofs.Degrees.{not_empty, top_nonzero}
use Rattle.linear_algebra.specs.Linear.{row_at}
use Rattle.central_coords.proofs.Places.{Extension, coord_zero, place_low}
use Rattle.morphism.specs.Homomorphism.{IsHomomorphism}
use Rattle.hom_space.specs.Bounded.{IsMember, IsBoundedList}
use Rattle.isomorphism.specs.Isomorphism.{IsFirstIsomorphism, HasNoIsomorphism}

-- a list of one member
single : {E : Type 0} (r : RingOps E) (u : List E) → length u ≡ 1 → u ≡ coeff r u 0 ∷ []
single r [] e = absurd (omega (arith, e))
single r (x ∷ xs) e = ap (λ t. x ∷ t) (nil_from_length xs (omega (arith, e)))

module _ {E B : Type 0} {r : RingOps E} {base : RingOps B} {f : FrobOps E B} (o : Extension r base f) (phi psi : List E) (list : List (List E)) (p : IsBoundedList r base f phi psi 0 list) where
  -- no members, no isomorphism
  pub none : length list ≡ 0 → HasNoIsomorphism r f phi psi
  none empty c ci nonzero h =
      let few : length (c ∷ []) ≤ 0 + 1 = omega arith in
      let s = p.spans (c ∷ []) (record { hom = h; short = few }) in
      let term = λ (i : ℕ). list_mul r f.frob (constant r (f.embed (coeff base s.by i))) (row_at list i) in
      let zero : c ∷ [] ≡ [] = s.is ∙ ap (λ n. sum_below (twisted_ops r f.frob) n term) empty in
      not_empty (c ∷ []) (omega arith) zero

  module _ (some : 0 < length list) where
    abbrev u : List E
    u = row_at list 0

    m : IsMember r f phi psi 0 u
    m = p.members 0 some

    long : 0 < length u
    long =
        ⊎_elim
        (λ (some : 0 < length u). some)
        (λ (empty : length u ≤ 0).
        let place = p.lead 0 in
        absurd
        ((p.leads 0 some).nonzero
        (ap (λ v. f.coord (coeff r v (place / f.degree)) (place % f.degree)) (nil_from_length u (omega (arith, empty)))
        ∙ coord_zero o (place % f.degree) (place_low o place))))
        (cases_lt 0 (length u))

    pub first : IsFirstIsomorphism r base f phi psi (coeff r u 0)
    first =
        let short : length u ≤ 0 + 1 = m.short in
        let one : length u ≡ 1 = omega (arith, long, short) in
        let is = single r u one in
        let parts = and_parts (are_elems r u) _ m.hom.canonical in
        let top : length u - 1 ≡ 0 = omega (arith, one) in
        record {
          elem = elem_read r u o.field.ring.closed.zero_in parts.0 0;
          nonzero = λ e. top_nonzero r o.field.ring.closed.zero_in o.field.ring.equal u parts.1 (not_empty u long) (ap (coeff r u) top ∙ e);
          hom = subst (IsHomomorphism r f.frob phi psi) is m.hom;
          list = list;
          bounded = p;
          some = some;
          first = is;
        }
