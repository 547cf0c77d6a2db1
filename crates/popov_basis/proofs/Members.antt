-- The rest of a division is zero exactly for the rows of the module.
use Rattle.std.proofs.Common.{◌≡◌, ℕ, ◌+◌, ◌*◌, ◌/◌, ◌%◌, ◌<◌, ◌↔◌, true, Option, List, [], length, nat_lt, refl, sym, ◌∙◌, ap, ltb-true, add_comm}
use Rattle.std.proofs.lemmas.Bool.{and_parts}
use Rattle.ring_core.specs.Ring.{RingOps, IsRing}
use Rattle.ring_core.specs.Field.{IsField}
use Rattle.ring_core.specs.Coeffs.{coeff, is_canonical, are_elems, is_trimmed}
use Rattle.ring_core.proofs.Carrier.{RingOn, Element, elements, same_element, add_zero, neg_mul}
use Rattle.ring_core.proofs.Coefficients.{elem_read, same_coeffs}
use Rattle.linear_algebra.specs.Linear.{entry}
use Rattle.linear_algebra.proofs.Lift.{AreIn, row_of, rows_of}
use Rattle.linear_algebra.proofs.Sums.{combine}
use Rattle.linear_algebra.proofs.Dependent.{field_domain}
use Rattle.flat_modules.specs.Flat.{are_flat, lead_at, combination, IsStandard, IsInModule, IsNormal}
use Rattle.flat_modules.proofs.Lists.{flat_in, longest, listed, combination_value, to_reached}
use Rattle.flat_modules.proofs.Places.{powers_tops}
use Rattle.flat_modules.proofs.Shift.{powers}
use Rattle.flat_modules.proofs.Tops.{zero_combination}
use Rattle.flat_modules.proofs.Unique.{Reached, standard_places}
use Rattle.flat_modules.proofs.OneBasis.{to_standard}
use Rattle.flat_modules.proofs.Module.{reached_as}
use Rattle.flat_modules.proofs.Rest.{reached_add, reached_scale}

-- (c + e) - c = e
taken : {M : Type 0} (R : RingOn M) (c e : M) → R.add (R.add c e) (R.mul (R.neg R.one) c) ≡ e
taken R c e =
    ap (R.add (R.add c e)) (neg_mul R R.one c ∙ ap R.neg (R.one_mul c))
    ∙ ap (λ x. R.add x (R.neg c)) (R.add_comm c e) ∙ R.add_assoc e c (R.neg c) ∙ ap (R.add e) (R.add_neg c) ∙ add_zero R e

module _ {E : Type 0} (r : RingOps E) (inv : E → Option E) (field : IsField r inv) (w : ℕ) (posw : 0 < w) (basis : List (List E)) (fi : are_flat r basis ≡ true) (standard : IsStandard r w basis)
    (x : List E) (xc : is_canonical r x ≡ true) (by : List (List E)) (rest : List E) (h : IsNormal r w basis x by rest) where
  abbrev ring : IsRing r
  ring = field.ring

  abbrev S : RingOn (Element r)
  S = elements ring

  abbrev rows : ℕ → ℕ → Element r
  rows = rows_of r (entry r basis) (flat_in r ring basis fi)

  abbrev Reaches : (ℕ → Element r) → Type 0
  Reaches = Reached S (length basis) w rows

  sum : ℕ → Element r
  sum t = combine S ((longest r by).0 * length basis) (listed r ring w basis by fi h.polys) (powers S (length basis) w rows) t

  sum_is : (t : ℕ) → (sum t).0 ≡ combination r w basis by t
  unfolding sum
  sum_is t = combination_value r ring w basis by fi h.polys t

  x_in : AreIn r (coeff r x)
  x_in = elem_read r x ring.closed.zero_in (and_parts (are_elems r x) (is_trimmed r x) xc).0

  rest_in : AreIn r (coeff r rest)
  rest_in = elem_read r rest ring.closed.zero_in (and_parts (are_elems r rest) (is_trimmed r rest) h.flat).0

  parts : (t : ℕ) → row_of r (coeff r x) x_in t ≡ S.add (sum t) (row_of r (coeff r rest) rest_in t)
  parts t = same_element r _ _ (h.is t ∙ ap (λ v. r.add v (coeff r rest t)) (sym (sum_is t)))

  in_module : rest ≡ [] → IsInModule r w basis x
  in_module e = record {
    by = by;
    len = h.len;
    polys = h.polys;
    is = λ t. ap (λ v. v.0) (parts t ∙ ap (S.add (sum t)) (same_element r (row_of r (coeff r rest) rest_in t) S.zero (ap (λ u. coeff r u t) e)) ∙ add_zero S (sum t)) ∙ sum_is t;
  }

  sum_reached : Reaches sum
  unfolding sum
  sum_reached = record { bound = _; by = _; is = λ t. refl }

  rest_reached : IsInModule r w basis x → Reaches (row_of r (coeff r rest) rest_in)
  rest_reached s =
      reached_as S w (length basis) rows _ (row_of r (coeff r rest) rest_in)
      (λ t. sym (ap (λ v. S.add v (S.mul (S.neg S.one) (sum t))) (parts t) ∙ taken S (sum t) (row_of r (coeff r rest) rest_in t)))
      (reached_add S (length basis) w rows (row_of r (coeff r x) x_in) _ (to_reached r ring w basis s.by fi s.polys x x_in s.is) (reached_scale S (length basis) w rows (S.neg S.one) sum sum_reached))

  no_rest : IsInModule r w basis x → rest ≡ []
  no_rest s =
      let n = length basis in
      let v = rest_reached s in
      let tops = powers_tops S n w (λ i. nat_lt i n) (lead_at basis) rows posw (standard_places S (field_domain r inv field) w posw n (lead_at basis) rows (to_standard r inv field w basis fi standard)) v.bound in
      same_coeffs r ring.closed.zero_in ring.equal rest [] (and_parts (are_elems r rest) (is_trimmed r rest) h.flat).1 refl
      (λ t. ap (λ a. a.0)
      (v.is t ∙ zero_combination S (field_domain r inv field) v.bound _ _ _ tops v.by
      (λ q lq live. sym (v.is (q / n * w + lead_at basis (q % n)))
      ∙ same_element r _ _ (ap (coeff r rest) (add_comm (q / n * w) (lead_at basis (q % n))) ∙ h.clear (q % n) (q / n) (ltb-true (q % n) n live))) t))

  pub rest_is_zero : (rest ≡ []) ↔ IsInModule r w basis x
  rest_is_zero = (in_module, no_rest)
