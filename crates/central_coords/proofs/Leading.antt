-- The highest coordinate of an element, and of a twisted polynomial.
use Rattle.std.proofs.Common.{◌≡◌, ℕ, ◌+◌, ◌*◌, ◌/◌, ◌%◌, ◌<◌, ◌≤◌, List, length, sym, ◌∙◌, ap, ⊎_elim, arith}
use Rattle.std.proofs.Math.Nat.{div-add-mod', le-div_iff_mul-le}
use Rattle.std.proofs.lemmas.Bool.{cases_lt}
use Rattle.ring_core.specs.Ring.{RingOps, IsElem}
use Rattle.ring_core.specs.Field.{FrobOps}
use Rattle.ring_core.specs.Coeffs.{coeff}
use Rattle.ring_core.proofs.Coefficients.{coeff_past}
use Rattle.central_coords.specs.Coordinates.{IsLeadingPlace}
use Rattle.central_coords.specs.steps.Highest.{IsHighestCoordinate}
use Rattle.central_coords.proofs.Places.{Extension, degree_positive, coordinate_of, coord_zero, place_low}

module _ {E B : Type 0} {r : RingOps E} {base : RingOps B} {f : FrobOps E B} (o : Extension r base f) where
  -- an element without nonzero coordinates
  pub no_coordinates : (c : E) → IsElem r c → ((i : ℕ) → i < f.degree → f.coord c i ≡ base.zero) → c ≡ r.zero
  no_coordinates c inside zeros = o.laws.coord_inj c r.zero inside o.field.ring.closed.zero_in (λ j m. zeros j m ∙ sym (coord_zero o j m))

  -- the highest coordinate of the top coefficient is that of the polynomial
  pub leading : (u : List E) (last j : ℕ) → length u ≡ last + 1 → IsHighestCoordinate base f (coeff r u last) j → IsLeadingPlace r base f u (last * f.degree + j)
  leading u last j long h = record {
    nonzero = λ e. h.nonzero (sym (coordinate_of o u last j h.within) ∙ e);
    above = λ c past.
        let n = f.degree in
        let split : c / n * n + c % n ≡ c = div-add-mod' c n in
        let up_to : last ≤ c / n = (le-div_iff_mul-le (degree_positive o)).1 (omega (arith, past)) in
        ⊎_elim
        (λ (over : last < c / n).
        let beyond : length u ≤ c / n = omega (arith, long, over) in
        ap (λ x. f.coord x (c % n)) (coeff_past r u (c / n) beyond) ∙ coord_zero o (c % n) (place_low o c))
        (λ (under : c / n ≤ last).
        let here : c / n ≡ last = omega (arith, up_to, under) in
        let blocks : c / n * n ≡ last * n = ap (λ x. x * n) here in
        ap (λ x. f.coord (coeff r u x) (c % n)) here ∙ h.above (c % n) (omega (arith, blocks, split, past)) (place_low o c))
        (cases_lt last (c / n));
  }
