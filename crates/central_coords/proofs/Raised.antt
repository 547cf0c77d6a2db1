-- The powers of tau^n: they move coordinates up by n^2 places, and commute with every twisted polynomial.
use Rattle.std.proofs.Common.{◌≡◌, ℕ, ◌+◌, ◌-◌, ◌*◌, ◌/◌, ◌%◌, ◌<◌, ◌≤◌, sym, ◌∙◌, ap, ap₂, ⊎_elim, arith}
use Rattle.std.proofs.Math.Nat.{add-mul-div_right, add-mul-mod_self_right, div-lt_iff_lt-mul}
use Rattle.std.proofs.lemmas.Bool.{and_parts, cases_lt}
use Rattle.ring_core.specs.Ring.{RingOps}
use Rattle.ring_core.specs.Field.{FrobOps}
use Rattle.ring_core.specs.Coeffs.{coeff}
use Rattle.ring_core.specs.Twisted.{twisted_ops}
use Rattle.ring_core.specs.Monomial.{tau_power}
use Rattle.ring_core.proofs.Carrier.{same_element}
use Rattle.ring_core.proofs.Coefficients.{same_coeffs}
use Rattle.ring_core.proofs.Twist.{frob_round}
use Rattle.ring_core.proofs.ListRing.{coeff-mul}
use Rattle.ring_core.proofs.Monomial.{monomial_in, monomial_product, monomial_product_below, product_monomial, product_monomial_below}
use Rattle.flat_modules.proofs.Shift.{shift, shift_is}
use Rattle.central_coords.proofs.Places.{Extension, Polys, polys, scalars, twist, degree_positive, at, read, elems_of, coord_zero, place_low}

quotient_past : (n e c : ℕ) → 0 < n → e * (n * n) ≤ c → (c / n ≡ (c - e * (n * n)) / n + n * e) × (c % n ≡ (c - e * (n * n)) % n)
quotient_past n e c pos high =
    let d = c - e * (n * n) in
    let order : c ≡ d + n * e * n = omega (arith, high) in
    (ap (λ a. a / n) order ∙ add-mul-div_right d (n * e) pos, ap (λ a. a % n) order ∙ add-mul-mod_self_right d (n * e) n)

quotient_low : (n e c : ℕ) → 0 < n → c < e * (n * n) → c / n < n * e
quotient_low n e c pos low = let v : c < n * e * n = omega (arith, low) in (div-lt_iff_lt-mul pos).1 v

module _ {E B : Type 0} {r : RingOps E} {base : RingOps B} {f : FrobOps E B} (o : Extension r base f) where
  -- tau^(n e)
  abbrev pub letter : ℕ → Polys o
  letter e = (tau_power r (f.degree * e), monomial_in r o.field.ring r.one (f.degree * e) o.field.ring.closed.one_in)

  moved_coeff : (e : ℕ) (u : Polys o) (j : ℕ) → f.degree * e ≤ j → coeff r ((polys o).mul (letter e) u).0 j ≡ coeff r u.0 (j - f.degree * e)
  moved_coeff e u j high =
      let inside = read o u (j - f.degree * e) in
      coeff-mul r o.field.ring f.frob (twist o) (letter e).0 u.0 (elems_of o (letter e)) (elems_of o u) j
      ∙ monomial_product r o.field.ring f.frob (twist o) r.one (f.degree * e) u.0 o.field.ring.closed.one_in (elems_of o u) j high
      ∙ o.field.ring.one_mul _ (o.laws.frob_in _ (f.degree * e) inside) ∙ frob_round r base f o.laws _ e inside

  moved_below : (e : ℕ) (u : Polys o) (j : ℕ) → j < f.degree * e → coeff r ((polys o).mul (letter e) u).0 j ≡ r.zero
  moved_below e u j low =
      coeff-mul r o.field.ring f.frob (twist o) (letter e).0 u.0 (elems_of o (letter e)) (elems_of o u) j
      ∙ monomial_product_below r o.field.ring f.frob (twist o) r.one (f.degree * e) u.0 o.field.ring.closed.one_in (elems_of o u) j low

  pub moves : (e c : ℕ) (u : Polys o) → at o c ((polys o).mul (letter e) u) ≡ shift (scalars o) (e * (f.degree * f.degree)) (λ j. at o j u) c
  moves e c u =
      sym
      (shift_is (scalars o) (e * (f.degree * f.degree)) (λ j. at o j u) c (at o c ((polys o).mul (letter e) u))
      (λ low.
      same_element base _ _
      (sym
      (ap (λ x. f.coord x (c % f.degree)) (moved_below e u (c / f.degree) (quotient_low f.degree e c (degree_positive o) low)) ∙ coord_zero o (c % f.degree) (place_low o c))))
      (λ high.
      let q = quotient_past f.degree e c (degree_positive o) high in
      let q0 = q.0 in
      let over : f.degree * e ≤ c / f.degree = omega (arith, q0) in
      let place : c / f.degree - f.degree * e ≡ (c - e * (f.degree * f.degree)) / f.degree = omega (arith, q0) in
      same_element base _ _
      (sym (ap (λ x. f.coord x (c % f.degree)) (moved_coeff e u (c / f.degree) over) ∙ ap₂ (λ a b. f.coord (coeff r u.0 a) b) place q.1))))

  -- tau^(n e) u = u tau^(n e)
  pub central : (e : ℕ) (u : Polys o) → (polys o).mul (letter e) u ≡ (polys o).mul u (letter e)
  central e u =
      let n = f.degree * e in
      let one = o.field.ring.closed.one_in in
      let right = coeff-mul r o.field.ring f.frob (twist o) u.0 (letter e).0 (elems_of o u) (elems_of o (letter e)) in
      same_element (twisted_ops r f.frob) _ _
      (same_coeffs r o.field.ring.closed.zero_in o.field.ring.equal _ _ (and_parts _ _ ((polys o).mul (letter e) u).1).1 (and_parts _ _ ((polys o).mul u (letter e)).1).1
      (λ j.
      ⊎_elim
      (λ (low : j < n). moved_below e u j low ∙ sym (right j ∙ product_monomial_below r o.field.ring f.frob (twist o) u.0 r.one n one (elems_of o u) j low))
      (λ (high : n ≤ j).
      moved_coeff e u j high
      ∙ sym
      (right j ∙ product_monomial r o.field.ring f.frob (twist o) u.0 r.one n one (elems_of o u) j high
      ∙ ap (r.mul (coeff r u.0 (j - n))) ((twist o).twist_one (j - n)) ∙ o.field.ring.mul_one _ (read o u (j - n))))
      (cases_lt j n)))
