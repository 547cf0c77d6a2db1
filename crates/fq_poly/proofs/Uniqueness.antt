-- Quotient and remainder are unique.
use Rattle.std.proofs.Common.{◌≡◌, ◌+◌, ◌<◌, true, Option, List, [], ◌∷◌, length, refl, sym, ◌∙◌, ap, arith}
use Rattle.std.proofs.lemmas.List.{nil_from_length}
use Rattle.ring_core.specs.Ring.{RingOps}
use Rattle.ring_core.specs.Field.{IsField}
use Rattle.ring_core.specs.Coeffs.{is_canonical}
use Rattle.ring_core.specs.Twisted.{list_add, list_neg}
use Rattle.ring_core.proofs.Carrier.{RingOn, Element, same_element, elements, add_cancel, minus_same, difference}
use Rattle.ring_core.proofs.ListRing.{length-add, length-neg, poly_ring}
use Rattle.fq_poly.specs.Poly.{poly_mul, poly_ops}
use Rattle.fq_poly.specs.Laws.{DivisionIsUnique}
use Rattle.fq_poly.proofs.Tops.{degrees}

module _ {E : Type 0} (r : RingOps E) (inv : E → Option E) (k : IsField r inv) where
  abbrev ring : RingOn (Element (poly_ops r))
  ring = elements (poly_ring r k.ring k.one_ne_zero)

  -- a multiple of `b` with fewer coefficients than `b` is zero
  no_multiple : (b x y : List E) → is_canonical r b ≡ true → is_canonical r x ≡ true → poly_mul r x b ≡ y → length y < length b → length x ≡ 0
  no_multiple b [] y cb cx e l = refl
  no_multiple [] (z ∷ zs) y cb cx e l = absurd (omega arith)
  no_multiple (w ∷ ws) (z ∷ zs) y cb cx e l =
      let lengths : length (poly_mul r (z ∷ zs) (w ∷ ws)) + 1 ≡ length (z ∷ zs) + length (w ∷ ws) = degrees r inv k (z ∷ zs) (w ∷ ws) cx cb (λ q. cc) (λ q. cc) in
      let same : length (poly_mul r (z ∷ zs) (w ∷ ws)) ≡ length y = ap length e in
      absurd (omega arith)

  pub unique : DivisionIsUnique r
  unique a b c d rest other cb p q =
      let divisor : Element (poly_ops r) = (b, cb) in
      let one : Element (poly_ops r) = (c, p.quotient) in
      let two : Element (poly_ops r) = (d, q.quotient) in
      let left : Element (poly_ops r) = (rest, p.remainder) in
      let right : Element (poly_ops r) = (other, q.remainder) in
      let sums = same_element (poly_ops r) (ring.add (ring.mul one divisor) left) (ring.add (ring.mul two divisor) right) (sym p.sum ∙ q.sum) in
      let apart : Element (poly_ops r) = ring.add one (ring.neg two) in
      let short : length (list_add r other (list_neg r rest)) < length b = omega (arith, length-neg r rest, length-add r other (list_neg r rest), p.lower, q.lower) in
      let quotients : one ≡ two =
      minus_same ring one two
      (same_element (poly_ops r) apart ring.zero
      (nil_from_length apart.0 (no_multiple b apart.0 _ cb apart.1 (ap (λ x. x.0) (difference ring divisor one two left right sums)) short))) in
      (ap (λ x. x.0) quotients, ap (λ x. x.0) (add_cancel ring (ring.mul two divisor) left right (ap (λ x. ring.add (ring.mul x divisor) left) (sym quotients) ∙ sums)))
