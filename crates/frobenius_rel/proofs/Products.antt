-- Polynomials in X over the polynomials in T: their products, and the power that has the degree of the rank.
use Rattle.std.proofs.Common.{◌≡◌, ℕ, zero, suc, ◌+◌, ◌*◌, ◌<◌, ◌≤◌, ◌⊎◌, inl, inr, Option, true, List, [], length, refl, sym, ◌∙◌, ap, arith, ext_get_or}
use Rattle.std.proofs.lemmas.Bool.{and_parts, and_from}
use Rattle.ring_core.specs.Ring.{RingOps, IsRing}
use Rattle.ring_core.specs.Field.{IsField, FrobOps}
use Rattle.ring_core.specs.Coeffs.{coeff, are_elems, is_canonical, first_values}
use Rattle.ring_core.specs.Twisted.{twisted_ops, list_mul, product_at}
use Rattle.ring_core.proofs.Carrier.{Element, zero_mul, mul_zero}
use Rattle.ring_core.proofs.Coefficients.{coeff_past, elem_read}
use Rattle.ring_core.proofs.FirstValues.{length-first_values, at-first_values}
use Rattle.ring_core.proofs.Twist.{no_twist}
use Rattle.ring_core.proofs.ListRing.{poly_ring, mul_in, coeff-mul}
use Rattle.ring_core.proofs.Degrees.{HasNoDivisors, not_empty, degrees_add, poly_no_divisors}
use Rattle.twist_theory.proofs.Cancel.{product_nonzero}
use Rattle.minimal_poly.proofs.MinPoly.{trimmed_by_top}
use Rattle.relation_theory.proofs.PolyEuclid.{polys}
use Rattle.frobenius_rel.specs.Relation.{IsLeastRelation}

-- a least relation is a polynomial in X
pub relation_canonical : {E B : Type 0} (r : RingOps E) (base : RingOps B) (f : FrobOps E B) (phi : List E) (a : List (List B)) → IsLeastRelation r base f phi a → is_canonical (twisted_ops base (λ c i. c)) a ≡ true
relation_canonical r base f phi a s =
    and_from _ _ s.elems (trimmed_by_top (twisted_ops base (λ c i. c)) a (let l = s.long in omega (arith, l)) (ap (λ x. (twisted_ops base (λ c i. c)).same x []) s.monic))

module _ {E : Type 0} (r : RingOps E) (inv : E → Option E) (k : IsField r inv) where
  abbrev p : RingOps (List E)
  p = twisted_ops r (λ c i. c)

  abbrev ring : IsRing (twisted_ops r (λ c i. c))
  ring = poly_ring r k.ring k.one_ne_zero

  no_divisors : HasNoDivisors (twisted_ops r (λ c i. c)) (λ c i. c)
  no_divisors = record {
    product = λ a b ia ib na nb. product_nonzero r k.ring (λ c i. c) (no_twist r) k.one_ne_zero (poly_no_divisors r inv k) a b ia ib na nb;
    image = λ c i ic nc. nc;
  }

  -- the product of two that aren't zero has one member less than both together
  pub product_length : (a b : List (List E)) → is_canonical (twisted_ops r (λ c i. c)) a ≡ true → is_canonical (twisted_ops r (λ c i. c)) b ≡ true → 0 < length a → 0 < length b
      → length (list_mul (twisted_ops r (λ c i. c)) (λ c i. c) a b) + 1 ≡ length a + length b
  product_length a b ca cb la lb = degrees_add p ring (λ c i. c) (no_twist p) no_divisors a b ca cb (not_empty a la) (not_empty b lb)

  pub product_in : (a b : List (List E)) → is_canonical (twisted_ops r (λ c i. c)) a ≡ true → is_canonical (twisted_ops r (λ c i. c)) b ≡ true
      → is_canonical (twisted_ops r (λ c i. c)) (list_mul (twisted_ops r (λ c i. c)) (λ c i. c) a b) ≡ true
  product_in a b ca cb = mul_in p ring (λ c i. c) (no_twist p) a b (and_parts _ _ ca).0 (and_parts _ _ cb).0

  -- its members are the sums of products
  pub product_list : (a b w : List (List E)) (n : ℕ) → is_canonical (twisted_ops r (λ c i. c)) a ≡ true → is_canonical (twisted_ops r (λ c i. c)) b ≡ true → 0 < length a → 0 < length b
      → n + 1 ≡ length a + length b → w ≡ first_values n (product_at (twisted_ops r (λ c i. c)) (λ c i. c) a b) → w ≡ list_mul (twisted_ops r (λ c i. c)) (λ c i. c) a b
  product_list a b w n ca cb la lb count is =
      let values = length-first_values n (product_at p (λ c i. c) a b) in
      let whole = product_length a b ca cb la lb in
      is ∙ ext_get_or [] (first_values n (product_at p (λ c i. c) a b)) (list_mul p (λ c i. c) a b) (omega (arith, values, whole, count)) (λ i m.
      at-first_values n (product_at p (λ c i. c) a b) i [] (omega (arith, m, values))
      ∙ sym (coeff-mul p ring (λ c i. c) (no_twist p) a b (and_parts _ _ ca).0 (and_parts _ _ cb).0 i))

  -- a product with a member past the end
  pub term_zero : (a b : List (List E)) → are_elems (twisted_ops r (λ c i. c)) a ≡ true → are_elems (twisted_ops r (λ c i. c)) b ≡ true → (i j : ℕ) → (length a ≤ i) ⊎ (length b ≤ j)
      → list_mul r (λ c i. c) (coeff (twisted_ops r (λ c i. c)) a i) (coeff (twisted_ops r (λ c i. c)) b j) ≡ []
  term_zero a b ea eb i j (inl l) =
      ap (λ x. list_mul r (λ c i. c) x (coeff p b j)) (coeff_past p a i l)
      ∙ ap (λ (x : Element (twisted_ops r (λ c i. c))). x.0) (zero_mul (polys r inv k) (coeff p b j, elem_read p b refl eb j))
  term_zero a b ea eb i j (inr l) =
      ap (list_mul r (λ c i. c) (coeff p a i)) (coeff_past p b j l)
      ∙ ap (λ (x : Element (twisted_ops r (λ c i. c))). x.0) (mul_zero (polys r inv k) (coeff p a i, elem_read p a refl ea i))

-- products of a positive number are equal only for equal numbers
pub same_factor : (d e m : ℕ) → 0 < m → d * m ≡ e * m → d ≡ e
same_factor zero zero m pos s = refl
same_factor zero (suc e) m pos s = let more : suc e * m ≡ e * m + m = omega arith in absurd (omega (arith, s, more, pos))
same_factor (suc d) zero m pos s = let more : suc d * m ≡ d * m + m = omega arith in absurd (omega (arith, s, more, pos))
same_factor (suc d) (suc e) m pos s =
    let left : suc d * m ≡ d * m + m = omega arith in
    let right : suc e * m ≡ e * m + m = omega arith in
    ap suc (same_factor d e m pos (omega (arith, s, left, right)))
