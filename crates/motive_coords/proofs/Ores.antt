-- Twisted polynomials as elements of their ring: their coefficients, and their digits.
use Rattle.std.proofs.Common.{◌≡◌, ℕ, suc, ◌-◌, ◌<◌, ◌≤◌, inl, inr, Option, true, List, [], ◌∷◌, length, ◌∙◌, ap, arith}
use Rattle.std.proofs.lemmas.Bool.{and_parts, cases_lt}
use Rattle.ring_core.specs.Ring.{RingOps}
use Rattle.ring_core.specs.Field.{IsField, FrobOps, IsFrobField}
use Rattle.ring_core.specs.Coeffs.{coeff, is_trimmed}
use Rattle.ring_core.specs.Twisted.{twisted_ops}
use Rattle.ring_core.specs.Monomial.{monomial}
use Rattle.ring_core.proofs.Carrier.{RingOn, Element, same_element, mul_zero}
use Rattle.ring_core.proofs.Coefficients.{coeff_past, same_coeffs}
use Rattle.ring_core.proofs.Twist.{frob_twist}
use Rattle.ring_core.proofs.ListRing.{value, coeff-add, coeff-mul}
use Rattle.ring_core.proofs.Monomial.{monomial_in, monomial_product, monomial_product_below}
use Rattle.ring_core.proofs.Degrees.{top_nonzero}
use Rattle.euclid_theory.proofs.OreSizes.{ores, ore_sizes}
use Rattle.relation_theory.proofs.PolyEuclid.{scalars}
use Rattle.motive_coords.proofs.Digits.{digits}

module _ {E B : Type 0} (r : RingOps E) (inv : E → Option E) (base : RingOps B) (f : FrobOps E B) (k : IsField r inv) (l : IsFrobField r base f) where
  -- The ring of twisted polynomials, on its elements.
  abbrev pub twisted : RingOn (Element (twisted_ops r f.frob))
  twisted = ores r inv base f k l

  -- The coefficients.
  abbrev pub parts : Element (twisted_ops r f.frob) → ℕ → Element r
  parts u = value r k.ring u.0 (and_parts _ _ u.1).0

  pub parts_past : (u : Element (twisted_ops r f.frob)) (i : ℕ) → length u.0 ≤ i → parts u i ≡ (scalars r inv k).zero
  parts_past u i m = same_element r _ _ (coeff_past r u.0 i m)

  pub parts_add : (u v : Element (twisted_ops r f.frob)) (i : ℕ) → parts (twisted.add u v) i ≡ (scalars r inv k).add (parts u i) (parts v i)
  parts_add u v i = same_element r _ _ (coeff-add r k.ring u.0 v.0 (and_parts _ _ u.1).0 (and_parts _ _ v.1).0 i)

  -- twisted polynomials with equal coefficients are equal
  pub twisted_same : (u v : Element (twisted_ops r f.frob)) → ((i : ℕ) → parts u i ≡ parts v i) → u ≡ v
  twisted_same u v e =
      same_element (twisted_ops r f.frob) u v
      (same_coeffs r k.ring.closed.zero_in k.ring.equal u.0 v.0 (and_parts _ _ u.1).1 (and_parts _ _ v.1).1 (λ i. ap (λ t. t.0) (e i)))

  -- a polynomial with zeros from n on has at most n coefficients
  pub length_from : (u : Element (twisted_ops r f.frob)) (n : ℕ) → ((i : ℕ) → n ≤ i → parts u i ≡ (scalars r inv k).zero) → length u.0 ≤ n
  length_from u n zeros = at u.0 (and_parts _ _ u.1).1 (λ i m. ap (λ t. t.0) (zeros i m))
    where
      at : (v : List E) → is_trimmed r v ≡ true → ((i : ℕ) → n ≤ i → coeff r v i ≡ r.zero) → length v ≤ n
      at [] t e = omega arith
      at (y ∷ ys) t e = elim (cases_lt n (length (y ∷ ys))) [
        | inl m ↦ absurd (top_nonzero r k.ring.closed.zero_in k.ring.equal (y ∷ ys) t (λ q. cc) (e (length (y ∷ ys) - 1) (omega (arith, m))))
        | inr m ↦ m
      ]

  -- The polynomial c tau^n.
  abbrev pub single : Element r → ℕ → Element (twisted_ops r f.frob)
  single c n = (monomial r c.0 n, monomial_in r k.ring c.0 n c.1)

  abbrev pub raise : ℕ → Element r → Element r
  raise n c = (f.frob c.0 n, l.frob_in c.0 n c.1)

  -- the coefficients of c tau^n u from n on
  pub single_parts : (c : Element r) (n : ℕ) (u : Element (twisted_ops r f.frob)) (j : ℕ) → n ≤ j → parts (twisted.mul (single c n) u) j ≡ (scalars r inv k).mul c (raise n (parts u (j - n)))
  single_parts c n u j m =
      same_element r _ _
      (coeff-mul r k.ring f.frob (frob_twist r inv base f k l) (monomial r c.0 n) u.0 (and_parts _ _ (monomial_in r k.ring c.0 n c.1)).0 (and_parts _ _ u.1).0 j
      ∙ monomial_product r k.ring f.frob (frob_twist r inv base f k l) c.0 n u.0 c.1 (and_parts _ _ u.1).0 j m)

  pub below_parts : (c : Element r) (n : ℕ) (u : Element (twisted_ops r f.frob)) (j : ℕ) → j < n → parts (twisted.mul (single c n) u) j ≡ (scalars r inv k).zero
  below_parts c n u j m =
      same_element r _ _
      (coeff-mul r k.ring f.frob (frob_twist r inv base f k l) (monomial r c.0 n) u.0 (and_parts _ _ (monomial_in r k.ring c.0 n c.1)).0 (and_parts _ _ u.1).0 j
      ∙ monomial_product_below r k.ring f.frob (frob_twist r inv base f k l) c.0 n u.0 c.1 (and_parts _ _ u.1).0 j m)

  -- the coefficients of c u
  pub scale_parts : (c : Element r) (u : Element (twisted_ops r f.frob)) (i : ℕ) → parts (twisted.mul (single c 0) u) i ≡ (scalars r inv k).mul c (parts u i)
  scale_parts c u i =
      let here : i - 0 ≡ i = omega arith in
      single_parts c 0 u i (omega arith)
      ∙ ap ((scalars r inv k).mul c) (same_element r _ _ (l.frob_zero _ (parts u (i - 0)).1) ∙ ap (parts u) here)

  -- a multiple by a constant isn't longer
  pub scale_length : (c : Element r) (u : Element (twisted_ops r f.frob)) (n : ℕ) → length u.0 ≤ n → length (twisted.mul (single c 0) u).0 ≤ n
  scale_length c u n s =
      length_from (twisted.mul (single c 0) u) n (λ i m.
      scale_parts c u i ∙ ap ((scalars r inv k).mul c) (parts_past u i (omega (arith, s, m))) ∙ mul_zero (scalars r inv k) c)

  -- Member `j` of the expansion of `u` in powers of `b`, whose degree is `d`.
  abbrev pub digit : (b : Element (twisted_ops r f.frob)) (d : ℕ) → length b.0 ≡ suc d → 1 ≤ d → Element (twisted_ops r f.frob) → ℕ → Element (twisted_ops r f.frob)
  digit b d degree pos = digits twisted (λ x. length x.0) (ore_sizes r inv base f k l) b d degree pos
