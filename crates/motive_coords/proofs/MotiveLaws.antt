-- Motive coordinates exist, are additive and linear over the field, and are multiplied by the letter where the
-- twisted polynomial is multiplied by the image of T on the right.
use Rattle.std.proofs.Common.{◌≡◌, ℕ, suc, ◌≤◌, inl, inr, Option, true, List, [], ◌∷◌, length, refl, sym, ◌∙◌, ap, ap₂, arith}
use mathlib.Core.Path.{fun_ext}
use Rattle.std.proofs.lemmas.Bool.{cases_lt}
use Rattle.ring_core.specs.Ring.{RingOps}
use Rattle.ring_core.specs.Field.{IsField, FrobOps, IsFrobField}
use Rattle.ring_core.specs.Coeffs.{coeff, are_elems, first_values, list_of}
use Rattle.ring_core.specs.Twisted.{twisted_ops, list_add, list_mul}
use Rattle.ring_core.specs.Monomial.{constant}
use Rattle.ring_core.proofs.Carrier.{RingOn, Element, same_element}
use Rattle.ring_core.proofs.Coefficients.{coeff_past, elem_read}
use Rattle.euclid_theory.proofs.OreSizes.{ore_sizes}
use Rattle.euclid_theory.proofs.Sizes.{HasSizes}
use Rattle.relation_theory.proofs.Relations.{before}
use Rattle.relation_theory.proofs.PolyEuclid.{scalars, polys, coeffs, coeffs_add, poly_same}
use Rattle.motive_coords.specs.Motive.{IsMotive}
use Rattle.motive_coords.proofs.Digits.{digits_in, digits_past, digits_expanded}
use Rattle.motive_coords.proofs.Readings.{at_add, at_left, at_shift}
use Rattle.motive_coords.proofs.Ores.{twisted, parts, parts_past, parts_add, single, scale_parts, scale_length, digit}
use Rattle.motive_coords.proofs.Multiples.{constant_poly, constant_coeffs, letter_poly, letter_coeffs}
use Rattle.motive_coords.proofs.MotiveValue.{motive_digits, motive_of_digits}

module _ {E B : Type 0} (r : RingOps E) (inv : E → Option E) (base : RingOps B) (f : FrobOps E B) (k : IsField r inv) (l : IsFrobField r base f)
    (b : Element (twisted_ops r f.frob)) (d : ℕ) (degree : length b.0 ≡ suc d) (pos : 1 ≤ d) where
  abbrev S : RingOn (Element (twisted_ops r f.frob))
  S = twisted r inv base f k l

  abbrev K : RingOn (Element r)
  K = scalars r inv k

  abbrev p : RingOps (List E)
  p = twisted_ops r (λ c i. c)

  abbrev part : Element (twisted_ops r f.frob) → ℕ → Element r
  part = parts r inv base f k l

  abbrev size : Element (twisted_ops r f.frob) → ℕ
  size u = length u.0

  abbrev sizes : HasSizes S (λ u. length u.0)
  sizes = ore_sizes r inv base f k l

  -- Digit `j` of `u`.
  abbrev digit_of : Element (twisted_ops r f.frob) → ℕ → Element (twisted_ops r f.frob)
  digit_of = digit r inv base f k l b d degree pos

  -- coefficient `i` is additive
  abbrev additive : (i : ℕ) (u v : Element (twisted_ops r f.frob)) → part (S.add u v) i ≡ K.add (part u i) (part v i)
  additive i u v = parts_add r inv base f k l u v i

  -- Member `i` of a list, as a polynomial.
  abbrev poly : (list : List (List E)) → are_elems (twisted_ops r (λ c i. c)) list ≡ true → ℕ → Element (twisted_ops r (λ c i. c))
  poly list inside i = (coeff p list i, elem_read p list refl inside i)

  -- its coefficients are those of the digits
  pub motive_coeffs : (u : Element (twisted_ops r f.frob)) (list : List (List E)) (s : IsMotive r f.frob b.0 u.0 list) (i j : ℕ)
      → coeffs r inv k (poly list s.elems i) j ≡ part (digit r inv base f k l b d degree pos u j) i
  motive_coeffs u list s i j = elim (cases_lt i d) [
    | inl m ↦ same_element r _ _ refl ∙ sym (motive_digits r inv base f k l b d degree pos u list s j i m)
    | inr m ↦
        let short = digits_in S size sizes b d degree pos u j in
        same_element r _ _ (ap (λ t. coeff r t j) (coeff_past p list i (let e = s.count in omega (arith, e, degree, m))))
        ∙ sym (parts_past r inv base f k l (digit_of u j) i (omega (arith, short, m)))
  ]

  -- a member, from its coefficients
  member_is : (u : Element (twisted_ops r f.frob)) (z : List (List E)) → IsMotive r f.frob b.0 u.0 z → (i : ℕ) (y : Element (twisted_ops r (λ c i. c)))
      → ((j : ℕ) → part (digit_of u j) i ≡ coeffs r inv k y j) → coeff (twisted_ops r (λ c i. c)) z i ≡ y.0
  member_is u z o i y e =
      ap (λ (w : Element (twisted_ops r (λ c i. c))). w.0) (poly_same r inv k (poly z o.elems i) y (λ j. motive_coeffs u z o i j ∙ e j))

  pub motive_add : (u v : Element (twisted_ops r f.frob)) (x y z : List (List E)) → IsMotive r f.frob b.0 u.0 x → IsMotive r f.frob b.0 v.0 y → IsMotive r f.frob b.0 (S.add u v).0 z
      → (i : ℕ) → coeff (twisted_ops r (λ c i. c)) z i ≡ list_add r (coeff (twisted_ops r (λ c i. c)) x i) (coeff (twisted_ops r (λ c i. c)) y i)
  motive_add u v x y z s t o i =
      member_is (S.add u v) z o i ((polys r inv k).add (poly x s.elems i) (poly y t.elems i)) (λ j.
      at_add S K size sizes b d degree pos (λ w. part w i) (additive i) u v j
      ∙ sym (coeffs_add r inv k (poly x s.elems i) (poly y t.elems i) j ∙ ap₂ K.add (motive_coeffs u x s i j) (motive_coeffs v y t i j)))

  pub motive_scale : (c : Element r) (u : Element (twisted_ops r f.frob)) (x z : List (List E)) → IsMotive r f.frob b.0 u.0 x → IsMotive r f.frob b.0 (list_mul r f.frob (constant r c.0) u.0) z
      → (i : ℕ) → coeff (twisted_ops r (λ c i. c)) z i ≡ list_mul r (λ c i. c) (constant r c.0) (coeff (twisted_ops r (λ c i. c)) x i)
  motive_scale c u x z s o i =
      member_is (S.mul (single r inv base f k l c 0) u) z o i ((polys r inv k).mul (constant_poly r inv k c) (poly x s.elems i)) (λ j.
      at_left S K size sizes b d degree pos (λ w. part w i) (additive i) (single r inv base f k l c 0) u c
      (λ x s. scale_length r inv base f k l c x d s) (λ x. scale_parts r inv base f k l c x i) j
      ∙ sym (constant_coeffs r inv k c (poly x s.elems i) j ∙ ap (K.mul c) (motive_coeffs u x s i j)))

  pub motive_shift : (u : Element (twisted_ops r f.frob)) (x z : List (List E)) → IsMotive r f.frob b.0 u.0 x → IsMotive r f.frob b.0 (list_mul r f.frob u.0 b.0) z
      → (i : ℕ) → coeff (twisted_ops r (λ c i. c)) z i ≡ list_mul r (λ c i. c) (r.zero ∷ r.one ∷ []) (coeff (twisted_ops r (λ c i. c)) x i)
  motive_shift u x z s o i =
      member_is (S.mul u b) z o i ((polys r inv k).mul (letter_poly r inv k) (poly x s.elems i)) (λ j.
      at_shift S K size sizes b d degree pos (λ w. part w i) (additive i) u j
      ∙ sym (letter_coeffs r inv k (poly x s.elems i) j ∙ ap (λ t. before K.zero t j) (fun_ext (motive_coeffs u x s i))))

  -- Each twisted polynomial has motive coordinates.
  pub motive_exists : (u : Element (twisted_ops r f.frob)) → (list : List (List E)) × IsMotive r f.frob b.0 u.0 list
  motive_exists u = (
    first_values d (λ i. list_of r (length u.0) (λ j. (part (digit_of u j) i).0)),
    motive_of_digits r inv base f k l b d degree pos u (length u.0) (digit_of u) (digits_in S size sizes b d degree pos u) (digits_past S size sizes b d degree pos u)
        (digits_expanded S size sizes b d degree pos u (length u.0) (omega arith)),
  )
