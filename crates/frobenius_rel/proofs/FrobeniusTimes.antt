-- Multiplication by the power of tau of the degree of the field, on motive coordinates: a product with the matrix
-- of the coordinates of tau^n, .., tau^(n + r - 1).
use Rattle.std.proofs.Common.{◌≡◌, ℕ, zero, suc, ◌+◌, ◌-◌, ◌<◌, ◌≤◌, inl, inr, Option, true, List, [], ◌∷◌, ◌++◌, length, refl, sym, ◌∙◌, ap, ap₂, arith, subst, ext_get_or, eq-eqb}
use mathlib.Core.Path.{fun_ext}
use Rattle.std.proofs.lemmas.Bool.{and_from, cases_lt, cases_eq}
use Rattle.std.proofs.lemmas.List.{get_or_append_left, get_or-append_right}
use Rattle.ring_core.specs.Ring.{RingOps}
use Rattle.ring_core.specs.Field.{IsField, FrobOps, IsFrobField}
use Rattle.ring_core.specs.Coeffs.{coeff}
use Rattle.ring_core.specs.Twisted.{twisted_ops, list_mul}
use Rattle.ring_core.specs.Monomial.{tau_power}
use Rattle.ring_core.proofs.Carrier.{RingOn, Element, same_element, mul_zero}
use Rattle.ring_core.proofs.Coefficients.{elem_read}
use Rattle.ring_core.proofs.FirstValues.{length-first_values, at-first_values}
use Rattle.ring_core.proofs.Series.{total}
use Rattle.ring_core.proofs.ListRing.{poly_ring}
use Rattle.ring_core.proofs.Monomial.{monomial_in}
use Rattle.linear_algebra.specs.Combines.{combined}
use Rattle.linear_algebra.specs.Linear.{row_at, entry, is_row, are_rows}
use Rattle.linear_algebra.proofs.RowLists.{rows_in}
use Rattle.linear_algebra.proofs.Sums.{combine, total_left, total_right, total_same}
use Rattle.finite_ring.proofs.Powers.{power}
use Rattle.relation_theory.proofs.Gauss.{cauchy_product}
use Rattle.euclid_theory.proofs.OreSizes.{ore_sizes}
use Rattle.euclid_theory.proofs.Sizes.{HasSizes}
use Rattle.relation_theory.proofs.PolyEuclid.{scalars, polys, coeffs, coeffs_past, coeffs_add, coeffs_mul, poly_same}
use Rattle.motive_coords.specs.Motive.{IsMotive}
use Rattle.motive_coords.proofs.Digits.{expanded_powers, digits_in, digits_expanded}
use Rattle.motive_coords.proofs.Ores.{twisted, parts, parts_past, parts_add, single, scale_parts, scale_length, single_parts, below_parts, twisted_same, digit}
use Rattle.motive_coords.proofs.Readings.{moved_up, shifts_product, at_past, at_total, at_left, at_power}
use Rattle.motive_coords.proofs.MotiveValue.{total_swap, single_same, single_other, gathered, gathered_part, gathered_past}
use Rattle.motive_coords.proofs.MotiveLaws.{motive_coeffs, motive_exists}
use Rattle.poly_reduce.specs.Matrices.{row_times}
use Rattle.frobenius_rel.proofs.ListBases.{combined_is}

-- the coordinates as a row
pub motive_row : {E : Type 0} (r : RingOps E) (frob : E → ℕ → E) (phi u : List E) (x : List (List E)) → IsMotive r frob phi u x → is_row (twisted_ops r (λ c i. c)) (length phi - 1) x ≡ true
motive_row r frob phi u x s = and_from _ _ (eq-eqb (length x) (length phi - 1) s.count) s.elems

-- what holds of each row holds of one row more
pub each_more : {X : Type 0} (P : ℕ → List X → Type 0) (n : ℕ) (rows more : List (List X)) (x : List X) → length rows ≡ n → more ≡ rows ++ x ∷ [] → ((j : ℕ) → j < n → P j (row_at rows j)) → P n x
    → (j : ℕ) → j < n + 1 → P j (row_at more j)
each_more P n rows more x count pushed each new j m = elim (cases_eq j n) [
  | inl e ↦
      let place : j - n ≡ 0 = omega (arith, e) in
      subst (λ t. P j t) (sym (ap (λ t. row_at t j) pushed ∙ get_or-append_right rows (x ∷ []) n j [] count (omega (arith, e)) ∙ ap (row_at (x ∷ [])) place))
      (subst (λ t. P t x) (sym e) new)
  | inr ne ↦
      subst (λ t. P j t) (sym (ap (λ t. row_at t j) pushed ∙ get_or_append_left rows (x ∷ []) [] j (omega (arith, m, ne, count))))
      (each j (omega (arith, m, ne)))
]

module _ {E B : Type 0} (r : RingOps E) (inv : E → Option E) (base : RingOps B) (f : FrobOps E B) (k : IsField r inv) (l : IsFrobField r base f) where
  abbrev S : RingOn (Element (twisted_ops r f.frob))
  S = twisted r inv base f k l

  abbrev K : RingOn (Element r)
  K = scalars r inv k

  abbrev P : RingOn (Element (twisted_ops r (λ c i. c)))
  P = polys r inv k

  abbrev part : Element (twisted_ops r f.frob) → ℕ → Element r
  part = parts r inv base f k l

  -- The power of tau.
  abbrev tau : ℕ → Element (twisted_ops r f.frob)
  tau m = (tau_power r m, monomial_in r k.ring r.one m k.ring.closed.one_in)

  pub tau_is : (m : ℕ) → list_mul r f.frob (tau_power r m) (r.one ∷ []) ≡ tau_power r m
  tau_is m = ap (λ (t : Element (twisted_ops r f.frob)). t.0) (S.mul_one (tau m))

  -- the coefficients of tau^n (c tau^i), for the degree n of the field
  times_coeff : (c : Element r) (i j : ℕ) → part (S.mul (tau f.degree) (single r inv base f k l c i)) j ≡ part (S.mul (single r inv base f k l c 0) (tau (f.degree + i))) j
  times_coeff c i j =
      left ∙ sym (scale_parts r inv base f k l c (tau (f.degree + i)) j)
    where
      n : ℕ
      n = f.degree

      one : Element r
      one = K.one

      term : Element (twisted_ops r f.frob)
      term = single r inv base f k l c i

      left : part (S.mul (tau n) term) j ≡ K.mul c (part (tau (n + i)) j)
      left = elim (cases_lt j n) [
        | inl low ↦
            below_parts r inv base f k l one n term j low
            ∙ sym (ap (K.mul c) (single_other r inv base f k l one (n + i) j (λ e. omega (arith, e, low))) ∙ mul_zero K c)
        | inr high ↦
            single_parts r inv base f k l one n term j high ∙ K.one_mul _ ∙ same_element r _ _ (l.frob_degree _ (part term (j - n)).1)
            ∙ (elim (cases_eq j (n + i)) [
              | inl e ↦
                  let here : j - n ≡ i = omega (arith, e) in
                  ap (part term) here ∙ single_same r inv base f k l c i
                  ∙ sym (ap (λ t. K.mul c (part (tau (n + i)) t)) e ∙ ap (K.mul c) (single_same r inv base f k l one (n + i)) ∙ K.mul_one c)
              | inr ne ↦
                  single_other r inv base f k l c i (j - n) (λ e. ne (omega (arith, e, high)))
                  ∙ sym (ap (K.mul c) (single_other r inv base f k l one (n + i) j ne) ∙ mul_zero K c)
            ])
      ]

  -- tau^n (c tau^i) = c tau^(n + i)
  times_term : (c : Element r) (i : ℕ) → S.mul (tau f.degree) (single r inv base f k l c i) ≡ S.mul (single r inv base f k l c 0) (tau (f.degree + i))
  times_term c i = twisted_same r inv base f k l _ _ (times_coeff c i)

  -- a twisted polynomial of at most `d` coefficients is the sum of its terms
  spread : (d : ℕ) (v : Element (twisted_ops r f.frob)) → length v.0 ≤ d → v ≡ total S d (λ i. single r inv base f k l (part v i) i)
  spread d v short =
      twisted_same r inv base f k l v (gathered r inv base f k l d (part v)) (λ i. elim (cases_lt i d) [
        | inl m ↦ sym (gathered_part r inv base f k l d (part v) i m)
        | inr m ↦ parts_past r inv base f k l v i (omega (arith, short, m)) ∙ sym (gathered_past r inv base f k l d (part v) i m)
      ])

  coeffs_total : (n : ℕ) (g : ℕ → Element (twisted_ops r (λ c i. c))) (e : ℕ) → coeffs r inv k (total P n g) e ≡ total K n (λ i. coeffs r inv k (g i) e)
  coeffs_total zero g e = coeffs_past r inv k P.zero e (omega arith)
  coeffs_total (suc n) g e = coeffs_add r inv k (total P n g) (g n) e ∙ ap (λ t. K.add t (coeffs r inv k (g n) e)) (coeffs_total n g e)

  module _ (b : Element (twisted_ops r f.frob)) (d : ℕ) (degree : length b.0 ≡ suc d) (pos : 1 ≤ d) where
    abbrev p : RingOps (List E)
    p = twisted_ops r (λ c i. c)

    abbrev size : Element (twisted_ops r f.frob) → ℕ
    size u = length u.0

    abbrev sizes : HasSizes S (λ u. length u.0)
    sizes = ore_sizes r inv base f k l

    abbrev digit_of : Element (twisted_ops r f.frob) → ℕ → Element (twisted_ops r f.frob)
    digit_of = digit r inv base f k l b d degree pos

    abbrev additive : (q : ℕ) (u v : Element (twisted_ops r f.frob)) → part (S.add u v) q ≡ K.add (part u q) (part v q)
    additive q u v = parts_add r inv base f k l u v q

    -- The coefficient at `e` of motive coordinate `q`.
    abbrev at : Element (twisted_ops r f.frob) → ℕ → ℕ → Element r
    at u q e = part (digit_of u e) q

    -- tau^n times a digit
    times_digit : (v : Element (twisted_ops r f.frob)) → length v.0 ≤ d → S.mul (tau f.degree) v ≡ total S d (λ i. S.mul (single r inv base f k l (part v i) 0) (tau (f.degree + i)))
    times_digit v short =
        ap (S.mul (tau f.degree)) (spread d v short) ∙ sym (total_left S d (tau f.degree) (λ i. single r inv base f k l (part v i) i))
        ∙ total_same S d _ _ (λ i _. times_term (part v i) i)

    -- one digit's part of the coordinates
    digit_at : (u : Element (twisted_ops r f.frob)) (j q e : ℕ) → at (S.mul (tau f.degree) (S.mul (digit_of u j) (power S b j))) q e ≡ total K d (λ i. K.mul (at u i j) (moved_up K j (at (tau (f.degree + i)) q) e))
    digit_at u j q e =
        let v = digit_of u j in
        let moved : ℕ → Element (twisted_ops r f.frob) = λ i. S.mul (tau (f.degree + i)) (power S b j) in
        ap (λ t. at t q e)
        (sym (S.mul_assoc (tau f.degree) v (power S b j)) ∙ ap (λ t. S.mul t (power S b j)) (times_digit v (digits_in S size sizes b d degree pos u j))
        ∙ sym (total_right S d (power S b j) (λ i. S.mul (single r inv base f k l (part v i) 0) (tau (f.degree + i))))
        ∙ total_same S d _ (λ i. S.mul (single r inv base f k l (part v i) 0) (moved i)) (λ i _. S.mul_assoc (single r inv base f k l (part v i) 0) (tau (f.degree + i)) (power S b j)))
        ∙ at_total S K size sizes b d degree pos (λ w. part w q) (additive q) d (λ i. S.mul (single r inv base f k l (part v i) 0) (moved i)) e
        ∙ total_same K d _ _ (λ i _.
        at_left S K size sizes b d degree pos (λ w. part w q) (additive q) (single r inv base f k l (part v i) 0) (moved i) (part v i)
        (λ x s. scale_length r inv base f k l (part v i) x d s) (λ x. scale_parts r inv base f k l (part v i) x q) e
        ∙ ap (K.mul (part v i)) (at_power S K size sizes b d degree pos (λ w. part w q) (additive q) (tau (f.degree + i)) j e))

    sum_of_digits : (u : Element (twisted_ops r f.frob)) → u ≡ total S (length u.0) (λ j. S.mul (digit_of u j) (power S b j))
    sum_of_digits u =
        sym (expanded_powers S b (power S b) refl (λ j. refl) (length u.0) (digit_of u) ∙ digits_expanded S size sizes b d degree pos u (length u.0) (omega arith))

    -- the coordinates of tau^n u
    times_at : (u : Element (twisted_ops r f.frob)) (q e : ℕ) → at (S.mul (tau f.degree) u) q e ≡ total K d (λ i. cauchy_product K (at u i) (at (tau (f.degree + i)) q) e)
    times_at u q e =
        let m = length u.0 in
        ap (λ t. at t q e) (ap (S.mul (tau f.degree)) (sum_of_digits u) ∙ sym (total_left S m (tau f.degree) (λ j. S.mul (digit_of u j) (power S b j))))
        ∙ at_total S K size sizes b d degree pos (λ w. part w q) (additive q) m (λ j. S.mul (tau f.degree) (S.mul (digit_of u j) (power S b j))) e
        ∙ total_same K m _ _ (λ j _. digit_at u j q e)
        ∙ sym (total_swap K d m (λ i j. K.mul (at u i j) (moved_up K j (at (tau (f.degree + i)) q) e)))
        ∙ total_same K d _ _ (λ i _. shifts_product K m (at u i) (at (tau (f.degree + i)) q) (at_past S K size sizes b d degree pos (λ w. part w i) (additive i) u) e)

    module _ (u : Element (twisted_ops r f.frob)) (x : List (List E)) (s : IsMotive r f.frob b.0 u.0 x) (images : List (List (List E)))
        (rows : length images ≡ d) (shape : are_rows (twisted_ops r (λ c i. c)) d images ≡ true) (each : (i : ℕ) → i < d → IsMotive r f.frob b.0 (tau_power r (f.degree + i)) (row_at images i)) where
      -- Member `i` of the coordinates, and of row `i` at `q`, as polynomials.
      abbrev member : ℕ → Element (twisted_ops r (λ c i. c))
      member i = (coeff p x i, elem_read p x refl s.elems i)

      member_coeffs : (i j : ℕ) → coeffs r inv k (member i) j ≡ at u i j
      member_coeffs i j = motive_coeffs r inv base f k l b d degree pos u x s i j

      abbrev image : ℕ → ℕ → Element (twisted_ops r (λ c i. c))
      image i q = (entry p images i q, rows_in p refl d images shape i q)

      image_coeffs : (i q e : ℕ) → i < d → coeffs r inv k (image i q) e ≡ at (tau (f.degree + i)) q e
      image_coeffs i q e m =
          same_element r _ _ refl ∙ motive_coeffs r inv base f k l b d degree pos (tau (f.degree + i)) (row_at images i) (each i m) q e

      product_coeffs : (q e : ℕ) → coeffs r inv k (combine P d member image q) e ≡ at (S.mul (tau f.degree) u) q e
      product_coeffs q e =
          coeffs_total d (λ i. P.mul (member i) (image i q)) e
          ∙ total_same K d _ _ (λ i m.
          coeffs_mul r inv k (member i) (image i q) e
          ∙ ap₂ (λ v w. cauchy_product K v w e) (fun_ext (member_coeffs i)) (fun_ext (λ c. image_coeffs i q c m)))
          ∙ sym (times_at u q e)

      abbrev list : List (List E)
      list = row_times p d x images

      list_at : (q : ℕ) → q < d → coeff p list q ≡ (combine P d member image q).0
      list_at q m =
          at-first_values d (combined p (length images) (coeff p x) (entry p images)) q [] m
          ∙ ap (λ n. combined p n (coeff p x) (entry p images) q) rows
          ∙ combined_is p (poly_ring r k.ring k.one_ne_zero) images image d (λ i _ j. refl) x member (λ i _. refl) q

      same_list : (y : List (List E)) → IsMotive r f.frob b.0 (S.mul (tau f.degree) u).0 y → y ≡ list
      same_list y o =
          let count : length y ≡ d = (let e = o.count in omega (arith, e, degree)) in
          ext_get_or [] y (row_times p d x images) (count ∙ sym (length-first_values d (combined p (length images) (coeff p x) (entry p images)))) (λ q m.
          ap (λ (w : Element (twisted_ops r (λ c i. c))). w.0) (poly_same r inv k (coeff p y q, elem_read p y refl o.elems q) (combine P d member image q) (λ e.
          motive_coeffs r inv base f k l b d degree pos (S.mul (tau f.degree) u) y o q e ∙ sym (product_coeffs q e)))
          ∙ sym (list_at q (omega (arith, m, count))))

      -- The product with the matrix has the motive coordinates of tau^n u.
      pub times_motive : IsMotive r f.frob b.0 (list_mul r f.frob (tau_power r f.degree) u.0) (row_times (twisted_ops r (λ c i. c)) d x images)
      times_motive =
          let found = motive_exists r inv base f k l b d degree pos (S.mul (tau f.degree) u) in
          subst (IsMotive r f.frob b.0 (S.mul (tau f.degree) u).0) (same_list found.0 found.1) found.1
