-- The coordinates of twisted polynomials over the polynomials in T: the base coordinates of their motive
-- coordinates. Multiplication by the image of a polynomial on the right multiplies them by it.
use Rattle.std.proofs.Common.{◌≡◌, ℕ, suc, ◌+◌, ◌*◌, ◌/◌, ◌%◌, ◌<◌, ◌≤◌, inl, inr, Option, List, [], ◌∷◌, length, sym, ◌∙◌, ap, ap₂, arith, subst, mod-lt, div-lt_iff_lt-mul}
use Rattle.std.proofs.lemmas.Bool.{and_parts, cases_lt}
use Rattle.std.proofs.lemmas.Nat.{div-mul-add, mod-mul-add}
use mathlib.Core.Path.{fun_ext}
use Rattle.ring_core.specs.Ring.{RingOps}
use Rattle.ring_core.specs.Field.{IsField, FrobOps, IsFrobField}
use Rattle.ring_core.specs.Coeffs.{coeff, list_of}
use Rattle.ring_core.proofs.Coefficients.{coeff_past}
use Rattle.ring_core.proofs.FirstValues.{length-first_values, at-first_values}
use Rattle.ring_core.specs.Twisted.{list_add, list_mul, twisted_ops}
use Rattle.ring_core.specs.Monomial.{constant, tau_power}
use Rattle.ring_core.proofs.Carrier.{RingOn, Element, same_element, zero_only, minus_same}
use Rattle.ring_core.proofs.Series.{total}
use Rattle.ring_core.proofs.Twist.{total_is, sum_same}
use Rattle.ring_core.proofs.ListRing.{frob_ring}
use Rattle.drinfeld_mod.specs.Image.{image}
use Rattle.motive_coords.specs.Motive.{IsMotive}
use Rattle.motive_coords.specs.OverT.{IsOverT, base_parts}
use Rattle.euclid_theory.proofs.OreSizes.{ore_sizes}
use Rattle.euclid_theory.proofs.Sizes.{HasSizes}
use Rattle.motive_coords.proofs.Multiples.{constant_poly, constant_coeffs, letter_poly, letter_coeffs}
use Rattle.motive_coords.proofs.MotiveValue.{power_is, motive_digits, motive_only, members, list_past}
use Rattle.ring_core.proofs.Monomial.{monomial_in}
use Rattle.ring_core.proofs.Central.{tau_degree_central, base_central}
use Rattle.linear_algebra.proofs.Sums.{total_left, total_same}
use Rattle.relation_theory.proofs.Gauss.{cauchy_product}
use Rattle.relation_theory.proofs.Relations.{before}
use Rattle.relation_theory.proofs.PolyEuclid.{scalars, polys, coeffs, coeffs_past, coeffs_add, coeffs_mul, poly_same, poly_of, poly_of_list, coeffs_of}
use Rattle.motive_coords.proofs.Digits.{digits_in, digits_zero}
use Rattle.motive_coords.proofs.Readings.{shifts_product, at_past, at_add, at_total, at_left, at_shift, at_power}
use Rattle.finite_ring.proofs.Powers.{power}
use Rattle.relation_theory.proofs.PowerRelations.{IsCoordinates}
use Rattle.motive_coords.proofs.Ores.{twisted, parts, parts_past, parts_add, single, scale_parts, scale_length, twisted_same, digit}

module _ {E B : Type 0} (r : RingOps E) (inv : E → Option E) (base : RingOps B) (binv : B → Option B) (f : FrobOps E B)
    (k : IsField r inv) (kb : IsField base binv) (l : IsFrobField r base f) where
  abbrev S : RingOn (Element (twisted_ops r f.frob))
  S = twisted r inv base f k l

  abbrev K : RingOn (Element r)
  K = scalars r inv k

  abbrev F : RingOn (Element base)
  F = scalars base binv kb

  abbrev A : RingOn (Element (twisted_ops base (λ c i. c)))
  A = polys base binv kb

  modulo : (q : ℕ) → q % f.degree < f.degree
  modulo q = mod-lt q (let p = l.degree_pos in omega (arith, p))

  -- The base coordinate of `c` at `q` modulo the degree.
  abbrev place : ℕ → Element r → Element base
  place q c = (f.coord c.0 (q % f.degree), l.coord_in c.0 (q % f.degree) c.1 (modulo q))

  place_add : (q : ℕ) (x y : Element r) → place q (K.add x y) ≡ F.add (place q x) (place q y)
  place_add q x y = same_element base _ _ (l.coord_add x.0 y.0 (q % f.degree) x.1 y.1 (modulo q))

  place_zero : (q : ℕ) → place q K.zero ≡ F.zero
  place_zero q = zero_only F (place q K.zero) (sym (place_add q K.zero K.zero) ∙ ap (place q) (K.zero_add K.zero))

  abbrev embed : Element base → Element r
  embed c = (f.embed c.0, l.embed_in c.0 c.1)

  place_scale : (c : Element base) (x : Element r) (q : ℕ) → place q (K.mul (embed c) x) ≡ F.mul c (place q x)
  place_scale c x q = same_element base _ _ (l.coord_scale c.0 x.0 (q % f.degree) c.1 x.1 (modulo q))

  -- The constant `c`.
  abbrev const : Element base → Element (twisted_ops r f.frob)
  const c = single r inv base f k l (embed c) 0

  -- What coordinate `q` reads of a digit.
  abbrev read : ℕ → Element (twisted_ops r f.frob) → Element base
  read q u = place q (parts r inv base f k l u (q / f.degree))

  read_add : (q : ℕ) (u v : Element (twisted_ops r f.frob)) → read q (S.add u v) ≡ F.add (read q u) (read q v)
  read_add q u v = ap (place q) (parts_add r inv base f k l u v (q / f.degree)) ∙ place_add q _ _

  read_scale : (c : Element base) (q : ℕ) (u : Element (twisted_ops r f.frob)) → read q (S.mul (const c) u) ≡ F.mul c (read q u)
  read_scale c q u = ap (place q) (scale_parts r inv base f k l (embed c) u (q / f.degree)) ∙ place_scale c _ q

  const_central : (c : Element base) (u : Element (twisted_ops r f.frob)) → S.mul (const c) u ≡ S.mul u (const c)
  const_central c u = same_element (twisted_ops r f.frob) _ _ (base_central r inv base f k l c.0 u.0 c.1 (and_parts _ _ u.1).0)

  -- `b` is the image of T, of degree `d`
  module _ (b : Element (twisted_ops r f.frob)) (d : ℕ) (degree : length b.0 ≡ suc d) (pos : 1 ≤ d) where
    abbrev size : Element (twisted_ops r f.frob) → ℕ
    size u = length u.0

    abbrev sizes : HasSizes S (λ u. length u.0)
    sizes = ore_sizes r inv base f k l

    -- The coefficient at `e` of coordinate `q` of `u`.
    abbrev coord_at : Element (twisted_ops r f.frob) → ℕ → ℕ → Element base
    coord_at u q e = read q (digit r inv base f k l b d degree pos u e)

    coord_high : (u : Element (twisted_ops r f.frob)) (q e : ℕ) → d * f.degree ≤ q → coord_at u q e ≡ F.zero
    coord_high u q e m =
        let short = digits_in S size sizes b d degree pos u e in
        let far : d ≤ q / f.degree = elim (cases_lt (q / f.degree) d) [
          | inl t ↦ absurd (let below = (div-lt_iff_lt-mul l.degree_pos).0 t in omega (arith, below, m))
          | inr t ↦ t
        ] in
        ap (place q) (parts_past r inv base f k l _ (q / f.degree) (omega (arith, short, far))) ∙ place_zero q

    coord_scale : (c : Element base) (u : Element (twisted_ops r f.frob)) (q e : ℕ) → coord_at (S.mul (const c) u) q e ≡ F.mul c (coord_at u q e)
    coord_scale c u q =
        at_left S F size sizes b d degree pos (read q) (read_add q) (const c) u c (λ x s. scale_length r inv base f k l (embed c) x d s) (read_scale c q)

    coord_inj : (u : Element (twisted_ops r f.frob)) → ((q e : ℕ) → coord_at u q e ≡ F.zero) → u ≡ S.zero
    coord_inj u zeros =
        digits_zero S size sizes b d degree pos u (λ e.
        twisted_same r inv base f k l (digit r inv base f k l b d degree pos u e) S.zero (λ i. member e i ∙ sym (parts_past r inv base f k l S.zero i (omega arith))))
      where
        member : (e i : ℕ) → parts r inv base f k l (digit r inv base f k l b d degree pos u e) i ≡ K.zero
        member e i = same_element r _ _ (l.coord_inj _ _ (parts r inv base f k l (digit r inv base f k l b d degree pos u e) i).1 k.ring.closed.zero_in (λ j m.
            let q = i * f.degree + j in
            let high : q / f.degree ≡ i = div-mul-add i f.degree j m in
            let low : q % f.degree ≡ j = mod-mul-add i f.degree j m in
            ap₂ (λ s t. f.coord (parts r inv base f k l (digit r inv base f k l b d degree pos u e) s).0 t) (sym high) (sym low)
            ∙ ap (λ t. t.0) (zeros q e ∙ sym (place_zero q)) ∙ ap (f.coord r.zero) low))

    -- The image of a polynomial in T.
    pub acting : Element (twisted_ops base (λ c i. c)) → Element (twisted_ops r f.frob)
    acting a = total S (length a.0) (λ i. S.mul (const (coeffs base binv kb a i)) (power S b i))

    -- u (c v) = c (u v)
    const_first : (c : Element base) (u v : Element (twisted_ops r f.frob)) → S.mul u (S.mul (const c) v) ≡ S.mul (const c) (S.mul u v)
    const_first c u v =
        sym (S.mul_assoc u (const c) v) ∙ ap (λ t. S.mul t v) (sym (const_central c u)) ∙ S.mul_assoc (const c) u v

    coord_act : (u : Element (twisted_ops r f.frob)) (a : Element (twisted_ops base (λ c i. c))) (q e : ℕ) → coord_at (S.mul u (acting a)) q e ≡ cauchy_product F (coeffs base binv kb a) (coord_at u q) e
    unfolding acting
    coord_act u a q e =
        let n = length a.0 in
        let c = coeffs base binv kb a in
        ap (λ t. coord_at t q e) (sym (total_left S n u (λ i. S.mul (const (c i)) (power S b i))))
        ∙ at_total S F size sizes b d degree pos (read q) (read_add q) n (λ i. S.mul u (S.mul (const (c i)) (power S b i))) e
        ∙ total_same F n _ _ (λ i m.
        ap (λ t. coord_at t q e) (const_first (c i) u (power S b i)) ∙ coord_scale (c i) (S.mul u (power S b i)) q e
        ∙ ap (F.mul (c i)) (at_power S F size sizes b d degree pos (read q) (read_add q) u i e))
        ∙ shifts_product F n c (coord_at u q) (coeffs_past base binv kb a) e

    -- The coordinates of `u`.
    pub coordinate_row : Element (twisted_ops r f.frob) → ℕ → Element (twisted_ops base (λ c i. c))
    coordinate_row u q = poly_of base binv kb (length u.0) (coord_at u q)

    row_coeffs : (u : Element (twisted_ops r f.frob)) (q e : ℕ) → coeffs base binv kb (coordinate_row u q) e ≡ coord_at u q e
    unfolding coordinate_row
    row_coeffs u q e = coeffs_of base binv kb (length u.0) (coord_at u q) (at_past S F size sizes b d degree pos (read q) (read_add q) u) e

    -- The power of tau by the degree of the field.
    abbrev pub frob_of : Element (twisted_ops r f.frob)
    frob_of = (tau_power r f.degree, monomial_in r k.ring r.one f.degree k.ring.closed.one_in)

    pub coordinates : IsCoordinates S A acting frob_of (d * f.degree) coordinate_row
    coordinates = record {
      past = λ u q m. poly_same base binv kb (coordinate_row u q) A.zero (λ e. row_coeffs u q e ∙ coord_high u q e m ∙ sym (coeffs_past base binv kb A.zero e (omega arith)));
      add = λ u v q. poly_same base binv kb (coordinate_row (S.add u v) q) (A.add (coordinate_row u q) (coordinate_row v q)) (λ e.
          row_coeffs (S.add u v) q e ∙ at_add S F size sizes b d degree pos (read q) (read_add q) u v e
          ∙ sym (coeffs_add base binv kb (coordinate_row u q) (coordinate_row v q) e ∙ ap₂ F.add (row_coeffs u q e) (row_coeffs v q e)));
      scale = λ u a q. poly_same base binv kb (coordinate_row (S.mul u (acting a)) q) (A.mul a (coordinate_row u q)) (λ e.
          row_coeffs (S.mul u (acting a)) q e ∙ coord_act u a q e
          ∙ sym (coeffs_mul base binv kb a (coordinate_row u q) e ∙ ap (λ t. cauchy_product F (coeffs base binv kb a) t e) (fun_ext (row_coeffs u q))));
      inj = λ u zeros. coord_inj u (λ q e.
          sym (row_coeffs u q e) ∙ ap (λ t. coeffs base binv kb t e) (zeros q) ∙ coeffs_past base binv kb A.zero e (omega arith));
      central = λ a. same_element (twisted_ops r f.frob) _ _ (tau_degree_central r inv base f k l (acting a).0 (and_parts _ _ (acting a).1).0);
      nontrivial = λ e. let n = ap (λ t. length t.0) e in cc;
    }

    -- the image, by its definition
    pub act_is : (a : Element (twisted_ops base (λ c i. c))) → (acting a).0 ≡ image r base f b.0 a.0
    unfolding acting
    act_is a =
        total_is (twisted_ops r f.frob) (frob_ring r inv base f k l) (length a.0) (λ i. S.mul (const (coeffs base binv kb a i)) (power S b i))
        ∙ sum_same (twisted_ops r f.frob) (frob_ring r inv base f k l) (length a.0) _ _ (λ i m.
        ap (list_mul r f.frob (constant r (f.embed (coeff base a.0 i)))) (power_is r inv base f k l b i))

    -- what `row` is, by the definition of the coordinates over the polynomials in T
    row_low : (u : Element (twisted_ops r f.frob)) (list : List (List E)) (s : IsMotive r f.frob b.0 u.0 list) (q : ℕ) → q / f.degree < d
        → list_of base (length (coeff (twisted_ops r (λ c i. c)) list (q / f.degree))) (λ e. f.coord (coeff r (coeff (twisted_ops r (λ c i. c)) list (q / f.degree)) e) (q % f.degree)) ≡ (coordinate_row u q).0
    row_low u list s q m =
        let n = length (coeff (twisted_ops r (λ c i. c)) list (q / f.degree)) in
        let member : ℕ → Element r = members r inv base f k l b d degree pos list s.elems (q / f.degree) in
        poly_of_list base binv kb n (λ e. place q (member e))
        ∙ ap (λ (t : Element (twisted_ops base (λ c i. c))). t.0) (poly_same base binv kb (poly_of base binv kb n (λ e. place q (member e))) (coordinate_row u q) (λ e.
        coeffs_of base binv kb n (λ e. place q (member e)) (λ e far. ap (place q) (list_past r inv base f k l b d degree pos list s.elems (q / f.degree) e far) ∙ place_zero q) e
        ∙ ap (place q) (sym (motive_digits r inv base f k l b d degree pos u list s e (q / f.degree) m)) ∙ sym (row_coeffs u q e)))

    pub over_t_is : (u : Element (twisted_ops r f.frob)) (v : List (List B)) → IsOverT r base f b.0 u.0 v → (q : ℕ) → coeff (twisted_ops base (λ c i. c)) v q ≡ (coordinate_row u q).0
    over_t_is u v s q =
        let count : length s.motive ≡ d = let e = s.is_motive.count in omega (arith, e, degree) in
        let size : length v ≡ d * f.degree = ap length s.is ∙ length-first_values _ _ ∙ ap (λ t. t * f.degree) count in
        elim (cases_lt q (d * f.degree)) [
          | inl low ↦
              ap (λ t. coeff (twisted_ops base (λ c i. c)) t q) s.is
              ∙ at-first_values (length s.motive * f.degree) _ q [] (subst (λ t. q < t * f.degree) (sym count) low)
              ∙ row_low u s.motive s.is_motive q ((div-lt_iff_lt-mul l.degree_pos).1 low)
          | inr high ↦ coeff_past (twisted_ops base (λ c i. c)) v q (omega (arith, size, high)) ∙ sym (ap (λ t. t.0) (coordinates.past u q high))
        ]

    -- equal coordinates are those of equal twisted polynomials
    pub row_injective : (u w : Element (twisted_ops r f.frob)) → ((q : ℕ) → coordinate_row u q ≡ coordinate_row w q) → u ≡ w
    row_injective u w same =
        minus_same S u w (coordinates.inj (S.add u (S.neg w)) (λ q.
        coordinates.add u (S.neg w) q ∙ ap (λ t. A.add t (coordinate_row (S.neg w) q)) (same q) ∙ sym (coordinates.add w (S.neg w) q)
        ∙ ap (λ t. coordinate_row t q) (S.add_neg w) ∙ zero_only A (coordinate_row S.zero q) (sym (coordinates.add S.zero S.zero q) ∙ ap (λ t. coordinate_row t q) (S.zero_add S.zero))))

    pub over_t_only : (u : Element (twisted_ops r f.frob)) (v z : List (List B)) → IsOverT r base f b.0 u.0 v → IsOverT r base f b.0 u.0 z → v ≡ z
    over_t_only u v z s t = s.is ∙ ap (base_parts r base f) (motive_only r inv base f k l b d degree pos u s.motive t.motive s.is_motive t.is_motive) ∙ sym t.is

    pub over_t_back : (u w : Element (twisted_ops r f.frob)) (v : List (List B)) → IsOverT r base f b.0 u.0 v → IsOverT r base f b.0 w.0 v → u ≡ w
    over_t_back u w v s t =
        row_injective u w (λ q. same_element (twisted_ops base (λ c i. c)) _ _ (sym (over_t_is u v s q) ∙ over_t_is w v t q))

    -- The coordinates of a sum, of a multiple by a constant of the base, of `u` times an image, and of `u` times the image of T.
    pub over_t_add : (u w : Element (twisted_ops r f.frob)) (v z y : List (List B)) → IsOverT r base f b.0 u.0 v → IsOverT r base f b.0 w.0 z → IsOverT r base f b.0 (S.add u w).0 y
        → (q : ℕ) → coeff (twisted_ops base (λ c i. c)) y q ≡ list_add base (coeff (twisted_ops base (λ c i. c)) v q) (coeff (twisted_ops base (λ c i. c)) z q)
    over_t_add u w v z y s t o q =
        over_t_is (S.add u w) y o q ∙ ap (λ (x : Element (twisted_ops base (λ c i. c))). x.0) (coordinates.add u w q)
        ∙ sym (ap₂ (list_add base) (over_t_is u v s q) (over_t_is w z t q))

    pub over_t_scale : (c : Element base) (u : Element (twisted_ops r f.frob)) (v y : List (List B)) → IsOverT r base f b.0 u.0 v → IsOverT r base f b.0 (list_mul r f.frob (constant r (f.embed c.0)) u.0) y
        → (q : ℕ) → coeff (twisted_ops base (λ c i. c)) y q ≡ list_mul base (λ c i. c) (constant base c.0) (coeff (twisted_ops base (λ c i. c)) v q)
    over_t_scale c u v y s o q =
        over_t_is (S.mul (const c) u) y o q
        ∙ ap (λ (x : Element (twisted_ops base (λ c i. c))). x.0) (poly_same base binv kb (coordinate_row (S.mul (const c) u) q) (A.mul (constant_poly base binv kb c) (coordinate_row u q)) (λ e.
        row_coeffs (S.mul (const c) u) q e ∙ coord_scale c u q e ∙ ap (F.mul c) (sym (row_coeffs u q e)) ∙ sym (constant_coeffs base binv kb c (coordinate_row u q) e)))
        ∙ sym (ap (list_mul base (λ c i. c) (constant base c.0)) (over_t_is u v s q))

    pub over_t_image : (a : Element (twisted_ops base (λ c i. c))) (u : Element (twisted_ops r f.frob)) (v y : List (List B)) → IsOverT r base f b.0 u.0 v → IsOverT r base f b.0 (list_mul r f.frob u.0 (image r base f b.0 a.0)) y
        → (q : ℕ) → coeff (twisted_ops base (λ c i. c)) y q ≡ list_mul base (λ c i. c) a.0 (coeff (twisted_ops base (λ c i. c)) v q)
    over_t_image a u v y s o q =
        over_t_is (S.mul u (acting a)) y (subst (λ t. IsOverT r base f b.0 (list_mul r f.frob u.0 t) y) (sym (act_is a)) o) q
        ∙ ap (λ (x : Element (twisted_ops base (λ c i. c))). x.0) (coordinates.scale u a q)
        ∙ sym (ap (list_mul base (λ c i. c) a.0) (over_t_is u v s q))

    pub over_t_shift : (u : Element (twisted_ops r f.frob)) (v y : List (List B)) → IsOverT r base f b.0 u.0 v → IsOverT r base f b.0 (list_mul r f.frob u.0 b.0) y
        → (q : ℕ) → coeff (twisted_ops base (λ c i. c)) y q ≡ list_mul base (λ c i. c) (base.zero ∷ base.one ∷ []) (coeff (twisted_ops base (λ c i. c)) v q)
    over_t_shift u v y s o q =
        over_t_is (S.mul u b) y o q
        ∙ ap (λ (x : Element (twisted_ops base (λ c i. c))). x.0) (poly_same base binv kb (coordinate_row (S.mul u b) q) (A.mul (letter_poly base binv kb) (coordinate_row u q)) (λ e.
        row_coeffs (S.mul u b) q e ∙ at_shift S F size sizes b d degree pos (read q) (read_add q) u e ∙ ap (λ t. before F.zero t e) (sym (fun_ext (row_coeffs u q))) ∙ sym (letter_coeffs base binv kb (coordinate_row u q) e)))
        ∙ sym (ap (list_mul base (λ c i. c) (base.zero ∷ base.one ∷ [])) (over_t_is u v s q))
