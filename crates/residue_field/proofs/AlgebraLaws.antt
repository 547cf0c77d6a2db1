-- What holds of a commutative ring with coordinates over a field of constants: the constants within it,
-- linear maps by coordinates, how many elements there are, and, over q constants, the power by q.
use Rattle.std.proofs.Common.{◌≡◌, inl, inr, ℕ, zero, suc, ◌<◌, ◌≤◌, ◌^◌, cond, nat_lt, nat_eq, sym, refl, ap, ap₂, ◌∙◌, arith, lt-ltb, le-ltb, eq-eqb, ne_eqb}
use Rattle.std.proofs.lemmas.Bool.{cond-true, cond-false, cond_both, cases_order}
use Rattle.ring_core.specs.Ring.{RingOps, IsElem, IsRing}
use Rattle.ring_core.specs.Coeffs.{sum_below}
use Rattle.ring_core.specs.Powers.{power_of}
use Rattle.ring_core.proofs.Carrier.{Element, elements, same_element, add_exchange, neg_sum, mul_neg, mul_zero, add_zero}
use Rattle.ring_core.proofs.Twist.{image_of_zero}
use Rattle.ring_core.proofs.PowerLaws.{power_in}
use Rattle.finite_ring.specs.Finite.{HasNoPair, root_product}
use Rattle.finite_ring.proofs.Counted.{IsCounted}
use Rattle.finite_ring.proofs.PowerMaps.{IsEmbedding, IsPowerLinear}
use Rattle.finite_ring.proofs.Frobenius.{IsFiniteField}
use Rattle.finite_ring.proofs.Embedding.{power_linear, accepted_field, fixed_product}
use Rattle.residue_field.specs.Residue.{constant_at}
use Rattle.residue_field.specs.Algebra.{Coordinates, unit_of, AreCoordinates, IsAlgebra}
use Rattle.residue_field.specs.Digits.{digit, number}
use Rattle.residue_field.specs.steps.Stored.{IsLinear}
use Rattle.residue_field.proofs.DigitLaws.{digit_below, digit-number, number-digits, number-same, number-zeros, number_below}

module _ {E T : Type 0} (r : RingOps E) (t : RingOps T) (h : IsRing t) (embed : E → T) (embed_in : (b : E) → IsElem r b → IsElem t (embed b)) where
  -- the power q, which is linear over the constants
  pub power_map : (q : ℕ) → IsPowerLinear r t embed q → IsLinear r t embed (λ x. power_of t x q)
  power_map q l = record {
    map_in = λ x e. power_in t h x q e;
    map_add = l.power_add;
    map_scale = l.power_scale;
  }

  -- what a linear map adds to an element
  pub difference_map : (map : T → T) → IsLinear r t embed map → IsLinear r t embed (λ x. t.add (map x) (t.neg x))
  difference_map map l = record {
    map_in = λ x e. h.closed.add_in _ _ (l.map_in x e) (h.closed.neg_in x e);
    map_add = λ x y e d.
        let R = elements h in
        let u : Element t = (x, e) in
        let v : Element t = (y, d) in
        let mu : Element t = (map x, l.map_in x e) in
        let mv : Element t = (map y, l.map_in y d) in
        ap (λ z. t.add z (t.neg (t.add x y))) (l.map_add x y e d)
        ∙ ap (λ z. z.0) (ap (R.add (R.add mu mv)) (neg_sum R u v) ∙ add_exchange R mu mv (R.neg u) (R.neg v));
    map_scale = λ b x e d.
        let R = elements h in
        let s : Element t = (embed b, embed_in b e) in
        let u : Element t = (x, d) in
        let mu : Element t = (map x, l.map_in x d) in
        ap (λ z. t.add z (t.neg (t.mul (embed b) x))) (l.map_scale b x e d)
        ∙ ap (λ z. z.0) (sym (R.mul_add s mu (R.neg u) ∙ ap (R.add (R.mul s mu)) (mul_neg R s u)));
  }

-- Over q constants there are q^dimension elements.
module _ {E T : Type 0} (r : RingOps E) (h : IsRing r) (t : RingOps T) (c : Coordinates E T) (p : AreCoordinates r t c) (q : ℕ) (fin : IsCounted (elements h) q) where
  positive : 0 < q
  positive = omega (arith, fin.below (elements h).zero)

  -- the number of a coordinate
  index_at : (x : T) → IsElem t x → ℕ → ℕ
  index_at x e i = fin.index (c.coord x i, p.coord_in x i e)

  same_index_at : (x : T) (e : IsElem t x) (i : ℕ) (b : Element r) → c.coord x i ≡ b.0 → index_at x e i ≡ fin.index b
  unfolding index_at
  same_index_at x e i b is = ap fin.index (same_element r _ b is)

  -- the coordinates with the digits of m as their numbers
  coords_of : ℕ → ℕ → E
  coords_of m i = (fin.nth (digit q m i)).0

  coords_in : (m i : ℕ) → IsElem r (coords_of m i)
  unfolding coords_of
  coords_in m i = (fin.nth (digit q m i)).1

  pub algebra_counted : (ring : IsRing t) → IsCounted (elements ring) (q ^ c.dimension)
  unfolding coords_of index_at
  algebra_counted ring = record {
    index = λ x. number q c.dimension (index_at x.0 x.1);
    nth = λ m. (c.of_coords (coords_of m), p.of_coords_in _ (coords_in m));
    below = λ x. number_below q positive c.dimension (index_at x.0 x.1) (λ i. fin.below _);
    nth_index = λ x. same_element t _ _ (p.coord_inj _ x.0 (p.of_coords_in _ (coords_in _)) x.1 (λ i l.
        p.coord_of_coords _ i (coords_in _) l
        ∙ ap (λ j. (fin.nth j).0) (digit-number q positive c.dimension (index_at x.0 x.1) (λ j. fin.below _) i l)
        ∙ ap (λ b. b.0) (fin.nth_index _)));
    index_nth = λ m l.
        let made = p.of_coords_in (coords_of m) (coords_in m) in
        number-same q c.dimension (index_at (c.of_coords (coords_of m)) made) (digit q m) (λ i low.
        same_index_at _ made i (fin.nth (digit q m i)) (p.coord_of_coords (coords_of m) i (coords_in m) low)
        ∙ fin.index_nth _ (digit_below q positive m i))
        ∙ number-digits q positive c.dimension m l;
    index_zero =
        number-zeros q c.dimension (index_at _ ring.closed.zero_in) (λ i low.
        same_index_at _ ring.closed.zero_in i (elements h).zero (p.coord_zero i low) ∙ fin.index_zero);
  }

module _ {E T : Type 0} (r : RingOps E) (h : IsRing r) (t : RingOps T) (c : Coordinates E T) (a : IsAlgebra r t c) where
  abbrev p : AreCoordinates r t c
  p = a.coordinates

  constant_add : (x y : E) (i : ℕ) → constant_at r (r.add x y) i ≡ r.add (constant_at r x i) (constant_at r y i)
  constant_add x y zero = refl
  constant_add x y (suc i) = sym (h.zero_add r.zero h.closed.zero_in)

  constant_mul : (x y : Element r) (i : ℕ) → constant_at r (r.mul x.0 y.0) i ≡ r.mul x.0 (constant_at r y.0 i)
  constant_mul x y zero = refl
  constant_mul x y (suc i) = sym (ap (λ z. z.0) (mul_zero (elements h) x))

  -- the constants within the ring
  pub algebra_embedding : IsEmbedding r t c.embed
  algebra_embedding = record {
    embed_in = a.embed_in;
    embed_one = a.embed_one;
    embed_add = λ x y s u.
        let sum_in = h.closed.add_in x y s u in
        p.coord_inj _ _ (a.embed_in (r.add x y) sum_in) (a.ring.closed.add_in _ _ (a.embed_in x s) (a.embed_in y u)) (λ i l.
        a.coord_embed (r.add x y) i sum_in l ∙ constant_add x y i
        ∙ sym (a.coord_add (c.embed x) (c.embed y) i (a.embed_in x s) (a.embed_in y u) l
        ∙ ap₂ r.add (a.coord_embed x i s l) (a.coord_embed y i u l)));
    embed_mul = λ x y s u.
        let product_in = h.closed.mul_in x y s u in
        p.coord_inj _ _ (a.embed_in (r.mul x y) product_in) (a.ring.closed.mul_in _ _ (a.embed_in x s) (a.embed_in y u)) (λ i l.
        a.coord_embed (r.mul x y) i product_in l ∙ constant_mul (x, s) (y, u) i
        ∙ sym (a.coord_scale x (c.embed y) i s (a.embed_in y u) l ∙ ap (r.mul x) (a.coord_embed y i u l)));
    embed_inj = λ x y s u e.
        sym (a.coord_embed x 0 s a.positive) ∙ ap (λ z. c.coord z 0) e ∙ a.coord_embed y 0 u a.positive;
  }

  unit_coord_in : (j i : ℕ) → IsElem r (cond (nat_eq j i) r.one r.zero)
  unit_coord_in j i = cond_both (nat_eq j i) r.one r.zero (IsElem r) (λ _. h.closed.one_in) (λ _. h.closed.zero_in)

  pub unit_in : (j : ℕ) → IsElem t (unit_of r c j)
  unit_in j = p.of_coords_in _ (unit_coord_in j)

  pub coord_unit : (j i : ℕ) → i < c.dimension → c.coord (unit_of r c j) i ≡ cond (nat_eq j i) r.one r.zero
  coord_unit j i l = p.coord_of_coords _ i (unit_coord_in j) l

  -- the coordinates of x below k
  part_at : ℕ → T → ℕ → E
  part_at k x i = cond (nat_lt i k) (c.coord x i) r.zero

  part_at_in : (k : ℕ) (x : T) (i : ℕ) → IsElem t x → IsElem r (part_at k x i)
  unfolding part_at
  part_at_in k x i e = cond_both (nat_lt i k) (c.coord x i) r.zero (IsElem r) (λ _. p.coord_in x i e) (λ _. h.closed.zero_in)

  part_low : (k : ℕ) (x : T) (i : ℕ) → i < k → part_at k x i ≡ c.coord x i
  unfolding part_at
  part_low k x i l = cond-true (nat_lt i k) (c.coord x i) r.zero (lt-ltb i k l)

  part_high : (k : ℕ) (x : T) (i : ℕ) → k ≤ i → part_at k x i ≡ r.zero
  unfolding part_at
  part_high k x i l = cond-false (nat_lt i k) (c.coord x i) r.zero (le-ltb i k l)

  times_unit : (j i : ℕ) (b : Element r) → (j ≡ i → ⊥) → r.mul b.0 (cond (nat_eq j i) r.one r.zero) ≡ r.zero
  times_unit j i b ne =
      ap (r.mul b.0) (cond-false (nat_eq j i) r.one r.zero (ne_eqb j i ne)) ∙ ap (λ x. x.0) (mul_zero (elements h) b)

  part_step : (k : ℕ) (x : T) (i : ℕ) → IsElem t x → part_at (suc k) x i ≡ r.add (part_at k x i) (r.mul (c.coord x k) (cond (nat_eq k i) r.one r.zero))
  part_step k x i e =
      elim (cases_order i k) [
        | inl same ↦
            part_low (suc k) x i (omega arith)
            ∙ sym (ap₂ r.add (part_high k x i (omega arith))
            (ap₂ r.mul (ap (c.coord x) (sym same)) (cond-true (nat_eq k i) r.one r.zero (eq-eqb k i (sym same)))
            ∙ h.mul_one _ (p.coord_in x i e))
            ∙ h.zero_add _ (p.coord_in x i e))
        | inr (inl low) ↦
            part_low (suc k) x i (omega arith)
            ∙ sym (ap₂ r.add (part_low k x i low) (times_unit k i (c.coord x k, p.coord_in x k e) (λ d. absurd (omega arith)))
            ∙ ap (λ y. y.0) (add_zero (elements h) (c.coord x i, p.coord_in x i e)))
        | inr (inr high) ↦
            part_high (suc k) x i (omega arith)
            ∙ sym (ap₂ r.add (part_high k x i (omega arith)) (times_unit k i (c.coord x k, p.coord_in x k e) (λ d. absurd (omega arith)))
            ∙ h.zero_add r.zero h.closed.zero_in)
      ]

  part : ℕ → T → T
  part k x = c.of_coords (part_at k x)

  part_in : (k : ℕ) (x : T) → IsElem t x → IsElem t (part k x)
  unfolding part
  part_in k x e = p.of_coords_in _ (λ i. part_at_in k x i e)

  coord_part : (k : ℕ) (x : T) (i : ℕ) → IsElem t x → i < c.dimension → c.coord (part k x) i ≡ part_at k x i
  unfolding part
  coord_part k x i e l = p.coord_of_coords _ i (λ j. part_at_in k x j e) l

  term : ℕ → T → T
  term k x = t.mul (c.embed (c.coord x k)) (unit_of r c k)

  term_in : (k : ℕ) (x : T) → IsElem t x → IsElem t (term k x)
  unfolding term
  term_in k x e = a.ring.closed.mul_in _ _ (a.embed_in _ (p.coord_in x k e)) (unit_in k)

  -- one coordinate more
  part_suc : (k : ℕ) (x : T) → IsElem t x → part (suc k) x ≡ t.add (part k x) (term k x)
  unfolding term
  part_suc k x e =
      p.coord_inj _ _ (part_in (suc k) x e) (a.ring.closed.add_in _ _ (part_in k x e) (term_in k x e)) (λ i l.
      coord_part (suc k) x i e l ∙ part_step k x i e
      ∙ sym (a.coord_add (part k x) (term k x) i (part_in k x e) (term_in k x e) l
      ∙ ap₂ r.add (coord_part k x i e l)
      (a.coord_scale (c.coord x k) (unit_of r c k) i (p.coord_in x k e) (unit_in k) l
      ∙ ap (r.mul (c.coord x k)) (coord_unit k i l))))

  part_none : (x : T) → IsElem t x → part 0 x ≡ t.zero
  part_none x e =
      p.coord_inj _ _ (part_in 0 x e) a.ring.closed.zero_in (λ i l.
      coord_part 0 x i e l ∙ part_high 0 x i (omega arith) ∙ sym (p.coord_zero i l))

  part_all : (x : T) → IsElem t x → part c.dimension x ≡ x
  part_all x e =
      p.coord_inj _ _ (part_in c.dimension x e) e (λ i l. coord_part c.dimension x i e l ∙ part_low c.dimension x i l)

  -- a linear map by coordinates: the image of x is the combination of those of the units
  module _ (map : T → T) (linear : IsLinear r t c.embed map) where
    -- the combination of the images of the units below k
    abbrev combined_at : ℕ → T → ℕ → E
    combined_at k x i = sum_below r k (λ j. r.mul (c.coord x j) (c.coord (map (unit_of r c j)) i))

    map_term : (k : ℕ) (x : T) (i : ℕ) → IsElem t x → i < c.dimension → c.coord (map (term k x)) i ≡ r.mul (c.coord x k) (c.coord (map (unit_of r c k)) i)
    unfolding term
    map_term k x i e l =
        ap (λ y. c.coord y i) (linear.map_scale (c.coord x k) (unit_of r c k) (p.coord_in x k e) (unit_in k))
        ∙ a.coord_scale (c.coord x k) (map (unit_of r c k)) i (p.coord_in x k e) (linear.map_in _ (unit_in k)) l

    map_part : (k : ℕ) (x : T) (i : ℕ) → IsElem t x → i < c.dimension → c.coord (map (part k x)) i ≡ combined_at k x i
    map_part zero x i e l =
        ap (λ y. c.coord y i)
        (ap map (part_none x e) ∙ image_of_zero t a.ring map linear.map_in linear.map_add)
        ∙ p.coord_zero i l
    map_part (suc k) x i e l =
        ap (λ y. c.coord y i)
        (ap map (part_suc k x e) ∙ linear.map_add (part k x) (term k x) (part_in k x e) (term_in k x e))
        ∙ a.coord_add (map (part k x)) (map (term k x)) i (linear.map_in _ (part_in k x e)) (linear.map_in _ (term_in k x e)) l
        ∙ ap₂ r.add (map_part k x i e l) (map_term k x i e l)

    pub linear_coords : (x : T) (i : ℕ) → IsElem t x → i < c.dimension
        → c.coord (map x) i ≡ sum_below r c.dimension (λ j. r.mul (c.coord x j) (c.coord (map (unit_of r c j)) i))
    linear_coords x i e l = ap (λ y. c.coord (map y) i) (sym (part_all x e)) ∙ map_part c.dimension x i e l

  module _ (q : ℕ) (k : IsFiniteField (elements h) q) where
    -- the power q is linear over the constants
    pub algebra_linear : IsPowerLinear r t c.embed q
    algebra_linear = power_linear r h t a.ring a.commutes c.embed algebra_embedding q k

    -- the coordinates of the power q
    pub power_coords : (x : T) (i : ℕ) → IsElem t x → i < c.dimension
        → c.coord (power_of t x q) i ≡ sum_below r c.dimension (λ j. r.mul (c.coord x j) (c.coord (power_of t (unit_of r c j) q) i))
    power_coords = linear_coords (λ x. power_of t x q) (power_map r t a.ring c.embed a.embed_in q algebra_linear)

    -- the coordinates of the power q less the element
    pub moved_coords : (x : T) (i : ℕ) → IsElem t x → i < c.dimension
        → c.coord (t.add (power_of t x q) (t.neg x)) i
        ≡ sum_below r c.dimension (λ j. r.mul (c.coord x j) (c.coord (t.add (power_of t (unit_of r c j) q) (t.neg (unit_of r c j))) i))
    moved_coords =
        linear_coords (λ x. t.add (power_of t x q) (t.neg x))
        (difference_map r t a.ring c.embed a.embed_in (λ x. power_of t x q) (power_map r t a.ring c.embed a.embed_in q algebra_linear))

    -- Where only zero has the power q zero, and the power q fixes only constants, no two nonzero elements
    -- multiply to zero.
    pub algebra_accepted : ((x : T) → IsElem t x → power_of t x q ≡ t.zero → x ≡ t.zero)
        → ((x : T) → IsElem t x → power_of t x q ≡ x → (b : E) × IsElem r b × (x ≡ c.embed b)) → HasNoPair t
    algebra_accepted =
        accepted_field r h t a.ring a.commutes c.embed algebra_embedding q k _ (algebra_counted r h t c p q k.counted a.ring)

    -- an element that the power q fixes is a root of the product over all constants
    pub algebra_roots : (at : ℕ → E) → ((i : ℕ) → i < q → at i ≡ (k.counted.nth i).0) → (x : T) → IsElem t x
        → power_of t x q ≡ x → root_product t (λ i. c.embed (at i)) q x ≡ t.zero
    algebra_roots = fixed_product r h t a.ring a.commutes c.embed algebra_embedding q k
