-- The first relation with top one, and that it is the only one.
use Rattle.std.proofs.Common.{◌≡◌, ℕ, suc, ◌-◌, ◌*◌, ◌<◌, ◌≤◌, inl, inr, Option, true, List, [], ◌∷◌, length, refl, sym, ◌∙◌, ap, arith, subst, ext_get_or, cond, ◌≢◌}
use Rattle.std.proofs.lemmas.Bool.{cases_lt, and_parts, false_from_ne_true}
use Rattle.ring_core.specs.Ring.{RingOps, IsRing, IsElem}
use Rattle.ring_core.specs.Field.{IsField, FrobOps, IsFrobField}
use Rattle.ring_core.specs.Coeffs.{coeff, are_elems, is_canonical, trim, first_values, list_of}
use Rattle.ring_core.specs.Twisted.{twisted_ops, list_mul}
use Rattle.ring_core.proofs.Carrier.{RingOn, Element, same_element}
use Rattle.ring_core.proofs.Coefficients.{coeff_past, elem_read, elems-first_values}
use Rattle.ring_core.proofs.ListRing.{poly_ring, mul_in}
use Rattle.linear_algebra.proofs.RowLists.{row_elems, row_len}
use Rattle.linear_algebra.specs.Linear.{is_row}
use Rattle.ring_core.specs.Monomial.{constant}
use Rattle.ring_core.proofs.FirstValues.{length-first_values, at-first_values}
use Rattle.ring_core.proofs.Twist.{no_twist}
use Rattle.ring_core.proofs.Monomial.{monomial_in, constant_mul}
use Rattle.ring_core.proofs.Degrees.{top_nonzero}
use Rattle.relation_theory.proofs.Relations.{IsRel, rel_scale, proportional}
use Rattle.relation_theory.proofs.PolyEuclid.{poly_euclidean}
use Rattle.frobenius_rel.proofs.ListBases.{values, values_shape, values_at}
use Rattle.relation_theory.proofs.PowerRelations.{power_rows, value_zero, rows_zero}
use Rattle.frobenius_rel.specs.Relation.{relation_value, IsLeastRelation}
use Rattle.frobenius_rel.specs.steps.FirstRelation.{IsFirstRelation}
use Rattle.frobenius_rel.proofs.Values.{value_is}
use Rattle.frobenius_rel.proofs.Relations.{S, A, acts, x, rows, are_coordinates}

module _ {E B : Type 0} (r : RingOps E) (inv : E → Option E) (base : RingOps B) (binv : B → Option B) (f : FrobOps E B)
    (k : IsField r inv) (kb : IsField base binv) (l : IsFrobField r base f)
    (b : Element (twisted_ops r f.frob)) (d : ℕ) (degree : length b.0 ≡ suc d) (pos : 1 ≤ d) where
  abbrev p : RingOps (List B)
  p = twisted_ops base (λ c i. c)

  abbrev P : RingOn (Element (twisted_ops base (λ c i. c)))
  P = A r inv base binv f k kb l b d degree pos

  abbrev v : ℕ → ℕ → Element (twisted_ops base (λ c i. c))
  v = power_rows (S r inv base binv f k kb l b d degree pos) P (acts r inv base binv f k kb l b d degree pos) (x r inv base binv f k kb l b d degree pos) (d * f.degree) (rows r inv base binv f k kb l b d degree pos) (are_coordinates r inv base binv f k kb l b d degree pos)

  abbrev pub member : (a : List (List B)) → are_elems (twisted_ops base (λ c i. c)) a ≡ true → ℕ → Element (twisted_ops base (λ c i. c))
  member a e i = (coeff p a i, elem_read p a refl e i)

  -- a list whose value is zero is a relation of the coordinates
  rel_of : (a : List (List B)) (e : are_elems (twisted_ops base (λ c i. c)) a ≡ true) → relation_value r base f b.0 a ≡ [] → IsRel P v (length a) (member a e)
  rel_of a e z = record {
    past = λ i m. same_element p _ _ (coeff_past p a i m);
    is = rows_zero (S r inv base binv f k kb l b d degree pos) P (acts r inv base binv f k kb l b d degree pos) (x r inv base binv f k kb l b d degree pos) (d * f.degree) (rows r inv base binv f k kb l b d degree pos) (are_coordinates r inv base binv f k kb l b d degree pos) (length a) (member a e)
        (same_element (twisted_ops r f.frob) _ _ (value_is r inv base binv f k kb l b d degree pos a (member a e) (λ i _. refl) ∙ z));
  }

  -- and back
  value_of : (a : List (List B)) (c : ℕ → Element (twisted_ops base (λ c i. c))) → ((i : ℕ) → i < length a → (c i).0 ≡ coeff (twisted_ops base (λ c i. c)) a i) → IsRel P v (length a) c → relation_value r base f b.0 a ≡ []
  value_of a c same s =
      sym (value_is r inv base binv f k kb l b d degree pos a c same)
      ∙ ap (λ (t : Element (twisted_ops r f.frob)). t.0) (value_zero (S r inv base binv f k kb l b d degree pos) P (acts r inv base binv f k kb l b d degree pos) (x r inv base binv f k kb l b d degree pos) (d * f.degree) (rows r inv base binv f k kb l b d degree pos) (are_coordinates r inv base binv f k kb l b d degree pos) (length a) c s.is)

  -- The multiple of the first relation by the inverse of its top.
  pub scaled_least : (g a : List (List B)) (s : IsFirstRelation r base f b.0 g) (u : Element (twisted_ops base (λ c i. c))) → are_elems (twisted_ops base (λ c i. c)) a ≡ true → length a ≡ length g
      → ((i : ℕ) → i < length g → coeff (twisted_ops base (λ c i. c)) a i ≡ (P.mul u (member g s.elems i)).0) → (P.mul u (member g s.elems (length g - 1))).0 ≡ base.one ∷ [] → IsLeastRelation r base f b.0 a
  scaled_least g a s u inside len is one = record {
    elems = inside;
    long = let m = s.long in omega (arith, m, len);
    monic = ap (λ n. coeff p a (n - 1)) len ∙ is (length g - 1) (let m = s.long in omega (arith, m)) ∙ one;
    is = value_of a (λ i. P.mul u (member g s.elems i)) (λ i m. sym (is i (let e = len in omega (arith, e, m))))
        (subst (λ n. IsRel P v n (λ i. P.mul u (member g s.elems i))) (sym len) (rel_scale P v (length g) u (member g s.elems) (rel_of g s.elems s.is)));
    least = λ c ci short zero. s.least c ci (let e = len in omega (arith, short, e)) zero;
  }

  no_shorter : (a c : List (List B)) → IsLeastRelation r base f b.0 a → IsLeastRelation r base f b.0 c → length a < length c → ⊥
  no_shorter a c s t l = let e = t.least a s.elems l s.is (length a - 1) in let n = ap length (sym s.monic ∙ e) in omega (arith, n)

  -- where a list is the least relation, fewer rows have none
  none_below : (a : List (List B)) → IsLeastRelation r base f b.0 a → (n : ℕ) → length a ≡ suc n → (c : ℕ → Element (twisted_ops base (λ c i. c))) → IsRel P v n c → (i : ℕ) → c i ≡ P.zero
  none_below a s n size c t i = elim (cases_lt i n) [
    | inl m ↦ same_element p _ _ (sym (values_at p ring n c i m) ∙ s.least list (row_elems p n list shape) (let e = short in omega (arith, e, size)) zero_value i)
    | inr m ↦ t.past i m
  ]
    where
      ring : IsRing (twisted_ops base (λ c i. c))
      ring = poly_ring base kb.ring kb.one_ne_zero

      list : List (List B)
      list = values p ring n c

      shape : is_row p n list ≡ true
      shape = values_shape p ring n c

      short : length list ≡ n
      short = row_len p n list shape

      zero_value : relation_value r base f b.0 list ≡ []
      zero_value = value_of list c (λ i m. sym (values_at p ring n c i (let e = short in omega (arith, e, m)))) (subst (λ m. IsRel P v m c) (sym short) t)

  -- There is one least relation: of two, each times the top of the other is the same.
  pub least_only : (a c : List (List B)) → IsLeastRelation r base f b.0 a → IsLeastRelation r base f b.0 c → a ≡ c
  least_only a c s t = ext_get_or [] a c len (λ i _. ap (λ (y : Element (twisted_ops base (λ c i. c))). y.0) (same i))
    where
      len : length a ≡ length c
      len = elim (cases_lt (length a) (length c)) [
        | inl l ↦ absurd (no_shorter a c s t l)
        | inr l ↦ elim (cases_lt (length c) (length a)) [
          | inl m ↦ absurd (no_shorter c a t s m)
          | inr m ↦ omega (arith, l, m)
        ]
      ]

      n : ℕ
      n = length a - 1

      size : length a ≡ suc n
      size = let m = s.long in omega (arith, m)

      one_a : member a s.elems n ≡ P.one
      one_a = same_element p _ _ s.monic

      one_c : member c t.elems n ≡ P.one
      one_c = same_element p _ _ (ap (λ m. coeff p c (m - 1)) len ∙ t.monic)

      same : (i : ℕ) → member a s.elems i ≡ member c t.elems i
      same i =
          sym (P.one_mul _) ∙ ap (λ y. P.mul y (member a s.elems i)) (sym one_c)
          ∙ proportional P v (poly_euclidean base binv kb).mul_comm n (member a s.elems) (member c t.elems) (subst (λ m. IsRel P v m (member a s.elems)) size (rel_of a s.elems s.is))
          (subst (λ m. IsRel P v m (member c t.elems)) (sym len ∙ size) (rel_of c t.elems t.is)) (none_below a s n size) i
          ∙ ap (λ y. P.mul y (member c t.elems i)) one_a ∙ P.one_mul _

-- The constant one.
one_is : {B : Type 0} (base : RingOps B) (h : IsRing base) → base.one ≢ base.zero → (x : B) → x ≡ base.one → trim base (x ∷ []) ≡ base.one ∷ []
one_is base h ne x e =
    ap (λ y. trim base (y ∷ [])) e
    ∙ ap (λ t. cond t [] (base.one ∷ [])) (false_from_ne_true _ (λ s. ne (h.equal.same_eq base.one base.zero h.closed.one_in h.closed.zero_in s)))

-- the constant at the top of the first relation isn't zero
pub first_top : {E B : Type 0} (r : RingOps E) (base : RingOps B) (binv : B → Option B) (f : FrobOps E B) (kb : IsField base binv) (phi : List E) (g : List (List B)) → IsFirstRelation r base f phi g
    → coeff base (coeff (twisted_ops base (λ c i. c)) g (length g - 1)) 0 ≢ base.zero
first_top {B = B} r base binv f kb phi g s e =
    let p = twisted_ops base (λ c i. c) in
    let top : List B = coeff p g (length g - 1) in
    let one : length top ≡ 1 = s.top in
    let place : length top - 1 ≡ 0 = omega (arith, one) in
    top_nonzero base kb.ring.closed.zero_in kb.ring.equal top (and_parts _ _ (elem_read p g refl s.elems (length g - 1))).1 (λ z. let none : length top ≡ 0 = ap length z in omega (arith, one, none)) (ap (coeff base top) place ∙ e)

module _ {E B : Type 0} (r : RingOps E) (inv : E → Option E) (base : RingOps B) (binv : B → Option B) (f : FrobOps E B)
    (k : IsField r inv) (kb : IsField base binv) (l : IsFrobField r base f)
    (phi : List E) (cp : is_canonical r phi ≡ true) (long : 2 ≤ length phi) where
  abbrev q : RingOps (List B)
  q = twisted_ops base (λ c i. c)

  -- The multiples of the members by the inverse of the last.
  pub scaled_done : (g : List (List B)) (c : B) → IsFirstRelation r base f phi g → IsElem base c → base.mul (coeff base (coeff (twisted_ops base (λ c i. c)) g (length g - 1)) 0) c ≡ base.one
      → IsLeastRelation r base f phi (first_values (length g) (λ i. list_mul base (λ c i. c) (constant base c) (coeff (twisted_ops base (λ c i. c)) g i)))
  scaled_done g c s cin inverts =
      scaled_least r inv base binv f k kb l (phi, cp) (length phi - 1) (omega (arith, long)) (omega (arith, long)) g (first_values (length g) scaled) s (constant base c, monomial_in base kb.ring c 0 cin)
      (elems-first_values q (length g) scaled (λ i _. mul_in base kb.ring (λ c i. c) (no_twist base) (constant base c) (coeff q g i) (and_parts _ _ (monomial_in base kb.ring c 0 cin)).0 (elems i)))
      (length-first_values (length g) scaled)
      (λ i m. at-first_values (length g) scaled i [] m)
      (sym (constant_mul base kb.ring (λ c i. c) (no_twist base) c top cin (elems (length g - 1)))
      ∙ ap (λ n. list_of base n (λ i. base.mul c (coeff base top i))) s.top
      ∙ one_is base kb.ring kb.one_ne_zero _ (kb.mul_comm c (coeff base top 0) cin (elem_read base top kb.ring.closed.zero_in (elems (length g - 1)) 0) ∙ inverts))
    where
      scaled : ℕ → List B
      scaled i = list_mul base (λ c i. c) (constant base c) (coeff q g i)

      top : List B
      top = coeff q g (length g - 1)

      elems : (i : ℕ) → are_elems base (coeff q g i) ≡ true
      elems i = (and_parts _ _ (elem_read q g refl s.elems i)).0
