-- The motive coordinates of `u` are the coefficients of its digits in powers of the image of T.
use Rattle.std.proofs.Common.{◌≡◌, ◌≢◌, ℕ, zero, suc, ◌<◌, ◌≤◌, inl, inr, Option, true, max, List, [], length, refl, sym, ◌∙◌, ap, arith, ext_get_or}
use mathlib.Core.Path.{fun_ext}
use Rattle.std.proofs.lemmas.Bool.{and_parts, cases_lt}
use Rattle.std.proofs.lemmas.List.{nil_from_length}
use Rattle.ring_core.specs.Ring.{RingOps}
use Rattle.ring_core.specs.Field.{IsField, FrobOps, IsFrobField}
use Rattle.ring_core.specs.Coeffs.{coeff, sum_below, are_elems, first_values, list_of}
use Rattle.ring_core.specs.Powers.{power_of}
use Rattle.ring_core.specs.Twisted.{twisted_ops, list_mul}
use Rattle.ring_core.specs.Monomial.{monomial}
use Rattle.ring_core.proofs.Carrier.{RingOn, Element, same_element, zero_mul}
use Rattle.ring_core.proofs.Series.{total}
use Rattle.ring_core.proofs.Coefficients.{coeff_past, elem_read, same_coeffs, coeff-list_of, canonical-list_of, elems-first_values}
use Rattle.ring_core.proofs.FirstValues.{length-first_values, at-first_values}
use Rattle.ring_core.proofs.Twist.{total_is, sum_same}
use Rattle.ring_core.proofs.ListRing.{frob_ring, length-list_of}
use Rattle.ring_core.proofs.Monomial.{coeff-monomial_same, coeff-monomial_other}
use Rattle.linear_algebra.proofs.Sums.{total_same, total_add, total_zero, total_right, total_rest, total_single, same_or_other}
use Rattle.euclid_theory.proofs.OreSizes.{ore_sizes}
use Rattle.relation_theory.proofs.PolyEuclid.{scalars}
use Rattle.motive_coords.proofs.Digits.{expanded, expanded_powers, digits_only}
use Rattle.finite_ring.proofs.Powers.{power}
use Rattle.motive_coords.specs.Motive.{motive_value, IsMotive}
use Rattle.motive_coords.proofs.Ores.{twisted, parts, parts_past, parts_add, length_from, single, twisted_same, digit}

-- A bound of the first values.
most : ℕ → (ℕ → ℕ) → ℕ
most zero size = 0
most (suc n) size = max (most n size) (size n)

most_bounds : (n : ℕ) (size : ℕ → ℕ) (i : ℕ) → i < n → size i ≤ most n size
unfolding most
most_bounds zero size i l = absurd (omega arith)
most_bounds (suc n) size i l = elim (same_or_other i n) [
  | inl e ↦ let same : size i ≡ size n = ap size e in omega (arith, same)
  | inr ne ↦ let m = most_bounds n size i (omega (arith, l, ne)) in omega (arith, m)
]

-- the order of summation
pub total_swap : {M : Type 0} (R : RingOn M) (n m : ℕ) (g : ℕ → ℕ → M) → total R n (λ i. total R m (g i)) ≡ total R m (λ j. total R n (λ i. g i j))
total_swap R zero m g = sym (total_zero R m _ (λ i l. refl))
total_swap R (suc n) m g =
    ap (λ t. R.add t (total R m (g n))) (total_swap R n m g) ∙ sym (total_add R m (λ j. total R n (λ i. g i j)) (g n))

module _ {E B : Type 0} (r : RingOps E) (inv : E → Option E) (base : RingOps B) (f : FrobOps E B) (k : IsField r inv) (l : IsFrobField r base f) where
  abbrev pub S : RingOn (Element (twisted_ops r f.frob))
  S = twisted r inv base f k l

  abbrev pub K : RingOn (Element r)
  K = scalars r inv k

  abbrev pub part : Element (twisted_ops r f.frob) → ℕ → Element r
  part = parts r inv base f k l

  part_total : (n : ℕ) (g : ℕ → Element (twisted_ops r f.frob)) (i : ℕ) → part (total S n g) i ≡ total K n (λ j. part (g j) i)
  part_total zero g i = parts_past r inv base f k l S.zero i (omega arith)
  part_total (suc n) g i =
      parts_add r inv base f k l (total S n g) (g n) i ∙ ap (λ t. K.add t (part (g n) i)) (part_total n g i)

  pub single_same : (c : Element r) (i : ℕ) → part (single r inv base f k l c i) i ≡ c
  single_same c i = same_element r _ _ (coeff-monomial_same r k.ring c.0 i c.1)

  pub single_other : (c : Element r) (i j : ℕ) → j ≢ i → part (single r inv base f k l c i) j ≡ K.zero
  single_other c i j ne = same_element r _ _ (coeff-monomial_other r k.ring c.0 i j c.1 ne)

  pub power_is : (u : Element (twisted_ops r f.frob)) (i : ℕ) → (power S u i).0 ≡ power_of (twisted_ops r f.frob) u.0 i
  power_is u zero = refl
  power_is u (suc i) = ap (λ t. list_mul r f.frob t u.0) (power_is u i)

  -- the sum of the terms c_i tau^i
  abbrev pub gathered : (n : ℕ) → (ℕ → Element r) → Element (twisted_ops r f.frob)
  gathered n c = total S n (λ i. single r inv base f k l (c i) i)

  pub gathered_part : (n : ℕ) (c : ℕ → Element r) (i : ℕ) → i < n → part (gathered n c) i ≡ c i
  gathered_part n c i m =
      part_total n (λ j. single r inv base f k l (c j) j) i
      ∙ total_single K n i _ m (λ j _ ne. single_other (c j) j i (λ e. ne (sym e))) ∙ single_same (c i) i

  pub gathered_past : (n : ℕ) (c : ℕ → Element r) (i : ℕ) → n ≤ i → part (gathered n c) i ≡ K.zero
  gathered_past n c i m =
      part_total n (λ j. single r inv base f k l (c j) j) i
      ∙ total_zero K n _ (λ j a. let apart : i ≢ j = omega (arith, a, m) in single_other (c j) j i apart)

  -- a term whose coefficient is zero
  single_zero : (c : Element r) (i : ℕ) → c ≡ K.zero → single r inv base f k l c i ≡ S.zero
  single_zero c i e =
      same_element (twisted_ops r f.frob) (single r inv base f k l c i) S.zero
      (nil_from_length (single r inv base f k l c i).0
      (let m = length_from r inv base f k l (single r inv base f k l c i) 0 (λ j _. elim (same_or_other j i) [
        | inl here ↦ ap (part (single r inv base f k l c i)) here ∙ single_same c i ∙ e
        | inr ne ↦ single_other c i j ne
      ]) in omega (arith, m)))

  module _ (b : Element (twisted_ops r f.frob)) (d : ℕ) (degree : length b.0 ≡ suc d) (pos : 1 ≤ d) where
    -- `c i` are the coefficients of member `i`, zero from `size i` on
    module _ (c : ℕ → ℕ → Element r) (size : ℕ → ℕ) (past : (i j : ℕ) → size i ≤ j → c i j ≡ K.zero) where
      abbrev pub value_of : Element (twisted_ops r f.frob)
      value_of = total S d (λ i. total S (size i) (λ j. S.mul (single r inv base f k l (c i j) i) (power S b j)))

      abbrev pub digit_of : ℕ → Element (twisted_ops r f.frob)
      digit_of j = gathered d (λ i. c i j)

      pub value_digits : (n : ℕ) → ((i : ℕ) → i < d → size i ≤ n) → value_of ≡ expanded S b n digit_of
      value_digits n bound =
          total_same S d _ _ (λ i m.
          sym (total_rest S (size i) n _ (bound i m) (λ j a _. ap (λ t. S.mul t (power S b j)) (single_zero (c i j) i (past i j a)) ∙ zero_mul S (power S b j))))
          ∙ total_swap S d n (λ i j. S.mul (single r inv base f k l (c i j) i) (power S b j))
          ∙ total_same S n _ _ (λ j _. total_right S d (power S b j) (λ i. single r inv base f k l (c i j) i))
          ∙ expanded_powers S b (power S b) refl (λ j. refl) n (λ j. total S d (λ i. single r inv base f k l (c i j) i))

    -- The coefficients of the members of a list.
    abbrev pub members : (list : List (List E)) → are_elems (twisted_ops r (λ c i. c)) list ≡ true → ℕ → ℕ → Element r
    members list inside i j =
        (coeff r (coeff (twisted_ops r (λ c i. c)) list i) j, elem_read r (coeff (twisted_ops r (λ c i. c)) list i) k.ring.closed.zero_in (and_parts _ _ (elem_read (twisted_ops r (λ c i. c)) list refl inside i)).0 j)

    module _ (list : List (List E)) (inside : are_elems (twisted_ops r (λ c i. c)) list ≡ true) where
      abbrev pub list_size : ℕ → ℕ
      list_size i = length (coeff (twisted_ops r (λ c i. c)) list i)

      pub list_past : (i j : ℕ) → list_size i ≤ j → members list inside i j ≡ K.zero
      list_past i j m = same_element r _ _ (coeff_past r (coeff (twisted_ops r (λ c i. c)) list i) j m)

      pub value_list : length list ≡ d → (value_of (members list inside) list_size list_past).0 ≡ motive_value r f.frob b.0 list
      value_list count =
          total_is (twisted_ops r f.frob) (frob_ring r inv base f k l) d (λ i. total S (list_size i) (λ j. S.mul (single r inv base f k l (members list inside i j) i) (power S b j)))
          ∙ sum_same (twisted_ops r f.frob) (frob_ring r inv base f k l) d _ _ (λ i _.
          total_is (twisted_ops r f.frob) (frob_ring r inv base f k l) (list_size i) (λ j. S.mul (single r inv base f k l (members list inside i j) i) (power S b j))
          ∙ sum_same (twisted_ops r f.frob) (frob_ring r inv base f k l) (list_size i) _ _ (λ j _. ap (list_mul r f.frob (monomial r (members list inside i j).0 i)) (power_is b j)))
          ∙ ap (λ n. sum_below (twisted_ops r f.frob) n (λ i. sum_below (twisted_ops r f.frob) (list_size i) (λ j. list_mul r f.frob (monomial r (members list inside i j).0 i) (power_of (twisted_ops r f.frob) b.0 j)))) (sym count)

    module _ (u : Element (twisted_ops r f.frob)) (list : List (List E)) (s : IsMotive r f.frob b.0 u.0 list) where
      abbrev c : ℕ → ℕ → Element r
      c = members list s.elems

      abbrev size : ℕ → ℕ
      size = list_size list s.elems

      c_past : (i j : ℕ) → size i ≤ j → c i j ≡ K.zero
      c_past = list_past list s.elems

      value_is : (value_of c size c_past).0 ≡ u.0
      value_is = value_list list s.elems (let e = s.count in omega (arith, e, degree)) ∙ sym s.is

      -- the digits of u
      pub motive_digits : (j i : ℕ) → i < d → part (digit r inv base f k l b d degree pos u j) i ≡ members list s.elems i j
      motive_digits j i m =
          let n = most d size in
          ap (λ t. part t i)
          (digits_only S (λ x. length x.0) (ore_sizes r inv base f k l) b d degree pos u n (digit_of c size c_past)
          (λ e. length_from r inv base f k l (gathered d (λ q. c q e)) d (gathered_past d (λ q. c q e)))
          (λ e a. digit_zero e a)
          (sym (value_digits c size c_past n (most_bounds d size)) ∙ same_element (twisted_ops r f.frob) _ _ value_is) j)
          ∙ gathered_part d (λ q. c q j) i m
        where
          digit_zero : (e : ℕ) → most d size ≤ e → gathered d (λ q. c q e) ≡ S.zero
          digit_zero e a = total_zero S d _ (λ q t. single_zero (c q e) q (c_past q e (let z = most_bounds d size q t in omega (arith, z, a))))

    -- The motive coordinates are the only ones.
    pub motive_only : (u : Element (twisted_ops r f.frob)) (x y : List (List E)) → IsMotive r f.frob b.0 u.0 x → IsMotive r f.frob b.0 u.0 y → x ≡ y
    motive_only u x y s t =
        ext_get_or [] x y (let e = s.count in let g = t.count in omega (arith, e, g)) (λ i m.
        let low : i < d = let e = s.count in omega (arith, e, degree, m) in
        let cx = elem_read (twisted_ops r (λ c i. c)) x refl s.elems i in
        let cy = elem_read (twisted_ops r (λ c i. c)) y refl t.elems i in
        same_coeffs r k.ring.closed.zero_in k.ring.equal _ _ (and_parts _ _ cx).1 (and_parts _ _ cy).1 (λ j.
        ap (λ q. q.0) (sym (motive_digits u x s j i low) ∙ motive_digits u y t j i low)))

    -- The columns of digits that give `u` are its motive coordinates.
    module _ (u : Element (twisted_ops r f.frob)) (n : ℕ) (digits : ℕ → Element (twisted_ops r f.frob)) (short : (j : ℕ) → length (digits j).0 ≤ d)
        (none : (j : ℕ) → n ≤ j → digits j ≡ S.zero) (sums : expanded S b n digits ≡ u) where
      abbrev column : ℕ → List E
      column i = list_of r n (λ j. (part (digits j) i).0)

      abbrev columns : List (List E)
      columns = first_values d column

      inside : are_elems (twisted_ops r (λ c i. c)) columns ≡ true
      inside =
          elems-first_values (twisted_ops r (λ c i. c)) d column (λ i _. canonical-list_of r n _ (λ j _. (part (digits j) i).1))

      column_is : (i : ℕ) → i < d → coeff (twisted_ops r (λ c i. c)) columns i ≡ column i
      column_is i m = at-first_values d column i [] m

      digit_is : (j : ℕ) → digits j ≡ gathered d (λ i. members columns inside i j)
      digit_is j = twisted_same r inv base f k l (digits j) (gathered d (λ i. members columns inside i j)) (λ i. elim (cases_lt i d) [
        | inl m ↦
            sym (gathered_part d (λ i. members columns inside i j) i m
            ∙ same_element r _ (part (digits j) i)
            (ap (λ t. coeff r t j) (column_is i m)
            ∙ coeff-list_of r k.ring.closed.zero_in k.ring.equal n _ (λ e. (part (digits e) i).1) (λ e far. ap (λ t. coeff r t.0 i) (none e far)) j))
        | inr m ↦
            parts_past r inv base f k l (digits j) i (let low = short j in omega (arith, low, m)) ∙ sym (gathered_past d (λ i. members columns inside i j) i m)
      ])

      pub motive_of_digits : IsMotive r f.frob b.0 u.0 (first_values d (λ i. list_of r n (λ j. (parts r inv base f k l (digits j) i).0)))
      motive_of_digits = record {
        count = let e = length-first_values d column in omega (arith, e, degree);
        elems = inside;
        is =
            ap (λ (t : Element (twisted_ops r f.frob)). t.0)
            (sym sums ∙ ap (expanded S b n) (fun_ext digit_is)
            ∙ sym (value_digits (members columns inside) (list_size columns inside) (list_past columns inside) n (λ i m.
            let e : length (coeff (twisted_ops r (λ c i. c)) columns i) ≡ length (column i) = ap length (column_is i m) in
            let low = length-list_of r n (λ j. (part (digits j) i).0) in
            omega (arith, e, low))))
            ∙ value_list columns inside (length-first_values d column);
      }
