-- The polynomial of least degree that has a given root, from the first power of the root that is a combination
-- of the powers before it.
use Rattle.std.proofs.Common.{◌≡◌, ◌≢◌, ℕ, suc, ◌+◌, ◌-◌, ◌<◌, ◌≤◌, Option, true, false, List, [], ◌∷◌, ◌++◌, length, sym, ◌∙◌, ap, ⊎_elim, arith, eq-eqb, take_all}
use Rattle.std.proofs.lemmas.Bool.{and_parts, and_from, cases_lt, false_from_ne_true}
use Rattle.std.proofs.lemmas.List.{length-append, get_or_append_left, nil_from_length}
use Rattle.std.proofs.Math.Seq.{get_or-append_seam}
use Rattle.ring_core.specs.Ring.{RingOps, IsElem}
use Rattle.ring_core.specs.Field.{IsField, FrobOps, IsFrobField}
use Rattle.ring_core.specs.Coeffs.{coeff, trim, are_elems, is_trimmed, is_canonical, first_values}
use Rattle.ring_core.specs.Powers.{power_of, base_value}
use Rattle.ring_core.specs.Twisted.{list_add, list_neg}
use Rattle.ring_core.proofs.Carrier.{RingOn, Element, same_element, elements, minus_same}
use Rattle.ring_core.proofs.Coefficients.{coeff_past, elems_push, elems-first_values, trim_found, trimmed-trim, same_coeffs}
use Rattle.ring_core.proofs.Degrees.{top_nonzero, not_empty, has_members, length_below}
use Rattle.ring_core.proofs.Twist.{total_is}
use Rattle.ring_core.proofs.ListRing.{value, add_in, neg_in, coeff-add, coeff-neg}
use Rattle.ring_core.proofs.PowerLaws.{power_in}
use Rattle.ring_core.proofs.FirstValues.{length-first_values, at-first_values}
use Rattle.linear_algebra.specs.Linear.{row_at, entry, is_row, are_rows, IsIndependent, IsFirstDependence}
use Rattle.linear_algebra.proofs.Sums.{combine}
use Rattle.linear_algebra.proofs.Spans.{minus_plus}
use Rattle.linear_algebra.proofs.Augment.{Depends}
use Rattle.linear_algebra.proofs.Lift.{combine_value, combined_rows, from_spans, combines_as, combines_rows}
use Rattle.linear_algebra.proofs.RowLists.{row_len, row_elems, rows_by_places}
use Rattle.linear_algebra.proofs.Dependent.{rows_depend}
use Rattle.fq_linear.proofs.Solutions.{inverse}
use Rattle.minimal_poly.specs.MinPoly.{IsMinPoly}
use Rattle.minimal_poly.specs.steps.PowerRows.{power_row}
use Rattle.minimal_poly.proofs.Coordinates.{weighted, relation_zero, all_zero, weighted_more, difference_zero, embedded, coords, coords_elems, is_over}

module _ {B : Type 0} (base : RingOps B) where
  -- The negatives of the members, and then one.
  abbrev pub monic_of : List B → List B
  monic_of d = first_values (length d) (λ i. base.neg (coeff base d i)) ++ base.one ∷ []

  length-monic : (d : List B) → length (monic_of d) ≡ suc (length d)
  length-monic d =
      omega (arith, length-append (first_values (length d) (λ i. base.neg (coeff base d i))) (base.one ∷ []), length-first_values (length d) (λ i. base.neg (coeff base d i)))

  monic-low : (d : List B) (i : ℕ) → i < length d → coeff base (monic_of d) i ≡ base.neg (coeff base d i)
  monic-low d i l =
      let negative = λ (j : ℕ). base.neg (coeff base d j) in
      get_or_append_left (first_values (length d) negative) (base.one ∷ []) base.zero i
      (omega (arith, l, length-first_values (length d) negative))
      ∙ at-first_values (length d) negative i base.zero l

  monic-top : (d : List B) → coeff base (monic_of d) (length d) ≡ base.one
  monic-top d =
      let negative = first_values (length d) (λ j. base.neg (coeff base d j)) in
      ap (coeff base (monic_of d)) (sym (length-first_values (length d) (λ j. base.neg (coeff base d j))))
      ∙ get_or-append_seam negative base.one [] base.zero

  -- no zero stands at the top of a list whose last member isn't zero
  pub trimmed_by_top : (u : List B) → 0 < length u → base.same (coeff base u (length u - 1)) base.zero ≡ false → is_trimmed base u ≡ true
  trimmed_by_top u pos e =
      let whole : length u ≤ length u - 1 + 1 = omega arith in
      let trimmed = trim_found base u (length u) pos (omega arith) e (ap (trim base) (take_all (length u) u (omega arith))) in
      ap (is_trimmed base) (sym (take_all (length u - 1 + 1) u whole) ∙ trimmed) ∙ trimmed-trim base u

module _ {E B : Type 0} (r : RingOps E) (inv : E → Option E) (base : RingOps B) (base_inv : B → Option B) (f : FrobOps E B) (k : IsField r inv) (kb : IsField base base_inv) (l : IsFrobField r base f) (x : E) (p : IsElem r x) where
  abbrev R : RingOn (Element r)
  R = elements k.ring

  abbrev S : RingOn (Element base)
  S = elements kb.ring

  abbrev powers : ℕ → Element r
  powers i = (power_of r x i, power_in r k.ring x i p)

  -- The coordinates of the powers.
  abbrev coordinates : ℕ → ℕ → Element base
  coordinates i = coords r inv base base_inv f k kb l (powers i)

  abbrev sum : ℕ → (ℕ → Element base) → Element r
  sum n u = weighted R (embedded r inv base base_inv f k kb l) powers n u

  sum_is : (a : List B) (e : are_elems base a ≡ true) → (sum (length a) (value base kb.ring a e)).0 ≡ base_value r base f.embed a x
  sum_is a e = total_is r k.ring (length a) (λ i. R.mul (embedded r inv base base_inv f k kb l (value base kb.ring a e i)) (powers i))

  sum_of_root : (a : List B) (e : are_elems base a ≡ true) → base_value r base f.embed a x ≡ r.zero → sum (length a) (value base kb.ring a e) ≡ R.zero
  sum_of_root a e root = same_element r _ _ (sum_is a e ∙ root)

  past_end : (a : List B) (e : are_elems base a ≡ true) (i : ℕ) → length a ≤ i → value base kb.ring a e i ≡ S.zero
  past_end a e i past = same_element base _ _ (coeff_past base a i past)

  -- a polynomial that isn't zero has a coefficient that isn't
  not_all_zero : (a : List B) (c : is_canonical base a ≡ true) → a ≢ [] → ((i : ℕ) → coeff base a i ≡ base.zero) → ⊥
  not_all_zero a c some zeros =
      top_nonzero base kb.ring.closed.zero_in kb.ring.equal a (and_parts _ _ c).1 some (zeros (length a - 1))

  module _ (rows : List (List B)) (are : rows ≡ first_values (f.degree + 1) (power_row r f x)) where
    rows_count : length rows ≡ f.degree + 1
    rows_count = ap length are ∙ length-first_values (f.degree + 1) (power_row r f x)

    row_is : (i : ℕ) → i < f.degree + 1 → row_at rows i ≡ power_row r f x i
    row_is i low = ap (λ u. row_at u i) are ∙ at-first_values (f.degree + 1) (power_row r f x) i [] low

    pub rows_shaped : are_rows base f.degree rows ≡ true
    rows_shaped =
        rows_by_places base f.degree rows
        (λ i (low : i < length rows).
        ap (is_row base f.degree) (row_is i (omega (arith, low, rows_count)))
        ∙ and_from _ _ (eq-eqb _ f.degree (length-first_values f.degree (f.coord (power_of r x i))))
        (coords_elems r inv base base_inv f k kb l (powers i)))

    -- there is one row more than there are coordinates
    pub not_independent : IsIndependent base rows → ⊥
    not_independent = rows_depend base base_inv kb f.degree rows rows_shaped (omega (arith, rows_count))

    entry_is : (i j : ℕ) → i < f.degree + 1 → entry base rows i j ≡ (coordinates i j).0
    entry_is i j low = ap (λ u. coeff base u j) (row_is i low)

    module _ (m : ℕ) (d : List B) (first : IsFirstDependence base rows m d) where
      within : m < f.degree + 1
      within = omega (arith, first.within, rows_count)

      len : length d ≡ m
      len = row_len base m d first.shape

      elems : are_elems base d ≡ true
      elems = row_elems base m d first.shape

      -- the power is a combination of those before it
      combination : (j : ℕ) → coordinates m j ≡ combine S m (value base kb.ring d elems) coordinates j
      combination j =
          same_element base _ _
          (sym (entry_is m j within) ∙ first.is j
          ∙ combined_rows base kb.ring m (coeff base d) (entry base rows) (λ i n. (coordinates i n).0) j
          (λ i (low : i < m). entry_is i j (omega (arith, low, within)))
          ∙ sym (combine_value base kb.ring m (value base kb.ring d elems) coordinates j))

      -- and the first such power
      none_before : (i : ℕ) → i < m → Depends S coordinates i → ⊥
      none_before i low depends =
          let own = entry base rows in
          let read = λ (n j : ℕ). (coordinates n j).0 in
          first.least i low
          (combines_as base kb.ring i own (read i) (own i) (λ j. entry_is i j (omega (arith, low, within)))
          (combines_rows base kb.ring i read own (read i) (λ n (b : n < i) j. sym (entry_is n j (omega (arith, b, low, within))))
          (from_spans base kb.ring i read (λ n j. (coordinates n j).1) (read i) (λ j. (coordinates i j).1) depends)))

      monic_elems : are_elems base (monic_of base d) ≡ true
      monic_elems =
          elems_push base (first_values (length d) (λ i. base.neg (coeff base d i))) base.one
          (elems-first_values base (length d) (λ i. base.neg (coeff base d i)) (λ i low. kb.ring.closed.neg_in _ (value base kb.ring d elems i).1))
          kb.ring.closed.one_in

      top : coeff base (monic_of base d) (length (monic_of base d) - 1) ≡ base.one
      top =
          let place : length (monic_of base d) - 1 ≡ length d = omega (arith, length-monic base d) in
          ap (coeff base (monic_of base d)) place ∙ monic-top base d

      root : sum (suc m) (value base kb.ring (monic_of base d) monic_elems) ≡ R.zero
      root =
          relation_zero S R (embedded r inv base base_inv f k kb l) (coords r inv base base_inv f k kb l) (is_over r inv base base_inv f k kb l) powers m
          (value base kb.ring d elems) (value base kb.ring (monic_of base d) monic_elems) combination
          (λ i (low : i < m). same_element base _ _ (monic-low base d i (omega (arith, low, len))))
          (same_element base _ _ (ap (coeff base (monic_of base d)) (sym len) ∙ monic-top base d))

      -- fewer coefficients give zero only where all of them are zero
      none_shorter : (b : List B) (c : is_canonical base b ≡ true) → b ≢ [] → base_value r base f.embed b x ≡ r.zero → length b ≤ m → ⊥
      none_shorter b c some zero_at short =
          let e : are_elems base b ≡ true = (and_parts _ _ c).0 in
          not_all_zero b c some
          (λ i.
          ap (λ y. y.0)
          (all_zero S R (embedded r inv base base_inv f k kb l) (coords r inv base base_inv f k kb l) (is_over r inv base base_inv f k kb l) powers
          (inverse base base_inv kb) (length b) (value base kb.ring b e) (sum_of_root b e zero_at)
          (λ n (low : n < length b) depends. none_before n (omega (arith, low, short)) depends) (past_end b e) i))

      pub relation_is : IsMinPoly r base f.embed x (monic_of base d)
      relation_is = record {
        canonical =
            and_from _ _ monic_elems
            (trimmed_by_top base (monic_of base d) (omega (arith, length-monic base d))
            (false_from_ne_true _
            (λ s. kb.one_ne_zero
            (sym top ∙ kb.ring.equal.same_eq _ _ (value base kb.ring (monic_of base d) monic_elems (length (monic_of base d) - 1)).1 kb.ring.closed.zero_in s))));
        monic = top;
        root =
            sym (sum_is (monic_of base d) monic_elems)
            ∙ ap (λ n. (sum n (value base kb.ring (monic_of base d) monic_elems)).0) (length-monic base d ∙ ap suc len)
            ∙ ap (λ y. y.0) root;
        least = λ b c some zero_at.
            ⊎_elim
            (λ (short : length b < length (monic_of base d)).
            absurd (none_shorter b c some zero_at (omega (arith, short, length-monic base d, len))))
            (λ (enough : length (monic_of base d) ≤ length b). enough)
            (cases_lt (length b) (length (monic_of base d)));
      }

  -- two monic polynomials of least degree with the root
  module _ (a b : List B) (pa : IsMinPoly r base f.embed x a) (pb : IsMinPoly r base f.embed x b) where
    ea : are_elems base a ≡ true
    ea = (and_parts _ _ pa.canonical).0

    eb : are_elems base b ≡ true
    eb = (and_parts _ _ pb.canonical).0

    some : (u : List B) → coeff base u (length u - 1) ≡ base.one → u ≢ []
    some u monic e = kb.one_ne_zero (sym monic ∙ ap (λ v. coeff base v (length v - 1)) e)

    same_length : length a ≡ length b
    same_length =
        omega (arith, pa.least b pb.canonical (some b pb.monic) pb.root, pb.least a pa.canonical (some a pa.monic) pa.root)

    abbrev negative : List B
    negative = list_neg base b

    en : are_elems base negative ≡ true
    en = (and_parts _ _ (neg_in base kb.ring b eb)).0

    abbrev rest : List B
    rest = list_add base a negative

    rest_canonical : is_canonical base rest ≡ true
    rest_canonical = add_in base kb.ring a negative ea en

    er : are_elems base rest ≡ true
    er = (and_parts _ _ rest_canonical).0

    rest_is : (i : ℕ) → value base kb.ring rest er i ≡ S.add (value base kb.ring a ea i) (S.neg (value base kb.ring b eb i))
    rest_is i =
        same_element base _ _ (coeff-add base kb.ring a negative ea en i ∙ ap (base.add (coeff base a i)) (coeff-neg base kb.ring b eb i))

    -- they have the same coefficients from the top on
    same_high : (i : ℕ) → length a ≤ i + 1 → coeff base a i ≡ coeff base b i
    same_high i high =
        ⊎_elim
        (λ (low : i < length a).
        let top_a : i ≡ length a - 1 = omega arith in
        let top_b : i ≡ length b - 1 = omega (arith, same_length) in
        ap (coeff base a) top_a ∙ pa.monic ∙ sym (ap (coeff base b) top_b ∙ pb.monic))
        (λ (past : length a ≤ i). coeff_past base a i past ∙ sym (coeff_past base b i (omega (arith, past, same_length))))
        (cases_lt i (length a))

    rest_high : (i : ℕ) → length a ≤ i + 1 → coeff base rest i ≡ base.zero
    rest_high i high =
        ap (λ y. y.0) (rest_is i) ∙ ap (λ y. base.add y (base.neg (coeff base b i))) (same_high i high)
        ∙ kb.ring.add_neg (coeff base b i) (value base kb.ring b eb i).1

    shorter : length rest < length a
    shorter = length_below base kb.ring rest (length a) (has_members a (some a pa.monic)) (and_parts _ _ rest_canonical).1 rest_high

    rest_root : base_value r base f.embed rest x ≡ r.zero
    rest_root =
        let over = is_over r inv base base_inv f k kb l in
        let embedding = embedded r inv base base_inv f k kb l in
        let tuple = coords r inv base base_inv f k kb l in
        sym (sum_is rest er)
        ∙ ap (λ y. y.0)
        (sym (weighted_more S R embedding tuple over powers (length rest) (length a) (value base kb.ring rest er) (omega (arith, shorter)) (past_end rest er))
        ∙ difference_zero S R embedding tuple over powers (length a) (value base kb.ring a ea) (value base kb.ring b eb) (value base kb.ring rest er)
        (λ i. ap (λ y. S.add y (value base kb.ring b eb i)) (rest_is i) ∙ minus_plus S (value base kb.ring a ea i) (value base kb.ring b eb i))
        (sum_of_root a ea pa.root)
        (ap (λ n. sum n (value base kb.ring b eb)) same_length ∙ sum_of_root b eb pb.root))

    rest_empty : rest ≡ []
    rest_empty =
        ⊎_elim
        (λ (more : 0 < length rest). absurd (omega (arith, shorter, pa.least rest rest_canonical (not_empty rest more) rest_root)))
        (λ (none : length rest ≤ 0). nil_from_length rest (omega (arith, none)))
        (cases_lt 0 (length rest))

    pub same_poly : a ≡ b
    same_poly =
        same_coeffs base kb.ring.closed.zero_in kb.ring.equal a b (and_parts _ _ pa.canonical).1 (and_parts _ _ pb.canonical).1
        (λ i.
        ap (λ y. y.0)
        (minus_same S (value base kb.ring a ea i) (value base kb.ring b eb i)
        (sym (rest_is i) ∙ same_element base _ _ (ap (λ u. coeff base u i) rest_empty))))
