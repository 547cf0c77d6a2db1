-- Expansions as lists: a step of the loop, and the columns of an expansion as motive coordinates.
use Rattle.std.proofs.Common.{◌≡◌, ℕ, zero, suc, ◌+◌, ◌-◌, ◌<◌, ◌≤◌, Option, true, List, [], ◌∷◌, ◌++◌, length, refl, sym, ◌∙◌, ap, ap₂, arith, subst}
use Rattle.std.proofs.lemmas.List.{length-append, get_or_append_left, get_or-append_right, nil_from_length}
use Rattle.ring_core.specs.Ring.{RingOps, IsRing}
use Rattle.ring_core.specs.Field.{IsField, FrobOps, IsFrobField}
use Rattle.ring_core.specs.Coeffs.{coeff, are_elems, is_canonical, first_values}
use Rattle.ring_core.specs.Powers.{power_of}
use Rattle.ring_core.specs.Twisted.{twisted_ops, list_mul, list_add}
use Rattle.ring_core.proofs.Carrier.{RingOn, Element, same_element, add_zero, zero_mul}
use Rattle.ring_core.proofs.Series.{total}
use Rattle.ring_core.proofs.Coefficients.{coeff_past, elem_read, elems_push}
use Rattle.ring_core.proofs.Twist.{total_is, sum_same}
use Rattle.ring_core.proofs.ListRing.{frob_ring}
use Rattle.linear_algebra.proofs.Sums.{total_same}
use Rattle.finite_ring.proofs.Powers.{power}
use Rattle.motive_coords.proofs.Digits.{expanded_powers, quotient_smaller}
use Rattle.euclid_theory.proofs.OreSizes.{ore_sizes}
use Rattle.ore_divide.specs.Division.{IsRightDivision}
use Rattle.motive_coords.specs.Motive.{IsMotive}
use Rattle.motive_coords.proofs.Ores.{twisted}
use Rattle.motive_coords.proofs.MotiveValue.{power_is, motive_of_digits}
use Rattle.motive_coords.specs.steps.Expansion.{IsExpansion, expansion, column_at}

-- the power's factor on the other side
power_first : {M : Type 0} (R : RingOn M) (b : M) (n : ℕ) → R.mul b (power R b n) ≡ power R b (suc n)
power_first R b zero = R.mul_one b ∙ sym (R.one_mul b)
power_first R b (suc n) = sym (R.mul_assoc b (power R b n) b) ∙ ap (λ t. R.mul t b) (power_first R b n)

-- one more digit
expansion_step : {M : Type 0} (R : RingOn M) (b s w q v u : M) (n : ℕ) → u ≡ R.add s (R.mul w (power R b n)) → w ≡ R.add (R.mul q b) v
    → u ≡ R.add (R.add s (R.mul v (power R b n))) (R.mul q (power R b (suc n)))
expansion_step R b s w q v u n e d =
    e ∙ ap (R.add s) (ap (λ t. R.mul t (power R b n)) (d ∙ R.add_comm _ _) ∙ R.add_mul v (R.mul q b) (power R b n)
    ∙ ap (R.add (R.mul v (power R b n))) (R.mul_assoc q b _ ∙ ap (R.mul q) (power_first R b n)))
    ∙ sym (R.add_assoc s _ _)

module _ {E B : Type 0} (r : RingOps E) (inv : E → Option E) (base : RingOps B) (f : FrobOps E B) (k : IsField r inv) (l : IsFrobField r base f) where
  abbrev s : RingOps (List E)
  s = twisted_ops r f.frob

  abbrev ring : IsRing (twisted_ops r f.frob)
  ring = frob_ring r inv base f k l

  abbrev S : RingOn (Element (twisted_ops r f.frob))
  S = twisted r inv base f k l

  -- The first `n` members give `u` with a rest times the next power.
  pub record IsPart (phi u rest : List E) (n : ℕ) (digits : List (List E)) : Type 0 where
    pub count : length digits ≡ n
    pub elems : are_elems (twisted_ops r f.frob) digits ≡ true
    pub lower : (j : ℕ) → length (coeff (twisted_ops r f.frob) digits j) < length phi
    pub rest_in : is_canonical r rest ≡ true
    pub is : u ≡ list_add r (expansion r f.frob phi n digits) (list_mul r f.frob rest (power_of (twisted_ops r f.frob) phi n))

  module _ (phi : List E) (cp : is_canonical r phi ≡ true) (long : 2 ≤ length phi) where
    abbrev b : Element (twisted_ops r f.frob)
    b = (phi, cp)

    -- Member `j` of the list.
    abbrev pub listed : (digits : List (List E)) → are_elems (twisted_ops r f.frob) digits ≡ true → ℕ → Element (twisted_ops r f.frob)
    listed digits e j = (coeff s digits j, elem_read s digits refl e j)

    pub expansion_is : (digits : List (List E)) (e : are_elems (twisted_ops r f.frob) digits ≡ true) (n : ℕ) → (total S n (λ j. S.mul (listed digits e j) (power S b j))).0 ≡ expansion r f.frob phi n digits
    expansion_is digits e n =
        total_is s ring n (λ j. S.mul (listed digits e j) (power S b j))
        ∙ sum_same s ring n _ _ (λ j _. ap (list_mul r f.frob (coeff s digits j)) (power_is r inv base f k l b j))

    -- no member yet
    pub part_start : (u : List E) → is_canonical r u ≡ true → IsPart phi u u 0 []
    part_start u cu = record {
      count = refl;
      elems = refl;
      lower = λ j. omega (arith, long);
      rest_in = cu;
      is = sym (ap (λ t. t.0) (S.zero_add (S.mul (u, cu) S.one) ∙ S.mul_one (u, cu)));
    }

    -- the quotient is shorter
    pub quotient_less : (rest q v : List E) → is_canonical r rest ≡ true → 0 < length rest → IsRightDivision r f.frob rest phi q v → length q < length rest
    quotient_less rest q v cr some d =
        let l = quotient_smaller S (λ x. length x.0) (ore_sizes r inv base f k l) b (length phi - 1) (omega (arith, long)) (omega (arith, long)) (rest, cr) (q, d.quotient) (v, d.remainder)
        (same_element (twisted_ops r f.frob) (rest, cr) (S.add (S.mul (q, d.quotient) b) (v, d.remainder)) d.sum) (let m = d.lower in omega (arith, m)) in
        omega (arith, l, some)

    pushed_at : (digits : List (List E)) (v : List E) (P : List E → Type 0) → P v → ((j : ℕ) → P (coeff s digits j)) → (j : ℕ) → P (coeff s (digits ++ v ∷ []) j)
    pushed_at [] v P here old zero = here
    pushed_at [] v P here old (suc j) = old 0
    pushed_at (x ∷ xs) v P here old zero = old 0
    pushed_at (x ∷ xs) v P here old (suc j) = pushed_at xs v P here (λ i. old (suc i)) j

    sums_more : (u rest q v : List E) (n : ℕ) (digits : List (List E)) → is_canonical r u ≡ true → IsPart phi u rest n digits → IsRightDivision r f.frob rest phi q v
        → u ≡ list_add r (expansion r f.frob phi (n + 1) (digits ++ v ∷ [])) (list_mul r f.frob q (power_of (twisted_ops r f.frob) phi (n + 1)))
    sums_more u rest q v n digits cu part d =
        ap (λ t. t.0) (expansion_step S b so_far (rest, part.rest_in) (q, d.quotient) (v, d.remainder) (u, cu) n
        (same_element (twisted_ops r f.frob) (u, cu) (S.add so_far (S.mul (rest, part.rest_in) (power S b n)))
        (part.is ∙ sym (ap₂ (list_add r) (expansion_is digits part.elems n) (ap (list_mul r f.frob rest) (power_is r inv base f k l b n)))))
        (same_element (twisted_ops r f.frob) (rest, part.rest_in) (S.add (S.mul (q, d.quotient) b) (v, d.remainder)) d.sum))
        ∙ ap₂ (list_add r)
        (ap (λ t. t.0) (ap₂ S.add (total_same S n _ _ (λ j m. ap (λ t. S.mul t (power S b j)) (same_element (twisted_ops r f.frob) (old j) (new j) (sym (get_or_append_left digits (v ∷ []) [] j (let c = part.count in omega (arith, m, c)))))))
        (ap (λ t. S.mul t (power S b n)) (same_element (twisted_ops r f.frob) (v, d.remainder) (new n) (sym (get_or-append_right digits (v ∷ []) n n [] part.count (omega arith) ∙ ap (coeff s (v ∷ [])) first)))))
        ∙ expansion_is (digits ++ v ∷ []) (elems_push s digits v part.elems d.remainder) (suc n) ∙ ap (λ m. expansion r f.frob phi m (digits ++ v ∷ [])) next)
        (ap (list_mul r f.frob q) (power_is r inv base f k l b (suc n) ∙ ap (power_of (twisted_ops r f.frob) phi) next))
      where
        next : suc n ≡ n + 1
        next = omega arith

        first : n - n ≡ 0
        first = omega arith

        so_far : Element (twisted_ops r f.frob)
        so_far = total S n (λ j. S.mul (listed digits part.elems j) (power S b j))

        old : ℕ → Element (twisted_ops r f.frob)
        old = listed digits part.elems

        new : ℕ → Element (twisted_ops r f.frob)
        new = listed (digits ++ v ∷ []) (elems_push s digits v part.elems d.remainder)

    -- one more member
    pub part_more : (u rest q v : List E) (digits more : List (List E)) → is_canonical r u ≡ true → IsPart phi u rest (length digits) digits → IsRightDivision r f.frob rest phi q v → more ≡ digits ++ v ∷ []
        → IsPart phi u q (length more) more
    part_more u rest q v digits more cu part d pushed = subst (λ t. IsPart phi u q (length t) t) (sym pushed) (record {
      count = refl;
      elems = elems_push s digits v part.elems d.remainder;
      lower = pushed_at digits v (λ t. length t < length phi) d.lower part.lower;
      rest_in = d.quotient;
      is =
          sums_more u rest q v (length digits) digits cu part d
          ∙ ap (λ n. list_add r (expansion r f.frob phi n (digits ++ v ∷ [])) (list_mul r f.frob q (power_of (twisted_ops r f.frob) phi n))) (sym (length-append digits (v ∷ [])));
    })

    -- all members
    pub part_done : (u rest : List E) (digits : List (List E)) → length rest ≡ 0 → IsPart phi u rest (length digits) digits → IsExpansion r f.frob phi u digits
    part_done u rest digits empty part = record {
      elems = part.elems;
      lower = part.lower;
      is =
          part.is
          ∙ ap₂ (list_add r) (sym (expansion_is digits part.elems (length digits)))
          (ap (λ t. list_mul r f.frob t (power_of (twisted_ops r f.frob) phi (length digits))) (nil_from_length rest empty) ∙ ap (list_mul r f.frob []) (sym (power_is r inv base f k l b (length digits))))
          ∙ ap (λ t. t.0) (ap (S.add whole) (zero_mul S (power S b (length digits))) ∙ add_zero S whole)
          ∙ expansion_is digits part.elems (length digits);
    }
      where
        whole : Element (twisted_ops r f.frob)
        whole = total S (length digits) (λ j. S.mul (listed digits part.elems j) (power S b j))

    -- The columns of an expansion are the motive coordinates.
    pub motive_from : (u : List E) (digits : List (List E)) → is_canonical r u ≡ true → IsExpansion r f.frob phi u digits → IsMotive r f.frob phi u (first_values (length phi - 1) (column_at r f.frob digits))
    motive_from u digits cu part =
        motive_of_digits r inv base f k l b (length phi - 1) (omega (arith, long)) (omega (arith, long)) (u, cu) (length digits) (listed digits part.elems)
        (λ j. let low = part.lower j in omega (arith, low))
        (λ j m. same_element (twisted_ops r f.frob) (listed digits part.elems j) S.zero (coeff_past s digits j m))
        (sym (expanded_powers S b (power S b) refl (λ j. refl) (length digits) (listed digits part.elems))
        ∙ same_element (twisted_ops r f.frob) _ (u, cu) (expansion_is digits part.elems (length digits) ∙ sym part.is))
