-- The steps of a division, which take multiples of twisted polynomials from others.
use Rattle.std.proofs.Common.{◌≡◌, ◌≢◌, ℕ, ◌+◌, ◌<◌, true, Option, List, [], refl, sym, ◌∙◌, ap, ap₂}
use Rattle.std.proofs.lemmas.Bool.{and_parts}
use Rattle.ring_core.specs.Ring.{RingOps, IsElem}
use Rattle.ring_core.specs.Field.{IsField, FrobOps, IsFrobField}
use Rattle.ring_core.specs.Coeffs.{coeff, are_elems, is_canonical, trim}
use Rattle.ring_core.specs.Twisted.{twisted_ops, list_add}
use Rattle.ring_core.specs.Monomial.{monomial}
use Rattle.ring_core.proofs.Carrier.{RingOn, same_element, add_zero}
use Rattle.ring_core.proofs.Coefficients.{canonical-trim, coeff-trim, trimmed-trim, same_coeffs}
use Rattle.ring_core.proofs.Twist.{frob_twist}
use Rattle.ring_core.proofs.Monomial.{monomial_in}
use Rattle.ore_divide.specs.steps.Reduced.{IsReduced}
use Rattle.euclid_theory.proofs.Sizes.{minus}
use Rattle.euclid_theory.proofs.OreSizes.{Ores, ores}
use Rattle.ring_core.proofs.Terms.{term_added, term_added_right}
use Rattle.ore_divide.proofs.Cleared.{term_written}
use Rattle.ore_divide.specs.declared.side.Side.{Side}
use Rattle.ore_divide.specs.declared.side.Side.TheVariants.{Right, Left}
use Rattle.ore_divide.specs.steps.Sides.{multiple_on, term_on}
use Rattle.ore_divide.proofs.Sides.{mul_on, minus_on, zero_on, multiple_is}

module _ {M : Type 0} (R : RingOn M) where
  -- u = v + q b = (v + x b) + (q - x) b
  taken : (s : Side) (u v w q x b : M) → u ≡ R.add v (mul_on R s q b) → w ≡ R.add v (mul_on R s x b) → u ≡ R.add w (mul_on R s (minus R q x) b)
  taken s u v w q x b e f =
      e
      ∙ sym (ap₂ R.add f (minus_on R s q x b ∙ R.add_comm _ _) ∙ R.add_assoc _ _ _
      ∙ ap (R.add v) (sym (R.add_assoc _ _ _) ∙ ap (λ y. R.add y (mul_on R s q b)) (R.add_neg (mul_on R s x b)) ∙ R.zero_add _))

module _ {E B : Type 0} (r : RingOps E) (inv : E → Option E) (base : RingOps B) (f : FrobOps E B) (k : IsField r inv) (l : IsFrobField r base f) where
  abbrev pub trimmed_ore : (u : List E) → are_elems r u ≡ true → Ores r inv base f k l
  trimmed_ore u e = (trim r u, canonical-trim r u e)

  -- a factor with the term of a step
  abbrev pub less : Ores r inv base f k l → (c : E) (i : ℕ) → IsElem r c → Ores r inv base f k l
  less q c i p = minus (ores r inv base f k l) q (monomial r c i, monomial_in r k.ring c i p)

  -- nothing was taken away yet
  none_taken : (s : Side) (u b : List E) → are_elems r u ≡ true → is_canonical r b ≡ true → trim r u ≡ list_add r (trim r u) (multiple_on s r f.frob [] b)
  none_taken s u b eu cb =
      let R = ores r inv base f k l in
      ap (λ x. x.0) (sym (ap (R.add (trimmed_ore u eu)) (zero_on R s (b, cb)) ∙ add_zero R (trimmed_ore u eu)))
      ∙ ap (list_add r (trim r u)) (multiple_is r inv base f k l s R.zero (b, cb))

  -- One term more was taken away, by adding a multiple of `row` by `c tau^i`.
  module _ (s : Side) (u rest after row : List E) (q : Ores r inv base f k l) (c : E) (i : ℕ)
      (eu : are_elems r u ≡ true) (er : are_elems r rest ≡ true) (ea : are_elems r after ≡ true) (cr : is_canonical r row ≡ true) (p : IsElem r c)
      (below : (n : ℕ) → n < i → coeff r after n ≡ coeff r rest n) where
    abbrev term : Ores r inv base f k l
    term = (monomial r c i, monomial_in r k.ring c i p)

    term_taken : (s : Side) → ((j : ℕ) → coeff r after (i + j) ≡ r.add (coeff r rest (i + j)) (term_on s r f.frob c i row j))
        → trim r after ≡ list_add r (trim r rest) (mul_on (ores r inv base f k l) s term (row, cr)).0
    term_taken Right = term_added r k.ring f.frob (frob_twist r inv base f k l) after rest row c i ea er (and_parts _ _ cr).0 p below
    term_taken Left = term_added_right r k.ring f.frob (frob_twist r inv base f k l) after rest row c i ea er (and_parts _ _ cr).0 p below

    pub more_taken : trim r u ≡ list_add r (trim r rest) (multiple_on s r f.frob q.0 row)
        → ((j : ℕ) → coeff r after (i + j) ≡ r.add (coeff r rest (i + j)) (term_on s r f.frob c i row j))
        → trim r u ≡ list_add r (trim r after) (multiple_on s r f.frob (less q c i p).0 row)
    more_taken held added =
        let ops = twisted_ops r f.frob in
        ap (λ x. x.0)
        (taken (ores r inv base f k l) s (trimmed_ore u eu) (trimmed_ore rest er) (trimmed_ore after ea) q term (row, cr)
        (same_element ops _ _ (held ∙ ap (list_add r (trim r rest)) (sym (multiple_is r inv base f k l s q (row, cr))))) (same_element ops _ _ (term_taken s added)))
        ∙ ap (list_add r (trim r after)) (multiple_is r inv base f k l s (less q c i p) (row, cr))

  -- A division: the term that was taken away stands in the quotient.
  module _ (s : Side) (u rest after row quotient written : List E) (c x : E) (i : ℕ)
      (eu : are_elems r u ≡ true) (er : are_elems r rest ≡ true) (ea : are_elems r after ≡ true) (cr : is_canonical r row ≡ true) (p : IsElem r c)
      (below : (n : ℕ) → n < i → coeff r after n ≡ coeff r rest n)
      (eq : are_elems r quotient ≡ true) (ew : are_elems r written ≡ true)
      (negative : x ≡ r.neg c) (zero : coeff r quotient i ≡ r.zero) (new : coeff r written i ≡ x) (others : (n : ℕ) → n ≢ i → coeff r written n ≡ coeff r quotient n) where
    quotient_less : trim r written ≡ (less (trimmed_ore quotient eq) c i p).0
    quotient_less = term_written r k.ring written quotient c x i ew eq p negative zero new others

    pub divided_more : trim r u ≡ list_add r (trim r rest) (multiple_on s r f.frob (trim r quotient) row)
        → ((j : ℕ) → coeff r after (i + j) ≡ r.add (coeff r rest (i + j)) (term_on s r f.frob c i row j))
        → trim r u ≡ list_add r (trim r after) (multiple_on s r f.frob (trim r written) row)
    divided_more held added =
        more_taken s u rest after row (trimmed_ore quotient eq) c i eu er ea cr p below held added
        ∙ ap (λ y. list_add r (trim r after) (multiple_on s r f.frob y row)) (sym quotient_less)

  -- before the first place
  zeros_trimmed : (u : List E) → are_elems r u ≡ true → ((i : ℕ) → coeff r u i ≡ r.zero) → trim r u ≡ []
  zeros_trimmed u e zeros =
      let z = k.ring.closed.zero_in in
      same_coeffs r z k.ring.equal (trim r u) [] (trimmed-trim r u) refl (λ i. coeff-trim r z k.ring.equal u e i ∙ zeros i)

  pub divided_start : (s : Side) (u b quotient : List E) → are_elems r u ≡ true → is_canonical r b ≡ true → are_elems r quotient ≡ true → ((n : ℕ) → coeff r quotient n ≡ r.zero)
      → trim r u ≡ list_add r (trim r u) (multiple_on s r f.frob (trim r quotient) b)
  divided_start s u b quotient eu cb eq zeros =
      none_taken s u b eu cb ∙ ap (λ y. list_add r (trim r u) (multiple_on s r f.frob y b)) (sym (zeros_trimmed quotient eq zeros))

  -- Three lists at once.
  module _ (u o p b s w : List E) (eu : are_elems r u ≡ true) (eo : are_elems r o ≡ true) (ep : are_elems r p ≡ true)
      (cb : is_canonical r b ≡ true) (cs : is_canonical r s ≡ true) (cw : is_canonical r w ≡ true) where
    pub reduced_start : IsReduced r f.frob u o p b s w u o p
    reduced_start = record {
      factor = [];
      factor_in = refl;
      first = none_taken Right u b eu cb;
      second = none_taken Right o s eo cs;
      third = none_taken Right p w ep cw;
    }

    pub reduced_more : (rest left right rest2 left2 right2 : List E) (c : E) (i : ℕ) → IsReduced r f.frob u o p b s w rest left right
        → (er : are_elems r rest ≡ true) (el : are_elems r left ≡ true) (et : are_elems r right ≡ true)
        → (er2 : are_elems r rest2 ≡ true) (el2 : are_elems r left2 ≡ true) (et2 : are_elems r right2 ≡ true) → IsElem r c
        → ((n : ℕ) → n < i → coeff r rest2 n ≡ coeff r rest n) → ((n : ℕ) → n < i → coeff r left2 n ≡ coeff r left n) → ((n : ℕ) → n < i → coeff r right2 n ≡ coeff r right n)
        → ((j : ℕ) → coeff r rest2 (i + j) ≡ r.add (coeff r rest (i + j)) (r.mul c (f.frob (coeff r b j) i)))
        → ((j : ℕ) → coeff r left2 (i + j) ≡ r.add (coeff r left (i + j)) (r.mul c (f.frob (coeff r s j) i)))
        → ((j : ℕ) → coeff r right2 (i + j) ≡ r.add (coeff r right (i + j)) (r.mul c (f.frob (coeff r w j) i)))
        → IsReduced r f.frob u o p b s w rest2 left2 right2
    reduced_more rest left right rest2 left2 right2 c i held er el et er2 el2 et2 pc below below2 below3 added added2 added3 =
        let q : Ores r inv base f k l = (held.factor, held.factor_in) in
        record {
          factor = (less q c i pc).0;
          factor_in = (less q c i pc).1;
          first = more_taken Right u rest rest2 b q c i eu er er2 cb pc below held.first added;
          second = more_taken Right o left left2 s q c i eo el el2 cs pc below2 held.second added2;
          third = more_taken Right p right right2 w q c i ep et et2 cw pc below3 held.third added3;
        }
