-- Divisors and multiples from the end of Euclid's chain, over lists.
use Rattle.std.proofs.Common.{◌≡◌, ◌≢◌, ℕ, ◌+◌, ◌-◌, ◌<◌, inl, inr, true, not, Option, List, [], ◌∷◌, length, refl, sym, ◌∙◌, ap, ap₂, arith}
use Rattle.std.proofs.lemmas.Bool.{and_parts, and_from, false_from_ne_true}
use Rattle.ring_core.specs.Ring.{RingOps, IsElem}
use Rattle.ring_core.specs.Field.{IsField, FrobOps, IsFrobField}
use Rattle.ring_core.specs.Coeffs.{coeff, are_elems, is_canonical, trim, list_of}
use Rattle.ring_core.specs.Twisted.{list_neg, list_mul}
use Rattle.ring_core.specs.Monomial.{constant}
use Rattle.ring_core.proofs.Carrier.{RingOn, elements, zero_mul, mul_zero}
use Rattle.ring_core.proofs.Coefficients.{elem_read, trim-trimmed}
use Rattle.ring_core.proofs.Twist.{frob_twist}
use Rattle.ring_core.proofs.ListRing.{coeff-mul}
use Rattle.ring_core.proofs.Monomial.{monomial_in, constant_mul}
use Rattle.ring_core.proofs.Degrees.{product_top, not_empty, has_members}
use Rattle.ore_divide.specs.Divisor.{DividesRight, IsMonic, IsCommonRight}
use Rattle.ore_divide.specs.Multiple.{IsLeastMultiple}
use Rattle.ore_divide.specs.steps.Links.{IsLastLink, IsMadeMonic}
use Rattle.euclid_theory.proofs.Divisors.{Last, common_from, cofactor_small, multiple_from}
use Rattle.euclid_theory.proofs.OreSizes.{Ores, ores, size, ore_sizes}
use Rattle.ore_divide.proofs.Links.{last_from}
use Rattle.ore_divide.proofs.Unique.{Monic, tops, same, empty_or_not, zero_divided, right_empty, left_empty}

module _ {E B : Type 0} (r : RingOps E) (inv : E → Option E) (base : RingOps B) (f : FrobOps E B) (k : IsField r inv) (l : IsFrobField r base f) where
  abbrev R : RingOn (Ores r inv base f k l)
  R = ores r inv base f k l

  abbrev len : Ores r inv base f k l → ℕ
  len = size r inv base f k l

  equal : (x y : Ores r inv base f k l) → x.0 ≡ y.0 → x ≡ y
  equal = same r inv base f k l

  single_in : (c : E) → IsElem r c → c ≢ r.zero → is_canonical r (c ∷ []) ≡ true
  single_in c p ne =
      and_from _ _ (and_from _ _ p refl) (ap not (false_from_ne_true _ (λ s. ne (k.ring.equal.same_eq _ _ p k.ring.closed.zero_in s))))

  single_is : (c : E) → IsElem r c → c ≢ r.zero → constant r c ≡ c ∷ []
  single_is c p ne = trim-trimmed r (c ∷ []) (and_parts _ _ (single_in c p ne)).1

  nonzero_right : (t c : E) → IsElem r t → IsElem r c → r.mul t c ≡ r.one → c ≢ r.zero
  nonzero_right t c p q e none =
      k.one_ne_zero (sym e ∙ ap (r.mul t) none ∙ ap (λ x. x.0) (mul_zero (elements k.ring) (t, p)))

  -- the constants t and c are inverse to each other
  constants_inverse : (t c : E) → IsElem r t → IsElem r c → r.mul t c ≡ r.one → list_mul r f.frob (constant r t) (constant r c) ≡ r.one ∷ []
  constants_inverse t c p q e =
      sym (constant_mul r k.ring f.frob (frob_twist r inv base f k l) t (constant r c) p (and_parts _ _ (monomial_in r k.ring c 0 q)).0)
      ∙ ap (λ u. list_of r (length u) (λ i. r.mul t (coeff r u i))) (single_is c q (nonzero_right t c p q e))
      ∙ ap (λ x. trim r (x ∷ [])) e ∙ trim-trimmed r (r.one ∷ []) (and_parts _ _ R.one.1).1

  pub monic_done : (u d e : List E) (c : E) → is_canonical r u ≡ true → 0 < length u → IsElem r c → r.mul (coeff r u (length u - 1)) c ≡ r.one
      → d ≡ list_mul r f.frob (constant r c) u → e ≡ constant r c → IsMadeMonic r f.frob u d e
  monic_done u d e c cu pos pc inverts is_d is_e =
      let twist = frob_twist r inv base f k l in
      let eu : are_elems r u ≡ true = (and_parts _ _ cu).0 in
      let top = coeff r u (length u - 1) in
      let pt = elem_read r u k.ring.closed.zero_in eu (length u - 1) in
      let ce = monomial_in r k.ring c 0 pc in
      let unit : Ores r inv base f k l = (constant r c, ce) in
      let product = R.mul unit (u, cu) in
      let one : length (constant r c) ≡ 1 = ap length (single_is c pc (nonzero_right top c pt pc inverts)) in
      let whole : len product + 1 ≡ len unit + length u = (ore_sizes r inv base f k l).product unit (u, cu) (omega arith) pos in
      let value : IsMonic r product.0 =
      ap (coeff r product.0) (omega arith) ∙ coeff-mul r k.ring f.frob twist (constant r c) u (and_parts _ _ ce).0 eu (0 + (length u - 1))
      ∙ product_top r k.ring f.frob twist (constant r c) u (and_parts _ _ ce).0 eu 0 (length u - 1) (omega arith) (omega arith)
      ∙ ap₂ r.mul (ap (λ v. coeff r v 0) (single_is c pc (nonzero_right top c pt pc inverts))) (l.frob_zero top pt)
      ∙ k.mul_comm c top pc pt ∙ inverts in
      rw (is_d, is_e)
      (record {
        multiple_in = product.1;
        unit_in = ce;
        is = refl;
        small = omega arith;
        none = λ empty. absurd (not_empty u pos empty);
        monic = λ _. value;
        inverse = λ _. record {
          factor = constant r top;
          factor_in = monomial_in r k.ring top 0 pt;
          is = sym (constants_inverse top c pt pc inverts);
        };
      })

  pub monic_zero : (u d e : List E) → u ≡ [] → d ≡ [] → e ≡ [] → IsMadeMonic r f.frob u d e
  monic_zero u d e is_u is_d is_e =
      rw (is_u, is_d, is_e)
      (record {
        multiple_in = refl;
        unit_in = refl;
        is = refl;
        small = omega arith;
        none = λ _. refl;
        monic = λ ne. absurd (ne refl);
        inverse = λ ne. absurd (ne refl);
      })

  -- u divides by its monic multiple
  divides_back : (u d e : List E) → is_canonical r u ≡ true → IsMadeMonic r f.frob u d e → DividesRight r f.frob d u
  divides_back u d e cu m = elim (empty_or_not u) [
    | inl none ↦ zero_divided r inv base f k l d u m.multiple_in none
    | inr some ↦
        let i = m.inverse (not_empty u some) in
        let back : Ores r inv base f k l = (i.factor, i.factor_in) in
        let unit : Ores r inv base f k l = (e, m.unit_in) in
        record {
          factor = i.factor;
          factor_in = i.factor_in;
          is =
              ap (λ x. x.0)
              (sym (R.one_mul (u, cu)) ∙ ap (λ x. R.mul x (u, cu)) (equal R.one (R.mul back unit) i.is) ∙ R.mul_assoc back unit (u, cu)
              ∙ ap (R.mul back) (equal (R.mul unit (u, cu)) (d, m.multiple_in) (sym m.is)));
        }
  ]

  monic_where : (u d e : List E) → is_canonical r u ≡ true → IsMadeMonic r f.frob u d e → d ≢ [] → IsMonic r d
  monic_where u d e cu m ne = elim (empty_or_not u) [
    | inl none ↦ absurd (ne (m.is ∙ ap (λ x. list_mul r f.frob x u) (m.none none) ∙ ap (λ x. x.0) (zero_mul R (u, cu))))
    | inr some ↦ m.monic (not_empty u some)
  ]

  -- where b is zero
  pub common_of_left : (a b d s w : List E) → is_canonical r a ≡ true → is_canonical r b ≡ true → b ≡ [] → IsMadeMonic r f.frob a d s → w ≡ [] → IsCommonRight r f.frob a b d s w
  common_of_left a b d s w ca cb none m is =
      let cw : is_canonical r w ≡ true = ap (is_canonical r) is in
      record {
        divisor = m.multiple_in;
        left_in = m.unit_in;
        right_in = cw;
        sum = m.is ∙ sym (ap (λ x. x.0) (right_empty r inv base f k l (s, m.unit_in) (w, cw) (a, ca) (b, cb) none));
        left = divides_back a d s ca m;
        right = zero_divided r inv base f k l d b m.multiple_in none;
        monic = monic_where a d s ca m;
        bound = λ na nb. absurd (nb none);
        no_left = λ no. (m.none no, omega (arith, ap length is), λ _. is);
        no_right = λ some no. (is, m.small);
      }

  -- where a alone is zero
  pub common_of_right : (a b d s w : List E) → is_canonical r a ≡ true → is_canonical r b ≡ true → a ≡ [] → IsMadeMonic r f.frob b d w → s ≡ [] → IsCommonRight r f.frob a b d s w
  common_of_right a b d s w ca cb none m is =
      let cs : is_canonical r s ≡ true = ap (is_canonical r) is in
      record {
        divisor = m.multiple_in;
        left_in = cs;
        right_in = m.unit_in;
        sum = m.is ∙ sym (ap (λ x. x.0) (left_empty r inv base f k l (s, cs) (w, m.unit_in) (a, ca) (b, cb) none));
        left = zero_divided r inv base f k l d a m.multiple_in none;
        right = divides_back b d w cb m;
        monic = monic_where b d w cb m;
        bound = λ na nb. absurd (na none);
        no_left = λ no. (is, m.small, m.none);
        no_right = λ some no. absurd (some none);
      }

  pub no_multiple_is : (a b m s w : List E) → is_canonical r a ≡ true → is_canonical r b ≡ true → (a ≢ [] → b ≢ [] → ⊥) → m ≡ [] → s ≡ [] → w ≡ [] → IsLeastMultiple r f.frob a b m s w
  no_multiple_is a b m s w ca cb none im is iw =
      rw (im, is, iw)
      (record {
        multiple = R.zero.1;
        left_in = R.zero.1;
        right_in = R.zero.1;
        left = sym (ap (λ x. x.0) (zero_mul R (a, ca)));
        right = sym (ap (λ x. x.0) (zero_mul R (b, cb)));
        monic = λ na nb. absurd (none na nb);
        least = λ na nb. absurd (none na nb);
        no_left = λ _. (refl, refl, refl);
        no_right = λ _. (refl, refl, refl);
      })

  -- the size of an invertible constant
  unit_one : (u d e : List E) → 0 < length u → (m : IsMadeMonic r f.frob u d e) → length e ≡ 1
  unit_one u d e pos m =
      let i = m.inverse (not_empty u pos) in
      let back : Ores r inv base f k l = (i.factor, i.factor_in) in
      let some = has_members e (λ none. let gone : r.one ∷ [] ≡ [] = i.is ∙ ap (list_mul r f.frob i.factor) none ∙ ap (λ x. x.0) (mul_zero R back) in cc) in
      omega (arith, m.small, some)

  module _ (a b u su wu sv wv : List E) (ca : is_canonical r a ≡ true) (cb : is_canonical r b ≡ true) (pa : 0 < length a) (pb : 0 < length b) (link : IsLastLink r f.frob a b u su wu sv wv) where
    last : Last R len (a, ca) (b, cb) (u, link.divisor_in) (su, link.left_in) (sv, link.left_factor_in) (wu, link.right_in) (wv, link.right_factor_in)
    last = last_from r inv base f k l a b u su wu sv wv ca cb link

    pub common_done : (d e s w : List E) → IsMadeMonic r f.frob u d e → s ≡ list_mul r f.frob e su → w ≡ list_mul r f.frob e wu → IsCommonRight r f.frob a b d s w
    common_done d e s w m is_s is_w =
        let h = ore_sizes r inv base f k l in
        let unit : Ores r inv base f k l = (e, m.unit_in) in
        let i = m.inverse (not_empty u link.nonzero) in
        let inverse : R.mul (i.factor, i.factor_in) unit ≡ R.one = equal _ _ (sym i.is) in
        let one = unit_one u d e link.nonzero m in
        let monic : IsMonic r (list_mul r f.frob e u) = rw m.is at m.monic (not_empty u link.nonzero) in
        let c = common_from R len h (Monic r inv base f k l) (tops r inv base f k l) _ _ _ _ _ _ _ last unit (i.factor, i.factor_in) one inverse monic in
        let small = cofactor_small R len h (Monic r inv base f k l) (tops r inv base f k l) _ _ _ _ _ _ _ last unit (i.factor, i.factor_in) one inverse in
        rw (m.is, is_s, is_w)
        (record {
          divisor = (R.mul unit (u, link.divisor_in)).1;
          left_in = (R.mul unit (su, link.left_in)).1;
          right_in = (R.mul unit (wu, link.right_in)).1;
          sum = ap (λ x. x.0) c.sum;
          left = record { factor = c.x.0; factor_in = c.x.1; is = ap (λ x. x.0) c.left };
          right = record { factor = c.y.0; factor_in = c.y.1; is = ap (λ x. x.0) c.right };
          monic = λ _. monic;
          bound = λ _ _ _. small;
          no_left = λ no. absurd (not_empty a pa no);
          no_right = λ _ no. absurd (not_empty b pb no);
        })

    pub multiple_done : (product m e s other w : List E) → product ≡ list_mul r f.frob sv a → IsMadeMonic r f.frob product m e → s ≡ list_mul r f.frob e sv
        → other ≡ list_mul r f.frob e wv → w ≡ list_neg r other → IsLeastMultiple r f.frob a b m s w
    multiple_done product m e s other w is_product mm is_s is_other is_w =
        let h = ore_sizes r inv base f k l in
        let unit : Ores r inv base f k l = (e, mm.unit_in) in
        let V : Ores r inv base f k l = (sv, link.left_factor_in) in
        let whole : len (R.mul V (a, ca)) + 1 ≡ length sv + length a = h.product V (a, ca) (omega arith) pa in
        let pos : 0 < length product = omega (arith, ap length is_product) in
        let i = mm.inverse (not_empty product pos) in
        let inverse : R.mul (i.factor, i.factor_in) unit ≡ R.one = equal _ _ (sym i.is) in
        let c =
        multiple_from R len h (Monic r inv base f k l) (tops r inv base f k l) _ _ _ _ _ _ _ last unit (i.factor, i.factor_in) (unit_one product m e pos mm) inverse
        (m, mm.multiple_in) (equal _ _ (mm.is ∙ ap (list_mul r f.frob e) is_product)) pa (mm.monic (not_empty product pos)) in
        rw (is_w, is_other, is_s)
        (record {
          multiple = mm.multiple_in;
          left_in = (R.mul unit V).1;
          right_in = (R.neg (R.mul unit (wv, link.right_factor_in))).1;
          left = ap (λ x. x.0) c.left;
          right = ap (λ x. x.0) c.right;
          monic = λ _ _. c.monic;
          least = λ _ _ n cn ne p q.
              c.least (n, cn) (p.factor, p.factor_in) (q.factor, q.factor_in) (has_members n ne) (equal _ _ p.is) (equal _ _ q.is);
          no_left = λ no. absurd (not_empty a pa no);
          no_right = λ no. absurd (not_empty b pb no);
        })
