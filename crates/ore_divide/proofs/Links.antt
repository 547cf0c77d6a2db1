-- Euclid's chain over lists.
use Rattle.std.proofs.Common.{◌≡◌, ℕ, ◌+◌, ◌<◌, ◌≤◌, true, Option, List, [], ◌∷◌, length, sym, ◌∙◌, ap, arith}
use Rattle.std.proofs.lemmas.Bool.{and_parts}
use Rattle.std.proofs.lemmas.List.{nil_from_length}
use Rattle.ring_core.specs.Ring.{RingOps}
use Rattle.ring_core.specs.Field.{IsField, FrobOps, IsFrobField}
use Rattle.ring_core.specs.Coeffs.{coeff, are_elems, is_canonical, trim}
use Rattle.ring_core.specs.Twisted.{twisted_ops, list_neg}
use Rattle.ring_core.proofs.Carrier.{RingOn, same_element}
use Rattle.ring_core.proofs.Coefficients.{trim-trimmed, canonical-trim}
use Rattle.ore_divide.specs.Division.{IsRightDivision}
use Rattle.ore_divide.specs.steps.Reduced.{IsReduced}
use Rattle.ore_divide.specs.steps.Links.{IsNextLink, IsLastLink, AreLastLinks}
use Rattle.euclid_theory.proofs.Sizes.{minus, minus_plus, divide}
use Rattle.euclid_theory.proofs.Chains.{Chain, chain_start, chain_step}
use Rattle.euclid_theory.proofs.Divisors.{Last, last_of}
use Rattle.euclid_theory.proofs.OreSizes.{Ores, ores, size, ore_sizes}
use Rattle.ore_divide.proofs.Reduced.{trimmed_ore}
use Rattle.ore_divide.proofs.Quotients.{rest_short}

module _ {E B : Type 0} (r : RingOps E) (inv : E → Option E) (base : RingOps B) (f : FrobOps E B) (k : IsField r inv) (l : IsFrobField r base f) where
  abbrev R : RingOn (Ores r inv base f k l)
  R = ores r inv base f k l

  -- a step in place, once its places are cleared
  pub link_done : (u v su sv wu wv grown_left grown_right rest left right final next past : List E)
      → is_canonical r u ≡ true → is_canonical r v ≡ true → is_canonical r su ≡ true → is_canonical r wu ≡ true
      → are_elems r rest ≡ true → are_elems r left ≡ true → are_elems r right ≡ true → 0 < length v → ((n : ℕ) → length v ≤ n + 1 → coeff r rest n ≡ r.zero)
      → trim r grown_left ≡ trim r su → trim r grown_right ≡ trim r wu → IsReduced r f.frob u grown_left grown_right v sv wv rest left right
      → final ≡ trim r rest → next ≡ trim r left → past ≡ trim r right → IsNextLink r f.frob u v su sv wu wv final next past
  link_done u v su sv wu wv grown_left grown_right rest left right final next past cu cv csu cwu er el et pos cleared same_left same_right reduced is_rest is_next is_past =
      rw (is_rest, is_next, is_past)
      (record {
        quotient = reduced.factor;
        quotient_in = reduced.factor_in;
        rest_in = canonical-trim r rest er;
        next_in = canonical-trim r left el;
        past_in = canonical-trim r right et;
        first =
            sym (trim-trimmed r u (and_parts _ _ cu).1) ∙ reduced.first
            ∙ ap (λ x. x.0) (R.add_comm (trimmed_ore r inv base f k l rest er) (R.mul (reduced.factor, reduced.factor_in) (v, cv)));
        second = sym (trim-trimmed r su (and_parts _ _ csu).1) ∙ sym same_left ∙ reduced.second;
        third = sym (trim-trimmed r wu (and_parts _ _ cwu).1) ∙ sym same_right ∙ reduced.third;
        lower = rest_short r inv base f k l v rest er pos cleared;
      })

  -- The state of the loop.
  pub record Links (a b u v su sv wu wv : List E) (ca : is_canonical r a ≡ true) (cb : is_canonical r b ≡ true) : Type 0 where
    pub first : is_canonical r u ≡ true
    pub second : is_canonical r v ≡ true
    pub left : is_canonical r su ≡ true
    pub next_left : is_canonical r sv ≡ true
    pub right : is_canonical r wu ≡ true
    pub next_right : is_canonical r wv ≡ true
    pub chain : Chain (ores r inv base f k l) (size r inv base f k l) (a, ca) (b, cb) (u, first) (v, second) (su, left) (sv, next_left) (wu, right) (wv, next_right)

  pub links_start : (a b q rest u su sv wu wv : List E) (ca : is_canonical r a ≡ true) (cb : is_canonical r b ≡ true) → IsRightDivision r f.frob a b q rest
      → u ≡ b → su ≡ [] → sv ≡ r.one ∷ [] → wu ≡ r.one ∷ [] → wv ≡ list_neg r q → Links a b u rest su sv wu wv ca cb
  links_start a b q rest u su sv wu wv ca cb d is_u is_su is_sv is_wu is_wv =
      rw (is_u, is_su, is_sv, is_wu, is_wv)
      (record {
        first = cb;
        second = d.remainder;
        left = R.zero.1;
        next_left = R.one.1;
        right = R.one.1;
        next_right = (R.neg (q, d.quotient)).1;
        chain = chain_start R (size r inv base f k l) (ore_sizes r inv base f k l) (a, ca) (b, cb) (q, d.quotient) (rest, d.remainder) (same_element (twisted_ops r f.frob) _ _ d.sum) d.lower;
      })

  pub links_step : (a b u v su sv wu wv rest next past : List E) (ca : is_canonical r a ≡ true) (cb : is_canonical r b ≡ true) → Links a b u v su sv wu wv ca cb → 0 < length v
      → IsNextLink r f.frob u v su sv wu wv rest next past → Links a b v rest sv next wv past ca cb
  links_step a b u v su sv wu wv rest next past ca cb s pos n =
      let ops = twisted_ops r f.frob in
      record {
        first = s.second;
        second = n.rest_in;
        left = s.next_left;
        next_left = n.next_in;
        right = s.next_right;
        next_right = n.past_in;
        chain =
            chain_step R (size r inv base f k l) (ore_sizes r inv base f k l) (a, ca) (b, cb) (u, s.first) (v, s.second) (su, s.left) (sv, s.next_left) (wu, s.right) (wv, s.next_right) s.chain
            (n.quotient, n.quotient_in) (rest, n.rest_in) (next, n.next_in) (past, n.past_in) pos
            (same_element ops _ _ n.first) n.lower (same_element ops _ _ n.second) (same_element ops _ _ n.third);
      }

  pub links_end : (a b u v su sv wu wv : List E) (ca : is_canonical r a ≡ true) (cb : is_canonical r b ≡ true) → Links a b u v su sv wu wv ca cb → v ≡ [] → IsLastLink r f.frob a b u su wu sv wv
  links_end a b u v su sv wu wv ca cb s none =
      let last = last_of R (size r inv base f k l) (ore_sizes r inv base f k l) (a, ca) (b, cb) (u, s.first) (v, s.second) (su, s.left) (sv, s.next_left) (wu, s.right) (wv, s.next_right) s.chain (ap length none) in
      record {
        divisor_in = s.first;
        left_in = s.left;
        right_in = s.right;
        left_factor_in = s.next_left;
        right_factor_in = s.next_right;
        nonzero = last.nonzero;
        left = record { factor = last.x.0; factor_in = last.x.1; is = ap (λ x. x.0) last.left };
        right = record { factor = last.y.0; factor_in = last.y.1; is = ap (λ x. x.0) last.right };
        sum = ap (λ x. x.0) last.sum;
        relation = ap (λ x. x.0) last.relation;
        all = λ n p d.
            let e = last.all (n, p) (d.factor, d.factor_in) (same_element (twisted_ops r f.frob) _ _ d.is) in
            record { factor = e.0.0; factor_in = e.0.1; is = ap (λ x. x.0) e.1 };
        sizes = last.sizes;
        small = last.small;
      }

  -- The state of the loop at its end: where the later remainder is a constant, the next one is zero.
  pub links_last : (a b u v su sv wu wv : List E) (ca : is_canonical r a ≡ true) (cb : is_canonical r b ≡ true) → Links a b u v su sv wu wv ca cb → length v ≤ 1 → AreLastLinks r f.frob a b u v su sv wu wv
  links_last a b u v su sv wu wv ca cb s short =
      let next : 0 < length v → (rest t o : List E) → IsNextLink r f.frob u v su sv wu wv rest t o → IsLastLink r f.frob a b v sv wv t o =
      λ pos rest t o n.
      let lower : length rest < length v = n.lower in
      links_end a b v rest sv t wv o ca cb (links_step a b u v su sv wu wv rest t o ca cb s pos n) (nil_from_length rest (omega (arith, lower, short))) in
      record {
        first = s.first;
        second = s.second;
        left = s.left;
        next_left = s.next_left;
        right = s.right;
        next_right = s.next_right;
        falling = s.chain.falling;
        zero = links_end a b u v su sv wu wv ca cb s;
        constant = λ pos.
            let d = divide R (size r inv base f k l) (ore_sizes r inv base f k l) (length u + 1) (u, s.first) (v, s.second) (omega arith) pos in
            let p = R.mul d.quotient (sv, s.next_left) in
            let q = R.mul d.quotient (wv, s.next_right) in
            let t = minus R (su, s.left) p in
            let o = minus R (wu, s.right) q in (
              t.0,
              o.0,
              next pos d.rest.0 t.0 o.0
                  (record {
                    quotient = d.quotient.0;
                    quotient_in = d.quotient.1;
                    rest_in = d.rest.1;
                    next_in = t.1;
                    past_in = o.1;
                    first = ap (λ x. x.0) d.sum;
                    second = ap (λ x. x.0) (sym (minus_plus R (su, s.left) p));
                    third = ap (λ x. x.0) (sym (minus_plus R (wu, s.right) q));
                    lower = d.lower;
                  }),
            );
        next = next;
      }

  -- What the end of the chain says, over the ring.
  pub last_from : (a b d s w t v : List E) (ca : is_canonical r a ≡ true) (cb : is_canonical r b ≡ true) (e : IsLastLink r f.frob a b d s w t v)
      → Last R (size r inv base f k l) (a, ca) (b, cb) (d, e.divisor_in) (s, e.left_in) (t, e.left_factor_in) (w, e.right_in) (v, e.right_factor_in)
  last_from a b d s w t v ca cb e =
      record {
        x = (e.left.factor, e.left.factor_in);
        left = same_element (twisted_ops r f.frob) _ _ e.left.is;
        y = (e.right.factor, e.right.factor_in);
        right = same_element (twisted_ops r f.frob) _ _ e.right.is;
        sum = same_element (twisted_ops r f.frob) _ _ e.sum;
        relation = same_element (twisted_ops r f.frob) _ _ e.relation;
        all = λ n o is.
            let d = e.all n.0 n.1 (record { factor = o.0; factor_in = o.1; is = ap (λ x. x.0) is }) in
            ((d.factor, d.factor_in), same_element (twisted_ops r f.frob) _ _ d.is);
        nonzero = e.nonzero;
        sizes = e.sizes;
        small = e.small;
      }
