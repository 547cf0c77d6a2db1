-- Greatest common right divisors and least common left multiples exist, from the end of Euclid's chain.
use Rattle.std.proofs.Common.{◌≡◌, ◌<◌, ◌≤◌, true, Option, List, [], length, refl, ⊎_elim, arith}
use Rattle.std.proofs.lemmas.Bool.{cases_lt}
use Rattle.std.proofs.lemmas.List.{nil_from_length}
use Rattle.ring_core.specs.Ring.{RingOps}
use Rattle.ring_core.specs.Field.{IsField, FrobOps, IsFrobField}
use Rattle.ring_core.specs.Coeffs.{is_canonical}
use Rattle.ring_core.specs.Twisted.{list_neg, list_mul}
use Rattle.ring_core.specs.Monomial.{constant}
use Rattle.ring_core.proofs.Carrier.{RingOn}
use Rattle.euclid_theory.proofs.Divisors.{chain_of}
use Rattle.euclid_theory.proofs.Lengths.{top_inverse}
use Rattle.euclid_theory.proofs.OreSizes.{Ores, ores, size, ore_sizes}
use Rattle.ore_divide.specs.Divisor.{IsCommonRight}
use Rattle.ore_divide.specs.Multiple.{IsLeastMultiple}
use Rattle.ore_divide.specs.steps.Links.{IsLastLink, IsMadeMonic}
use Rattle.ore_divide.proofs.Links.{Links, links_end}
use Rattle.ore_divide.proofs.Finish.{monic_done, monic_zero, common_of_left, common_of_right, no_multiple_is, common_done, multiple_done}

module _ {E B : Type 0} (r : RingOps E) (inv : E → Option E) (base : RingOps B) (f : FrobOps E B) (k : IsField r inv) (l : IsFrobField r base f) where
  abbrev R : RingOn (Ores r inv base f k l)
  R = ores r inv base f k l

  -- the end of the chain
  record LastLink (a b : List E) : Type 0 where
    pub u : List E
    pub su : List E
    pub wu : List E
    pub sv : List E
    pub wv : List E
    pub link : IsLastLink r f.frob a b u su wu sv wv

  last_link : (a b : List E) → is_canonical r a ≡ true → is_canonical r b ≡ true → 0 < length b → LastLink a b
  last_link a b ca cb pos =
      let e = chain_of R (size r inv base f k l) (ore_sizes r inv base f k l) (a, ca) (b, cb) pos in
      let links : Links r inv base f k l a b e.u.0 e.v.0 e.su.0 e.sv.0 e.wu.0 e.wv.0 ca cb = record {
        first = e.u.1;
        second = e.v.1;
        left = e.su.1;
        next_left = e.sv.1;
        right = e.wu.1;
        next_right = e.wv.1;
        chain = e.chain;
      } in
      record {
        u = e.u.0;
        su = e.su.0;
        wu = e.wu.0;
        sv = e.sv.0;
        wv = e.wv.0;
        link = links_end r inv base f k l a b e.u.0 e.v.0 e.su.0 e.sv.0 e.wu.0 e.wv.0 ca cb links (nil_from_length e.v.0 e.end);
      }

  made_monic : (u : List E) → is_canonical r u ≡ true → (d e : List E) × IsMadeMonic r f.frob u d e
  made_monic u cu =
      ⊎_elim
      (λ (no : length u < 1). ([], [], monic_zero r inv base f k l u [] [] (nil_from_length u (omega arith)) refl refl))
      (λ (some : 1 ≤ length u).
      let i = top_inverse r inv k u cu some in
      let c = i.0 in
      (list_mul r f.frob (constant r c) u, constant r c, monic_done r inv base f k l u _ _ c cu some i.1.0 i.1.1 refl refl))
      (cases_lt (length u) 1)

  pub common_exists : (a b : List E) → is_canonical r a ≡ true → is_canonical r b ≡ true → (d s w : List E) × IsCommonRight r f.frob a b d s w
  common_exists a b ca cb =
      ⊎_elim
      (λ (no_b : length b < 1).
      let m = made_monic a ca in
      (m.0, m.1, [], common_of_left r inv base f k l a b m.0 m.1 [] ca cb (nil_from_length b (omega arith)) m.2 refl))
      (λ (some_b : 1 ≤ length b).
      ⊎_elim
      (λ (no_a : length a < 1).
      let m = made_monic b cb in
      (m.0, [], m.1, common_of_right r inv base f k l a b m.0 [] m.1 ca cb (nil_from_length a (omega arith)) m.2 refl))
      (λ (some_a : 1 ≤ length a).
      let e = last_link a b ca cb some_b in
      let m = made_monic e.u e.link.divisor_in in (
        m.0,
        list_mul r f.frob m.1 e.su,
        list_mul r f.frob m.1 e.wu,
        common_done r inv base f k l a b e.u e.su e.wu e.sv e.wv ca cb some_a some_b e.link m.0 m.1 _ _ m.2 refl refl,
      ))
      (cases_lt (length a) 1))
      (cases_lt (length b) 1)

  pub multiple_exists : (a b : List E) → is_canonical r a ≡ true → is_canonical r b ≡ true → (m s w : List E) × IsLeastMultiple r f.frob a b m s w
  multiple_exists a b ca cb =
      ⊎_elim
      (λ (no_b : length b < 1).
      ([], [], [], no_multiple_is r inv base f k l a b [] [] [] ca cb (λ na nb. nb (nil_from_length b (omega arith))) refl refl refl))
      (λ (some_b : 1 ≤ length b).
      ⊎_elim
      (λ (no_a : length a < 1).
      ([], [], [], no_multiple_is r inv base f k l a b [] [] [] ca cb (λ na nb. na (nil_from_length a (omega arith))) refl refl refl))
      (λ (some_a : 1 ≤ length a).
      let e = last_link a b ca cb some_b in
      let product = R.mul (e.sv, e.link.left_factor_in) (a, ca) in
      let m = made_monic product.0 product.1 in
      let other = list_mul r f.frob m.1 e.wv in (
        m.0,
        list_mul r f.frob m.1 e.sv,
        list_neg r other,
        multiple_done r inv base f k l a b e.u e.su e.wu e.sv e.wv ca cb some_a some_b e.link product.0 m.0 m.1 _ other _ refl m.2 refl refl refl,
      ))
      (cases_lt (length a) 1))
      (cases_lt (length b) 1)
