-- The height: the lowest power of tau in `phi_P` is a multiple of the degree of `P`, from 1 to the rank.
use Rattle.std.proofs.Common.{◌≡◌, ◌≢◌, ℕ, nat_eq, if◌then◌else◌, zero, suc, ◌+◌, ◌-◌, ◌*◌, ◌/◌, ◌<◌, ◌≤◌, inl, inr, true, Option, List, [], ◌∷◌, length, refl, sym, ◌∙◌, ap, ap₂, ⊎_elim, arith}
use Rattle.std.specs.Prelude.{cond}
use Rattle.std.proofs.lemmas.Bool.{and_parts, cases_lt, false_from_ne_true}
use Rattle.std.proofs.Math.Nat.{le_of_mul-le-mul_right}
use mathlib.Core.Path.{fun_ext}
use Rattle.ring_core.specs.Ring.{RingOps, IsElem}
use Rattle.ring_core.specs.Field.{IsField, FrobOps, IsFrobField}
use Rattle.ring_core.specs.Coeffs.{coeff, are_elems, is_canonical}
use Rattle.ring_core.specs.Powers.{base_value}
use Rattle.ring_core.specs.Twisted.{IsTwist, product_at}
use Rattle.ring_core.proofs.Carrier.{RingOn, Element, same_element, elements, zero_mul, mul_neg, neg_neg, minus_same}
use Rattle.ring_core.proofs.Series.{total}
use Rattle.ring_core.proofs.Coefficients.{elem_read}
use Rattle.ring_core.proofs.Twist.{frob_twist}
use Rattle.ring_core.proofs.ListRing.{coeff-add, coeff-mul, length-list_of, product_single}
use Rattle.ring_core.proofs.Monomial.{coeff-monomial_same}
use Rattle.ring_core.proofs.Degrees.{not_empty, has_members}
use Rattle.finite_ring.proofs.Powers.{power}
use Rattle.linear_algebra.proofs.Dependent.{field_domain}
use Rattle.euclid_theory.proofs.Sizes.{HasSizes, minus_keeps}
use Rattle.euclid_theory.proofs.OreSizes.{Ores, ores, size, ore_sizes}
use Rattle.ore_poly.specs.Terms.{IsLowest}
use Rattle.drinfeld_mod.specs.Module.{IsModule, rank_of, constant_of}
use Rattle.drinfeld_mod.specs.Image.{image}
use Rattle.drinfeld_mod.specs.Height.{IsCharacteristic, IsHeight}
use Rattle.drinfeld_mod.proofs.Orbits.{map_value}
use Rattle.drinfeld_mod.proofs.Actions.{point, up, coeffs, image_is, image_in, image_central}
use Rattle.drinfeld_mod.proofs.Periods.{coeffs as own_coeffs, value_is, degree_divides, top_embedded}

-- What a product of two numbers that isn't zero, and isn't above `n * d`, says of its factors.
height_told : (h d n : ℕ) → 1 ≤ h * d → h * d ≤ n * d → (0 < d) × (1 ≤ h) × (h ≤ n)
height_told zero d n pos most = let none : 0 * d ≡ 0 = omega arith in absurd (omega arith)
height_told (suc h) zero n pos most = absurd (omega arith)
height_told (suc h) (suc d) n pos most = (omega arith, omega arith, le_of_mul-le-mul_right most (omega arith))

module _ {M : Type 0} (R : RingOn M) where
  module _ (len : M → ℕ) (h : HasSizes R len) (x : M) (k : ℕ) (degree : len x ≡ suc k) where
    power_size : (n : ℕ) → len (power R x n) ≡ k * n + 1
    power_size zero = let none : k * 0 ≡ 0 = omega arith in omega arith
    power_size (suc n) =
        let before : len (power R x n) ≡ k * n + 1 = power_size n in
        let more : k * suc n ≡ k * n + k = omega arith in
        let all : len (R.mul (power R x n) x) + 1 ≡ len (power R x n) + len x = h.product (power R x n) x (omega arith) (omega arith) in
        omega arith

    module _ (c : ℕ → M) (small : (i : ℕ) → len (c i) ≤ 1) where
      term_small : (n : ℕ) → len (R.mul (c n) (power R x n)) ≤ k * n + 1
      term_small n =
          let power_long : len (power R x n) ≡ k * n + 1 = power_size n in
          let constant : len (c n) ≤ 1 = small n in
          ⊎_elim
          (λ (none : len (c n) < 1).
          let gone : len (R.mul (c n) (power R x n)) ≡ 0 = ap len (ap (λ y. R.mul y (power R x n)) (h.empty (c n) (omega arith)) ∙ zero_mul R (power R x n)) ∙ h.none in
          omega arith)
          (λ (some : 1 ≤ len (c n)).
          let all : len (R.mul (c n) (power R x n)) + 1 ≡ len (c n) + len (power R x n) = h.product (c n) (power R x n) some (omega arith) in
          omega arith)
          (cases_lt (len (c n)) 1)

      -- the terms below n
      sum_small : (n : ℕ) → 0 < k → len (total R n (λ i. R.mul (c i) (power R x i))) ≤ k * n
      sum_small zero pos = let none : len R.zero ≡ 0 = h.none in omega arith
      sum_small (suc n) pos =
          let before : len (total R n (λ i. R.mul (c i) (power R x i))) ≤ k * n = sum_small n pos in
          let term : len (R.mul (c n) (power R x n)) ≤ k * n + 1 = term_small n in
          let more : k * suc n ≡ k * n + k = omega arith in
          h.sum (total R n (λ i. R.mul (c i) (power R x i))) (R.mul (c n) (power R x n)) (k * suc n) (omega arith) (omega arith)

      -- with the top one, which is larger
      sum_top : (n : ℕ) → 0 < k → len (c n) ≡ 1 → len (total R (suc n) (λ i. R.mul (c i) (power R x i))) ≡ k * n + 1
      sum_top n pos one =
          let low = total R n (λ i. R.mul (c i) (power R x i)) in
          let top = R.mul (c n) (power R x n) in
          let power_long : len (power R x n) ≡ k * n + 1 = power_size n in
          let term : len top + 1 ≡ len (c n) + len (power R x n) = h.product (c n) (power R x n) (omega arith) (omega arith) in
          let before : len low ≤ k * n = sum_small n pos in
          let twice : len (R.neg (R.neg top)) ≡ len top = ap len (neg_neg R top) in
          let back : len (R.neg (R.neg top)) ≤ len (R.neg top) = h.neg (R.neg top) in
          let negative : len (R.neg top) ≤ len top = h.neg top in
          ap (λ y. len (R.add low y)) (sym (neg_neg R top)) ∙ minus_keeps R len h low (R.neg top) (omega arith) ∙ omega arith

module _ {E : Type 0} (r : RingOps E) (inv : E → Option E) (k : IsField r inv) where
  -- equal products with a factor that isn't zero
  pub cancel : (x y z : E) → IsElem r x → IsElem r y → IsElem r z → x ≢ r.zero → r.mul x y ≡ r.mul x z → y ≡ z
  cancel x y z px py pz nx same =
      let R = elements k.ring in
      let domain = field_domain r inv k in
      let X : Element r = (x, px) in
      let D : Element r = R.add (y, py) (R.neg (z, pz)) in
      let none : R.mul X D ≡ R.zero =
      R.mul_add X (y, py) (R.neg (z, pz)) ∙ ap₂ R.add (same_element r (R.mul X (y, py)) (R.mul X (z, pz)) same) (mul_neg R X (z, pz)) ∙ R.add_neg (R.mul X (z, pz)) in
      ap (λ u. u.0)
      (minus_same R (y, py) (z, pz)
      (⊎_elim (λ zero_is. zero_is) (λ (other : D ≢ R.zero). absurd (domain.product X D (λ e. nx (ap (λ u. u.0) e)) other none)) (domain.decided D)))

module _ {E B : Type 0} (r : RingOps E) (inv : E → Option E) (base : RingOps B) (base_inv : B → Option B) (f : FrobOps E B) (k : IsField r inv) (kb : IsField base base_inv) (l : IsFrobField r base f) where
  abbrev S : RingOn (Ores r inv base f k l)
  S = ores r inv base f k l

  t : IsTwist r f.frob
  t = frob_twist r inv base f k l

  module _ (phi : List E) (m : IsModule r phi) (a : List B) (e : are_elems base a ≡ true) (i : ℕ) (low : IsLowest r (image r base f phi a) i) where
    -- the coefficients at the lowest place of the image of both its products with that of T
    lowest_back : f.frob (constant_of r phi) i ≡ constant_of r phi
    lowest_back =
        let z = k.ring.closed.zero_in in
        let u = image r base f phi a in
        let eu : are_elems r u ≡ true = (and_parts _ _ (image_in r inv base base_inv f k kb l phi m.canonical a e)).0 in
        let ep : are_elems r phi ≡ true = (and_parts _ _ m.canonical).0 in
        let c = constant_of r phi in
        let pc = elem_read r phi z ep 0 in
        let x = coeff r u i in
        let px = elem_read r u z eu i in
        let one : product_at r f.frob u phi i ≡ r.mul x (f.frob c i) =
        product_single r k.ring f.frob t u phi eu ep i i (omega arith) (λ j less other. inl (low.below j (omega arith)))
        ∙ ap (λ n. r.mul x (f.frob (coeff r phi n) i)) (omega arith) in
        let two : product_at r f.frob phi u i ≡ r.mul c x =
        product_single r k.ring f.frob t phi u ep eu i 0 (omega arith) (λ j less other. inr (low.below (i - j) (omega arith)))
        ∙ ap (r.mul c) (ap (λ n. f.frob (coeff r u n) 0) (omega arith) ∙ l.frob_zero x px) in
        cancel r inv k x (f.frob c i) c px (l.frob_in c i pc) pc low.nonzero
        (sym one ∙ sym (coeff-mul r k.ring f.frob t u phi eu ep i) ∙ ap (λ v. coeff r v i) (sym (image_central r inv base base_inv f k kb l phi m.canonical a e))
        ∙ coeff-mul r k.ring f.frob t phi u ep eu i ∙ two ∙ k.mul_comm c x pc px)

  -- the constant coefficient of an image
  abbrev first : Ores r inv base f k l → Element r
  first u = (coeff r u.0 0, elem_read r u.0 k.ring.closed.zero_in (and_parts _ _ u.1).0 0)

  first_mul : (u v : Ores r inv base f k l) → first (S.mul u v) ≡ (elements k.ring).mul (first u) (first v)
  first_mul u v =
      same_element r (first (S.mul u v)) ((elements k.ring).mul (first u) (first v))
      (coeff-mul r k.ring f.frob t u.0 v.0 (and_parts _ _ u.1).0 (and_parts _ _ v.1).0 0
      ∙ k.ring.zero_add _ (k.ring.closed.mul_in _ _ (first u).1 (l.frob_in _ 0 (first v).1))
      ∙ ap (r.mul (coeff r u.0 0)) (l.frob_zero _ (first v).1))

  first_add : (u v : Ores r inv base f k l) → first (S.add u v) ≡ (elements k.ring).add (first u) (first v)
  first_add u v = same_element r (first (S.add u v)) ((elements k.ring).add (first u) (first v)) (coeff-add r k.ring u.0 v.0 (and_parts _ _ u.1).0 (and_parts _ _ v.1).0 0)

  module _ (phi : List E) (m : IsModule r phi) where
    abbrev x : Ores r inv base f k l
    x = point r inv base base_inv f k kb l phi m.canonical

    -- the constant coefficient of an image is the value at the constant of the module
    image_first : (a : List B) → are_elems base a ≡ true → coeff r (image r base f phi a) 0 ≡ base_value r base f.embed a (constant_of r phi)
    image_first a e =
        let R = elements k.ring in
        let c = λ (i : ℕ). up r inv base base_inv f k kb l (coeffs r inv base base_inv f k kb l phi m.canonical a e i) in
        let own = own_coeffs r inv base base_inv f k kb l (constant_of r phi) (first x).1 a e in
        let each : (i : ℕ) → first (c i) ≡ own i = λ i. same_element r _ _ (coeff-monomial_same r k.ring (own i).0 0 (own i).1) in
        sym (ap (λ v. coeff r v 0) (image_is r inv base base_inv f k kb l phi m.canonical a e))
        ∙ ap (λ y. y.0)
        (map_value S R first (same_element r _ _ refl) (same_element r _ _ refl) first_add first_mul (length a) c x
        ∙ ap (total R (length a)) (fun_ext (λ i. ap (λ y. R.mul y (power R (first x) i)) (each i))))
        ∙ value_is r inv base base_inv f k kb l (constant_of r phi) (first x).1 a e (first x)

    -- the degree of an image
    pub image_length : (a : List B) → is_canonical base a ≡ true → a ≢ [] → length (image r base f phi a) ≡ rank_of phi * (length a - 1) + 1
    image_length a ca some =
        let e : are_elems base a ≡ true = (and_parts _ _ ca).0 in
        let n = length a - 1 in
        let long : length a ≡ suc n = omega (arith, has_members a some) in
        let rank : 1 ≤ rank_of phi = m.rank_pos in
        let own = coeffs r inv base base_inv f k kb l phi m.canonical a e in
        let c = λ (i : ℕ). up r inv base base_inv f k kb l (own i) in
        let top = f.embed (coeff base a n) in
        let one : length (c n).0 ≡ 1 =
        ap (λ b. length (cond b [] (top ∷ [])))
        (false_from_ne_true (r.same top r.zero) (λ s.
        top_embedded r inv base base_inv f k kb l a ca some (k.ring.equal.same_eq top r.zero (l.embed_in _ (own n).1) k.ring.closed.zero_in s))) in
        let short : (i : ℕ) → length (c i).0 ≤ 1 = λ i. length-list_of r 1 (λ j. if nat_eq j 0 then f.embed (coeff base a i) else r.zero) in
        ap length (sym (image_is r inv base base_inv f k kb l phi m.canonical a e))
        ∙ ap (λ j. length (total S j (λ i. S.mul (c i) (power S x i))).0) long
        ∙ sum_top S (size r inv base f k l) (ore_sizes r inv base f k l) x (rank_of phi) (omega arith) c short n rank one

    module _ (a : List B) (p : IsCharacteristic r base f phi a) where
      elems : are_elems base a ≡ true
      elems = (and_parts _ _ p.canonical).0

      degree : length (image r base f phi a) ≡ rank_of phi * (length a - 1) + 1
      degree = image_length a p.canonical (λ e. kb.one_ne_zero (sym p.monic ∙ ap (λ u. coeff base u (length u - 1)) e))

      pub image_nonzero : image r base f phi a ≢ []
      image_nonzero = not_empty _ (omega (arith, degree))

      module _ (i : ℕ) (low : IsLowest r (image r base f phi a) i) where
        -- the lowest place isn't the first: the constant of the module is a root
        lowest_positive : (j : ℕ) → j ≡ i → 1 ≤ j
        lowest_positive zero is = absurd (low.nonzero (ap (coeff r (image r base f phi a)) (sym is) ∙ image_first a elems ∙ p.root))
        lowest_positive (suc j) is = omega arith

        whole : i ≡ i / (length a - 1) * (length a - 1)
        whole = degree_divides r inv base base_inv f k kb l (constant_of r phi) (first x).1 a p i (lowest_back phi m a elems i low)

        told : (0 < length a - 1) × (1 ≤ i / (length a - 1)) × (i / (length a - 1) ≤ rank_of phi)
        told =
            height_told (i / (length a - 1)) (length a - 1) (rank_of phi) (omega (arith, lowest_positive i refl, whole))
            (omega (arith, low.within, degree, whole))

        pub degree_positive : 0 < length a - 1
        degree_positive = told.0

        -- The height exists, and is at least 1 and at most the rank.
        pub height_found : IsHeight r base f phi (i / (length a - 1)) × (1 ≤ i / (length a - 1)) × (i / (length a - 1) ≤ rank_of phi)
        height_found = (record { p = a; characteristic = p; lowest = rw (← whole) low }, told.1, told.2)
