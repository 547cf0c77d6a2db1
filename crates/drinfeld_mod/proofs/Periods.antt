-- The degree of the minimal polynomial of an element is the number of steps after which the Frobenius first
-- brings it back; so it divides every such number.
use Rattle.std.proofs.Common.{◌≡◌, ◌≢◌, ℕ, zero, suc, ◌+◌, ◌-◌, ◌*◌, ◌/◌, ◌%◌, ◌<◌, ◌≤◌, ◌⊎◌, inl, inr, true, Option, List, [], length, refl, sym, ◌∙◌, ap, ap₂, subst, ⊎_elim, arith}
use Rattle.std.proofs.Math.Nat.{div-add-mod, mod-lt}
use Rattle.std.proofs.lemmas.Bool.{and_parts, and_from, cases_lt, false_from_ne_true}
use mathlib.Core.Path.{fun_ext}
use Rattle.ring_core.specs.Ring.{RingOps, IsElem}
use Rattle.ring_core.specs.Field.{IsField, FrobOps, IsFrobField}
use Rattle.ring_core.specs.Coeffs.{coeff, sum_below, are_elems, is_canonical, first_values}
use Rattle.ring_core.specs.Powers.{base_value}
use Rattle.ring_core.proofs.Carrier.{RingOn, Element, same_element, elements}
use Rattle.ring_core.proofs.Series.{total}
use Rattle.ring_core.proofs.Coefficients.{elem_read, elems-first_values}
use Rattle.ring_core.proofs.FirstValues.{length-first_values, at-first_values}
use Rattle.ring_core.proofs.Twist.{IsTwist, frob_twist, twist, twist_endo, total_is, embed_zero, embed_one}
use Rattle.ring_core.proofs.Degrees.{top_nonzero, not_empty, has_members}
use Rattle.finite_ring.proofs.Powers.{power, power_value}
use Rattle.linear_algebra.proofs.Sums.{total_same}
use Rattle.linear_algebra.proofs.Dependent.{field_domain}
use Rattle.twist_theory.proofs.FewRoots.{is_polynomial, few_roots}
use Rattle.minimal_poly.specs.MinPoly.{IsMinPoly}
use Rattle.drinfeld_mod.proofs.Modules.{equal_or_not, trimmed_by_top}
use Rattle.drinfeld_mod.proofs.Orbits.{map_value, roots, roots_top, roots_endo, roots_cycle, roots_value}

-- n is the least number with P.
pub record IsLeast (P : ℕ → Type 0) (n : ℕ) : Type 0 where
  pub holds : P n
  pub least : (i : ℕ) → i < n → P i → ⊥

-- Where a number has P, there is a least.
pub least_of : (P : ℕ → Type 0) → ((i : ℕ) → P i ⊎ (P i → ⊥)) → (n : ℕ) → P n → (m : ℕ) × (m ≤ n) × IsLeast P m
least_of P dec zero p = (0, omega arith, record { holds = p; least = λ i l q. absurd (omega arith) })
least_of P dec (suc n) p = elim (dec 0) [
  | inl q ↦ (0, omega arith, record { holds = q; least = λ i l w. absurd (omega arith) })
  | inr none ↦
      let found = least_of (λ i. P (suc i)) (λ i. dec (suc i)) n p in
      (suc found.0, omega (arith, found.1), record { holds = found.2.holds; least = above P found.0 none found.2 })
]
  where
    above : (P : ℕ → Type 0) (m : ℕ) → (P 0 → ⊥) → IsLeast (λ i. P (suc i)) m → (i : ℕ) → i < suc m → P i → ⊥
    above P m none found zero l = none
    above P m none found (suc i) l = found.least i (omega arith)

module _ {E B : Type 0} (r : RingOps E) (inv : E → Option E) (base : RingOps B) (base_inv : B → Option B) (f : FrobOps E B) (k : IsField r inv) (kb : IsField base base_inv) (l : IsFrobField r base f) where
  abbrev R : RingOn (Element r)
  R = elements k.ring

  t : IsTwist r f.frob
  t = frob_twist r inv base f k l

  comm : (a b : Element r) → R.mul a b ≡ R.mul b a
  comm a b = same_element r _ _ (k.mul_comm a.0 b.0 a.1 b.1)

  -- the top coefficient as a constant isn't zero
  pub top_embedded : (a : List B) → is_canonical base a ≡ true → a ≢ [] → f.embed (coeff base a (length a - 1)) ≢ r.zero
  top_embedded a ca some e =
      let parts = and_parts (are_elems base a) _ ca in
      let z = kb.ring.closed.zero_in in
      top_nonzero base z kb.ring.equal a parts.1 some
      (l.embed_inj _ base.zero (elem_read base a z parts.0 (length a - 1)) z (e ∙ sym (embed_zero r inv base base_inv f k kb l)))

  module _ (z : E) (pz : IsElem r z) where
    abbrev point : Element r
    point = (z, pz)

    abbrev orbit : ℕ → Element r
    orbit j = (f.frob z j, l.frob_in z j pz)

    abbrev pub coeffs : (a : List B) → are_elems base a ≡ true → ℕ → Element r
    coeffs a e i = (f.embed (coeff base a i), l.embed_in _ (elem_read base a kb.ring.closed.zero_in e i))

    -- the value of a polynomial over the base
    pub value_is : (a : List B) (e : are_elems base a ≡ true) (x : Element r) → (total R (length a) (λ i. R.mul (coeffs a e i) (power R x i))).0 ≡ base_value r base f.embed a x.0
    value_is a e x =
        total_is r k.ring (length a) (λ i. R.mul (coeffs a e i) (power R x i))
        ∙ ap (sum_below r (length a)) (fun_ext (λ i. ap (r.mul (f.embed (coeff base a i))) (power_value r k.ring x i)))

    -- the Frobenius brings roots to roots
    root_moved : (a : List B) (e : are_elems base a ≡ true) (j : ℕ) → base_value r base f.embed a z ≡ r.zero → total R (length a) (λ i. R.mul (coeffs a e i) (power R (orbit j) i)) ≡ R.zero
    root_moved a e j root =
        let s = twist r k.ring f.frob t j in
        let h = twist_endo r k.ring f.frob t j in
        let kept : (i : ℕ) → coeffs a e i ≡ s (coeffs a e i) = λ i.
        same_element r _ _ (sym (l.frob_embed (coeff base a i) j (elem_read base a kb.ring.closed.zero_in e i))) in
        total_same R (length a) _ _ (λ i m. ap₂ (λ y x. R.mul y (power R x i)) (kept i) (same_element r (orbit j) (s point) refl))
        ∙ sym (map_value R R s h.zero h.one h.add h.mul (length a) (coeffs a e) point) ∙ ap s (same_element r _ R.zero (value_is a e point ∙ root)) ∙ h.zero

    -- that many steps lead back, and one more
    abbrev Back : ℕ → Type 0
    Back i = f.frob z (suc i) ≡ z

    -- a polynomial that isn't zero and has the root `z` has all points of the orbit as roots
    root_long : (a : List B) → is_canonical base a ≡ true → a ≢ [] → base_value r base f.embed a z ≡ r.zero → (n : ℕ) → IsLeast Back n → n + 2 ≤ length a
    root_long a ca some root n period =
        let e : are_elems base a ≡ true = (and_parts _ _ ca).0 in
        let m = length a - 1 in
        let long : length a ≡ suc m = omega (arith, has_members a some) in
        let domain = field_domain r inv k in
        let apart : (i j : ℕ) → i < j → j < suc n → orbit i ≢ orbit j = λ i j b o same.
        let gap : suc (j - i - 1) + i ≡ j = omega arith in
        period.least (j - i - 1) (omega arith)
        (l.frob_inj _ z i (l.frob_in z _ pz) pz (sym (l.frob_plus z (suc (j - i - 1)) i pz) ∙ ap (f.frob z) gap ∙ sym (ap (λ u. u.0) same))) in
        ⊎_elim
        (λ (few : m < suc n).
        absurd
        (few_roots R comm domain.decided domain.one_ne_zero domain.product m (coeffs a e m)
        (λ x. total R (suc m) (λ i. R.mul (coeffs a e i) (power R x i))) (is_polynomial R comm m (coeffs a e)) (λ s. top_embedded a ca some (ap (λ y. y.0) s)) orbit
        (λ i j b o. apart i j b (omega arith)) (λ j b. subst (λ y. total R y (λ i. R.mul (coeffs a e i) (power R (orbit j) i)) ≡ R.zero) long (root_moved a e j root))))
        (λ (enough : suc n ≤ m). omega arith)
        (cases_lt m (suc n))

    -- The polynomial over the base with the points of the orbit as roots.
    module _ (n : ℕ) (period : IsLeast Back n) where
      abbrev s : Element r → Element r
      s = twist r k.ring f.frob t 1

      abbrev q : ℕ → Element r
      q = roots R orbit (suc n)

      next : (j : ℕ) → s (orbit j) ≡ orbit (suc j)
      next j =
          same_element r _ _ (sym (l.frob_plus z j 1 pz) ∙ ap (f.frob z) (omega arith))

      still : (i : ℕ) → s (q i) ≡ q i
      still i =
          roots_endo R s (twist_endo r k.ring f.frob t 1) orbit (suc n) i ∙ ap (λ c. roots R c (suc n) i) (fun_ext next)
          ∙ roots_cycle R comm orbit n i (same_element r _ _ (period.holds ∙ sym (l.frob_zero z pz)))

      low : (i : ℕ) → (b : B) × IsElem base b × ((q i).0 ≡ f.embed b)
      low i = l.fixed (q i).0 (q i).1 (ap (λ u. u.0) (still i))

      abbrev orbit_list : List B
      orbit_list = first_values (suc (suc n)) (λ i. (low i).0)

      length-orbit_list : length orbit_list ≡ suc (suc n)
      length-orbit_list = length-first_values (suc (suc n)) (λ i. (low i).0)

      elems : are_elems base orbit_list ≡ true
      elems = elems-first_values base (suc (suc n)) (λ i. (low i).0) (λ i m. (low i).1)

      coeff-orbit_list : (i : ℕ) → i < suc (suc n) → coeff base orbit_list i ≡ (low i).0
      coeff-orbit_list i m = at-first_values (suc (suc n)) (λ j. (low j).0) i base.zero m

      monic : coeff base orbit_list (length orbit_list - 1) ≡ base.one
      monic =
          let place : length orbit_list - 1 ≡ suc n = omega (arith, length-orbit_list) in
          ap (coeff base orbit_list) place ∙ coeff-orbit_list (suc n) (omega arith)
          ∙ l.embed_inj _ base.one (low (suc n)).1 kb.ring.closed.one_in
          (sym (low (suc n)).2 ∙ ap (λ u. u.0) (roots_top R orbit (suc n)) ∙ sym (embed_one r inv base base_inv f k kb l))

      root : base_value r base f.embed orbit_list z ≡ r.zero
      root =
          let first : point ≡ orbit 0 = same_element r _ _ (sym (l.frob_zero z pz)) in
          sym (value_is orbit_list elems point)
          ∙ ap (λ u. u.0)
          (ap (λ m. total R m (λ i. R.mul (coeffs orbit_list elems i) (power R point i))) length-orbit_list
          ∙ total_same R (suc (suc n)) _ _ (λ i m.
          ap₂ (λ y x. R.mul y (power R x i)) (same_element r _ (q i) (ap f.embed (coeff-orbit_list i m) ∙ sym (low i).2)) first)
          ∙ roots_value R comm orbit n)

      orbit_is_least : IsMinPoly r base f.embed z orbit_list
      orbit_is_least = record {
        canonical =
            and_from _ _ elems
            (trimmed_by_top base orbit_list (omega (arith, length-orbit_list))
            (ap (λ x. base.same x base.zero) monic
            ∙ false_from_ne_true _ (λ e. kb.one_ne_zero (kb.ring.equal.same_eq base.one base.zero kb.ring.closed.one_in kb.ring.closed.zero_in e))));
        monic = monic;
        root = root;
        least = λ b cb nb rb. omega (arith, root_long b cb nb rb n period, length-orbit_list);
      }

      -- a polynomial of least degree has the period as its degree
      degree_is : (a : List B) → IsMinPoly r base f.embed z a → length a ≡ suc (suc n)
      degree_is a p =
          let large = root_long a p.canonical (λ e. kb.one_ne_zero (sym p.monic ∙ ap (λ u. coeff base u (length u - 1)) e)) p.root n period in
          let small = p.least orbit_list orbit_is_least.canonical (not_empty orbit_list (omega (arith, length-orbit_list))) root in
          omega (arith, large, small, length-orbit_list)

      round : (i : ℕ) → f.frob z (suc n * i) ≡ z
      round zero = ap (f.frob z) (omega arith) ∙ l.frob_zero z pz
      round (suc i) =
          ap (f.frob z) (omega arith) ∙ l.frob_plus z (suc n * i) (suc n) pz ∙ ap (λ x. f.frob x (suc n)) (round i) ∙ period.holds

      -- no fewer steps lead back
      no_fewer : (i : ℕ) → i < suc n → f.frob z i ≡ z → i ≡ 0
      no_fewer zero b back = refl
      no_fewer (suc i) b back = absurd (period.least i (omega arith) back)

    period_of : (n : ℕ) × (n ≤ f.degree - 1) × IsLeast Back n
    period_of =
        least_of Back (λ i. equal_or_not r k.ring.equal _ z (l.frob_in z (suc i) pz) pz) (f.degree - 1) (ap (f.frob z) (omega (arith, l.degree_pos)) ∙ l.frob_degree z pz)

    -- An element has a polynomial of least degree over the base.
    pub least_exists : (a : List B) × IsMinPoly r base f.embed z a
    least_exists = (orbit_list period_of.0 period_of.2, orbit_is_least period_of.0 period_of.2)

    -- the degree divides each number of steps that lead back
    pub degree_divides : (a : List B) → IsMinPoly r base f.embed z a → (i : ℕ) → f.frob z i ≡ z → i ≡ i / (length a - 1) * (length a - 1)
    degree_divides a p i back =
        let n = period_of.0 in
        let period = period_of.2 in
        let d : length a - 1 ≡ suc n = omega (arith, degree_is n period a p) in
        let less : i % suc n < suc n = mod-lt i (omega arith) in
        let split : suc n * (i / suc n) + i % suc n ≡ i = div-add-mod i (suc n) in
        let none : i % suc n ≡ 0 =
        no_fewer n period (i % suc n) less
        (ap (λ x. f.frob x (i % suc n)) (sym (round n period (i / suc n))) ∙ sym (l.frob_plus z (suc n * (i / suc n)) (i % suc n) pz) ∙ ap (f.frob z) split ∙ back) in
        rw d (omega arith)
