-- Rows that grow, and rows among rows.
use Rattle.std.proofs.Common.{◌≡◌, ◌≢◌, ℕ, zero, suc, ◌+◌, ◌-◌, ◌<◌, ◌≤◌, inl, inr, true, Option, None, Some, MatchOption, List, [], ◌∷◌, length, set, cond, nat_lt, refl, sym, ◌∙◌, ap, ap₂, subst, arith, le-ltb, ltb-true, ltb-false, add-mul, ◌*◌, ◌/◌, ◌%◌}
use Rattle.std.proofs.Math.Nat.{div-mul-le_self, mul-div_cancel}
use Rattle.std.proofs.lemmas.Nat.{div-add-mod', le-div}
use Rattle.std.proofs.lemmas.Bool.{and_parts, and_from}
use Rattle.ring_core.specs.Ring.{RingOps, IsElem, IsRing}
use Rattle.ring_core.specs.Coeffs.{coeff, is_canonical, are_elems, is_trimmed}
use Rattle.ring_core.specs.Field.{IsField}
use Rattle.ring_core.proofs.Carrier.{elements, add_times_zero, mul_zero, neg_mul}
use Rattle.ring_core.proofs.Coefficients.{coeff_past}
use Rattle.ring_core.proofs.Degrees.{top_nonzero}
use Rattle.linear_algebra.specs.Linear.{row_at, entry}
use Rattle.flat_modules.proofs.Lists.{flat_at}
use Rattle.flat_reduce.specs.steps.Turns.{IsRowAdded, IsTurn}
use Rattle.linear_algebra.proofs.Sums.{by_bool, same_or_other}
use Rattle.flat_modules.specs.Flat.{are_flat, shifted}

module _ {E : Type 0} (r : RingOps E) where
  pub flat_set : (rows : List (List E)) (p : ℕ) (x : List E) → are_flat r rows ≡ true → is_canonical r x ≡ true → are_flat r (set rows p x) ≡ true
  flat_set [] p x e h = refl
  flat_set (y ∷ ys) zero x e h = and_from _ _ h (and_parts _ _ e).1
  flat_set (y ∷ ys) (suc p) x e h = and_from _ _ (and_parts _ _ e).0 (flat_set ys p x (and_parts _ _ e).1 h)

  pub shift_added : IsRing r → (s : ℕ) (c : E) (x y z : ℕ → E) → IsElem r c → ((t : ℕ) → IsElem r (x t)) → ((t : ℕ) → t < s → y t ≡ x t)
      → ((k : ℕ) → y (s + k) ≡ r.add (x (s + k)) (r.mul c (z k))) → (t : ℕ) → y t ≡ r.add (x t) (r.mul c (shifted r s z t))
  shift_added h s c x y z ci xi below added t = by_bool (nat_lt t s)
      (λ b. below t (ltb-true t s b) ∙ sym (add_times_zero r h (x t) c _ (xi t) ci (ap (λ v. cond v r.zero (z (t - s))) b)))
      (λ b.
      let l : s ≤ t = ltb-false t s b in
      let e : t ≡ s + (t - s) = omega arith in
      ap y e ∙ added (t - s) ∙ ap₂ (λ j v. r.add (x j) (r.mul c v)) (sym e) (sym (ap (λ v. cond v r.zero (z (t - s))) b)))

  -- nothing is added by a row without members
  pub none_added : IsRing r → (s : ℕ) (c x : E) (row : List E) (t : ℕ) → IsElem r c → IsElem r x → length row ≡ 0 → x ≡ r.add x (r.mul c (shifted r s (coeff r row) t))
  none_added h s c x row t ci xi e = sym (add_times_zero r h x c _ xi ci (by_bool (nat_lt t s)
      (λ b. ap (λ v. cond v r.zero (coeff r row (t - s))) b)
      (λ b. ap (λ v. cond v r.zero (coeff r row (t - s))) b ∙ coeff_past r row (t - s) (omega (arith, e)))))

-- numbers with the same place differ by a multiple of the width
pub same_place : (w x y : ℕ) → 0 < w → x ≤ y → y % w ≡ x % w → (y - x) / w * w ≡ y - x
same_place w x y pos l e =
    let k = y / w - x / w in
    let lower = div-mul-le_self x w in
    let q : x / w ≤ y / w = le-div (x / w) y w pos (omega (arith, lower, l)) in
    let u : x / w * w + k * w ≡ y / w * w = sym (add-mul (x / w) k w) ∙ (let v : x / w + k ≡ y / w = omega arith in ap (λ t. t * w) v) in
    let a = div-add-mod' x w in
    let b = div-add-mod' y w in
    let d : y - x ≡ k * w = omega (arith, u, a, b, e) in
    ap (λ t. t / w * w) d ∙ ap (λ t. t * w) (mul-div_cancel k pos) ∙ sym d

module _ {E : Type 0} (r : RingOps E) (inv : E → Option E) (field : IsField r inv) where
  -- a polynomial with zeros from `n` on has at most `n` coefficients
  pub length_by_zeros : (u : List E) (n : ℕ) → is_canonical r u ≡ true → ((t : ℕ) → n ≤ t → coeff r u t ≡ r.zero) → length u ≤ n
  length_by_zeros u n e z = by_bool (nat_lt n (length u))
      (λ b. let l = ltb-true n (length u) b in absurd (top_nonzero r field.ring.closed.zero_in field.ring.equal u (and_parts _ _ e).1 (λ q. let v = ap length q in omega (arith, l, v)) (z (length u - 1) (omega (arith, l)))))
      (λ b. ltb-false n (length u) b)

  -- (top + (- top / low) low) = 0
  pub quotient_clears : (top low inverse : E) → IsElem r top → IsElem r low → IsElem r inverse → r.mul low inverse ≡ r.one → r.add top (r.mul (r.neg (r.mul top inverse)) low) ≡ r.zero
  quotient_clears top low inverse ti li ii e =
      let ring = field.ring in
      let R = elements ring in
      let product : r.mul (r.mul top inverse) low ≡ top = ring.mul_assoc top inverse low ti ii li ∙ ap (r.mul top) (field.mul_comm inverse low ii li ∙ e) ∙ ring.mul_one top ti in
      ap (r.add top) (ap (λ a. a.0) (neg_mul R (r.mul top inverse, ring.closed.mul_in top inverse ti ii) (low, li)) ∙ ap r.neg product) ∙ ring.add_neg top ti

  pub inverse_of : (low inverse : E) → IsElem r low → inv low ≡ Some inverse → IsElem r inverse × (r.mul low inverse ≡ r.one)
  inverse_of low inverse li e = subst (λ o. MatchOption o (low ≡ r.zero) (λ b. IsElem r b × (r.mul low b ≡ r.one))) e (field.inv_is low li)

  -- the lead of the row falls
  pub lead_falls : (p q s : ℕ) (c : E) (before after : List (List E)) → are_flat r before ≡ true → are_flat r after ≡ true → IsRowAdded r p q s c before after
      → IsElem r c → 0 < length (row_at before q) → length (row_at before p) ≡ s + length (row_at before q)
      → r.add (entry r before p (length (row_at before p) - 1)) (r.mul c (entry r before q (length (row_at before q) - 1))) ≡ r.zero
      → length (row_at after p) < length (row_at before p)
  lead_falls p q s c before after bi ai added ci pos len clears =
      let a = length (row_at before p) in
      let b = length (row_at before q) in
      let ring = field.ring in
      let few = length_by_zeros (row_at after p) (a - 1) (flat_at r after ai p) (λ t l.
      let far : s ≤ t = omega (arith, l, len, pos) in
      let shift_at : shifted r s (entry r before q) t ≡ entry r before q (t - s) = ap (λ v. cond v r.zero (entry r before q (t - s))) (le-ltb t s far) in
      added.here t ∙ ap (λ v. r.add (entry r before p t) (r.mul c v)) shift_at
      ∙ elim (same_or_other t (a - 1)) [
        | inl e ↦
            let d : t - s ≡ b - 1 = omega (arith, e, len, pos) in
            ap₂ (λ i j. r.add (entry r before p i) (r.mul c (entry r before q j))) e d ∙ clears
        | inr ne ↦
            ap₂ (λ x y. r.add x (r.mul c y)) (coeff_past r (row_at before p) t (omega (arith, l, ne))) (coeff_past r (row_at before q) (t - s) (omega (arith, l, ne, len, pos)))
            ∙ ap (r.add r.zero) (ap (λ x. x.0) (mul_zero (elements ring) (c, ci))) ∙ ring.zero_add r.zero ring.closed.zero_in
      ]) in
      omega (arith, few, len, pos)

  module _ (w n p q a b t : ℕ) (c : E) (image left columns image2 left2 columns2 : List (List E)) (pos : 0 < w) (la : a ≡ length (row_at image p)) (lb : b ≡ length (row_at image q))
      (low : 0 < b) (lower : b ≤ a) (place : (length (row_at image p) - 1) % w ≡ (length (row_at image q) - 1) % w) where
    pub turn_of : t ≡ (a - b) / w * n → IsElem r c → IsRowAdded r p q (a - b) c image image2 → IsRowAdded r p q t c left left2 → IsRowAdded r q p t (r.neg c) columns columns2 → IsTurn r w n p q image left columns image2 left2 columns2
    turn_of e ci image_added left_added inverse_added =
        let d : a - 1 - (b - 1) ≡ a - b = omega (arith, low, lower) in
        let here : (a - 1) % w ≡ (b - 1) % w = ap (λ x. (x - 1) % w) la ∙ place ∙ ap (λ x. (x - 1) % w) (sym lb) in
        let s = same_place w (b - 1) (a - 1) pos (omega (arith, lower)) here in
        let shift_is : a - b ≡ (a - b) / w * w = sym d ∙ sym s ∙ ap (λ x. x / w * w) d in
        record {
          power = (a - b) / w;
          factor = c;
          elem = ci;
          images = subst (λ x. IsRowAdded r p q x c image image2) shift_is image_added;
          lefts = subst (λ x. IsRowAdded r p q x c left left2) e left_added;
          inverse = subst (λ x. IsRowAdded r q p x (r.neg c) columns columns2) e inverse_added;
        }

    pub shorter_of : are_flat r image ≡ true → are_flat r image2 ≡ true → (top lowest inverse : E) → IsElem r top → IsElem r lowest
        → top ≡ entry r image p (a - 1) → lowest ≡ entry r image q (b - 1) → inv lowest ≡ Some inverse → c ≡ r.neg (r.mul top inverse)
        → IsRowAdded r p q (a - b) c image image2 → length (row_at image2 p) < length (row_at image p)
    shorter_of fi fj top lowest inverse ti li is_top is_low found is added =
        let v = inverse_of lowest inverse li found in
        let ring = field.ring in
        let ci = ap r.is_elem is ∙ ring.closed.neg_in _ (ring.closed.mul_in top inverse ti v.0) in
        lead_falls p q (a - b) c image image2 fi fj added ci (omega (arith, lb, low)) (omega (arith, la, lb, lower))
        (ap₂ (λ x y. r.add x (r.mul c y)) (ap (λ x. entry r image p (x - 1)) (sym la) ∙ sym is_top) (ap (λ x. entry r image q (x - 1)) (sym lb) ∙ sym is_low)
        ∙ ap (λ x. r.add top (r.mul x lowest)) is ∙ quotient_clears top lowest inverse ti li v.0 v.1)

pub not_empty_len : {E : Type 0} (u : List E) → u ≢ [] → 0 < length u
not_empty_len [] ne = absurd (ne refl)
not_empty_len (x ∷ xs) ne = omega arith

when_none : {A : Type 0} (P : Type 0) (Q : A → Type 0) (o : Option A) → ((x : A) → o ≡ Some x → ⊥) → MatchOption o P Q → P
when_none P Q None h m = m
when_none P Q (Some x) h m = absurd (h x refl)

-- the top of a row that isn't zero has an inverse
pub has_inverse : {E : Type 0} (r : RingOps E) (inv : E → Option E) (field : IsField r inv) (rows : List (List E)) (q b : ℕ) (low : E) → are_flat r rows ≡ true → row_at rows q ≢ [] → b ≡ length (row_at rows q)
    → low ≡ entry r rows q (b - 1) → IsElem r low → ((x : E) → inv low ≡ Some x → ⊥) → ⊥
has_inverse r inv field rows q b low fi ne lb is li none =
    top_nonzero r field.ring.closed.zero_in field.ring.equal (row_at rows q) (and_parts (are_elems r (row_at rows q)) (is_trimmed r (row_at rows q)) (flat_at r rows fi q)).1 ne
    (ap (λ n. entry r rows q (n - 1)) (sym lb) ∙ sym is ∙ when_none (low ≡ r.zero) (λ b. IsElem r b × (r.mul low b ≡ r.one)) (inv low) none (field.inv_is low li))
