-- The ring of residues modulo a monic polynomial, over any commutative ring that is a set: a residue is
-- a sequence that is zero past `n`, and `u v` is what `u` as a polynomial does to `v`.
use native.Mathlib.Decide.{dec_le, dec_lt}
use Rattle.std.proofs.Common.{◌≡◌, ◌⊎◌, inl, inr, ℕ, zero, suc, ◌+◌, ◌<◌, ◌≤◌, sym, refl, ap, ap₂, ◌∙◌, arith}
use mathlib.Core.Path.{fun_ext}
use mathlib.Core.HLevel.{Σ_prop_path}
use Rattle.ring_core.proofs.Carrier.{RingOn, add_zero, zero_mul, mul_zero, neg_zero}
use Rattle.ring_core.proofs.Series.{conv, zero_conv}
use Rattle.residue_field.proofs.Act.{shift, x_act, act, constant, x-eq, act-add_right, act-add_left, act-scale_left, act-act, act-one, act-none, act-longer}

-- the product of polynomials, without a twist
abbrev pub convolve : {M : Type 0} → RingOn M → (ℕ → M) → (ℕ → M) → ℕ → M
convolve R a b k = conv R (λ x. x) k a b

module _ {M : Type 0} (R : RingOn M) where
  -- a b = a_0 b + x (a' b)
  pub convolve-step : (a b : ℕ → M) (j : ℕ) → convolve R a b j ≡ R.add (R.mul (a 0) (b j)) (shift R (convolve R (λ i. a (suc i)) b) j)
  convolve-step a b zero = sym (add_zero R (R.mul (a 0) (b 0)))
  convolve-step a b (suc j) = refl

-- f is monic of degree n + 1
pub record HasTop {M : Type 0} (R : RingOn M) (n : ℕ) (f : ℕ → M) : Type 0 where
  pub top : f (suc n) ≡ R.one
  pub past : (i : ℕ) → suc n < i → f i ≡ R.zero

-- zero from place k on
abbrev pub IsBelow : {M : Type 0} → RingOn M → ℕ → (ℕ → M) → Type 0
IsBelow R k v = (i : ℕ) → k ≤ i → v i ≡ R.zero

module _ {M : Type 0} (R : RingOn M) (commutes : (a b : M) → R.mul a b ≡ R.mul b a) (n : ℕ) (f : ℕ → M) where
  -- a product acts as its factors, one after the other
  pub act-product : (k m : ℕ) (a b v : ℕ → M) → IsBelow R k a → IsBelow R m b → (i : ℕ) → act R n f (k + m) (convolve R a b) v i ≡ act R n f k a (act R n f m b v) i
  act-product zero m a b v ka mb i =
      ap (λ c. act R n f (0 + m) (convolve R c b) v i) (fun_ext {g = λ j. R.zero} (λ j. ka j (omega arith)))
      ∙ ap (λ c. act R n f (0 + m) c v i) (fun_ext {g = λ j. R.zero} (λ j. zero_conv R (λ x. x) j b))
      ∙ act-none R commutes n f (0 + m) v i
  act-product (suc k) m a b v ka mb i =
      let rest = λ (j : ℕ). a (suc j) in
      let scaled = λ (j : ℕ). R.mul (a 0) (b j) in
      let upper = λ (j : ℕ). shift R (convolve R rest b) j in
      let count : suc k + m ≡ suc (k + m) = omega arith in
      let count_b : suc (k + m) ≡ m + suc k = omega arith in
      ap (λ c. act R n f c (convolve R a b) v i) count
      ∙ ap (λ p. act R n f (suc (k + m)) p v i) (fun_ext {g = λ j. R.add (scaled j) (upper j)} (convolve-step R a b))
      ∙ act-add_left R commutes n f (suc (k + m)) scaled upper v i
      ∙ ap₂ R.add
      (act-scale_left R commutes n f (suc (k + m)) (a 0) b v i
      ∙ ap (R.mul (a 0)) (ap (λ c. act R n f c b v i) count_b ∙ act-longer R commutes n f (suc k) m b v mb i))
      (ap (λ x. R.add x (x_act R n f (act R n f (k + m) (convolve R rest b) v) i)) (zero_mul R (v i)) ∙ R.zero_add _
      ∙ x-eq R commutes n f _ (act R n f k rest (act R n f m b v)) (act-product k m rest b v (λ j l. ka (suc j) (omega arith)) mb) i)

  module _ (h : HasTop R n f) where
    pub x-below : (v : ℕ → M) → IsBelow R (suc n) v → IsBelow R (suc n) (x_act R n f v)
    x-below v below zero l = absurd (omega arith)
    x-below v below (suc j) l = elim (eq_or_more j l) [ inl e ↦ at_top e | inr more ↦ ap₂ R.add (below j more) (ap R.neg (ap (R.mul (v n)) (h.past (suc j) (omega arith)) ∙ mul_zero R (v n)) ∙ neg_zero R) ∙ R.zero_add R.zero ]
      where
        eq_or_more : (j : ℕ) → suc n ≤ suc j → (j ≡ n) ⊎ (suc n ≤ j)
        eq_or_more j l = elim (dec_le (suc n) j) [ yes p ↦ inr p | no p ↦ inl (omega arith) ]

        at_top : j ≡ n → R.add (v j) (R.neg (R.mul (v n) (f (suc j)))) ≡ R.zero
        at_top e =
            ap (λ m. R.add (v m) (R.neg (R.mul (v n) (f (suc m))))) e
            ∙ ap (λ x. R.add (v n) (R.neg x)) (ap (R.mul (v n)) h.top ∙ R.mul_one (v n)) ∙ R.add_neg (v n)

    pub act-below : (k : ℕ) (a v : ℕ → M) → IsBelow R (suc n) v → IsBelow R (suc n) (act R n f k a v)
    act-below zero a v below i l = refl
    act-below (suc k) a v below i l =
        ap₂ R.add (ap (R.mul (a 0)) (below i l) ∙ mul_zero R (a 0)) (x-below _ (act-below k (λ j. a (suc j)) v below) i l)
        ∙ R.zero_add R.zero

abbrev pub Residue : {M : Type 0} → RingOn M → ℕ → Type 0
Residue {M} R n = (v : ℕ → M) × IsBelow R (suc n) v

pub same_residue : {M : Type 0} (R : RingOn M) → IsSet M → (n : ℕ) (u v : Residue R n) → ((i : ℕ) → u.0 i ≡ v.0 i) → u ≡ v
same_residue R set n u v e =
    Σ_prop_path (λ w p q. fun_ext (λ i. fun_ext (λ l. set (w i) R.zero (p i l) (q i l)))) (fun_ext e)

-- the places below n + 1 decide
pub same_below : {M : Type 0} (R : RingOn M) → IsSet M → (n : ℕ) (u v : Residue R n) → ((i : ℕ) → i < suc n → u.0 i ≡ v.0 i) → u ≡ v
same_below R set n u v e =
    same_residue R set n u v (λ i. elim (dec_lt i (suc n)) [ yes l ↦ e i l | no more ↦ u.1 i (omega arith) ∙ sym (v.1 i (omega arith)) ])

module _ {M : Type 0} (R : RingOn M) (set : IsSet M) (commutes : (a b : M) → R.mul a b ≡ R.mul b a) (n : ℕ) (f : ℕ → M) (h : HasTop R n f) where
  abbrev pub times : Residue R n → Residue R n → Residue R n
  times u v = (act R n f (suc n) u.0 v.0, act-below R commutes n f h (suc n) u.0 v.0 v.1)

  abbrev pub plus : Residue R n → Residue R n → Residue R n
  plus u v = (λ i. R.add (u.0 i) (v.0 i), λ i l. ap₂ R.add (u.1 i l) (v.1 i l) ∙ R.zero_add R.zero)

  abbrev pub minus : Residue R n → Residue R n
  minus u = (λ i. R.neg (u.0 i), λ i l. ap R.neg (u.1 i l) ∙ neg_zero R)

  pub constant-below : (c : M) → IsBelow R (suc n) (constant R c)
  constant-below c zero l = absurd (omega arith)
  constant-below c (suc i) l = refl

  abbrev pub constant_residue : M → Residue R n
  constant_residue c = (constant R c, constant-below c)

  abbrev pub one_residue : Residue R n
  one_residue = constant_residue R.one

  pub same : (u v : Residue R n) → ((i : ℕ) → u.0 i ≡ v.0 i) → u ≡ v
  same u v e = same_residue R set n u v e

  pub times-one : (u : Residue R n) → times u one_residue ≡ u
  times-one u = same _ u (act-one R commutes n f (suc n) u.0 (omega arith) u.1)

  times-left : (u v w : Residue R n) → times u (times v w) ≡ times v (times u w)
  times-left u v w = same _ _ (act-act R commutes n f (suc n) (suc n) u.0 v.0 w.0)

  pub times-comm : (u v : Residue R n) → times u v ≡ times v u
  times-comm u v = ap (times u) (sym (times-one v)) ∙ times-left u v one_residue ∙ ap (times v) (times-one u)

  pub times-assoc : (u v w : Residue R n) → times (times u v) w ≡ times u (times v w)
  times-assoc u v w = times-comm (times u v) w ∙ times-left w u v ∙ ap (times u) (times-comm w v)

  pub times-plus : (u v w : Residue R n) → times u (plus v w) ≡ plus (times u v) (times u w)
  times-plus u v w = same _ _ (act-add_right R commutes n f (suc n) u.0 v.0 w.0)

  abbrev pub residues : RingOn (Residue R n)
  residues = record {
    zero = (λ i. R.zero, λ i l. refl);
    one = one_residue;
    add = plus;
    neg = minus;
    mul = times;
    add_assoc = λ u v w. same _ _ (λ i. R.add_assoc (u.0 i) (v.0 i) (w.0 i));
    add_comm = λ u v. same _ _ (λ i. R.add_comm (u.0 i) (v.0 i));
    zero_add = λ u. same _ _ (λ i. R.zero_add (u.0 i));
    add_neg = λ u. same _ _ (λ i. R.add_neg (u.0 i));
    mul_assoc = times-assoc;
    one_mul = λ u. times-comm one_residue u ∙ times-one u;
    mul_one = times-one;
    mul_add = times-plus;
    add_mul = λ u v w. times-comm (plus u v) w ∙ times-plus w u v ∙ ap₂ plus (times-comm w u) (times-comm w v);
  }

  -- the product of polynomials, as a polynomial acting on one, is the product of residues
  pub product-acts : (u v : Residue R n) (i : ℕ) → act R n f (suc n + suc n) (convolve R u.0 v.0) (constant R R.one) i ≡ (times u v).0 i
  product-acts u v i =
      act-product R commutes n f (suc n) (suc n) u.0 v.0 _ u.1 v.1 i
      ∙ ap (λ w. act R n f (suc n) u.0 w i) (fun_ext (act-one R commutes n f (suc n) v.0 (omega arith) v.1))
