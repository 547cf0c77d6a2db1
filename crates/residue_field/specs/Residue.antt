-- Residues modulo a monic polynomial, over any ring of constants and in any storage. A polynomial is
-- the function that gives its coefficients; the modulus `f` has degree `n + 1`.
use Rattle.std.specs.Prelude.{◌≡◌, ℕ, zero, suc, ◌+◌, ◌-◌, ◌≤◌, Bool}
use Rattle.ring_core.specs.Ring.{RingOps, IsElem}
use Rattle.ring_core.specs.Coeffs.{sum_below}
use Rattle.ring_core.specs.Powers.{power_of}

-- The constant `c` as a polynomial.
abbrev pub constant_at : {E : Type 0} → RingOps E → E → ℕ → E
constant_at r c zero = c
constant_at r c (suc i) = r.zero

-- `x v`.
abbrev pub shifted : {E : Type 0} → RingOps E → (ℕ → E) → ℕ → E
shifted r v zero = r.zero
shifted r v (suc i) = v i

-- `x v` modulo `f`: the multiple of `f` that clears the place `n + 1` is taken away.
abbrev pub times_x : {E : Type 0} → RingOps E → ℕ → (ℕ → E) → (ℕ → E) → ℕ → E
times_x r n f v i = r.add (shifted r v i) (r.neg (r.mul (v n) (f i)))

-- `a` modulo `f`, where `a` has `k` coefficients: `a_0 + x (a_1 + x (..))`, each product by `x`
-- modulo `f`.
abbrev pub residue : {E : Type 0} → RingOps E → ℕ → (ℕ → E) → ℕ → (ℕ → E) → ℕ → E
residue r n f zero a i = r.zero
residue r n f (suc k) a i = r.add (constant_at r (a 0) i) (times_x r n f (residue r n f k (λ j. a (suc j))) i)

-- The product of polynomials: coefficient `k` is the sum of `a_i b_j` over `i + j = k`.
abbrev pub product : {E : Type 0} → RingOps E → (ℕ → E) → (ℕ → E) → ℕ → E
product r a b k = sum_below r (k + 1) (λ i. r.mul (a i) (b (k - i)))

-- How a type stores the `n + 1` coefficients of a residue.
pub record Places (E T : Type 0) : Type 0 where
  pub is_elem : T → Bool
  pub place : T → ℕ → E
  pub pack : (ℕ → E) → T
  pub same : T → T → Bool

-- The ring of residues modulo `f`, stored as `c` says.
abbrev pub residue_ops : {E T : Type 0} → RingOps E → ℕ → (ℕ → E) → Places E T → RingOps T
residue_ops r n f c = record {
  is_elem = c.is_elem;
  zero = c.pack (λ i. r.zero);
  one = c.pack (constant_at r r.one);
  add = λ a b. c.pack (λ i. r.add (c.place a i) (c.place b i));
  neg = λ a. c.pack (λ i. r.neg (c.place a i));
  mul = λ a b. c.pack (residue r n f (n + 1 + (n + 1)) (product r (c.place a) (c.place b)));
  same = c.same;
}

-- The residue of the polynomial `x`.
abbrev pub residue_letter : {E T : Type 0} → RingOps E → ℕ → (ℕ → E) → Places E T → T
residue_letter r n f c = c.pack (residue r n f 2 (shifted r (constant_at r r.one)))

-- The power `q` as in a field over the constants that `embed` gives: only zero has the power zero, and only
-- constants have the power that they are.
pub record HasFieldPowers {E T : Type 0} (r : RingOps E) (t : RingOps T) (embed : E → T) (q : ℕ) : Type 0 where
  pub kernel : (x : T) → IsElem t x → power_of t x q ≡ t.zero → x ≡ t.zero
  pub fixed : (x : T) → IsElem t x → power_of t x q ≡ x → (b : E) × IsElem r b × (x ≡ embed b)

-- `v` is the remainder of `a` modulo `f`: `a` is a multiple of `f` and `v`, which is zero past `n`.
pub record IsRemainder {E : Type 0} (r : RingOps E) (n : ℕ) (f a v : ℕ → E) : Type 0 where
  pub quotient : ℕ → E
  pub count : ℕ
  pub quotient_in : (i : ℕ) → IsElem r (quotient i)
  pub quotient_past : (i : ℕ) → count ≤ i → quotient i ≡ r.zero
  pub value_in : (i : ℕ) → IsElem r (v i)
  pub sum : (i : ℕ) → a i ≡ r.add (product r quotient f i) (v i)
  pub past : (i : ℕ) → suc n ≤ i → v i ≡ r.zero
