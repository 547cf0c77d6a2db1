-- Twisted polynomials `u_0 + u_1 tau + ..` as lists, with `tau c = frob c 1 tau`. Polynomials in a
-- letter that commutes with its coefficients are the case of the twist `λ c i. c`.
use Rattle.std.specs.Prelude.{◌≡◌, ℕ, ◌+◌, ◌-◌, List, [], ◌∷◌, length, max}
use Rattle.ring_core.specs.Ring.{RingOps, IsElem}
use Rattle.ring_core.specs.Coeffs.{coeff, sum_below, is_canonical, same_lists, list_of}

-- `frob c i` is the `i`-th power of an endomorphism of the ring, applied to `c`.
pub record IsTwist {E : Type 0} (r : RingOps E) (frob : E → ℕ → E) : Type 0 where
  pub twist_in : (c : E) (i : ℕ) → IsElem r c → IsElem r (frob c i)
  pub twist_zero : (c : E) → IsElem r c → frob c 0 ≡ c
  pub twist_plus : (c : E) (i j : ℕ) → IsElem r c → frob c (i + j) ≡ frob (frob c i) j
  pub twist_add : (a b : E) (i : ℕ) → IsElem r a → IsElem r b → frob (r.add a b) i ≡ r.add (frob a i) (frob b i)
  pub twist_mul : (a b : E) (i : ℕ) → IsElem r a → IsElem r b → frob (r.mul a b) i ≡ r.mul (frob a i) (frob b i)
  pub twist_one : (i : ℕ) → frob r.one i ≡ r.one

-- The sum, place by place.
abbrev pub list_add : {E : Type 0} → RingOps E → List E → List E → List E
list_add r a b = list_of r (max (length a) (length b)) (λ i. r.add (coeff r a i) (coeff r b i))

abbrev pub list_neg : {E : Type 0} → RingOps E → List E → List E
list_neg r a = list_of r (length a) (λ i. r.neg (coeff r a i))

-- Coefficient `k` of a product: the sum of `a_i * frob b_j i` over `i + j = k`.
abbrev pub product_at : {E : Type 0} → RingOps E → (E → ℕ → E) → List E → List E → ℕ → E
product_at r frob a b k = sum_below r (k + 1) (λ i. r.mul (coeff r a i) (frob (coeff r b (k - i)) i))

abbrev pub list_mul : {E : Type 0} → RingOps E → (E → ℕ → E) → List E → List E → List E
list_mul r frob a b = list_of r (length a + length b) (product_at r frob a b)

-- The ring of twisted polynomials.
abbrev pub twisted_ops : {E : Type 0} → RingOps E → (E → ℕ → E) → RingOps (List E)
twisted_ops r frob = record {
  is_elem = is_canonical r;
  zero = [];
  one = r.one ∷ [];
  add = list_add r;
  neg = list_neg r;
  mul = list_mul r frob;
  same = same_lists r;
}
