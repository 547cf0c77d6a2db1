-- The laws of a field, and of a field of finite degree over a base field with its Frobenius.
use Rattle.std.specs.Prelude.{◌≡◌, ◌≢◌, ℕ, ◌+◌, ◌^◌, ◌<◌, ◌≤◌, Option, List, length, true, MatchOption}
use Rattle.ring_core.specs.Ring.{RingOps, IsElem, IsRing, IsCommutative, IsNumbered}
use Rattle.ring_core.specs.Coeffs.{coeff, are_elems}
use Rattle.ring_core.specs.Powers.{power_of}

-- The laws of a field, whose inverses `inv` gives.
pub record IsField {E : Type 0} (r : RingOps E) (inv : E → Option E) : Type 0 where
  pub ring : IsRing r
  pub mul_comm : IsCommutative r
  pub one_ne_zero : r.one ≢ r.zero
  pub inv_is : (a : E) → IsElem r a → MatchOption (inv a) (a ≡ r.zero) (λ b. IsElem r b × (r.mul a b ≡ r.one))

-- What a field of degree `degree` over a base field with `base_size` elements has beside its operations.
-- `frob c i` is the power of `c` by `base_size ^ i`, at every whole number `i`.
pub record FrobOps (E B : Type 0) : Type 0 where
  pub degree : ℕ
  pub base_size : ℕ
  pub embed : B → E
  pub frob : E → ℕ → E
  pub coord : E → ℕ → B
  pub of_coords : List B → E

-- The laws of the embedding of the base, of the Frobenius and of the coordinates.
pub record IsFrobField {E B : Type 0} (r : RingOps E) (base : RingOps B) (f : FrobOps E B) : Type 0 where
  pub degree_pos : 1 ≤ f.degree
  pub degree_small : f.degree ≤ 16
  pub base_size_min : 2 ≤ f.base_size
  pub base_numbered : IsNumbered base f.base_size
  pub embed_in : (b : B) → IsElem base b → IsElem r (f.embed b)
  pub embed_add : (a b : B) → IsElem base a → IsElem base b → f.embed (base.add a b) ≡ r.add (f.embed a) (f.embed b)
  pub embed_mul : (a b : B) → IsElem base a → IsElem base b → f.embed (base.mul a b) ≡ r.mul (f.embed a) (f.embed b)
  pub embed_inj : (a b : B) → IsElem base a → IsElem base b → f.embed a ≡ f.embed b → a ≡ b
  pub frob_power : (c : E) (i : ℕ) → IsElem r c → f.frob c i ≡ power_of r c (f.base_size ^ i)
  pub frob_in : (c : E) (i : ℕ) → IsElem r c → IsElem r (f.frob c i)
  pub frob_zero : (c : E) → IsElem r c → f.frob c 0 ≡ c
  pub frob_plus : (c : E) (i j : ℕ) → IsElem r c → f.frob c (i + j) ≡ f.frob (f.frob c i) j
  pub frob_add : (a b : E) (i : ℕ) → IsElem r a → IsElem r b → f.frob (r.add a b) i ≡ r.add (f.frob a i) (f.frob b i)
  pub frob_mul : (a b : E) (i : ℕ) → IsElem r a → IsElem r b → f.frob (r.mul a b) i ≡ r.mul (f.frob a i) (f.frob b i)
  pub frob_inj : (a b : E) (i : ℕ) → IsElem r a → IsElem r b → f.frob a i ≡ f.frob b i → a ≡ b
  pub frob_embed : (b : B) (i : ℕ) → IsElem base b → f.frob (f.embed b) i ≡ f.embed b
  pub fixed : (c : E) → IsElem r c → f.frob c 1 ≡ c → (b : B) × IsElem base b × (c ≡ f.embed b)
  pub frob_degree : (c : E) → IsElem r c → f.frob c f.degree ≡ c
  pub coord_in : (c : E) (j : ℕ) → IsElem r c → j < f.degree → IsElem base (f.coord c j)
  pub coord_add : (a b : E) (j : ℕ) → IsElem r a → IsElem r b → j < f.degree → f.coord (r.add a b) j ≡ base.add (f.coord a j) (f.coord b j)
  pub coord_scale : (b : B) (c : E) (j : ℕ) → IsElem base b → IsElem r c → j < f.degree → f.coord (r.mul (f.embed b) c) j ≡ base.mul b (f.coord c j)
  pub coord_inj : (a b : E) → IsElem r a → IsElem r b → ((j : ℕ) → j < f.degree → f.coord a j ≡ f.coord b j) → a ≡ b
  pub of_coords_in : (list : List B) → are_elems base list ≡ true → length list ≡ f.degree → IsElem r (f.of_coords list)
  pub of_coords_is : (list : List B) (j : ℕ) → are_elems base list ≡ true → length list ≡ f.degree → j < f.degree → f.coord (f.of_coords list) j ≡ coeff base list j
