-- Embeddings of rings, and the laws of powers as maps.
use Rattle.std.proofs.Common.{◌≡◌, ℕ, ◌+◌, ◌^◌}
use Rattle.ring_core.specs.Ring.{RingOps, IsElem}
use Rattle.ring_core.specs.Powers.{power_of}

-- A one to one map of rings.
pub record IsEmbedding {B E : Type 0} (base : RingOps B) (r : RingOps E) (embed : B → E) : Type 0 where
  pub embed_in : (b : B) → IsElem base b → IsElem r (embed b)
  pub embed_one : embed base.one ≡ r.one
  pub embed_add : (a b : B) → IsElem base a → IsElem base b → embed (base.add a b) ≡ r.add (embed a) (embed b)
  pub embed_mul : (a b : B) → IsElem base a → IsElem base b → embed (base.mul a b) ≡ r.mul (embed a) (embed b)
  pub embed_inj : (a b : B) → IsElem base a → IsElem base b → embed a ≡ embed b → a ≡ b

-- The laws of the power `q` and its repetitions in a field of degree `degree` over a field of `q` elements.
pub record IsPowerFrob {B E : Type 0} (base : RingOps B) (r : RingOps E) (embed : B → E) (q degree : ℕ) : Type 0 where
  pub frob_in : (c : E) (i : ℕ) → IsElem r c → IsElem r (power_of r c (q ^ i))
  pub frob_zero : (c : E) → IsElem r c → power_of r c (q ^ 0) ≡ c
  pub frob_plus : (c : E) (i j : ℕ) → IsElem r c → power_of r c (q ^ (i + j)) ≡ power_of r (power_of r c (q ^ i)) (q ^ j)
  pub frob_add : (a b : E) (i : ℕ) → IsElem r a → IsElem r b
      → power_of r (r.add a b) (q ^ i) ≡ r.add (power_of r a (q ^ i)) (power_of r b (q ^ i))
  pub frob_mul : (a b : E) (i : ℕ) → IsElem r a → IsElem r b
      → power_of r (r.mul a b) (q ^ i) ≡ r.mul (power_of r a (q ^ i)) (power_of r b (q ^ i))
  pub frob_inj : (a b : E) (i : ℕ) → IsElem r a → IsElem r b → power_of r a (q ^ i) ≡ power_of r b (q ^ i) → a ≡ b
  pub frob_embed : (b : B) (i : ℕ) → IsElem base b → power_of r (embed b) (q ^ i) ≡ embed b
  pub fixed : (c : E) → IsElem r c → power_of r c (q ^ 1) ≡ c → (b : B) × IsElem base b × (c ≡ embed b)
  pub frob_degree : (c : E) → IsElem r c → power_of r c (q ^ degree) ≡ c

-- The power `q` is a linear map over the constants that `embed` gives, and fixes each of them.
pub record IsPowerLinear {B E : Type 0} (base : RingOps B) (r : RingOps E) (embed : B → E) (q : ℕ) : Type 0 where
  pub power_add : (a b : E) → IsElem r a → IsElem r b → power_of r (r.add a b) q ≡ r.add (power_of r a q) (power_of r b q)
  pub power_scale : (b : B) (c : E) → IsElem base b → IsElem r c → power_of r (r.mul (embed b) c) q ≡ r.mul (embed b) (power_of r c q)
  pub power_embed : (b : B) → IsElem base b → power_of r (embed b) q ≡ embed b
