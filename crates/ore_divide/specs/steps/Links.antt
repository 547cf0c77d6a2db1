-- Euclid's chain of remainders of `a` and `b`, with the cofactors of both.
use Rattle.std.specs.Prelude.{◌≡◌, ◌≢◌, ℕ, ◌+◌, ◌<◌, ◌≤◌, true, List, [], ◌∷◌, length}
use Rattle.ring_core.specs.Ring.{RingOps}
use Rattle.ring_core.specs.Coeffs.{is_canonical}
use Rattle.ring_core.specs.Twisted.{list_add, list_mul}
use Rattle.ore_divide.specs.Divisor.{DividesRight, IsMonic}

-- The link after `u` and `v`, whose cofactors are `su`, `wu` and `sv`, `wv`.
pub record IsNextLink {E : Type 0} (r : RingOps E) (frob : E → ℕ → E) (u v su sv wu wv rest next past : List E) : Type 0 where
  pub quotient : List E
  pub quotient_in : is_canonical r quotient ≡ true
  pub rest_in : is_canonical r rest ≡ true
  pub next_in : is_canonical r next ≡ true
  pub past_in : is_canonical r past ≡ true
  pub first : u ≡ list_add r (list_mul r frob quotient v) rest
  pub second : su ≡ list_add r next (list_mul r frob quotient sv)
  pub third : wu ≡ list_add r past (list_mul r frob quotient wv)
  pub lower : length rest < length v

-- The last remainder `d = s a + w b` divides both; `t a + v b` is zero, and every `n` for which `n a` is a left
-- multiple of `b` is a left multiple of `t`.
pub record IsLastLink {E : Type 0} (r : RingOps E) (frob : E → ℕ → E) (a b d s w t v : List E) : Type 0 where
  pub divisor_in : is_canonical r d ≡ true
  pub left_in : is_canonical r s ≡ true
  pub right_in : is_canonical r w ≡ true
  pub left_factor_in : is_canonical r t ≡ true
  pub right_factor_in : is_canonical r v ≡ true
  pub nonzero : 0 < length d
  pub left : DividesRight r frob d a
  pub right : DividesRight r frob d b
  pub sum : d ≡ list_add r (list_mul r frob s a) (list_mul r frob w b)
  pub relation : list_add r (list_mul r frob t a) (list_mul r frob v b) ≡ []
  pub all : (n : List E) → is_canonical r n ≡ true → DividesRight r frob b (list_mul r frob n a) → DividesRight r frob t n
  pub sizes : length t + length d ≡ length b + 1
  pub small : length s < length t

-- `d = s a + w b` is the last remainder that isn't zero.
abbrev pub IsLastRemainder : {E : Type 0} → RingOps E → (E → ℕ → E) → List E → List E → List E → List E → List E → Type 0
IsLastRemainder {E} r frob a b d s w = (t v : List E) × IsLastLink r frob a b d s w t v

-- `t a + v b = 0` is the relation after it.
abbrev pub IsLastRelation : {E : Type 0} → RingOps E → (E → ℕ → E) → List E → List E → List E → List E → Type 0
IsLastRelation {E} r frob a b t v = (d s w : List E) × IsLastLink r frob a b d s w t v

-- `u` and `v` follow each other in the chain. Where `v` is zero, `u` is the last remainder; else `v` is, and the link after
-- them holds the last relation.
pub record AreLastLinks {E : Type 0} (r : RingOps E) (frob : E → ℕ → E) (a b u v su sv wu wv : List E) : Type 0 where
  pub first : is_canonical r u ≡ true
  pub second : is_canonical r v ≡ true
  pub left : is_canonical r su ≡ true
  pub next_left : is_canonical r sv ≡ true
  pub right : is_canonical r wu ≡ true
  pub next_right : is_canonical r wv ≡ true
  pub falling : length v < length u
  pub zero : v ≡ [] → IsLastLink r frob a b u su wu sv wv
  pub constant : 0 < length v → IsLastRemainder r frob a b v sv wv
  pub next : 0 < length v → (rest t o : List E) → IsNextLink r frob u v su sv wu wv rest t o → IsLastLink r frob a b v sv wv t o

-- `d = e u` is monic, and `e` an invertible constant; both are zero where `u` is.
pub record IsMadeMonic {E : Type 0} (r : RingOps E) (frob : E → ℕ → E) (u d e : List E) : Type 0 where
  pub multiple_in : is_canonical r d ≡ true
  pub unit_in : is_canonical r e ≡ true
  pub is : d ≡ list_mul r frob e u
  pub small : length e ≤ 1
  pub none : u ≡ [] → e ≡ []
  pub monic : u ≢ [] → IsMonic r d
  pub inverse : u ≢ [] → DividesRight r frob e (r.one ∷ [])
