-- The laws of the twisted product, over its definition alone.
use Rattle.std.specs.Prelude.{◌≡◌, ◌≢◌, ℕ, ◌+◌, List, [], ◌∷◌, length, true}
use Rattle.ring_core.specs.Ring.{RingOps}
use Rattle.ring_core.specs.Coeffs.{is_canonical}
use Rattle.ring_core.specs.Twisted.{list_add, list_mul}

-- The twisted product is associative, has the unit one on both sides and both distributive laws, and
-- the degrees of nonzero factors add.
pub record TwistedProductLaws {E : Type 0} (r : RingOps E) (frob : E → ℕ → E) : Type 0 where
  pub assoc : (a b c : List E) → is_canonical r a ≡ true → is_canonical r b ≡ true → is_canonical r c ≡ true → list_mul r frob (list_mul r frob a b) c ≡ list_mul r frob a (list_mul r frob b c)
  pub one_left : (a : List E) → is_canonical r a ≡ true → list_mul r frob (r.one ∷ []) a ≡ a
  pub one_right : (a : List E) → is_canonical r a ≡ true → list_mul r frob a (r.one ∷ []) ≡ a
  pub left_sum : (a b c : List E) → is_canonical r a ≡ true → is_canonical r b ≡ true → is_canonical r c ≡ true → list_mul r frob (list_add r a b) c ≡ list_add r (list_mul r frob a c) (list_mul r frob b c)
  pub right_sum : (a b c : List E) → is_canonical r a ≡ true → is_canonical r b ≡ true → is_canonical r c ≡ true → list_mul r frob a (list_add r b c) ≡ list_add r (list_mul r frob a b) (list_mul r frob a c)
  pub degrees : (a b : List E) → is_canonical r a ≡ true → is_canonical r b ≡ true → a ≢ [] → b ≢ [] → length (list_mul r frob a b) + 1 ≡ length a + length b
