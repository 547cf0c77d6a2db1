-- The operations of a ring as one value, and its laws as records over that value.
use Rattle.std.specs.Prelude.{◌≡◌, ℕ, ◌<◌, Bool, true}

-- The operations of a ring, which its elements, told by `is_elem`, are closed under.
-- `same` is what a comparison of two elements answers.
pub record RingOps (E : Type 0) : Type 0 where
  pub is_elem : E → Bool
  pub zero : E
  pub one : E
  pub add : E → E → E
  pub neg : E → E
  pub mul : E → E → E
  pub same : E → E → Bool

abbrev pub IsElem : {E : Type 0} → RingOps E → E → Type 0
IsElem r a = r.is_elem a ≡ true

-- Every answer is an element.
pub record IsClosed {E : Type 0} (r : RingOps E) : Type 0 where
  pub zero_in : IsElem r r.zero
  pub one_in : IsElem r r.one
  pub add_in : (a b : E) → IsElem r a → IsElem r b → IsElem r (r.add a b)
  pub neg_in : (a : E) → IsElem r a → IsElem r (r.neg a)
  pub mul_in : (a b : E) → IsElem r a → IsElem r b → IsElem r (r.mul a b)

-- `same` is true exactly where the two elements are equal.
pub record SameDecides {E : Type 0} (r : RingOps E) : Type 0 where
  pub same_refl : (a : E) → IsElem r a → r.same a a ≡ true
  pub same_eq : (a b : E) → IsElem r a → IsElem r b → r.same a b ≡ true → a ≡ b

-- The laws of a ring with one, whose products need not commute.
pub record IsRing {E : Type 0} (r : RingOps E) : Type 0 where
  pub closed : IsClosed r
  pub equal : SameDecides r
  pub add_assoc : (a b c : E) → IsElem r a → IsElem r b → IsElem r c → r.add (r.add a b) c ≡ r.add a (r.add b c)
  pub add_comm : (a b : E) → IsElem r a → IsElem r b → r.add a b ≡ r.add b a
  pub zero_add : (a : E) → IsElem r a → r.add r.zero a ≡ a
  pub add_neg : (a : E) → IsElem r a → r.add a (r.neg a) ≡ r.zero
  pub mul_assoc : (a b c : E) → IsElem r a → IsElem r b → IsElem r c → r.mul (r.mul a b) c ≡ r.mul a (r.mul b c)
  pub one_mul : (a : E) → IsElem r a → r.mul r.one a ≡ a
  pub mul_one : (a : E) → IsElem r a → r.mul a r.one ≡ a
  pub mul_add : (a b c : E) → IsElem r a → IsElem r b → IsElem r c → r.mul a (r.add b c) ≡ r.add (r.mul a b) (r.mul a c)
  pub add_mul : (a b c : E) → IsElem r a → IsElem r b → IsElem r c → r.mul (r.add a b) c ≡ r.add (r.mul a c) (r.mul b c)

abbrev pub IsCommutative : {E : Type 0} → RingOps E → Type 0
IsCommutative {E} r = (a b : E) → IsElem r a → IsElem r b → r.mul a b ≡ r.mul b a

-- The elements are numbered by the numbers below `count`, each number once, and zero has the number 0.
pub record IsNumbered {E : Type 0} (r : RingOps E) (count : ℕ) : Type 0 where
  pub index : E → ℕ
  pub nth : ℕ → E
  pub below : (a : E) → IsElem r a → index a < count
  pub nth_in : (i : ℕ) → IsElem r (nth i)
  pub nth_index : (a : E) → IsElem r a → nth (index a) ≡ a
  pub index_nth : (i : ℕ) → i < count → index (nth i) ≡ i
  pub index_zero : index r.zero ≡ 0
