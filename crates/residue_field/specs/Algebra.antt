-- Commutative rings of finite dimension over a field of constants, by their coordinates.
use Rattle.std.specs.Prelude.{◌≡◌, ℕ, suc, ◌<◌, cond, nat_eq}
use Rattle.ring_core.specs.Ring.{RingOps, IsElem, IsRing, IsCommutative}
use Rattle.residue_field.specs.Residue.{constant_at, Places}

-- How many coordinates an element has, each of them, the element with given coordinates, and the element
-- that a constant is.
pub record Coordinates (E T : Type 0) : Type 0 where
  pub dimension : ℕ
  pub coord : T → ℕ → E
  pub of_coords : (ℕ → E) → T
  pub embed : E → T

-- The element with coordinate one at place `j` and zero at the others.
abbrev pub unit_of : {E T : Type 0} → RingOps E → Coordinates E T → ℕ → T
unit_of r c j = c.of_coords (λ i. cond (nat_eq j i) r.one r.zero)

-- The elements of `t` are told by their coordinates, for which any constants serve.
pub record AreCoordinates {E T : Type 0} (r : RingOps E) (t : RingOps T) (c : Coordinates E T) : Type 0 where
  pub coord_in : (x : T) (i : ℕ) → IsElem t x → IsElem r (c.coord x i)
  pub of_coords_in : (g : ℕ → E) → ((i : ℕ) → IsElem r (g i)) → IsElem t (c.of_coords g)
  pub coord_of_coords : (g : ℕ → E) (i : ℕ) → ((j : ℕ) → IsElem r (g j)) → i < c.dimension → c.coord (c.of_coords g) i ≡ g i
  pub coord_zero : (i : ℕ) → i < c.dimension → c.coord t.zero i ≡ r.zero
  pub coord_inj : (x y : T) → IsElem t x → IsElem t y → ((i : ℕ) → i < c.dimension → c.coord x i ≡ c.coord y i) → x ≡ y

-- `t` is a commutative ring, where sums and products with constants go by coordinates, and the first
-- coordinate of a constant is that constant, the others zero.
pub record IsAlgebra {E T : Type 0} (r : RingOps E) (t : RingOps T) (c : Coordinates E T) : Type 0 where
  pub ring : IsRing t
  pub commutes : IsCommutative t
  pub positive : 0 < c.dimension
  pub coordinates : AreCoordinates r t c
  pub coord_add : (x y : T) (i : ℕ) → IsElem t x → IsElem t y → i < c.dimension → c.coord (t.add x y) i ≡ r.add (c.coord x i) (c.coord y i)
  pub coord_scale : (b : E) (x : T) (i : ℕ) → IsElem r b → IsElem t x → i < c.dimension → c.coord (t.mul (c.embed b) x) i ≡ r.mul b (c.coord x i)
  pub embed_in : (b : E) → IsElem r b → IsElem t (c.embed b)
  pub embed_one : c.embed r.one ≡ t.one
  pub coord_embed : (b : E) (i : ℕ) → IsElem r b → i < c.dimension → c.coord (c.embed b) i ≡ constant_at r b i

-- The coordinates of residues of degree up to `n` are their coefficients.
abbrev pub residue_coords : {E T : Type 0} → RingOps E → ℕ → Places E T → Coordinates E T
residue_coords r n c = record {
  dimension = suc n;
  coord = c.place;
  of_coords = c.pack;
  embed = λ b. c.pack (constant_at r b);
}
