-- Storages of residues, monic moduli and maps that are linear over the constants.
use Rattle.std.specs.Prelude.{◌≡◌, ℕ, suc, ◌<◌, ◌≤◌, true, cond, nat_eq}
use Rattle.ring_core.specs.Ring.{RingOps, IsElem}
use Rattle.residue_field.specs.Residue.{Places}

-- The residue of `x^j`, for `j` up to `n`.
abbrev pub residue_unit : {E T : Type 0} → RingOps E → Places E T → ℕ → T
residue_unit r c j = c.pack (λ i. cond (nat_eq j i) r.one r.zero)

-- `map` is linear over the constants, which are multiplied with as `embed` says.
pub record IsLinear {E T : Type 0} (r : RingOps E) (t : RingOps T) (embed : E → T) (map : T → T) : Type 0 where
  pub map_in : (x : T) → IsElem t x → IsElem t (map x)
  pub map_add : (x y : T) → IsElem t x → IsElem t y → map (t.add x y) ≡ t.add (map x) (map y)
  pub map_scale : (b : E) (x : T) → IsElem r b → IsElem t x → map (t.mul (embed b) x) ≡ t.mul (embed b) (map x)

-- `f` is monic of degree `n + 1`.
pub record IsMonic {E : Type 0} (r : RingOps E) (n : ℕ) (f : ℕ → E) : Type 0 where
  pub coeff_in : (i : ℕ) → IsElem r (f i)
  pub top : f (suc n) ≡ r.one
  pub past : (i : ℕ) → suc n < i → f i ≡ r.zero

-- What a storage owes: `place` and `pack` are each other's inverse at the first `n + 1` places.
pub record IsPlaces {E T : Type 0} (r : RingOps E) (n : ℕ) (c : Places E T) : Type 0 where
  pub place_in : (t : T) (i : ℕ) → c.is_elem t ≡ true → IsElem r (c.place t i)
  pub place_past : (t : T) (i : ℕ) → c.is_elem t ≡ true → suc n ≤ i → c.place t i ≡ r.zero
  pub pack_in : (g : ℕ → E) → ((i : ℕ) → IsElem r (g i)) → c.is_elem (c.pack g) ≡ true
  pub place_pack : (g : ℕ → E) (i : ℕ) → ((j : ℕ) → IsElem r (g j)) → i < suc n → c.place (c.pack g) i ≡ g i
  pub place_inj : (t u : T) → c.is_elem t ≡ true → c.is_elem u ≡ true → ((i : ℕ) → i < suc n → c.place t i ≡ c.place u i) → t ≡ u
  pub same_refl : (t : T) → c.is_elem t ≡ true → c.same t t ≡ true
  pub same_eq : (t u : T) → c.is_elem t ≡ true → c.is_elem u ≡ true → c.same t u ≡ true → t ≡ u
