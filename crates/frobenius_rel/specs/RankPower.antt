-- The power of the least relation of Frobenius that has the degree of the rank.
use Rattle.std.specs.Prelude.{◌≡◌, ℕ, ◌-◌, ◌*◌, List, length}
use Rattle.ring_core.specs.Ring.{RingOps}
use Rattle.ring_core.specs.Field.{FrobOps}
use Rattle.ring_core.specs.Powers.{power_of}
use Rattle.fq_poly.specs.Poly.{poly_ops}
use Rattle.drinfeld_mod.specs.Module.{rank_of}
use Rattle.frobenius_rel.specs.Relation.{IsLeastRelation}
use Rattle.frobenius_rel.specs.declared.fault.NoPower.{NoPower}
use Rattle.frobenius_rel.specs.declared.fault.NoPower.TheVariants.{Degrees, NoMemory}

-- `a` is the power of the least relation, taken as a polynomial in X over the polynomials in T, by the rank over
-- its degree.
pub record IsRankPower {E B : Type 0} (r : RingOps E) (base : RingOps B) (f : FrobOps E B) (phi : List E) (a : List (List B)) : Type 0 where
  pub relation : List (List B)
  pub least : IsLeastRelation r base f phi relation
  pub exponent : ℕ
  pub degrees : exponent * (length relation - 1) ≡ rank_of phi
  pub is : a ≡ power_of (poly_ops (poly_ops base)) relation exponent

-- The degree `m` of the least relation doesn't divide the rank `d`.
pub record AreDegrees {E B : Type 0} (r : RingOps E) (base : RingOps B) (f : FrobOps E B) (phi : List E) (m d : ℕ) : Type 0 where
  pub relation : List (List B)
  pub least : IsLeastRelation r base f phi relation
  pub degree : m ≡ length relation - 1
  pub rank : d ≡ rank_of phi
  pub none : (exponent : ℕ) → exponent * m ≡ d → ⊥

-- Why there is no power; want of memory has no cause.
abbrev pub IsNoPower : {E B : Type 0} → RingOps E → RingOps B → FrobOps E B → List E → NoPower → Type 0
IsNoPower r base f phi (Degrees m d) = AreDegrees r base f phi m d
IsNoPower r base f phi NoMemory = Unit {0}
