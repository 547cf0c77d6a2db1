-- A relation of which the multiple by an inverse of its top is the least relation.
use Rattle.std.specs.Prelude.{◌≡◌, ℕ, ◌-◌, ◌<◌, ◌≤◌, true, List, [], length}
use Rattle.ring_core.specs.Ring.{RingOps}
use Rattle.ring_core.specs.Field.{FrobOps}
use Rattle.ring_core.specs.Coeffs.{coeff, are_elems}
use Rattle.fq_poly.specs.Poly.{poly_ops}
use Rattle.frobenius_rel.specs.Relation.{relation_value}

-- A relation of at least two members whose last is a constant that isn't zero, where no relation of fewer members
-- has one that isn't zero.
pub record IsFirstRelation {E B : Type 0} (r : RingOps E) (base : RingOps B) (f : FrobOps E B) (phi : List E) (a : List (List B)) : Type 0 where
  pub elems : are_elems (poly_ops base) a ≡ true
  pub long : 2 ≤ length a
  pub top : length (coeff (poly_ops base) a (length a - 1)) ≡ 1
  pub is : relation_value r base f phi a ≡ []
  pub least : (b : List (List B)) → are_elems (poly_ops base) b ≡ true → length b < length a → relation_value r base f phi b ≡ []
      → (i : ℕ) → coeff (poly_ops base) b i ≡ []
