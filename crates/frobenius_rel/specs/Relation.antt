-- Relations of Frobenius over the polynomials in T, and the least one.
use Rattle.std.specs.Prelude.{◌≡◌, ℕ, ◌-◌, ◌<◌, ◌≤◌, true, List, [], ◌∷◌, length}
use Rattle.ring_core.specs.Ring.{RingOps}
use Rattle.ring_core.specs.Field.{FrobOps}
use Rattle.ring_core.specs.Coeffs.{coeff, sum_below, are_elems}
use Rattle.ring_core.specs.Powers.{power_of}
use Rattle.ring_core.specs.Twisted.{list_mul, twisted_ops}
use Rattle.ring_core.specs.Monomial.{tau_power}
use Rattle.fq_poly.specs.Poly.{poly_ops}
use Rattle.drinfeld_mod.specs.Image.{image}

-- Frobenius: the power of tau by the degree of the field.
abbrev pub frobenius : {E B : Type 0} → RingOps E → FrobOps E B → List E
frobenius r f = tau_power r f.degree

-- The sum of `phi_(b_i)` times the `i`-th power of Frobenius.
abbrev pub relation_value : {E B : Type 0} → RingOps E → RingOps B → FrobOps E B → List E → List (List B) → List E
relation_value r base f phi b =
    let s = twisted_ops r f.frob in
    sum_below s (length b) (λ i. list_mul r f.frob (image r base f phi (coeff (poly_ops base) b i)) (power_of s (frobenius r f) i))

-- At least two polynomials, the last of which is one, for which that sum is zero; a list of fewer polynomials
-- that has the sum zero has only zeros, whether it is monic or not.
pub record IsLeastRelation {E B : Type 0} (r : RingOps E) (base : RingOps B) (f : FrobOps E B) (phi : List E) (a : List (List B)) : Type 0 where
  pub elems : are_elems (poly_ops base) a ≡ true
  pub long : 2 ≤ length a
  pub monic : coeff (poly_ops base) a (length a - 1) ≡ base.one ∷ []
  pub is : relation_value r base f phi a ≡ []
  pub least : (b : List (List B)) → are_elems (poly_ops base) b ≡ true → length b < length a → relation_value r base f phi b ≡ []
      → (i : ℕ) → coeff (poly_ops base) b i ≡ []
