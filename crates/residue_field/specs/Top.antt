-- Top fields: residues modulo a monic polynomial in `z` over a base field.
use Rattle.std.specs.Prelude.{◌≡◌, ℕ, ◌+◌, ◌-◌, ◌<◌, ◌≤◌, ◌^◌, List, length, true, Option}
use Rattle.std.specs.Coded.{Coded, coded×, coded_ℕ, coded_list}
use base.Stored.{coded_via}
use Rattle.std.proofs.Common.{ap}
use denote.Struct.Props.{props}
use mathlib.Core.HLevel.{Σ_prop_path}
use Rattle.ring_core.specs.Ring.{RingOps}
use Rattle.ring_core.specs.Field.{FrobOps}
use Rattle.ring_core.specs.Coeffs.{coeff, are_elems}
use Rattle.ring_core.specs.Powers.{power_of}
use Rattle.residue_field.specs.declared.TopElem.{TopElem}
use Rattle.residue_field.specs.Sizes.{most_places}
use Rattle.residue_field.specs.Residue.{residue_ops, residue_letter, constant_at}
use Rattle.finite_ring.specs.Finite.{HasNoPair, inverse_by_power}
use Rattle.residue_field.specs.Base.{Base, ops_of, size_of, base_code}
use Rattle.residue_field.specs.TopElem.{top_places}

-- The residues modulo `modulus`, of degree `n + 1`, over `base`.
unfoldable pub top_ops : Base → ℕ → List ℕ → RingOps TopElem
top_ops base n modulus = residue_ops (ops_of base) n (coeff (ops_of base) modulus) (top_places (ops_of base) n)

-- The modulus is monic of degree `n`, which is in bounds, and no two nonzero residues multiply to zero.
pub record IsTop (base : Base) (n : ℕ) (modulus : List ℕ) : Type 0 where
  pub positive : 0 < n
  pub fits : n ≤ most_places
  pub elems : are_elems (ops_of base) modulus ≡ true
  pub count : length modulus ≡ n + 1
  pub top : coeff (ops_of base) modulus n ≡ (ops_of base).one
  pub no_pair : HasNoPair (top_ops base (n - 1) modulus)

IsTop-prop : (base : Base) (n : ℕ) (modulus : List ℕ) → IsProp (IsTop base n modulus)
IsTop-prop base n modulus = Prim.hlevel props

-- A top field: its base, the degree `n` and the modulus, lowest coefficient first, with the proof that
-- no two nonzero residues multiply to zero.
pub record Top : Type 0 where
  pub base : Base
  pub n : ℕ
  pub modulus : List ℕ
  pub is_top : IsTop base n modulus

-- The operations of a top field.
abbrev pub ops_of_top : Top → RingOps TopElem
ops_of_top t = top_ops t.base (t.n - 1) t.modulus

-- The inverse in a top field, None at zero.
abbrev pub inverse_of_top : Top → TopElem → Option TopElem
inverse_of_top t = inverse_by_power (ops_of_top t) (size_of t.base ^ t.n)

-- The element of a top field that `b` of the base is.
unfoldable pub embed_of : Top → ℕ → TopElem
embed_of t b = (top_places (ops_of t.base) (t.n - 1)).pack (constant_at (ops_of t.base) b)

-- The element of a top field with these coefficients, lowest first.
unfoldable pub from_coords : Top → List ℕ → TopElem
from_coords t list = (top_places (ops_of t.base) (t.n - 1)).pack (coeff (ops_of t.base) list)

-- What a top field has beside its operations: `frob c i` is the power `q^i` of `c`, where the base has
-- `q` elements, and the coordinates are the coefficients.
abbrev pub frob_of_top : Top → FrobOps TopElem ℕ
frob_of_top t = record {
  degree = t.n;
  base_size = size_of t.base;
  embed = embed_of t;
  frob = λ c i. power_of (ops_of_top t) c (size_of t.base ^ i);
  coord = λ c. coeff (ops_of t.base) c.0;
  of_coords = from_coords t;
}

-- The letter `z`: the residue of the polynomial `x`.
unfoldable pub letter_of : Top → TopElem
letter_of t = residue_letter (ops_of t.base) (t.n - 1) (coeff (ops_of t.base) t.modulus) (top_places (ops_of t.base) (t.n - 1))

-- Two top fields are equal where their data are.
pub top_inj : (x y : Top) → ◌≡◌ {A = Base × (ℕ × List ℕ)} (x.base, (x.n, x.modulus)) (y.base, (y.n, y.modulus)) → x ≡ y
top_inj x y e = ap from_tuple (Σ_prop_path (λ d. IsTop-prop d.0 d.1.0 d.1.1) e)
  where
    from_tuple : (d : Base × (ℕ × List ℕ)) × IsTop d.0 d.1.0 d.1.1 → Top
    from_tuple t = record { base = t.0.0; n = t.0.1.0; modulus = t.0.1.1; is_top = t.1 }

-- A top field as the code that a model's value needs.
abbrev pub top_code : Coded Top
top_code = coded_via (coded× base_code (coded× coded_ℕ (coded_list coded_ℕ))) (λ k. (k.base, (k.n, k.modulus))) top_inj
