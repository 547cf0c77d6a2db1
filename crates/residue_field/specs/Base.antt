-- Base fields: residues modulo a monic polynomial in `a` over the numbers modulo a listed prime, as codes.
use Rattle.std.specs.Prelude.{◌≡◌, ℕ, ◌+◌, ◌-◌, ◌<◌, ◌^◌, List, length, slice_index, true, Option}
use Rattle.std.specs.Coded.{Coded, coded×, coded_ℕ, coded_list}
use base.Stored.{coded_via}
use Rattle.std.proofs.Common.{ap}
use denote.Struct.Props.{props}
use mathlib.Core.HLevel.{Σ_prop_path}
use Rattle.ring_core.specs.Ring.{RingOps}
use Rattle.ring_core.specs.Coeffs.{coeff, are_elems}
use Rattle.residue_field.specs.Residue.{residue_ops, residue_letter}
use Rattle.finite_ring.specs.Finite.{HasNoPair, inverse_by_power}
use Rattle.residue_field.specs.Prime.{is_listed, prime_ops}
use Rattle.residue_field.specs.Digits.{code_places}

-- The codes of residues modulo `modulus`, of degree `n + 1`, over the numbers modulo `p`.
unfoldable pub base_ops : ℕ → ℕ → List ℕ → RingOps ℕ
base_ops p n modulus = residue_ops (prime_ops p) n (coeff (prime_ops p) modulus) (code_places p n)

-- `p` is a listed prime, the modulus is monic of degree `s`, and no two nonzero codes multiply to zero.
pub record IsBase (p s : ℕ) (modulus : List ℕ) : Type 0 where
  pub listed : is_listed p ≡ true
  pub positive : 0 < s
  pub elems : are_elems (prime_ops p) modulus ≡ true
  pub count : length modulus ≡ s + 1
  pub top : slice_index modulus s ≡ 1
  pub no_pair : HasNoPair (base_ops p (s - 1) modulus)

IsBase-prop : (p s : ℕ) (modulus : List ℕ) → IsProp (IsBase p s modulus)
IsBase-prop p s modulus = Prim.hlevel props

-- A base field: `p`, the degree `s` and the modulus, lowest coefficient first, with the proof that no
-- two nonzero codes multiply to zero.
pub record Base : Type 0 where
  pub p : ℕ
  pub s : ℕ
  pub modulus : List ℕ
  pub is_base : IsBase p s modulus

-- The operations of a base field, over the codes below `p^s`.
abbrev pub ops_of : Base → RingOps ℕ
ops_of k = base_ops k.p (k.s - 1) k.modulus

-- How many elements a base field has.
abbrev pub size_of : Base → ℕ
size_of k = k.p ^ k.s

-- The inverse in a base field, None at zero.
abbrev pub inverse_of : Base → ℕ → Option ℕ
inverse_of k = inverse_by_power (ops_of k) (size_of k)

-- The code of the letter `a`: of the residue of the polynomial `x`.
unfoldable pub letter_code : Base → ℕ
letter_code k = residue_letter (prime_ops k.p) (k.s - 1) (coeff (prime_ops k.p) k.modulus) (code_places k.p (k.s - 1))

-- Two base fields are equal where their data are.
pub base_inj : (x y : Base) → ◌≡◌ {A = ℕ × (ℕ × List ℕ)} (x.p, (x.s, x.modulus)) (y.p, (y.s, y.modulus)) → x ≡ y
base_inj x y e = ap from_tuple (Σ_prop_path (λ d. IsBase-prop d.0 d.1.0 d.1.1) e)
  where
    from_tuple : (d : ℕ × (ℕ × List ℕ)) × IsBase d.0 d.1.0 d.1.1 → Base
    from_tuple t = record { p = t.0.0; s = t.0.1.0; modulus = t.0.1.1; is_base = t.1 }

-- A base field as the code that a model's value needs.
abbrev pub base_code : Coded Base
base_code = coded_via (coded× coded_ℕ (coded× coded_ℕ (coded_list coded_ℕ))) (λ k. (k.p, (k.s, k.modulus))) base_inj
