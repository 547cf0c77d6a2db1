-- The lengths of sums, and the inverse of a top coefficient.
use Rattle.std.proofs.Common.{◌≡◌, ◌≢◌, ℕ, ◌-◌, ◌<◌, ◌≤◌, max, true, Option, None, Some, MatchOption, List, length, arith}
use Rattle.std.proofs.lemmas.Bool.{and_parts}
use Rattle.ring_core.specs.Ring.{RingOps, IsElem}
use Rattle.ring_core.specs.Field.{IsField}
use Rattle.ring_core.specs.Coeffs.{coeff, is_canonical}
use Rattle.ring_core.specs.Twisted.{list_add}
use Rattle.ring_core.proofs.Coefficients.{elem_read}
use Rattle.ring_core.proofs.Degrees.{not_empty, top_nonzero}
use Rattle.ring_core.proofs.ListRing.{length-add}

-- a sum is no longer than a bound of both
pub sum_length : {E : Type 0} (r : RingOps E) (u v : List E) (n : ℕ) → length u ≤ n → length v ≤ n → length (list_add r u v) ≤ n
sum_length r u v n l m =
    let most : length (list_add r u v) ≤ max (length u) (length v) = length-add r u v in
    omega arith

module _ {E : Type 0} (r : RingOps E) (inv : E → Option E) (k : IsField r inv) where
  inverse_from : (a : E) → a ≢ r.zero → (o : Option E) → MatchOption o (a ≡ r.zero) (λ b. IsElem r b × (r.mul a b ≡ r.one)) → (b : E) × (IsElem r b × (r.mul a b ≡ r.one))
  inverse_from a ne None is = absurd (ne is)
  inverse_from a ne (Some b) is = (b, is)

  -- the top coefficient has an inverse
  pub top_inverse : (u : List E) → is_canonical r u ≡ true → 0 < length u → (b : E) × (IsElem r b × (r.mul (coeff r u (length u - 1)) b ≡ r.one))
  top_inverse u c pos =
      let top = coeff r u (length u - 1) in
      inverse_from top
      (top_nonzero r k.ring.closed.zero_in k.ring.equal u (and_parts _ _ c).1 (not_empty u pos))
      (inv top) (k.inv_is top (elem_read r u k.ring.closed.zero_in (and_parts _ _ c).0 (length u - 1)))
