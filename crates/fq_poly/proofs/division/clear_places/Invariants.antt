use Rattle.std.proofs.Common.{◌≡◌, ℕ, ◌+◌, ◌<◌, ◌≤◌, true, length}
use Rattle.ring_core.specs.Coeffs.{coeff, trim, are_elems}
use Rattle.ring_core.specs.Twisted.{list_add}
use Rattle.fq_poly.specs.Poly.{poly_mul}
use Rattle.fq_poly.proofs.division.clear_places.Given as goal

-- The places of the quotient below `l.k` are still zero, and the rest is zero at and past the sum of
-- `l.k` and the length of the divisor less one.
abbrev pub invariant-loop-k : goal.invariant-loop-k
invariant-loop-k g l =
    let r = g.F.Field.ops l.field in
    record {
      rest_elems : are_elems r l.rest ≡ true;
      quotient_elems : are_elems r l.quotient ≡ true;
      sum : trim r l.initial.rest ≡ list_add r (poly_mul r (trim r l.quotient) l.b) (trim r l.rest);
      empty : (n : ℕ) → n < l.k → coeff r l.quotient n ≡ r.zero;
      cleared : (n : ℕ) → l.k + length l.b ≤ n + 1 → coeff r l.rest n ≡ r.zero;
    }
