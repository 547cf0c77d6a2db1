use Rattle.std.proofs.Common.{◌≡◌, ℕ, ◌+◌, ◌<◌, ◌≤◌, true, length}
use Rattle.ring_core.specs.Coeffs.{coeff, trim, are_elems}
use Rattle.ring_core.specs.Twisted.{list_add}
use Rattle.ore_divide.specs.steps.Sides.{multiple_on}
use Rattle.ore_divide.proofs.rows.clear_places.Given as goal

abbrev pub invariant-loop-k : goal.invariant-loop-k
invariant-loop-k g l =
    let r = g.K.Field.ops l.field in
    record {
      rest_elems : are_elems r l.rest ≡ true;
      quotient_elems : are_elems r l.quotient ≡ true;
      zeros : (n : ℕ) → n < l.k → coeff r l.quotient n ≡ r.zero;
      divided : trim r l.initial.rest ≡ list_add r (trim r l.rest) (multiple_on l.side r (g.K.FrobField.frob_ops l.field).frob (trim r l.quotient) l.b);
      cleared : (n : ℕ) → l.k + length l.b ≤ n + 1 → coeff r l.rest n ≡ r.zero;
    }
