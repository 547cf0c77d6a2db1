use Rattle.std.proofs.Common.{◌≡◌, ℕ, ◌+◌, ◌≤◌, true, length}
use Rattle.ring_core.specs.Coeffs.{coeff, are_elems}
use Rattle.ore_divide.specs.steps.Reduced.{IsReduced}
use Rattle.ore_divide.proofs.rows.reduce_rows.Given as goal

abbrev pub invariant-loop-k : goal.invariant-loop-k
invariant-loop-k g l =
    let r = g.K.Field.ops l.field in
    record {
      rest_elems : are_elems r l.rest ≡ true;
      left_elems : are_elems r l.left ≡ true;
      right_elems : are_elems r l.right ≡ true;
      reduced : IsReduced r (g.K.FrobField.frob_ops l.field).frob l.initial.rest l.initial.left l.initial.right l.b l.s l.w l.rest l.left l.right;
      cleared : (n : ℕ) → l.k + length l.b ≤ n + 1 → coeff r l.rest n ≡ r.zero;
    }
