use Rattle.std.proofs.Common.{◌≡◌, ℕ, ◌≤◌, true, length}
use Rattle.ring_core.specs.Coeffs.{coeff, are_elems}
use Rattle.linear_algebra.specs.Combines.{Combines}
use Rattle.linear_algebra.specs.steps.Slots.{minus}
use Rattle.fq_linear.specs.steps.Extents.{HasExtent}
use Rattle.fq_linear.specs.steps.Elimination.{slot}
use Rattle.fq_linear.proofs.eliminate.reduce_top.Given as goal

abbrev pub invariant-loop-j : goal.invariant-loop-j
invariant-loop-j g l =
    let r = g.F.Field.ops l.f in
    record {
      len : length l.row ≡ length l.fn.row;
      elems : are_elems r l.row ≡ true;
      taken : Combines r (length l.fn.row) (slot r (length l.fn.row) l.index l.cells) (minus r (coeff r l.fn.row) (coeff r l.row));
      zero : (k : ℕ) → l.j ≤ k → coeff r l.row k ≡ r.zero;
      extent : HasExtent r l.extent (coeff r l.row);
    }
