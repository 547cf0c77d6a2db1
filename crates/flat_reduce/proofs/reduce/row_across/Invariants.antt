use Rattle.std.proofs.Common.{◌≡◌, ◌+◌, ◌*◌, ◌/◌, ◌%◌, true, length}
use Rattle.linear_algebra.specs.Linear.{entry}
use Rattle.ring_core.specs.Coeffs.{are_elems, first_values}
use Rattle.flat_reduce.proofs.reduce.row_across.Given as goal

abbrev pub invariant-loop-t : goal.invariant-loop-t
invariant-loop-t g l =
    let r = g.F.Field.ops l.f in
    let n = length l.columns in
    record {
      is : l.row.items ≡ first_values l.t (λ t. entry r l.columns (t % n) (t / n * n + l.i));
      elems : are_elems r l.row.items ≡ true;
    }
