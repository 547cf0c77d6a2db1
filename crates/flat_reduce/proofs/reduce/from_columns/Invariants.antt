use Rattle.std.proofs.Common.{◌≡◌, ◌+◌, ◌*◌, ◌/◌, ◌%◌, ◌<◌, ℕ, true, length}
use Rattle.linear_algebra.specs.Linear.{entry}
use Rattle.flat_modules.specs.Flat.{are_flat}
use Rattle.flat_reduce.proofs.reduce.from_columns.Given as goal

abbrev pub invariant-loop-i : goal.invariant-loop-i
invariant-loop-i g l =
    let r = g.F.Field.ops l.f in
    let n = length l.columns in
    record {
      len : length l.rows.items ≡ l.i;
      flat : are_flat r l.rows.items ≡ true;
      rows : (i t : ℕ) → i < l.i → entry r l.rows.items i t ≡ entry r l.columns (t % n) (t / n * n + i);
    }
