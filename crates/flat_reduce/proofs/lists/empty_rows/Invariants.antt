use Rattle.std.proofs.Common.{◌≡◌, ℕ, true, [], length}
use Rattle.linear_algebra.specs.Linear.{row_at}
use Rattle.flat_modules.specs.Flat.{are_flat}
use Rattle.flat_reduce.proofs.lists.empty_rows.Given as goal

abbrev pub invariant-loop-i : goal.invariant-loop-i
invariant-loop-i g l =
    let r = g.F.Field.ops l.f in
    record {
      len : length l.rows.items ≡ l.i;
      flat : are_flat r l.rows.items ≡ true;
      empty : (i : ℕ) → row_at l.rows.items i ≡ [];
    }
