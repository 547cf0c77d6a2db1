use Rattle.std.proofs.Common.{◌≡◌, ◌<◌, ℕ, true, length}
use Rattle.linear_algebra.specs.Linear.{entry}
use Rattle.flat_modules.specs.Flat.{are_flat, unit_at}
use Rattle.flat_reduce.proofs.lists.identity_rows.Given as goal

abbrev pub invariant-loop-i : goal.invariant-loop-i
invariant-loop-i g l =
    let r = g.F.Field.ops l.f in
    record {
      len : length l.rows.items ≡ l.i;
      flat : are_flat r l.rows.items ≡ true;
      unit : (i t : ℕ) → i < l.i → entry r l.rows.items i t ≡ unit_at r i t;
    }
