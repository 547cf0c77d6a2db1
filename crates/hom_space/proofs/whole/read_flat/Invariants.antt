use Rattle.std.proofs.Common.{◌≡◌, ◌<◌, ℕ, length}
use Rattle.linear_algebra.specs.Linear.{row_at}
use Rattle.hom_space.specs.steps.Reading.{IsReadRow}
use Rattle.hom_space.proofs.whole.read_flat.Given as goal

abbrev pub invariant-loop-i : goal.invariant-loop-i
invariant-loop-i g l =
    record {
      count : length l.list.items ≡ l.i;
      each : (i : ℕ) → i < l.i → IsReadRow (g.K.Field.ops l.k) (g.K.Base.Field.ops (g.K.FrobField.base_of l.k)) (g.K.FrobField.frob_ops l.k) (row_at l.rows i) (row_at l.list.items i);
    }
