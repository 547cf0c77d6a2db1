use Rattle.std.proofs.Common.{◌≡◌, true}
use Rattle.linear_algebra.specs.Linear.{are_rows}
use Rattle.tests_linear.specs.BitField.{bit_ops}
use Rattle.tests_linear.proofs.tests.bit_rows.Given as goal

abbrev pub invariant-loop-x : goal.invariant-loop-x
invariant-loop-x l = record {
  width : l.rows.width ≡ l.width;
  rows : are_rows bit_ops l.width l.rows.rows ≡ true;
}
