use Rattle.std.proofs.Common.{◌≡◌, true, length}
use Rattle.ring_core.specs.Coeffs.{are_elems}
use Rattle.tests_linear.specs.BitField.{bit_ops}
use Rattle.tests_linear.proofs.tests.bit_row.Given as goal

abbrev pub invariant-loop-j : goal.invariant-loop-j
invariant-loop-j l = record {
  len : length l.row.items ≡ l.j;
  elems : are_elems bit_ops l.row.items ≡ true;
}
