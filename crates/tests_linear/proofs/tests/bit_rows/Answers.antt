use Rattle.std.proofs.Common.{◌∙◌, ap}
use Rattle.linear_algebra.specs.Linear.{are_rows, is_row}
use Rattle.linear_algebra.proofs.RowLists.{rows_push}
use Rattle.tests_linear.specs.BitField.{bit_ops}
use Rattle.tests_linear.proofs.tests.bit_rows.Goals as goal

pub loop-x-preserved : goal.loop-x-preserved
loop-x-preserved c = record {
  width = c.push.ensures.width ∙ c.loop-x.invariant.width;
  rows = ap (are_rows bit_ops c.args.width) c.in_ok-push.ensures.rows
      ∙ rows_push bit_ops c.args.width c.loop-x.rows.rows c.deref.result.now c.loop-x.invariant.rows (ap (is_row bit_ops c.args.width) c.deref.ensures.value ∙ c.in_ok-row.ensures);
}
