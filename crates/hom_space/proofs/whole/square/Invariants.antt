use Rattle.std.proofs.Common.{◌≡◌, length}
use Rattle.ring_core.specs.Coeffs.{trim, first_values}
use Rattle.linear_algebra.specs.Linear.{row_at}
use Rattle.hom_space.proofs.whole.square.Given as goal

abbrev pub invariant-loop-i : goal.invariant-loop-i
invariant-loop-i g l = record {
  width : l.flat.width ≡ length l.rows.rows;
  rows : l.flat.rows ≡ first_values l.i (λ i. trim (g.F.Field.ops l.f) (row_at l.rows.rows i));
}
