use Rattle.std.proofs.Common.{◌≡◌, ◌<◌, ℕ, true}
use Rattle.linear_algebra.specs.Linear.{row_at, is_row}
use Rattle.fq_poly.specs.Poly.{poly_ops}
use Rattle.tests_reduction.proofs.matrices.all_rows.Given as goal

abbrev pub invariant-loop-i : goal.invariant-loop-i
invariant-loop-i g l = (k : ℕ) → k < l.i → is_row (poly_ops (g.F.Field.ops l.f)) l.w (row_at l.rows k) ≡ true
