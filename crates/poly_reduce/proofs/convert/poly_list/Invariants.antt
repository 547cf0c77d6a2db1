use Rattle.std.proofs.Common.{◌≡◌, ◌<◌, ℕ, true, length}
use Rattle.ring_core.specs.Coeffs.{coeff}
use Rattle.linear_algebra.specs.Linear.{row_at, are_rows}
use Rattle.fq_poly.specs.Poly.{poly_ops}
use Rattle.poly_reduce.specs.Matrices.{member}
use Rattle.poly_reduce.proofs.convert.poly_list.Given as goal

abbrev pub invariant-loop-i : goal.invariant-loop-i
invariant-loop-i g l =
    let r = g.F.Field.ops l.f in
    record {
      count : length l.rows.items ≡ l.i;
      shape : are_rows (poly_ops r) l.w l.rows.items ≡ true;
      is : (i t : ℕ) → i < l.i → coeff r (row_at l.flats i) t ≡ member r l.w (row_at l.rows.items i) t;
    }
