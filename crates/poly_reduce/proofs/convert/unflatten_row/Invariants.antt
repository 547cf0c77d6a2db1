use Rattle.std.proofs.Common.{◌≡◌, ◌+◌, ◌*◌, ◌<◌, ℕ, true, length}
use Rattle.ring_core.specs.Coeffs.{coeff, are_elems}
use Rattle.linear_algebra.specs.Linear.{row_at}
use Rattle.fq_poly.specs.Poly.{poly_ops}
use Rattle.poly_reduce.proofs.convert.unflatten_row.Given as goal

abbrev pub invariant-loop-j : goal.invariant-loop-j
invariant-loop-j g l =
    let r = g.F.Field.ops l.f in
    record {
      count : length l.entries.items ≡ l.j;
      polys : are_elems (poly_ops r) l.entries.items ≡ true;
      is : (j e : ℕ) → j < l.j → coeff r (row_at l.entries.items j) e ≡ coeff r l.flat (e * l.w + j);
    }
