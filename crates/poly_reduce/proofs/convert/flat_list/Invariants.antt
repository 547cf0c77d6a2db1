use Rattle.std.proofs.Common.{◌≡◌, ◌<◌, ℕ, true, length}
use Rattle.ring_core.specs.Coeffs.{coeff}
use Rattle.linear_algebra.specs.Linear.{row_at}
use Rattle.flat_modules.specs.Flat.{are_flat}
use Rattle.poly_reduce.specs.Matrices.{member}
use Rattle.poly_reduce.proofs.convert.flat_list.Given as goal

abbrev pub invariant-loop-i : goal.invariant-loop-i
invariant-loop-i g l =
    let r = g.F.Field.ops l.f in
    record {
      count : length l.list.items ≡ l.i;
      flat : are_flat r l.list.items ≡ true;
      is : (i t : ℕ) → i < l.i → coeff r (row_at l.list.items i) t ≡ member r l.w (row_at l.rows i) t;
    }
